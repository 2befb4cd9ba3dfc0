-- What a text begins with.
use Rattle.std.specs.Prelude.{◌≡◌, ◌≢◌, ℕ, List, ◌++◌, Option, MatchOption}
use Rattle.std.specs.Borrow.{Bor}

-- what follows these bytes at the front of a text, or none where the text doesn't begin with them
abbrev pub IsRestAfter : List ℕ → List ℕ → Option (Bor (List ℕ)) → Type 0
IsRestAfter bytes text rest =
    MatchOption rest ((more : List ℕ) → text ≢ bytes ++ more) (λ found. text ≡ bytes ++ found.now)

-- A word is taken off a rest: whatever the old rest follows in a text, the new one follows that and the word.
pub record Strips (word : List ℕ) (old new : Option (Bor (List ℕ))) : Type 0 where
  pub taken : (text front : List ℕ) → IsRestAfter front text old → IsRestAfter (front ++ word) text new
