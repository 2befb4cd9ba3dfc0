-- Texts that begin with words.
use Rattle.std.proofs.Common.{◌≡◌, ◌≢◌, ◌==◌, ℕ, Bool, false, List, [], ◌∷◌, ◌++◌, Option, Some, None, length, append_assoc, length-append, refl, sym, ap, ◌∙◌, subst, arith}
use Rattle.std.specs.Prelude.{◌↔◌, IsTrue, MatchOption}
use Rattle.std.specs.Borrow.{Bor}
use Rattle.std.proofs.lemmas.Bool.{eqb-true, false≢true}
use Rattle.std.proofs.lemmas.List.{append_cancel_left, append-nil}
use Rattle.ht_texts.specs.Fronts.{IsRestAfter, Strips}
use Rattle.ht_texts.specs.Pieces.{Piece, pieces_text}
use Rattle.ht_texts.proofs.PieceLaws.{pieces_both}

-- ---- words are taken off

-- a word is taken off a rest that is there
rest_on : (word text front : List ℕ) (rest : Bor (List ℕ)) (new : Option (Bor (List ℕ)))
    → IsRestAfter word rest.now new → text ≡ front ++ rest.now → IsRestAfter (front ++ word) text new
rest_on word text front rest None after is = λ more e.
    after more (append_cancel_left front rest.now (word ++ more) (sym is ∙ e ∙ append_assoc front word more))
rest_on word text front rest (Some found) after is =
    is ∙ ap (λ t. front ++ t) after ∙ sym (append_assoc front word found.now)

-- what follows a word at the front of a rest is that rest with the word taken off
pub strips_some : (word : List ℕ) (rest : Bor (List ℕ)) (new : Option (Bor (List ℕ)))
    → IsRestAfter word rest.now new → Strips word (Some rest) new
strips_some word rest new after = record { taken = λ text front is. rest_on word text front rest new after is }

-- two words one after the other are one
pub strips_both : {v w : List ℕ} {old rest new : Option (Bor (List ℕ))} → Strips v old rest → Strips w rest new
    → Strips (v ++ w) old new
strips_both {v = v} {w = w} {old = old} {rest = rest} {new = new} first second = record {
  taken = λ text front is. subst (λ p. IsRestAfter p text new) (append_assoc front v w)
      (second.taken text (front ++ v) (first.taken text front is));
}

-- and so are pieces
pub strips_pieces : {old rest new : Option (Bor (List ℕ))} (a b : List Piece) → Strips (pieces_text a) old rest
    → Strips (pieces_text b) rest new → Strips (pieces_text (a ++ b)) old new
strips_pieces {old = old} {rest = rest} {new = new} a b first second =
    subst (λ p. Strips p old new) (sym (pieces_both a b)) (strips_both first second)

-- ---- a whole text

-- a word that is taken off a whole text leaves what follows it there
pub rest_of_text : {word : List ℕ} {text : Bor (List ℕ)} {rest : Option (Bor (List ℕ))} → Strips word (Some text) rest
    → IsRestAfter word text.now rest
rest_of_text {text = text} strips = strips.taken text.now [] refl

-- a text in which no rest follows a word doesn't begin with the word
pub no_rest : (word text : List ℕ) (rest : Option (Bor (List ℕ))) → rest ≡ None → IsRestAfter word text rest
    → (more : List ℕ) → text ≢ word ++ more
no_rest word text rest none after = subst (IsRestAfter word text) none after

-- a text in which a rest follows a word is the word and that rest
pub the_rest : (word text : List ℕ) (rest : Option (Bor (List ℕ))) (found : Bor (List ℕ)) → rest ≡ Some found
    → IsRestAfter word text rest → text ≡ word ++ found.now
the_rest word text rest found is after = subst (IsRestAfter word text) is after

-- the rest isn't this word, so the text isn't what comes before and the word
pub differs_after : (p w text rest : List ℕ) → text ≡ p ++ rest → rest ≢ w → text ≢ p ++ w
differs_after p w text rest is differs e = differs (append_cancel_left p rest w (sym is ∙ e))

-- what is found in the rest is found in the text
pub found_after : {A : Type 0} (P : A → Type 0) (f g : A → List ℕ) (p text rest : List ℕ) (found : Option A)
    → text ≡ p ++ rest → ((a : A) → p ++ f a ≡ g a)
    → MatchOption found ((a : A) → P a → rest ≢ f a) (λ a. P a × (rest ≡ f a))
    → MatchOption found ((a : A) → P a → text ≢ g a) (λ a. P a × (text ≡ g a))
found_after P f g p text rest None is joins none = λ a holds e.
    differs_after p (f a) text rest is (none a holds) (e ∙ sym (joins a))
found_after P f g p text rest (Some a) is joins here = (here.0, is ∙ ap (λ t. p ++ t) here.1 ∙ joins a)

-- what doesn't begin with a word is nothing that does
pub none_after : {A : Type 0} (P : A → Type 0) (f g : A → List ℕ) (p text : List ℕ) → ((a : A) → p ++ f a ≡ g a)
    → ((more : List ℕ) → text ≢ p ++ more) → (a : A) → P a → text ≢ g a
none_after P f g p text joins none a holds e = none (f a) (e ∙ sym (joins a))

-- ---- the end of a text

-- a text that doesn't begin with a word isn't the word
pub whole_or_not : (word text : List ℕ) → ((more : List ℕ) → text ≢ word ++ more)
    → IsTrue false ↔ (text ≡ word)
whole_or_not word text none = (λ t. absurd (false≢true t), λ e. absurd (none [] (e ∙ sym (append-nil word))))

-- a text that begins with a word is the word where no rest is left
pub is_whole : (word text rest : List ℕ) (empty : Bool) → text ≡ word ++ rest → empty ≡ (length rest == 0)
    → IsTrue empty ↔ (text ≡ word)
is_whole word text [] empty is tests = rw tests (λ _. is ∙ append-nil word, λ _. refl)
is_whole word text (x ∷ rest) empty is tests = rw tests (
  λ t. absurd (omega (arith, eqb-true (length (x ∷ rest)) 0 t)),
  λ e. absurd (omega (arith, ap length (sym is ∙ e), length-append word (x ∷ rest))),
)
