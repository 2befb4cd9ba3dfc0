-- Bytes split at a mark.
use Rattle.std.specs.Prelude.{◌≡◌, ◌≢◌, ℕ, ◌<◌, List, ◌∷◌, ◌++◌, length, slice_index}

-- the mark is none of the bytes
abbrev pub Lacks : List ℕ → ℕ → Type 0
Lacks text mark = (k : ℕ) → k < length text → slice_index text k ≢ mark

-- the bytes before the first mark, and those after it
pub record IsSplit (text : List ℕ) (mark : ℕ) (front rest : List ℕ) : Type 0 where
  pub lacks : Lacks front mark
  pub whole : text ≡ front ++ mark ∷ rest
