-- What the searches of 1 frame, 2 frames and so on answer.
use Rattle.std.specs.Prelude.{◌≤◌, ℕ, List}
use Rattle.ht_net.specs.Frames.Rows.{Rows}
use Rattle.ht_tree.specs.declared.token.Token.{Token}
use Rattle.ht_tree.specs.Walk.Searches.{Closes, Guide, SpendsAt}
use Rattle.ht_tree.specs.Walk.Walks.{Node}
use Rattle.ht_events.specs.Plans.{max_frames}
use Rattle.ht_forward.specs.Lengths.{CloseEach, SpendEach, left_after, next_length}
use Rattle.ht_forward.specs.declared.lengths.OneLength.{OneLength}
use Rattle.ht_forward.specs.declared.lengths.OneLength.TheVariants as one
use Rattle.ht_forward.specs.declared.lengths.Lengths.{Lengths}
use Rattle.ht_forward.specs.declared.lengths.Lengths.TheVariants.{Found, Spent}

-- what the search of so many frames within a budget comes to, by its guide and by the lists that it finds
abbrev pub IsOneLength : Guide → (Rows → Type 0) → ℕ → ℕ → OneLength → Type 0
IsOneLength g Finds frames budget (one.Found list) = Finds list
IsOneLength g Finds frames budget (one.Closed tokens) = Closes g budget frames tokens
IsOneLength g Finds frames budget (one.Spent tokens) = (n : Node) × SpendsAt g budget frames tokens n

-- A list that the search after some that are closed finds.
pub record FindsAfter (guide : ℕ → Guide) (Finds : ℕ → ℕ → Rows → Type 0) (budget : ℕ) (list : Rows)
    (walks : List (List Token)) : Type 0 where
  pub closes : CloseEach guide budget 1 walks
  pub few : next_length walks ≤ max_frames
  pub finds : Finds (next_length walks) (left_after budget walks) list

-- the searches that lead to each answer
abbrev pub AreLengths : (ℕ → Guide) → (ℕ → ℕ → Rows → Type 0) → ℕ → Lengths → Type 0
AreLengths guide Finds budget (Found list walks) = FindsAfter guide Finds budget list walks
AreLengths guide Finds budget (Spent walks) = SpendEach guide budget walks
