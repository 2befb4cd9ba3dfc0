-- A list that the next search finds.
use Rattle.std.proofs.Common.{◌≤◌, ℕ, List, arith, subst}
use Rattle.ht_net.specs.Frames.Rows.{Rows}
use Rattle.ht_tree.specs.Walk.Searches.{Guide}
use Rattle.ht_tree.specs.declared.limits.TheConstants.{MAX_BUDGET}
use Rattle.ht_tree.specs.declared.token.Token.{Token}
use Rattle.ht_forward.specs.Lengths.{left_after}
use Rattle.ht_forward.proofs.LengthsLaws.{IsClosedTo, frames_few, left_is}
use Rattle.ht_forward.specs.LengthAnswers.{FindsAfter}

-- a list that the next search finds, with what the closed ones left of the budget, is found after them
pub finds_after : (guide : ℕ → Guide) (Finds : ℕ → ℕ → Rows → Type 0) (budget frames left : ℕ) (list : Rows)
    (walks : List (List Token)) → IsClosedTo guide budget frames left walks → budget ≤ MAX_BUDGET
    → Finds frames left list → FindsAfter guide Finds budget list walks
finds_after guide Finds budget frames left list walks closed small finds = record {
  closes = closed.closes;
  few = let count = closed.count in
      let few = frames_few guide budget frames left walks closed small in
      omega (arith, count, few);
  finds = subst (λ (k : ℕ). Finds k (left_after budget walks) list) closed.count
      (subst (λ (b : ℕ). Finds frames b list) (left_is guide budget frames left walks closed) finds);
}
