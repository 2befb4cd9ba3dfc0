-- What the walks of one length after the other weigh together.
use Rattle.std.proofs.Common.{◌≡◌, ◌<◌, ◌≤◌, ◌+◌, ◌*◌, ◌^◌, ℕ, suc, zero, List, [], ◌∷◌, length, get_or, ap, inl, inr, arith, subst}
use Rattle.std.proofs.Math.Nat.{mul-le-mul_right, mul_comm, suc-mul}
use Rattle.ht_net.proofs.FrameLaws.{le_or_lt}
use Rattle.ht_tree.specs.Walk.Budgets.{sweep_cost}
use Rattle.ht_tree.specs.Record.SearchRecords.{sweep_weight}
use Rattle.ht_tree.specs.declared.token.Token.{Token}

-- walks of windows of k + 1 frames and so on weigh less than what these windows cost
pub weigh_less : (n k : ℕ) (walks : List (List Token))
    → ((i : ℕ) → i < length walks → length (get_or walks i []) < 2 ^ ((k + i + 1) * n + 1))
    → sweep_weight (k + 1) walks + length walks + sweep_cost n k ≤ sweep_cost n (k + length walks)
weigh_less n k [] h =
    let at : k + 0 ≡ k = omega arith in
    let same = ap (sweep_cost n) at in
    omega (arith, same)
weigh_less n k (walk ∷ walks) h =
    let one : k + 1 ≡ suc k = omega arith in
    let first : k + 0 + 1 ≡ suc k = omega arith in
    let rest = weigh_less n (suc k) walks (λ i l. let at : k + suc i + 1 ≡ suc k + i + 1 = omega arith in
    subst (λ (f : ℕ). length (get_or walks i []) < 2 ^ (f * n + 1)) at (h (suc i) (omega (arith, l)))) in
    let here : length walk < 2 ^ (suc k * n + 1) =
    subst (λ (f : ℕ). length walk < 2 ^ (f * n + 1)) first (h 0 (omega arith)) in
    let times : suc (length walk) * suc k ≤ 2 ^ (suc k * n + 1) * suc k =
    mul-le-mul_right (suc k) (omega (arith, here)) in
    let left : suc (length walk) * suc k ≡ length walk * suc k + suc k = suc-mul (length walk) (suc k) in
    let right : 2 ^ (suc k * n + 1) * suc k ≡ suc k * 2 ^ (suc k * n + 1) = mul_comm (2 ^ (suc k * n + 1)) (suc k) in
    let weight : sweep_weight (k + 1) (walk ∷ walks) ≡ length walk * suc k + sweep_weight (suc k + 1) walks =
    ap (λ (f : ℕ). sweep_weight f (walk ∷ walks)) one in
    let end : k + suc (length walks) ≡ suc k + length walks = omega arith in
    let cost = ap (sweep_cost n) end in
    omega (arith, rest, times, left, right, weight, cost)

-- more frames cost more
pub cost_more : (n k d : ℕ) → k ≤ d → sweep_cost n k ≤ sweep_cost n d
cost_more n k zero h = let at : k ≡ 0 = omega (arith, h) in let same = ap (sweep_cost n) at in omega (arith, same)
cost_more n k (suc d) h = elim (le_or_lt k d) [
  | inl less ↦ let rest = cost_more n k d less in omega (arith, rest)
  | inr last ↦
      let at : k ≡ suc d = omega (arith, last, h) in
      let same = ap (sweep_cost n) at in
      omega (arith, same)
]
