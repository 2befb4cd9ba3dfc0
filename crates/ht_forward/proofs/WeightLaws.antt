-- What walks weigh, and that no budget comes to the longest window.
use Rattle.std.proofs.Common.{◌≡◌, ◌≢◌, ◌<◌, ◌≤◌, ◌+◌, ◌*◌, ◌++◌, ℕ, suc, zero, List, [], ◌∷◌, length, refl, ap, arith, inl, inr}
use Rattle.std.proofs.Math.Nat.{mul-le-mul_right}
use Rattle.ht_net.proofs.FrameLaws.{le_or_lt}
use Rattle.ht_tree.specs.declared.token.Token.{Token}
use Rattle.ht_tree.specs.Record.SearchRecords.{sweep_weight}
use Rattle.ht_tree.specs.Walk.Walks.{IsComplete, Judge, Node, weight_of}
use Rattle.ht_events.specs.Plans.{max_frames}

-- one more walk adds its weight in the next window to the weight of the walks
pub weight_push : (frames : ℕ) (walks : List (List Token)) (walk : List Token)
    → sweep_weight frames (walks ++ walk ∷ []) ≡ sweep_weight frames walks + weight_of (frames + length walks) walk
weight_push frames [] walk =
    let at : frames + 0 ≡ frames = omega arith in
    let same = ap (λ (n : ℕ). length walk * n) at in
    omega (arith, same)
weight_push frames (first ∷ walks) walk =
    let rest = weight_push (frames + 1) walks walk in
    let at : frames + 1 + length walks ≡ frames + length (first ∷ walks) = omega arith in
    let same = ap (λ (n : ℕ). length walk * n) at in
    omega (arith, rest, same)

-- walks of the first lengths with a token each weigh at least this much: the lengths together
abbrev pub least_weight : ℕ → ℕ
least_weight zero = 0
least_weight (suc k) = least_weight k + suc k

-- a token for each length up to the longest window weighs 100128 together
pub longest_weighs : least_weight max_frames ≡ 100128
longest_weighs = refl

least_more : (k n : ℕ) → k ≤ n → least_weight k ≤ least_weight n
least_more zero n h = omega arith
least_more (suc k) zero h = absurd (omega (arith, h))
least_more (suc k) (suc n) h = let rest = least_more k n (omega (arith, h)) in omega (arith, rest, h)

-- a weight below that of all lengths up to the longest window covers fewer lengths than these
pub lengths_few : (k weight : ℕ) → least_weight k ≤ weight → weight < least_weight max_frames → k < max_frames
lengths_few k weight h light = elim (le_or_lt max_frames k) [
  | inl long ↦ let more = least_more max_frames k long in absurd (omega (arith, more, h, light))
  | inr short ↦ short
]

-- a complete walk has a token, so it weighs at least the frames of its window
node_left : (n : Node) (rest : List Node) → n ∷ rest ≢ []
node_left n rest e = cc

complete_some : (j : Judge) (tokens : List Token) → IsComplete j tokens → 0 < length tokens
complete_some j [] h = absurd (node_left _ _ h.finished)
complete_some j (t ∷ tokens) h = omega arith

-- a complete walk weighs at least as much as its window has frames
pub complete_weighs : (j : Judge) (frames : ℕ) (walk : List Token) → IsComplete j walk → frames ≤ weight_of frames walk
complete_weighs j frames walk h =
    let times = mul-le-mul_right frames (complete_some j walk h) in
    let one : suc zero * frames ≡ frames = omega arith in
    omega (arith, times, one)
