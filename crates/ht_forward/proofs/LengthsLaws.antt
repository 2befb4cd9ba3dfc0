-- Searches of 1 frame, 2 frames and so on that are closed one after the other, and what the next one makes of them.
use Rattle.std.proofs.Common.{◌≡◌, ◌<◌, ◌≤◌, ◌+◌, ◌-◌, ◌*◌, ◌++◌, ℕ, suc, zero, List, [], ◌∷◌, length, get_or, sym, ap, subst, arith}
use Rattle.std.proofs.lemmas.List.{length_push, get_or_push, get_or_append_left}
use Rattle.ht_events.specs.Plans.{max_frames}
use Rattle.ht_tree.specs.declared.limits.TheConstants.{MAX_BUDGET}
use Rattle.ht_tree.specs.declared.token.Token.{Token}
use Rattle.ht_tree.specs.Record.SearchRecords.{Fills, sweep_weight}
use Rattle.ht_tree.specs.Walk.Searches.{Closes, Guide}
use Rattle.ht_tree.specs.Walk.Walks.{IsComplete, IsOpen, Judge, weight_of}
use Rattle.ht_forward.proofs.WeightLaws.{complete_weighs, least_weight, lengths_few, longest_weighs, weight_push}
use Rattle.ht_forward.specs.Lengths.{CloseEach, IsLengthRecord, SpendEach, left_after}

-- All searches before the one of so many frames are closed, and so much is left of the budget.
pub record IsClosedTo (guide : ℕ → Guide) (budget frames left : ℕ) (walks : List (List Token)) : Type 0 where
  pub count : frames ≡ length walks + 1
  pub closes : CloseEach guide budget 1 walks
  pub weight : sweep_weight 1 walks + left ≡ budget
  pub heavy : least_weight (length walks) ≤ sweep_weight 1 walks

module _ (guide : ℕ → Guide) where
  -- a search depends on how many frames it has, and on its budget
  closes_as : (frames frames' budget budget' : ℕ) (walk : List Token) → frames ≡ frames' → budget ≡ budget'
      → Closes (guide frames) budget frames walk → Closes (guide frames') budget' frames' walk
  closes_as frames frames' budget budget' walk count left h =
      subst (λ (b : ℕ). Closes (guide frames') b frames' walk) left
      (subst (λ (n : ℕ). Closes (guide n) budget n walk) count h)

  -- closed searches and the next one that is closed too are searches that are closed, one after the other
  pub closes_push : (budget frames : ℕ) (walks : List (List Token)) (walk : List Token)
      → CloseEach guide budget frames walks
      → Closes (guide (frames + length walks)) (budget - sweep_weight frames walks) (frames + length walks) walk
      → CloseEach guide budget frames (walks ++ walk ∷ [])
  closes_push budget frames [] walk h closes =
      (closes_as (frames + 0) frames (budget - 0) budget walk (omega arith) (omega arith) closes, tt)
  closes_push budget frames (first ∷ walks) walk h closes =
      let left = budget - weight_of frames first in (
        h.0,
        closes_push left (frames + 1) walks walk h.1
            (closes_as (frames + length (first ∷ walks)) (frames + 1 + length walks)
            (budget - sweep_weight frames (first ∷ walks)) (left - sweep_weight (frames + 1) walks) walk
            (omega arith) (omega arith) closes),
      )

  -- the walk at index k of closed searches is complete, in the window of k frames more than the first
  pub close_at : (budget frames : ℕ) (walks : List (List Token)) → CloseEach guide budget frames walks
      → (k : ℕ) → k < length walks → IsComplete (guide (frames + k)).judge (get_or walks k [])
  close_at budget frames [] h k l = absurd (omega (arith, l))
  close_at budget frames (walk ∷ walks) h zero l =
      let at : frames ≡ frames + 0 = omega arith in
      subst (λ (n : ℕ). IsComplete (guide n).judge walk) at h.0.walk
  close_at budget frames (walk ∷ walks) h (suc k) l =
      let at : frames + 1 + k ≡ frames + suc k = omega arith in
      subst (λ (n : ℕ). IsComplete (guide n).judge (get_or walks k [])) at
      (close_at (budget - weight_of frames walk) (frames + 1) walks h.1 k (omega (arith, l)))

  -- the walk of k + 1 frames
  pub closed_walk : (budget : ℕ) (walks : List (List Token)) → CloseEach guide budget 1 walks
      → (k : ℕ) → k < length walks → IsComplete (guide (k + 1)).judge (get_or walks k [])
  closed_walk budget walks h k l =
      let at : 1 + k ≡ k + 1 = omega arith in
      subst (λ (n : ℕ). IsComplete (guide n).judge (get_or walks k [])) at (close_at budget 1 walks h k l)

  -- they keep within the budget
  pub close_within : (budget frames : ℕ) (walks : List (List Token)) → CloseEach guide budget frames walks
      → sweep_weight frames walks ≤ budget
  close_within budget frames [] h = omega arith
  close_within budget frames (walk ∷ walks) h =
      let rest = close_within (budget - weight_of frames walk) (frames + 1) walks h.1 in
      let here = h.0.keeps.within in
      omega (arith, rest, here)

  module _ (budget frames left : ℕ) (walks : List (List Token)) (closed : IsClosedTo guide budget frames left walks)
    where
      -- what is left of the budget is the budget without the weight of the walks
      pub left_is : left ≡ left_after budget walks
      left_is = let weight = closed.weight in omega (arith, weight)

      -- no search within the largest budget has more frames than the longest window
      pub frames_few : budget ≤ MAX_BUDGET → frames ≤ max_frames
      frames_few small =
          let weight = closed.weight in
          let count = closed.count in
          let longest = longest_weighs in
          let few = lengths_few (length walks) (sweep_weight 1 walks) closed.heavy (omega (arith, weight, small, longest))
          in
          omega (arith, few, count)

      one_closes : (walk : List Token) (left' : ℕ) → Closes (guide frames) left frames walk
          → left' ≡ left - weight_of frames walk → IsClosedTo guide budget (frames + 1) left' (walks ++ walk ∷ [])
      one_closes walk left' h is =
          let count = closed.count in
          let heavy = closed.heavy in
          let weight = closed.weight in
          let next : frames ≡ 1 + length walks = omega (arith, count) in
          let within = h.keeps.within in
          let push = weight_push 1 walks walk in
          let times = ap (λ (n : ℕ). length walk * n) next in
          let some = complete_weighs (guide frames).judge frames walk h.walk in
          let long = length_push walks walk in
          let more : length (walks ++ walk ∷ []) ≡ suc (length walks) = omega (arith, long) in
          let least = ap least_weight more in
          record {
            count = omega (arith, count, more);
            closes = closes_push budget 1 walks walk closed.closes
                (closes_as frames (1 + length walks) left (left_after budget walks) walk next left_is h);
            weight = omega (arith, push, times, weight, within, is);
            heavy = omega (arith, least, push, times, some, count, heavy);
          }

  module _ (budget : ℕ) (walks : List (List Token)) (h : SpendEach guide budget walks) where
    abbrev judge : ℕ → Judge
    judge k = (guide k).judge

    abbrev all : List (List Token)
    all = h.closed ++ h.last ∷ []

    long : length all ≡ length h.closed + 1
    long = let push = length_push h.closed h.last in omega (arith, push)

    each_complete : (k : ℕ) → k + 1 < length all → IsComplete (judge (k + 1)) (get_or all k [])
    each_complete k l =
        let n = long in
        let inside : k < length h.closed = omega (arith, l, n) in
        subst (λ (walk : List Token). IsComplete (judge (k + 1)) walk)
        (sym (get_or_append_left h.closed (h.last ∷ []) [] k inside))
        (closed_walk budget h.closed h.closes k inside)

    last_open : IsOpen (judge (length all)) (get_or all (length all - 1) [])
    last_open =
        let n = long in
        let end : length h.closed ≡ length all - 1 = omega (arith, n) in
        let last : h.last ≡ get_or all (length all - 1) [] =
        sym (get_or_push h.closed h.last [] (length all - 1) end) in
        subst (λ (k : ℕ). IsOpen (judge k) (get_or all (length all - 1) [])) (sym long)
        (subst (λ (walk : List Token). IsOpen (judge (length h.closed + 1)) walk) last h.spends.walk)

    all_fill : Fills budget (length all) (sweep_weight 1 all)
    all_fill =
        let n = long in
        let push = weight_push 1 h.closed h.last in
        let at : 1 + length h.closed ≡ length h.closed + 1 = omega arith in
        let times = ap (λ (k : ℕ). length h.last * k) at in
        let before = close_within budget 1 h.closed h.closes in
        let kept = h.spends.keeps.within in
        let full = h.spends.spent in
        record {
          within = omega (arith, push, times, kept, before);
          full = omega (arith, push, times, full, before, n);
        }

    -- the walks of searches that spend the budget are a record of these searches
    pub spends_record : IsLengthRecord judge budget walks
    spends_record =
        subst (IsLengthRecord judge budget) (sym h.all)
        (record { complete = each_complete; unfinished = last_open; fills = all_fill })

-- one length more is closed, where its walk is pushed and the weight of its tokens taken from the budget
pub closes_more : {guide : ℕ → Guide} {budget frames left : ℕ} {walks more : List (List Token)}
    {walk taken : List Token} → IsClosedTo guide budget frames left walks → Closes (guide frames) left frames walk
    → taken ≡ walk → more ≡ walks ++ walk ∷ []
    → IsClosedTo guide budget (frames + 1) (left - length taken * frames) more
closes_more {guide = guide} {budget = budget} {frames = frames} {left = left} {walks = walks} {walk = walk}
    {taken = taken} closed h same pushed =
    subst (IsClosedTo guide budget (frames + 1) (left - length taken * frames)) (sym pushed)
    (one_closes guide budget frames left walks closed walk (left - length taken * frames) h
    (ap (λ (ts : List Token). left - length ts * frames) same))
