-- The machines of a group, by their lanes.
use Rattle.std.specs.List.{slice_get}
use Rattle.std.proofs.Common.{◌≡◌, ◌<◌, ◌≤◌, ◌+◌, ◌∙◌, ℕ, zero, suc, List, [], ◌∷◌, ◌++◌, length, ap, sym, refl, arith, Some}
use Rattle.ht_lanes.specs.Lanes.{Lanes}
use Rattle.ht_net.specs.declared.fault.Fault.{Fault}
use Rattle.ht_group.specs.GroupView.{FaultyMachine}
use Rattle.ht_group.specs.MachineWords.{machines_from}
use Rattle.ht_group.specs.LaneRules.{in_lane}

-- there are as many machines as faults
pub machine_count : (n : ℕ) (faults : List Fault) (latches : List Lanes)
    → length (machines_from n faults latches) ≡ length faults
machine_count n [] latches = refl
machine_count n (f ∷ faults) latches = ap suc (machine_count (n + 1) faults latches)

-- the machine of a lane
pub record IsMachineOf (faults : List Fault) (words : List Lanes) (n k : ℕ) (m : FaultyMachine) : Type 0 where
  pub fault : slice_get faults k ≡ Some m.fault
  pub latches : m.latches ≡ in_lane (n + k) words

-- machine k has fault k and the latches of its lane
pub machine_at : (n : ℕ) (faults : List Fault) (latches : List Lanes) (k : ℕ) (m : FaultyMachine)
    → slice_get (machines_from n faults latches) k ≡ Some m → IsMachineOf faults latches n k m
machine_at n [] latches k m h = cc
machine_at n (f ∷ faults) latches zero m h =
    let is : record { fault = f; latches = in_lane n latches } ≡ m = cc in
    let at : n ≡ n + 0 = omega arith in
    record {
      fault = ap (λ (o : FaultyMachine). Some o.fault) is;
      latches = ap (λ (o : FaultyMachine). o.latches) (sym is) ∙ ap (λ (i : ℕ). in_lane i latches) at;
    }
machine_at n (f ∷ faults) latches (suc k) m h =
    let rest = machine_at (n + 1) faults latches k m h in
    let same : n + 1 + k ≡ n + suc k = omega arith in
    record { fault = rest.fault; latches = rest.latches ∙ ap (λ (i : ℕ). in_lane i latches) same }

-- one machine more
pub machine_added : (n : ℕ) (faults : List Fault) (f : Fault) (old new : List Lanes)
    → ((k : ℕ) → n ≤ k → k < n + length faults → in_lane k new ≡ in_lane k old)
    → machines_from n (faults ++ f ∷ []) new
    ≡ machines_from n faults old ++ record { fault = f; latches = in_lane (n + length faults) new } ∷ []
machine_added n [] f old new same =
    let at : n ≡ n + 0 = omega arith in
    ap (λ (i : ℕ). record { fault = f; latches = in_lane i new } ∷ []) at
machine_added n (g ∷ faults) f old new same =
    let at : n + 1 + length faults ≡ n + suc (length faults) = omega arith in
    let rest = machine_added (n + 1) faults f old new
    (λ k from below. same k (omega (arith, from)) (omega (arith, below))) in
    λ i. record { fault = g; latches = same n (omega arith) (omega arith) i } ∷
    (rest ∙ ap (λ (j : ℕ). machines_from (n + 1) faults old ++ record { fault = f; latches = in_lane j new } ∷ []) at) i
