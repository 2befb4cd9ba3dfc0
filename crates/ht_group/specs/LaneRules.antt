-- Up to 64 machines in one, a fault to a lane.
use Rattle.std.specs.Prelude.{◌≡◌, ◌-◌, ℕ, List, get_or, map, if◌then◌else◌, nat_lt}
use Rattle.std.specs.List.{slice_get}
use Rattle.ht_tern.specs.declared.tern.Tern.{Tern}
use Rattle.ht_tern.specs.declared.tern.Tern.TheVariants.{Unk}
use Rattle.ht_lanes.specs.Lanes.{Lanes, lane}
use Rattle.ht_net.specs.declared.fault.Fault.{Fault}
use Rattle.ht_net.specs.Circuit.Netlist.{Netlist, first_gate_net}
use Rattle.ht_net.specs.Frames.Frame.{Rules, gate_output}
use Rattle.ht_net.specs.Frames.Faults.{tern_rules}

-- the rules of the machine in lane k: the one with the k-th fault, or the good machine where there are fewer faults
abbrev pub rules_at : List Fault → ℕ → Rules Tern
rules_at faults k = tern_rules (slice_get faults k)

-- what lane k has of a list of words, and of the word of each net
abbrev pub in_lane : ℕ → List Lanes → List Tern
in_lane k words = map (λ (w : Lanes). lane w k) words

-- what net x holds in lane k of some words
abbrev pub lane_env : ℕ → List Lanes → ℕ → Tern
lane_env k words x = get_or (in_lane k words) x Unk

-- what drives net x, where the sources are the vector and then the latches: its source, or its gate
abbrev pub drive_from : {V : Type 0} → Netlist → Rules V → List V → (ℕ → V) → ℕ → V
drive_from c r sources env x =
    if nat_lt x (first_gate_net c) then get_or sources x r.blank else gate_output c r env (x - first_gate_net c)

-- what its driver and its stem give net x
abbrev pub given_value : {V : Type 0} → Netlist → Rules V → List V → (ℕ → V) → ℕ → V
given_value c r sources env x = r.stem x (drive_from c r sources env x)

-- net x has the value that its driver and its stem give it
abbrev pub HasItsValue : {V : Type 0} → Netlist → Rules V → List V → (ℕ → V) → ℕ → Type 0
HasItsValue c r sources env x = env x ≡ given_value c r sources env x
