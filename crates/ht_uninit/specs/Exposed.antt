-- The nets from which an output that isn't mute is reached, as marks, while they are found.
use Rattle.std.specs.Prelude.{◌≡◌, ◌<◌, ◌≤◌, ◌+◌, ◌++◌, ◌⊎◌, ◌==◌, ◌↔◌, ℕ, List, [], ◌∷◌, Bool, true, false, length, get_or, cond, not}
use Rattle.std.specs.List.{list_any, sum_by}
use Rattle.ht_net.specs.declared.fault.Fault.{Fault}
use Rattle.ht_net.specs.declared.net.NetId.{NetId}
use Rattle.ht_net.specs.Circuit.Netlist.{Netlist, arg_at, first_gate_net, gate_at, net_count}
use Rattle.ht_faults.specs.FaultList.{no_fault}
use Rattle.ht_faults.specs.Sites.{data_net}
use Rattle.ht_uninit.specs.Cones.{InCone, IsHidden, cone_root, output_net}

-- The cone of net x has an output that isn't mute.
pub record LeadsOut (c : Netlist) (mute : ℕ → Bool) (x : ℕ) : Type 0 where
  pub output : ℕ
  pub known : output < length c.outputs
  pub heard : mute output ≡ false
  pub cone : InCone c x (output_net c output)

-- a net waits in a list
abbrev pub waits : List NetId → ℕ → Bool
waits todo y = list_any (λ (n : NetId). n.0 == y) todo

-- net x has a mark
abbrev pub is_marked : List Bool → ℕ → Bool
is_marked marks x = get_or marks x false

-- Net a, which pin i of what drives net y reads, is marked, or y waits, or y is busy and its pins are done up to this.
abbrev pub IsFollowed : List Bool → List NetId → ℕ → ℕ → ℕ → ℕ → ℕ → Type 0
IsFollowed marks todo busy pin a y i =
    (is_marked marks a ≡ true) ⊎ ((waits todo y ≡ true) ⊎ ((y ≡ busy) × (pin ≤ i)))

-- Marked nets lead out; the first outputs that aren't mute are marked; and what a marked net's driver reads is marked
-- too, but where the net waits or is busy.
pub record AreExposed (c : Netlist) (mute : ℕ → Bool) (outputs : ℕ) (marks : List Bool) (todo : List NetId)
    (busy pin : ℕ) : Type 0 where
  pub long : length marks ≡ net_count c
  pub leads : (x : ℕ) → is_marked marks x ≡ true → LeadsOut c mute x
  pub waiting : (y : ℕ) → waits todo y ≡ true → is_marked marks y ≡ true
  pub working : busy < net_count c → is_marked marks busy ≡ true
  pub heard : (o : ℕ) → o < outputs → mute o ≡ false → is_marked marks (output_net c o) ≡ true
  pub gates : (g i : ℕ) → g < length c.gates → i < length (gate_at c g).args
      → is_marked marks (first_gate_net c + g) ≡ true
      → IsFollowed marks todo busy pin (arg_at c g i) (first_gate_net c + g) i
  pub dffs : (j : ℕ) → j < length c.dffs → is_marked marks (c.inputs + j) ≡ true
      → IsFollowed marks todo busy pin (data_net c j) (c.inputs + j) 0

-- 1 where a mark is missing
abbrev pub if_unmarked : Bool → ℕ
if_unmarked mark = cond mark 0 1

-- how much is left to do: nets that aren't marked, and nets that wait
abbrev pub work_left : List Bool → List NetId → ℕ
work_left marks todo = sum_by if_unmarked marks + length todo

-- what waits after a net is marked: the net too, if it wasn't marked before
abbrev pub waiting_after : List Bool → List NetId → NetId → List NetId
waiting_after marks todo n = cond (is_marked marks n.0) todo (todo ++ n ∷ [])

-- the cone of fault k of a list begins at a net without a mark
abbrev pub begins_unmarked : Netlist → List Fault → List Bool → ℕ → Bool
begins_unmarked c faults marks k = not (is_marked marks (cone_root c (get_or faults k no_fault).site))

-- the marks tell which faults are hidden
abbrev pub TellsHidden : Netlist → (ℕ → Bool) → List Bool → Type 0
TellsHidden c mute marks =
    (fault : Fault) → (is_marked marks (cone_root c fault.site) ≡ false) ↔ IsHidden c mute fault
