-- The record of a run, and what it means.
use Rattle.std.specs.Prelude.{◌≡◌, ◌<◌, ◌≤◌, ◌↔◌, ℕ, List, Bool, true, false, Option, Some, None, length, get_or, map}
use Rattle.std.specs.List.{list_all, list_any}
use Rattle.ht_net.specs.declared.fault.Fault.{Fault}
use Rattle.ht_faults.specs.FaultList.{no_fault}
use Rattle.ht_net.specs.Detect.Detection.{Detects}
use Rattle.ht_net.specs.Circuit.Netlist.{Netlist}
use Rattle.ht_tree.specs.declared.token.Token.{Token}
use Rattle.ht_tree.specs.Walk.Budgets.{refutation_cost}
use Rattle.ht_tree.specs.Window.Decisions.{is_in}
use Rattle.ht_uninit.specs.declared.record.Removed.{Removed}
use Rattle.ht_uninit.specs.declared.record.Out3.{Out3}
use Rattle.ht_uninit.specs.ClosedSets.{Contains, IsClosedSet, StayUnknown}
use Rattle.ht_faults.specs.Sites.{data_net}
use Rattle.ht_uninit.specs.Cones.{IsHidden, output_net}
use Rattle.ht_uninit.specs.HeldSearches.{ClosesUnknown}
use Rattle.ht_uninit.specs.Rounds.{EndsWith, IsOutput, held_after, is_free, is_open, is_removed, mutes_of}

-- In order of removal, the flip-flops that were removed; for each flip-flop its walk in the last round, if it was held
-- to the end; what the search of each output came to; and which of the given faults are hidden.
pub record UninitState : Type 0 where
  pub removed : List Removed
  pub walks : List (Option (List Token))
  pub outs : List Out3
  pub hidden : List Bool

-- the walk of flip-flop j in the last round; none where it was removed
abbrev pub IsWalkOf : Netlist → ℕ → List Removed → ℕ → Option (List Token) → Type 0
IsWalkOf c budget removed j None = is_removed removed j ≡ true
IsWalkOf c budget removed j (Some tokens) =
    (is_removed removed j ≡ false) × ClosesUnknown c budget (held_after c removed) (data_net c j) tokens

-- The record that the work gives for some faults.
pub record IsUninit (c : Netlist) (budget : ℕ) (faults : List Fault) (r : UninitState) : Type 0 where
  pub ends : EndsWith c budget r.removed
  pub long : length r.walks ≡ length c.dffs
  pub walks : (j : ℕ) → j < length c.dffs → IsWalkOf c budget r.removed j (get_or r.walks j None)
  pub every : length r.outs ≡ length c.outputs
  pub outs : (o : ℕ) (out : Out3) → o < length c.outputs → out ≡ get_or r.outs o out
      → IsOutput c budget (held_after c r.removed) (output_net c o) out
  pub counted : length r.hidden ≡ length faults
  pub hidden : (i : ℕ) (fault : Fault) → i < length faults → fault ≡ get_or faults i fault
      → (get_or r.hidden i false ≡ true) ↔ IsHidden c (mutes_of r.outs) fault

-- the set that is held to the end
abbrev pub held_in : Netlist → UninitState → ℕ → Bool
held_in c r j = is_in (held_after c r.removed) j

-- What a record means.
pub record UninitHolds (c : Netlist) (budget : ℕ) (r : UninitState) : Type 0 where
  pub closed : IsClosedSet c (held_in c r)
  pub unknown : StayUnknown c (held_in c r)
  pub greatest : list_all is_free r.removed ≡ true → (v : ℕ → Bool) → IsClosedSet c v → Contains c (held_in c r) v
  pub undetected : (fault : Fault) → IsHidden c (mutes_of r.outs) fault → (list : List (List Bool)) (t o : ℕ)
      → ¬ Detects c fault list t o
  pub free : refutation_cost c ≤ budget → list_all is_free r.removed ≡ true
  pub decided : refutation_cost c ≤ budget → list_any is_open r.outs ≡ false

-- the given faults, by their numbers
abbrev pub given_faults : List Fault → List ℕ → List Fault
given_faults faults which = map (λ k. get_or faults k no_fault) which
