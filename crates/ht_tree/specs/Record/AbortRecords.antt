-- The record of a fault on which the budget was spent, and what it means.
use Rattle.std.specs.Prelude.{◌≡◌, ◌<◌, ℕ, List, [], ◌∷◌, Bool, true, false, length, Option, Some, None}
use Rattle.ht_net.specs.declared.fault.Fault.{Fault}
use Rattle.ht_net.specs.Circuit.Netlist.{Netlist}
use Rattle.ht_net.specs.Detect.Detection.{Detects}
use Rattle.ht_net.specs.Detect.Silence.{Sealed}
use Rattle.ht_tree.specs.declared.token.Token.{Token}
use Rattle.ht_tree.specs.declared.aim.Aim.{Aim}
use Rattle.ht_tree.specs.declared.told.Told.{Told}
use Rattle.ht_tree.specs.Window.Decisions.{is_in}
use Rattle.ht_tree.specs.Window.Windows.{one_frame_window}
use Rattle.ht_tree.specs.Record.ToldChains.{IsToldChain, states_of, ends_at_output}
use Rattle.ht_tree.specs.Record.SearchRecords.{IsSpentWalk, IsSweepRecord}
use Rattle.ht_tree.specs.Record.AimedAttempts.{IsAim, AimMeans}

-- What is recorded of such a fault: the told frames, the walk that spent the budget after them, how the attempt at the
-- first of them ended, and the walks of the sweep.
pub record AbortView : Type 0 where
  pub told : List Told
  pub walk : Option (List Token)
  pub aim : Option Aim
  pub sweep : List (List Token)

-- the walk of the one-frame window of what was told is there exactly where no told place is an output
abbrev pub IsLastWalk : Netlist → Fault → ℕ → List Told → Option (List Token) → Type 0
IsLastWalk c fault budget told None = ends_at_output told ≡ true
IsLastWalk c fault budget told (Some tokens) =
    (ends_at_output told ≡ false) × IsSpentWalk (one_frame_window c fault (states_of told)) budget tokens

-- an aim is there exactly where a frame was told, and is at the first one
abbrev pub IsFirstAim : Netlist → Fault → ℕ → List Told → Option Aim → Type 0
IsFirstAim c fault budget [] None = Unit {0}
IsFirstAim c fault budget [] (Some aim) = ⊥
IsFirstAim c fault budget (told ∷ chain) None = ⊥
IsFirstAim c fault budget (told ∷ chain) (Some aim) = IsAim c fault budget told aim

-- An abort record for a budget: each of its searches closed or filled the budget.
pub record IsAbortRecord (c : Netlist) (fault : Fault) (budget : ℕ) (a : AbortView) : Type 0 where
  pub chain : IsToldChain c fault a.told
  pub walk : IsLastWalk c fault budget a.told a.walk
  pub aim : IsFirstAim c fault budget a.told a.aim
  pub sweep : IsSweepRecord c fault budget a.sweep

-- what the aim at the first told frame means
abbrev pub FirstAimMeans : Netlist → Fault → List Told → Option Aim → Type 0
FirstAimMeans c fault [] aim = Unit {0}
FirstAimMeans c fault (told ∷ chain) None = Unit {0}
FirstAimMeans c fault (told ∷ chain) (Some aim) = AimMeans c fault told aim

-- Each set that seals the fault has the told flip-flops, and there is none where an output is told; no list of fewer
-- vectors than the sweep has walks detects the fault; and the aim means what it says.
pub record AbortMeans (c : Netlist) (fault : Fault) (a : AbortView) : Type 0 where
  pub told : (z : ℕ → Bool) → Sealed c fault z → (j : ℕ) → is_in (states_of a.told) j ≡ true → z j ≡ true
  pub unsealed : ends_at_output a.told ≡ true → (z : ℕ → Bool) → ¬ Sealed c fault z
  pub swept : (list : List (List Bool)) (t o : ℕ) → length list < length a.sweep → ¬ Detects c fault list t o
  pub aim : FirstAimMeans c fault a.told a.aim
