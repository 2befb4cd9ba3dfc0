-- When cubes and steps are a refutation that passes.
use Rattle.std.specs.Prelude.{ℕ, List, Bool}
use Rattle.std.specs.List.{All}
use Rattle.ht_tern.specs.declared.tern.Tern.{Tern}
use Rattle.ht_net.specs.declared.fault.Fault.{Fault}
use Rattle.ht_net.specs.Circuit.Netlist.{Netlist}
use Rattle.ht_cubes.specs.declared.rail.Rail.{Rail}
use Rattle.ht_cubes.specs.declared.clause_step.ClauseStep.{ClauseStep}
use Rattle.ht_cubes.specs.Rails.{AvoidsAll, IsCone, IsKnownRail, both}
use Rattle.ht_cubes.specs.Formula.{formula_of, last_variable}
use Rattle.ht_cubes.specs.Steps.{EndsEmpty, IsWithin, StepsPass}

-- Cubes and steps refute a fault from a start: the rails are known, the start avoids each cube, and the steps, over the
-- variables of the formula alone, pass after the formula and end with the empty clause.
pub record RefutesByCubes (c : Netlist) (fault : Fault) (start : List Tern) (cubes : List (List Rail))
    (steps : List ClauseStep) : Type 0 where
  pub cone : ℕ → Bool
  pub is_cone : IsCone c fault cone
  pub known : All (All (IsKnownRail c cone)) cubes
  pub starts : AvoidsAll (both start) cubes
  pub within : All (λ (s : ClauseStep). IsWithin (last_variable c fault cone cubes) s.literals) steps
  pub passes : StepsPass (formula_of c fault cone cubes) steps
  pub ends : EndsEmpty steps
