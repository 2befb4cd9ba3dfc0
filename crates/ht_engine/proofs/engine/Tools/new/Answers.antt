use Rattle.std.specs.Prelude.{List, [], length}
use Rattle.std.proofs.Common.{ap, subst, ◌∙◌}
use Rattle.ht_tern.specs.declared.tern.Tern.{Tern}
use Rattle.ht_proofs.specs.ClassGraderView.{ClassGraderStandsFor}
use Rattle.ht_engine.proofs.engine.Tools.new.Goals as goal

-- the start has a value for each latch
pub new_from-requires-clause-latches : goal.new_from-requires-clause-latches
new_from-requires-clause-latches c =
    ap (λ (s : List Tern). length s) c.as_slice-start.ensures ∙ c.requires.latches

pub returns-in-Ok-clause-stands : goal.returns-in-Ok-clause-stands
returns-in-Ok-clause-stands c =
    subst (λ (start : List Tern). ClassGraderStandsFor c.in-Ok.grader start [])
    c.as_slice-start.ensures c.in-Ok.ensures.stands

pub returns-in-Ok-clause-width : goal.returns-in-Ok-clause-width
returns-in-Ok-clause-width c = c.in_ok-first.ensures.width ∙ c.inputs.ensures

pub returns-in-Ok-clause-rest : goal.returns-in-Ok-clause-rest
returns-in-Ok-clause-rest c = rw c.inputs.ensures at c.in_ok-first.ensures.rest
