use Rattle.std.proofs.Common.{Some, None, ap, sym, subst, ◌∙◌}
use Rattle.ht_net.specs.Detect.Detection.{IsStart}
use Rattle.ht_faults.specs.Classes.{fault_at}
use Rattle.ht_proofs.specs.Detections.{place_at}
use Rattle.ht_engine.specs.EngineOf.{engine_of}
use Rattle.ht_engine.specs.EngineStands.{EngineView}
use Rattle.ht_engine.proofs.EngineLaws.{state_each, state_of}
use Rattle.ht_engine.proofs.engine.Engine.states_reached.Goals as goal

pub faulty_state-requires-clause-undetected : goal.faulty_state-requires-clause-undetected
faulty_state-requires-clause-undetected c =
    ap (λ (v : EngineView). place_at v.grader.places c.args.fault) c.self.view_is ∙ c.requires.undetected

pub returns-clause-good : goal.returns-clause-good
returns-clause-good c = λ list graded.
    c.from_vec.ensures
    ∙ state_of (engine_of c.self.inside) c.args.self.now c.self.inside.faults.now c.self.inside.chosen.items
    c.self.invariant.engine c.self.view_is (λ n. None) list c.in_ok-good.good.items c.in_ok-good.ensures.state graded

pub returns-clause-faulty : goal.returns-clause-faulty
returns-clause-faulty c = λ list graded.
    c.from_vec-2.ensures
    ∙ state_of (engine_of c.self.inside) c.args.self.now c.self.inside.faults.now c.self.inside.chosen.items
    c.self.invariant.engine c.self.view_is (λ n. Some (fault_at n c.args.fault)) list c.in_ok-faulty.faulty.items
    c.in_ok-faulty.ensures.state graded

pub returns-clause-each : goal.returns-clause-each
returns-clause-each c =
    let each = state_each (engine_of c.self.inside) c.args.self.now c.self.inside.faults.now
    c.self.inside.chosen.items c.self.invariant.engine c.self.view_is in (
      subst (IsStart c.args.self.now.circuit) (sym c.from_vec.ensures)
          (each c.in_ok-good.good.items c.in_ok-good.ensures.each),
      subst (IsStart c.args.self.now.circuit) (sym c.from_vec-2.ensures)
          (each c.in_ok-faulty.faulty.items c.in_ok-faulty.ensures.each),
    )
