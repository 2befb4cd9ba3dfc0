use Rattle.std.proofs.Common.{◌≡◌, List, ap, subst, sym, ◌∙◌}
use Rattle.ht_tern.specs.declared.tern.Tern.{Tern}
use Rattle.ht_net.specs.Detect.Detection.{IsStart}
use Rattle.ht_net.specs.Circuit.Netlist.{Netlist}
use Rattle.ht_engine.specs.EngineOf.{engine_of}
use Rattle.ht_engine.specs.EngineStands.{EngineView}
use Rattle.ht_engine.proofs.DeepLaws.{if_ok_three}
use Rattle.ht_engine.proofs.EngineLaws.{deep_on, plain_on}
use Rattle.ht_engine.proofs.engine.Engine.work_by_search.Goals as goal

-- a state of the engine's circuit is one of the circuit of its bases
state_of_bases : (now : EngineView) (e : EngineView) (bases : Netlist) (state : List Tern) → e ≡ now
    → bases ≡ e.circuit → IsStart now.circuit state → IsStart bases state
state_of_bases now e bases state at b each =
    subst (λ (n : Netlist). IsStart n state) (sym (b ∙ ap (λ (v : EngineView). v.circuit) at)) each

pub work_deep-requires-clause-good : goal.work_deep-requires-clause-good
work_deep-requires-clause-good c =
    state_of_bases c.args.self.now (engine_of c.self.inside) c.self.inside.tools.bases.circuit
    c.in_ok-states-in-Deep.states.good c.self.view_is c.self.invariant.bases c.in_ok-states-in-Deep.ensures.each.0

pub work_deep-requires-clause-bad : goal.work_deep-requires-clause-bad
work_deep-requires-clause-bad c =
    state_of_bases c.args.self.now (engine_of c.self.inside) c.self.inside.tools.bases.circuit
    c.in_ok-states-in-Deep.states.bad c.self.view_is c.self.invariant.bases c.in_ok-states-in-Deep.ensures.each.1

pub returns-in-Plain-clause-work : goal.returns-in-Plain-clause-work
returns-in-Plain-clause-work c =
    if_ok_three c.work_on.result _ _ _ _
    (λ w is holds enough. plain_on (engine_of c.self.inside) c.args.self.now c.self.inside.faults.now
    c.self.inside.chosen.items c.self.invariant.engine c.self.view_is
    c.self.inside.tools.bases.circuit c.args.fault c.get-listed.result c.self.invariant.bases c.get-listed.ensures
    (ap (λ (v : EngineView). v.settings.search) (sym c.self.view_is) ∙ c.in-Plain.is) w is holds enough)
    c.work_on.ensures.answer c.work_on.ensures.holds c.work_on.ensures.enough

pub returns-in_ok-states-in-Deep-clause-work : goal.returns-in_ok-states-in-Deep-clause-work
returns-in_ok-states-in-Deep-clause-work c =
    if_ok_three c.work_deep.result _ _ _ _
    (λ w is holds enough. deep_on (engine_of c.self.inside) c.args.self.now c.self.inside.faults.now
    c.self.inside.chosen.items c.self.invariant.engine c.self.view_is
    c.self.inside.tools.bases.circuit c.args.fault c.get-listed.result c.self.invariant.bases c.get-listed.ensures
    (ap (λ (v : EngineView). v.settings.search) (sym c.self.view_is) ∙ c.in-Deep.is)
    c.in_ok-states-in-Deep.states.good c.in_ok-states-in-Deep.states.bad c.in_ok-states-in-Deep.ensures.good
    c.in_ok-states-in-Deep.ensures.faulty w is holds enough)
    c.work_deep.ensures.answer c.work_deep.ensures.holds c.work_deep.ensures.enough
