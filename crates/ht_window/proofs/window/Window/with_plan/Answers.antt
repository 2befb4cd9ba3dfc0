use Rattle.std.proofs.Common.{◌∙◌, IfOk, ap, sym, subst}
use Rattle.ht_net.specs.Circuit.Netlist.{Netlist}
use Rattle.ht_events.specs.FramePlans.{FramePlanState}
use Rattle.ht_tree.specs.Window.Windows.{SearchWindow}
use Rattle.ht_window.specs.Setups.{IsSetup, window_for}
use Rattle.ht_window.specs.Standing.{Standing}
use Rattle.ht_window.specs.BaseStates.{IsNew}
use Rattle.ht_window.proofs.window.Window.with_plan.Goals as goal

pub whole_held-requires : goal.whole_held-requires
whole_held-requires c =
    subst (λ (k : Netlist). IsSetup k c.args.setup.now)
    (sym (c.circuit.ensures ∙ ap (λ (p : FramePlanState). p.circuit) c.deref.ensures)) c.requires

pub returns-clause-new : goal.returns-clause-new
returns-clause-new c =
    subst (λ (v : SearchWindow). IfOk c.with_events.result (IsNew v))
    (ap (λ (s : Standing). s.window) c.in_ok-held.ensures.standing
    ∙ ap (λ (k : Netlist). window_for k c.args.setup.now)
    (c.circuit.ensures ∙ ap (λ (p : FramePlanState). p.circuit) c.deref.ensures)) c.with_events.ensures.new
