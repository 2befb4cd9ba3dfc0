use Rattle.std.proofs.Common.{◌≡◌, ◌<◌, ◌-◌, ◌∙◌, ℕ, length, get_or, ap, sym, subst, arith}
use Rattle.ht_net.specs.declared.net.NetId.{NetId}
use Rattle.ht_net.specs.Circuit.Netlist.{Netlist, no_net}
use Rattle.ht_tree.specs.declared.window.Spot.TheVariants.{State}
use Rattle.ht_tree.specs.Window.Places.{spot_net}
use Rattle.ht_tree.specs.Window.Windows.{cell_at}
use Rattle.ht_window.proofs.RestrictLaws.{whole_matters}
use Rattle.ht_sync.proofs.LastLaws.{found_latch, last_undetermined, open_finds}
use Rattle.ht_sync.proofs.trial.SyncTrial.choose.Goals as goal

pub dff_data-requires : goal.dff_data-requires
dff_data-requires c =
    let s = c.args.self.now.window in
    let here = (found_latch s.window s.decisions c.in-Some.j (sym c.undetermined_latch.ensures ∙ c.in-Some.is)).0 in
    let circuit = ap (λ (n : Netlist). length n.dffs) c.circuit-circuit.ensures.circuit in
    omega (arith, here, circuit)

pub walk_back-requires-clause-undetermined : goal.walk_back-requires-clause-undetermined
walk_back-requires-clause-undetermined c =
    let s = c.args.self.now.window in
    let w = s.window in
    let j = c.in-Some.j in
    let here = found_latch w s.decisions j (sym c.undetermined_latch.ensures ∙ c.in-Some.is) in
    let some = c.args.self.now.some in
    let known = c.args.self.now.known in
    let at : w.frames - 1 ≡ c.args.self.now.frames - 1 = omega (arith, known) in
    let net : spot_net w.circuit (State j) ≡ c.dff_data.result.0 =
    sym (ap (λ (x : NetId). x.0) (c.dff_data.ensures
    ∙ ap (λ (n : Netlist). get_or n.dffs j no_net) c.circuit-circuit.ensures.circuit)) in
    subst (λ (f : ℕ). 1 < length (cell_at w s.decisions f c.dff_data.result.0)) at
    (subst (λ (x : ℕ). 1 < length (cell_at w s.decisions (w.frames - 1) x)) net
    (last_undetermined w s.decisions j (omega (arith, some, known)) here.0 here.1))

pub walk_back-requires-clause-matters : goal.walk_back-requires-clause-matters
walk_back-requires-clause-matters c =
    whole_matters c.args.self.now.window (c.circuit-circuit.ensures.whole c.args.self.now.good) _ _

pub unreachable-requires : goal.unreachable-requires
unreachable-requires c =
    let s = c.args.self.now.window in
    open_finds s.window s.decisions c.requires (sym c.undetermined_latch.ensures ∙ c.in-None.is)
