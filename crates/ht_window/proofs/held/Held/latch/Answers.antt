use Rattle.std.proofs.Common.{◌≡◌, ◌<◌, ◌∙◌, ◌-◌, suc, ap, get_or, arith, length, subst}
use Rattle.ht_net.specs.Circuit.Netlist.{Netlist, no_net}
use Rattle.ht_window.specs.Holding.{HeldState}
use Rattle.ht_window.specs.Cells.{latches_over, blank}
use Rattle.ht_window.proofs.DriverLaws.{latch_first, latch_next}
use Rattle.ht_window.proofs.held.Held.latch.Goals as goal

pub returns-then-frame-eq0 : goal.returns-then-frame-eq0
returns-then-frame-eq0 c =
    let a = c.self.inside in
    let P : HeldState → Type 0 = λ (h : HeldState). c.args.j < length h.standing.window.circuit.dffs
    → c.first_latch.result ≡ get_or (latches_over h.standing.window h.standing.path h.cells.values c.args.frame)
    c.args.j blank in
    subst P c.self.view_is
    (λ js. c.first_latch.ensures ∙ latch_first a.decisions.window a.decisions.path a.cells.values c.args.frame c.args.j
    c.if-frame-eq0.true js) c.requires.dff

pub returns : goal.returns
returns c =
    let s = c.args.self.now in
    let a = c.self.inside in
    let v = c.self.view_is in
    let z = c.if-frame-eq0.false in
    let at : c.args.frame ≡ suc (c.args.frame - 1) = omega (arith, z) in
    let circuit : c.circuit-circuit.result.now ≡ s.standing.window.circuit = c.circuit-circuit.ensures.circuit ∙ ap
    (λ (h : HeldState). h.standing.window.circuit) v in
    let net = c.dff_data-net.ensures ∙ ap (λ (n : Netlist). get_or n.dffs c.args.j no_net) circuit in
    latch_next s.standing.window s.standing.path s.cells.values c.args.frame (c.args.frame - 1) c.args.j at
    c.requires.dff c.data_pin.result c.cell.result c.fault.result c.dff_data-net.result
    c.data_pin.ensures (c.fault.ensures ∙ ap (λ (h : HeldState). h.standing.window.fault) v) net c.cell.ensures
