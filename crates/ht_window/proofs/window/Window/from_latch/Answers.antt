use Rattle.std.proofs.Common.{ap, length, arith}
use Rattle.ht_net.specs.Circuit.Netlist.{Netlist}
use Rattle.ht_window.proofs.window.Window.from_latch.Goals as goal

pub dff_data-requires : goal.dff_data-requires
dff_data-requires c =
    let l = (c.requires.walks c.in-Some.j c.in-Some.is).0 in
    let e = ap (λ (n : Netlist). length n.dffs) (c.circuit.ensures.circuit) in
    omega (arith, l, e)
