use Rattle.std.proofs.Common.{arith}
use Rattle.ht_justify.proofs.problem.BackWindowsProblem.undo.Goals as goal

pub invariant_of-self : goal.invariant_of-self
invariant_of-self c =
    let a = c.self.inside in
    let v = a.above in
    let u = c.go_back.new.above in
    let f = c.self.invariant.few in
    let g = c.go_back.ensures.few in
    record {
      under = c.go_back.ensures.under a.circuit.now a.cube.now a.limit c.self.invariant.under;
      few = omega (arith, f, g);
      bases = c.self.invariant.bases;
    }
