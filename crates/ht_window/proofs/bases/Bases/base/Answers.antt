use Rattle.std.proofs.Common.{sym, subst}
use Rattle.ht_net.specs.Circuit.Netlist.{Netlist}
use Rattle.ht_tree.specs.Window.Windows.{IsStart}
use Rattle.ht_tree.proofs.BeginLaws.{some_frame}
use Rattle.ht_window.specs.Starts.{start_of}
use Rattle.ht_window.proofs.bases.Bases.base.Goals as goal

pub returns-then-has_front-clause-base : goal.returns-then-has_front-clause-base
returns-then-has_front-clause-base c =
    let circuit = c.args.self.now.circuit in
    let w = c.in-Some.base.window in
    let s = c.args.setup.now in
    let start = start_of s.start.now in
    let base = c.in-Some.ensures.base in
    let front = c.has_front.ensures in
    let is = c.if-has_front.true in
    record {
      base = base;
      few = front.few is;
      front = subst (λ (k : Netlist). IsStart k w.fault s.frames w.start) base.circuit
          (front.front is (some_frame circuit s.fault s.frames start c.requires.start));
      fits = subst (λ (k : Netlist). IsStart k s.fault w.frames start) base.circuit
          (front.fits is (subst (λ (k : Netlist). IsStart k s.fault s.frames start) (sym base.circuit)
          c.requires.start));
    }
