use Rattle.std.proofs.Common.{arith, ◌∙◌, ◌<◌, ℕ, sym, ap, length, get_or, false}
use Rattle.std.proofs.lemmas.Bool.{both_ways}
use Rattle.ht_cubes.proofs.ConeLaws.{grown_now, reader_grown, swept_set, swept_none}
use Rattle.ht_cubes.proofs.cone.mark.Goals as goal

pub returns-then-old-clause-grown : goal.returns-then-old-clause-grown
returns-then-old-clause-grown c = grown_now c.args.circuit.now c.args.marks.now

pub returns-then-old-clause-swept : goal.returns-then-old-clause-swept
returns-then-old-clause-swept c = swept_none c.args.circuit.now _ c.args.marks.now
    (λ read. ap (λ (n : ℕ). get_or c.args.marks.now n false) (sym c.net_of-net.ensures.net) ∙ c.if-old.true)

pub returns-then-not-reads-clause-grown : goal.returns-then-not-reads-clause-grown
returns-then-not-reads-clause-grown c = grown_now c.args.circuit.now c.args.marks.now

pub returns-then-not-reads-clause-swept : goal.returns-then-not-reads-clause-swept
returns-then-not-reads-clause-swept c = swept_none c.args.circuit.now _ c.args.marks.now
    (λ read. absurd (both_ways c.reads_marked-reads.result c.if-not-reads.true (c.reads_marked-reads.ensures.1 read)))

pub returns : goal.returns
returns c =
    let n = c.args.circuit.now in
    let marks = c.args.marks.now in
    let known = c.net_of-net.ensures.known in
    let long = c.requires.marks in
    let inside : c.net_of-net.result < length marks = omega (arith, known, long) in
    record {
      grown = reader_grown n marks c.args.reader c.net_of-net.result c.requires.reader c.net_of-net.ensures.net inside
          c.if-old.false (c.reads_marked-reads.ensures.0 c.if-not-reads.false);
      swept = swept_set n _ marks c.net_of-net.result inside c.if-old.false;
    }
