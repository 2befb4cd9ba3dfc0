use Rattle.std.proofs.Common.{◌+◌, List, length, ap, arith}
use Rattle.ht_net.specs.declared.fault.Fault.{Fault}
use Rattle.ht_texts.proofs.ReaderLaws.{whole_read, not_whole}
use Rattle.ht_texts.proofs.report_reader.ReportReader.end.Goals as goal

pub returns-then-self-from : goal.returns-then-self-from
returns-then-self-from c =
    let count = ap (λ (l : List Fault). length l) c.self.invariant.faults in
    rw (← c.self.view_is) (λ lines at stands.
    whole_read c.self.inside.circuit.now c.self.inside.classes.now lines at stands.read (omega (
      arith,
      stands.lines_read,
      count,
      c.len.ensures,
      c.from.ensures,
      c.if-self-from.true,
    )))

pub returns-else-self-from : goal.returns-else-self-from
returns-else-self-from c =
    let count = ap (λ (l : List Fault). length l) c.self.invariant.faults in
    rw (← c.self.view_is) (λ lines at stands. (
      ap (λ n. n + 1) stands.lines_read,
      λ budget saids. not_whole c.self.inside.circuit.now c.self.inside.classes.now lines budget saids (λ all.
          c.if-self-from.false (omega (arith, all, stands.lines_read, count, c.len.ensures, c.from.ensures))),
    ))
