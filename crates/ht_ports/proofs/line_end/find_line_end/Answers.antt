use Rattle.std.proofs.Common.{◌<◌, length, rules}
use Rattle.ht_ports.proofs.LineEndLaws.{ends_at_lf, ends_with_text}
use Rattle.ht_ports.proofs.line_end.find_line_end.Goals as goal

pub returns-in-Some : goal.returns-in-Some
returns-in-Some c = rw c.in-Some.is
    (ends_at_lf _ _ _ c.in-Some.i _ (rw c.in-Some.is at c.requires.found) c.end_line.ensures)

pub returns-else-is_empty : goal.returns-else-is_empty
returns-else-is_empty c =
    let some : 0 < length c.args.bytes.now = search rules in
    rw c.in-None.is (ends_with_text _ _ _ _ (rw c.in-None.is at c.requires.found) some
    c.end_line-in-None.ensures)
