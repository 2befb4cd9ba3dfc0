use Rattle.std.proofs.Common.{◌≡◌}
use Rattle.ht_texts.specs.Lines.{with_lfs}
use Rattle.ht_texts.specs.Reports.{first_lines}
use Rattle.ht_texts.proofs.body.write_body.Given as goal

abbrev pub invariant-loop-i : goal.invariant-loop-i
invariant-loop-i l = l.body.items ≡ with_lfs (first_lines l.circuit l.classes l.fn.budget l.saids l.i)
