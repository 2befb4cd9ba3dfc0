use Rattle.std.proofs.Common.{◌≡◌}
use Rattle.ht_texts.specs.Lines.{with_lfs}
use Rattle.ht_causes.specs.CauseTexts.{first_cause_lines}
use Rattle.ht_causes.proofs.causes_text.write_causes_body.Given as goal

abbrev pub invariant-loop-i : goal.invariant-loop-i
invariant-loop-i l = l.body.items ≡ with_lfs (first_cause_lines l.circuit l.classes l.causes l.i)
