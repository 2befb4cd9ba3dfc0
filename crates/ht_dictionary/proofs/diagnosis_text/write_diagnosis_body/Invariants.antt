use Rattle.std.proofs.Common.{◌≡◌}
use Rattle.ht_texts.specs.Lines.{with_lfs}
use Rattle.ht_dictionary.specs.DiagnosisTexts.{first_diagnosis_lines}
use Rattle.ht_dictionary.proofs.diagnosis_text.write_diagnosis_body.Given as goal

abbrev pub invariant-loop-i : goal.invariant-loop-i
invariant-loop-i l = l.body.items ≡ with_lfs (first_diagnosis_lines l.circuit l.classes l.vectors l.diagnosis l.i)
