use Rattle.std.proofs.Common.{◌≡◌, take}
use Rattle.std.specs.Prelude.{count_by, is_none}
use Rattle.ht_faults.specs.Classes.{own_representatives}
use Rattle.ht_dictionary.specs.Diagnoses.{contradiction_at}
use Rattle.ht_dictionary.proofs.diagnosis_text.count_consistent.Given as goal

abbrev pub invariant-loop-i : goal.invariant-loop-i
invariant-loop-i l =
    l.count ≡ count_by (λ i. is_none (contradiction_at l.diagnosis.places i))
    (take l.i-index (own_representatives l.classes))
