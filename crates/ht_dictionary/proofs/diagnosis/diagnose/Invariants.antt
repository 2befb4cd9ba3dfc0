use Rattle.ht_dictionary.proofs.DiagnosisLaws.{ArePlacesOf}
use Rattle.ht_dictionary.proofs.diagnosis.diagnose.Given as goal

abbrev pub invariant-loop-i : goal.invariant-loop-i
invariant-loop-i l = ArePlacesOf l.circuit l.classes l.list.list l.observation.rows l.i l.places.items
