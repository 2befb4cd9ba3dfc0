use Rattle.ht_dictionary.proofs.DiagnosisLaws.{one_place_more}
use Rattle.ht_dictionary.proofs.diagnosis.diagnose.Goals as goal

pub loop-i-preserved : goal.loop-i-preserved
loop-i-preserved c =
    one_place_more c.args.circuit.now c.args.classes.now c.args.list.now.list c.args.observation.now.rows c.loop-i.i
    c.loop-i.places.items c.push.new.self.items c.in_ok-place.place c.loop-i.invariant c.in_ok-push.ensures.items
    (record { first = c.in_ok-place.ensures.first; within = c.in_ok-place.ensures.place })
