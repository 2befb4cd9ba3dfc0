use Rattle.std.proofs.Common.{◌≤◌, ◌∙◌, List, Option, length, ap, arith}
use Rattle.ht_net.specs.declared.place.Place.{Place}
use Rattle.ht_bred.specs.Bred.{detected_of}
use Rattle.ht_bred.proofs.BredLaws.{bred_is}
use Rattle.ht_bred.proofs.bred.bred_vectors.Goals as goal
use Rattle.ht_bred.proofs.bred.bred_vectors.Goals.{then-inputs-eq0, else-inputs-eq0}

pub returns-in-Ok : goal.returns-in-Ok
returns-in-Ok c =
    let least : c.if-inputs-eq0.most ≤ c.args.most = elim c.if-inputs-eq0.branch [
      | then-inputs-eq0 w ↦ omega (arith, w.most-is)
      | else-inputs-eq0 w ↦ omega (arith, w.most-is)
    ] in
    let few : c.in-Ok.count ≤ c.args.most = omega (arith, c.in-Ok.ensures.few, least) in
    bred_is c.in_ok-grader.grader c.apply_and_breed-bred.new.grader c.args.circuit.now c.args.classes.now
    c.args.start.now c.args.given c.args.most _ c.in_ok-grader.ensures.circuit c.in_ok-grader.ensures.classes
    c.requires.width c.in_ok-grader.ensures.stands c.in-Ok.ensures.added c.into_verdicts-places.ensures few
    (c.detected_count.ensures
    ∙ ap (λ (l : List (Option Place)). length (detected_of c.args.classes.now l)) c.deref.ensures.value)
