use Rattle.std.proofs.Common.{ℕ, List, Option, [], ◌∙◌, sym, subst}
use Rattle.ht_net.specs.declared.place.Place.{Place}
use Rattle.ht_net.specs.Circuit.Netlist.{Netlist}
use Rattle.ht_proofs.specs.Detections.{AreFirstDetections, AreWithin}
use Rattle.ht_proofs.proofs.detections.first_detections_from.Goals as goal

pub returns-in-Ok-clause-first : goal.returns-in-Ok-clause-first
returns-in-Ok-clause-first c =
    let list = c.args.list.now.list in
    let start = c.args.start.now in
    let grader = c.apply.new.self in
    let stands = c.in-Ok.ensures.added start [] c.in_ok-grader.ensures.stands in
    subst (AreFirstDetections c.args.circuit.now c.args.classes.now start list) (sym c.into_verdicts.ensures)
    (subst (λ (n : Netlist). AreFirstDetections n c.args.classes.now start list grader.places)
    (c.in-Ok.ensures.same.0 ∙ c.in_ok-grader.ensures.circuit)
    (subst (λ (l : List ℕ). AreFirstDetections grader.machines.circuit l start list grader.places)
    (c.in-Ok.ensures.same.1 ∙ c.in_ok-grader.ensures.classes) stands.first))

pub returns-in-Ok-clause-within : goal.returns-in-Ok-clause-within
returns-in-Ok-clause-within c =
    let list = c.args.list.now.list in
    let stands = c.in-Ok.ensures.added c.args.start.now [] c.in_ok-grader.ensures.stands in
    subst (λ (l : List (Option Place)). AreWithin c.args.circuit.now list l) (sym c.into_verdicts.ensures)
    (subst (λ (n : Netlist). AreWithin n list c.apply.new.self.places)
    (c.in-Ok.ensures.same.0 ∙ c.in_ok-grader.ensures.circuit) stands.within)
