use Rattle.std.proofs.Common.{◌≡◌, ◌∙◌, ◌++◌, List, Option, true, false, length, rules, refl, sym, ap, subst}
use Rattle.std.specs.Vec.{with_items}
use Rattle.std.proofs.lemmas.List.{with_items_is}
use Rattle.ht_net.specs.declared.place.Place.{Place}
use Rattle.ht_net.specs.Circuit.Netlist.{Netlist}
use Rattle.ht_proofs.specs.PackedView.{GraderStandsFor}
use Rattle.ht_proofs.specs.Detections.{AreFirstDetections, ArePlaces, AreWithin}
use Rattle.ht_proofs.specs.ClassGraderView.{ClassGraderView}
use Rattle.ht_proofs.specs.ClassGraderOf.{class_grader_of}
use Rattle.ht_proofs.proofs.ClassGraderLaws.{adds, still_of_classes}
use Rattle.ht_proofs.proofs.DetectionLaws.{chosen_again}
use Rattle.ht_proofs.proofs.class_grader.ClassGrader.apply.Goals as goal
use Rattle.ht_proofs.proofs.class_grader.ClassGrader.apply.Goals.{After-write_places}

pub invariant_of-self : goal.invariant_of-self
invariant_of-self c =
    let a = c.self.inside in
    let failed : ClassGraderView = record {
      representatives = a.classes.now;
      places = a.places.items;
      machines = c.apply_all.new.machines;
      live = false;
    } in
    still_of_classes (class_grader_of a) failed c.apply_all.ensures.circuit c.apply_all.ensures.faults refl refl
    (subst (λ (n : Netlist). ArePlaces n a.places.items) (sym c.apply_all.ensures.circuit) c.self.invariant.known)
    c.self.invariant

pub write_places-requires-clause-faults : goal.write_places-requires-clause-faults
write_places-requires-clause-faults c =
    chosen_again c.self.inside.machines.circuit c.apply_all.new.machines.circuit c.self.inside.classes.now
    c.apply_all.new.machines.faults c.apply_all.ensures.circuit
    (c.apply_all.ensures.faults ∙ c.self.invariant.faults)

-- the grader with the list
abbrev longer : After-write_places → ClassGraderView
longer c = record {
  representatives = c.self.inside.classes.now;
  places = (with_items c.self.inside.places c.write_places.new.places).items;
  machines = c.apply_all.new.machines;
  live = true;
}

long : (c : After-write_places) → length c.write_places.new.places ≡ length c.self.inside.places.items
long c = search rules

written : (c : After-write_places) → (longer c).places ≡ c.write_places.new.places
written c = with_items_is c.self.inside.places c.write_places.new.places (search rules)

pub invariant_of-self-2 : goal.invariant_of-self-2
invariant_of-self-2 c =
    let a = c.self.inside in
    let at = (goal.at.invariant_of-self-2 c).After-write_places in
    let circuit = c.apply_all.new.machines.circuit in
    let old : ArePlaces circuit c.deref_mut.result.now =
    subst (ArePlaces circuit) (sym c.deref_mut.ensures.value)
    (subst (λ (n : Netlist). ArePlaces n a.places.items) (sym c.apply_all.ensures.circuit) c.self.invariant.known) in
    still_of_classes (class_grader_of a) (longer at) c.apply_all.ensures.circuit c.apply_all.ensures.faults refl
    (ap (λ (l : List (Option Place)). length l) (written at) ∙ long at)
    (subst (ArePlaces circuit) (sym (written at)) (c.write_places.ensures.known old)) c.self.invariant

pub returns-clause-added : goal.returns-clause-added
returns-clause-added c = λ start before stands.
    let at = (goal.at.returns-clause-added c).After-write_places in
    let now = c.args.self.now in
    let circuit = c.apply_all.new.machines.circuit in
    let classes = c.self.inside.classes.now in
    let all = before ++ c.args.list.now.list in
    let places : now.places ≡ c.deref_mut.result.now =
    ap (λ (g : ClassGraderView). g.places) (sym c.self.view_is) ∙ sym c.deref_mut.ensures.value in
    adds now (longer at) start before c.args.list.now.list
    (c.apply_all.ensures.circuit ∙ ap (λ (g : ClassGraderView). g.machines.circuit) c.self.view_is)
    (ap (λ (g : ClassGraderView). g.live) (sym c.self.view_is) ∙ c.if-not-self.false)
    (λ run. c.in_ok-apply_all.ensures.stands start before
    (subst (λ (g : ClassGraderView). GraderStandsFor g.machines start before) (sym c.self.view_is) run))
    (λ run old. subst (AreFirstDetections circuit classes start all) (sym (written at))
    (c.write_places.ensures.first start all run (subst (AreWithin circuit all) places old)))
    (λ run old. subst (AreWithin circuit all) (sym (written at))
    (c.write_places.ensures.within start all run (subst (AreWithin circuit all) places old)))
    stands
