use Rattle.std.proofs.Common.{◌≡◌, ◌<◌, ◌∙◌, ℕ, List, None, Option, length, sym, ap, subst}
use Rattle.std.proofs.lemmas.List.{length-replicate}
use Rattle.std.proofs.lemmas.List.Elements.{All-from_get_or}
use Rattle.ht_net.specs.declared.fault.Fault.{Fault}
use Rattle.ht_net.specs.declared.place.Place.{Place}
use Rattle.ht_net.specs.Detect.Detection.{IsPlace, IsStart}
use Rattle.ht_net.specs.Circuit.Netlist.{Netlist}
use Rattle.ht_faults.specs.Classes.{AreClasses, own_representatives}
use Rattle.ht_faults.specs.Sites.{faults_of}
use Rattle.ht_faults.proofs.OwnLaws.{own_below}
use Rattle.ht_proofs.specs.Detections.{place_at}
use Rattle.ht_proofs.specs.PackedView.{PackedView, chosen_faults}
use Rattle.ht_proofs.proofs.ClassGraderLaws.{none_for, none_placed, nowhere, starts}
use Rattle.ht_proofs.proofs.class_grader.ClassGrader.new_from.Goals as goal
use Rattle.ht_proofs.proofs.class_grader.ClassGrader.new_from.Goals.{In_ok-machines}

pub new_from-requires-clause-known : goal.new_from-requires-clause-known
new_from-requires-clause-known c =
    All-from_get_or (λ i. i < length c.args.faults.now) c.representatives.result.now 0
    (λ k less. own_below c.args.classes.now _ k (length c.args.faults.now) c.representatives.ensures less
    (ap (λ (l : List Fault). length l) c.requires.faults ∙ sym c.requires.classes.every))

circuit_is : (c : In_ok-machines) → c.in_ok-machines.machines.circuit ≡ c.args.circuit.now
circuit_is c = ap (λ (g : PackedView). g.circuit) c.in_ok-machines.ensures.start

classes_are : (c : In_ok-machines) → AreClasses c.in_ok-machines.machines.circuit c.args.classes.now
classes_are c = subst (λ (n : Netlist). AreClasses n c.args.classes.now) (sym (circuit_is c)) c.requires.classes

-- there is no place, for each fault
each : (c : In_ok-machines) → length c.in_ok-places.places.items ≡ length c.args.classes.now
each c =
    ap (λ (l : List (Option Place)). length l) c.in_ok-places.ensures
    ∙ (length-replicate c.len.result nowhere ∙ c.len.ensures)

none : (c : In_ok-machines) (i : ℕ) → place_at c.in_ok-places.places.items i ≡ None
none c i = none_placed c.len.result i c.in_ok-places.places.items c.in_ok-places.ensures

pub invariant_of-result : goal.invariant_of-result
invariant_of-result c =
    let at = (goal.at.invariant_of-result c).In_ok-machines in
    let machines = c.in_ok-machines.machines in
    let numbers = c.representatives.result.now in
    record {
      classes = classes_are at;
      faults = ap (λ (g : PackedView). g.faults) c.in_ok-machines.ensures.start
          ∙ (ap (λ (l : List Fault). chosen_faults l numbers) c.requires.faults
          ∙ (ap (λ (l : List ℕ). chosen_faults (faults_of c.args.circuit.now) l) c.representatives.ensures
          ∙ ap (λ (n : Netlist). chosen_faults (faults_of n) (own_representatives c.args.classes.now))
          (sym (circuit_is at))));
      each = each at;
      known = λ i. none_for (IsPlace machines.circuit) (place_at c.in_ok-places.places.items i) (none at i);
    }

pub returns-clause-stands : goal.returns-clause-stands
returns-clause-stands c =
    let at = (goal.at.returns-clause-stands c).In_ok-machines in
    starts _ c.args.start.now (classes_are at)
    (subst (λ (n : Netlist). IsStart n c.args.start.now) (sym (circuit_is at)) c.requires.latches) (each at) (none at)
    c.in_ok-machines.ensures.stands
