use Rattle.std.proofs.Common.{◌≡◌, ◌+◌, ◌∙◌, [], true, List, Option, length, rules, refl, sym, ap, subst, arith}
use Rattle.std.specs.Vec.{with_items}
use Rattle.std.proofs.lemmas.List.{with_items_is}
use Rattle.ht_tern.specs.declared.tern.Tern.{Tern}
use Rattle.ht_net.specs.declared.fault.Fault.{Fault}
use Rattle.ht_net.specs.declared.place.Place.{Place}
use Rattle.ht_net.specs.Detect.Detection.{terns_of}
use Rattle.ht_group.specs.GroupView.{AreLatches, GroupView}
use Rattle.ht_proofs.specs.declared.grade.Grade.{Grade}
use Rattle.ht_proofs.specs.PackedView.{PackedView}
use Rattle.ht_proofs.specs.Applied.{IsApplied}
use Rattle.ht_proofs.specs.Batches.{IsGradedFrame}
use Rattle.ht_proofs.specs.LaneGrades.{grade_at}
use Rattle.ht_proofs.specs.PackedOf.{packed_of}
use Rattle.ht_proofs.specs.Undetected.{undetected_of, verdicts_of}
use Rattle.ht_proofs.proofs.PackedLaws.{HasRun, grades_by, is_applied, run_fields, steps_within}
use Rattle.ht_proofs.proofs.UndetectedLaws.{kept_after, listed_known}
use Rattle.ht_proofs.proofs.VectorLaws.{applied_stands}
use Rattle.ht_proofs.proofs.grader.Grader.apply.Goals as goal

-- what is kept of each fault after the frame, and the grader then
abbrev graded : goal.After-self-6-1 → List Grade
graded c = (with_items c.self.inside.grades c.grade_faults.new.grades).items

abbrev after : goal.After-self-6-1 → PackedView
after c =
    grades_by c.grade_faults.new.self.group.circuit c.self.inside.faults.items (c.self.inside.count + 1)
    (with_items c.self.inside.latches c.read_latches.new.latches).items
    (with_items c.self.inside.verdicts c.note_verdicts.new.verdicts).items (graded c) true

graded_is : (c : goal.After-self-6-1) → graded c ≡ c.grade_faults.new.grades
graded_is c = with_items_is c.self.inside.grades c.grade_faults.new.grades (search rules)

has_run : (c : goal.After-self-6-1)
    → HasRun (packed_of c.self.inside) c.self.inside.grades.items c.args.vector.now c.start.new.self.group (after c)
    (graded c)
has_run c =
    let a = c.self.inside in
    let live : a.live ≡ true = search rules in
    let long : length c.grade_faults.new.grades ≡ length a.grades.items = search rules in
    let latches = with_items_is a.latches c.read_latches.new.latches (search rules)
    ∙ (c.read_latches.ensures ∙ c.in_ok-grade_faults.ensures.good) in
    let verdicts = with_items_is a.verdicts c.note_verdicts.new.verdicts (search rules)
    ∙ (c.note_verdicts.ensures.verdicts ∙ ap verdicts_of c.deref-4.ensures.value) in
    let circuit = c.grade_faults.ensures.circuit ∙ ap (λ (g : GroupView). g.circuit) c.start.ensures.group in
    record {
      frame_is = c.start.ensures.group ∙ ap (λ (l : List Tern). record {
        circuit = a.frame.group.circuit;
        vector = terns_of c.args.vector.now;
        latches = l;
        machines = [];
        settled = true;
      }) c.deref.ensures.value;
      old_is = ap (λ (v : List (Option Place)). grades_by a.frame.group.circuit a.faults.items a.count
          a.latches.items v a.grades.items a.live) (c.self.invariant.same live);
      new_is = λ i. grades_by (circuit i) a.faults.items (a.count + 1) (latches i) (verdicts i) (graded c) true;
      each = c.self.invariant.grade_count;
      long = ap (λ (l : List Grade). length l) (graded_is c) ∙ long;
      all =
          subst (IsGradedFrame c.start.new.self.group a.faults.items a.count a.grades.items) (sym (graded_is c))
          (subst (λ (l : List Fault). IsGradedFrame c.start.new.self.group l a.count a.grades.items
          c.grade_faults.new.grades) c.deref-2.ensures.value
          (subst (λ (l : List Grade). IsGradedFrame c.start.new.self.group c.deref-2.result.now a.count l
          c.grade_faults.new.grades) c.deref_mut.ensures.value c.in_ok-grade_faults.ensures.passed));
    }

pub returns-clause-applied : goal.returns-clause-applied
returns-clause-applied c =
    subst (λ (g : PackedView). IsApplied g c.args.vector.now (after c)) c.self.view_is
    (is_applied (packed_of c.self.inside) c.self.inside.grades.items c.args.vector.now c.start.new.self.group (after c)
    (graded c) (has_run c))

pub returns-clause-stands : goal.returns-clause-stands
returns-clause-stands c = λ start list stands.
    applied_stands c.args.self.now (after c) start list c.args.vector.now stands (returns-clause-applied c)

pub returns-in_err-grade_faults-clause-steps : goal.returns-in_err-grade_faults-clause-steps
returns-in_err-grade_faults-clause-steps c =
    steps_within _ _ _ _ c.start.new.self.group _ _ _ _ c.self.view_is (c.self.invariant.same (search rules))
    c.self.invariant.grade_count c.deref_mut.ensures.value c.start.ensures.group refl c.start.ensures.steps
    c.grade_faults.ensures.steps

pub returns-clause-steps : goal.returns-clause-steps
returns-clause-steps c =
    steps_within _ _ _ _ c.start.new.self.group _ _ _ _ c.self.view_is (c.self.invariant.same (search rules))
    c.self.invariant.grade_count c.deref_mut.ensures.value c.start.ensures.group refl c.start.ensures.steps
    c.grade_faults.ensures.steps

pub invariant_of-self-2 : goal.invariant_of-self-2
invariant_of-self-2 c =
    let few : c.self.inside.count ≡ c.args.self.now.count = ap (λ (g : PackedView). g.count) c.self.view_is in
    let a = c.self.inside in
    run_fields (packed_of a) a.grades.items c.args.vector.now c.start.new.self.group (after c) (graded c)
    a.undetected.items c.note_verdicts.new.undetected.items (has_run c) c.self.invariant
    (omega (arith, few, c.requires.few))
    (λ k. subst (λ (l : List Grade). AreLatches c.start.new.self.group.circuit (grade_at l k).diffs)
    (sym (graded_is c)) (c.in_ok-grade_faults.ensures.known k))
    (c.note_verdicts.ensures.undetected
    ∙ ap (λ (l : List Grade). undetected_of (verdicts_of l)) c.deref-4.ensures.value)

pub note_verdicts-requires : goal.note_verdicts-requires
note_verdicts-requires c =
    let a = c.self.inside in
    let live : a.live ≡ true = search rules in
    let long : length c.grade_faults.new.grades ≡ length a.grades.items = search rules in
    let graded = c.deref-4.ensures.value ∙ with_items_is a.grades c.grade_faults.new.grades (search rules) in
    let verdicts = c.deref_mut-3.ensures.value in
    record {
      each = omega (
        arith,
        c.self.invariant.verdict_count,
        c.self.invariant.grade_count,
        long,
        ap (λ (l : List Grade). length l) graded,
        ap (λ (l : List (Option Place)). length l) verdicts,
      );
      undetected = c.self.invariant.listed ∙ ap undetected_of (sym verdicts);
      kept = kept_after c.deref_mut-3.result.now c.deref_mut.result.now c.deref-4.result.now
          (verdicts ∙ (c.self.invariant.same live ∙ ap verdicts_of (sym c.deref_mut.ensures.value)))
          (λ j p found. ap (λ (l : List Grade). grade_at l j) graded
          ∙ c.in_ok-grade_faults.ensures.passed.kept j p found);
    }

pub grade_faults-requires-clause-undetected : goal.grade_faults-requires-clause-undetected
grade_faults-requires-clause-undetected c =
    let live : c.self.inside.live ≡ true = search rules in
    c.deref-3.ensures.value ∙ (c.self.invariant.listed
    ∙ ap undetected_of (c.self.invariant.same live ∙ ap verdicts_of (sym c.deref_mut.ensures.value)))

pub grade_faults-requires-clause-numbers : goal.grade_faults-requires-clause-numbers
grade_faults-requires-clause-numbers c =
    listed_known c.self.inside.verdicts.items c.deref-3.result.now (length c.deref-2.result.now)
    (c.deref-3.ensures.value ∙ c.self.invariant.listed)
    (c.self.invariant.verdict_count ∙ ap (λ (l : List Fault). length l) (sym c.deref-2.ensures.value))
