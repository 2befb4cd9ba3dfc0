use Rattle.std.proofs.Common.{◌≡◌, ◌∙◌, List, rules, refl, sym, ap, subst, length}
use Rattle.std.specs.List.{filter}
use Rattle.std.specs.Vec.{with_items}
use Rattle.std.proofs.lemmas.List.{length-map, with_items_is}
use Rattle.ht_net.specs.declared.fault.Fault.{Fault}
use Rattle.ht_group.specs.GroupView.{AreLatches}
use Rattle.ht_proofs.specs.declared.grade.Grade.{Grade}
use Rattle.ht_proofs.specs.Batches.{IsGradedFrame}
use Rattle.ht_proofs.specs.LaneGrades.{grade_at}
use Rattle.ht_proofs.specs.Undetected.{is_undetected, verdicts_of}
use Rattle.ht_proofs.proofs.UndetectedLaws.{kept_after, left_after, listed_known}
use Rattle.ht_compact.specs.declared.runners.Runner.{Runner}
use Rattle.ht_compact.specs.Runs.{HaveLogged}
use Rattle.ht_compact.proofs.runners.Runners.step.Goals as goal

pub log_each-requires-clause-known : goal.log_each-requires-clause-known
log_each-requires-clause-known c =
    let grades = c.args.self.now.grades.items in
    listed_known (verdicts_of grades) c.deref.result.now (length c.deref-2.result.now)
    (c.deref.ensures.value ∙ c.requires.listed)
    (length-map grades (λ (g : Grade). g.verdict) ∙ ap (λ (l : List Grade). length l) (sym c.deref-2.ensures.value))

pub grade_faults-requires-clause-numbers : goal.grade_faults-requires-clause-numbers
grade_faults-requires-clause-numbers c =
    let grades = c.args.self.now.grades.items in
    listed_known (verdicts_of grades) c.deref-4.result.now (length c.deref-3.result.now)
    (c.deref-4.ensures.value ∙ c.requires.listed)
    (length-map grades (λ (g : Grade). g.verdict)
    ∙ (sym c.requires.faults ∙ ap (λ (l : List Fault). length l) (sym c.deref-3.ensures.value)))

pub returns-clause-passed : goal.returns-clause-passed
returns-clause-passed c =
    let self = c.args.self.now in
    let frame = c.args.frame.now.group in
    let grades = with_items self.grades c.grade_faults.new.grades in
    let runners = with_items self.runners c.log_each.new.runners in
    let grades_are : grades.items ≡ c.grade_faults.new.grades =
    with_items_is self.grades c.grade_faults.new.grades (search rules) in
    let runners_are : runners.items ≡ c.log_each.new.runners =
    with_items_is self.runners c.log_each.new.runners (search rules) in
    let every : length grades.items ≡ length self.grades.items =
    ap (λ (l : List Grade). length l) grades_are ∙ search rules in
    let graded : IsGradedFrame frame self.faults.items c.args.number self.grades.items grades.items =
    subst (IsGradedFrame frame self.faults.items c.args.number self.grades.items) (sym grades_are)
    (subst (λ (l : List Fault). IsGradedFrame frame l c.args.number self.grades.items c.grade_faults.new.grades)
    c.deref-3.ensures.value
    (subst (λ (l : List Grade). IsGradedFrame frame c.deref-3.result.now c.args.number l c.grade_faults.new.grades)
    c.deref_mut-2.ensures.value c.in_ok-grade_faults.ensures.passed)) in
    record {
      latches = with_items_is self.latches c.read_latches.new.latches (search rules)
          ∙ (c.read_latches.ensures ∙ c.in_ok-grade_faults.ensures.good);
      joined = refl;
      moments = refl;
      faults = refl;
      logged =
          subst (HaveLogged self.grades.items self.runners.items) (sym runners_are)
          (subst (λ (l : List Grade). HaveLogged l self.runners.items c.log_each.new.runners) c.deref-2.ensures.value
          (subst (λ (l : List Runner). HaveLogged c.deref-2.result.now l c.log_each.new.runners)
          c.deref_mut.ensures.value c.in_ok-log_each.ensures));
      graded = graded;
      every = every;
      listed = left_after (verdicts_of self.grades.items) grades.items self.undetected.items
          c.drop_ended.new.numbers.items
          (length-map self.grades.items (λ (g : Grade). g.verdict) ∙ sym every) c.requires.listed
          (kept_after (verdicts_of self.grades.items) self.grades.items grades.items refl graded.kept)
          (subst (λ (l : List Grade). c.drop_ended.new.numbers.items
          ≡ filter (is_undetected (verdicts_of l)) self.undetected.items) c.deref-5.ensures.value
          c.drop_ended.ensures);
      known = λ k.
          subst (λ (l : List Grade). AreLatches frame.circuit (grade_at l k).diffs) (sym grades_are)
          (c.in_ok-grade_faults.ensures.known k);
    }
