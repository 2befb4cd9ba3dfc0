use Rattle.std.proofs.Common.{◌∙◌, ap, arith, replicate, subst, sym}
use Rattle.std.proofs.lemmas.Result.{on_ok_weaker}
use Rattle.ht_stems.specs.ArrivedFrames.{AreGoodValues}
use Rattle.ht_stems.specs.ArrivalsView.{ArrivalsView, good_of_net}
use Rattle.ht_group.specs.GroupView.{AreLatches}
use Rattle.ht_proofs.specs.LaneGrades.{grade_at}
use Rattle.ht_proofs.specs.Batches.{BatchView, IsGradedFrame}
use Rattle.ht_proofs.specs.Followers.{firsts_if, no_firsts}
use Rattle.ht_proofs.proofs.FollowerLaws.{all_graded, are_followers, known_after}
use Rattle.ht_proofs.proofs.frame_grader.FrameGrader.grade_faults.Goals as goal

pub count_holders-requires : goal.count_holders-requires
count_holders-requires c = λ i d less. omega (arith, c.requires.numbers i d less, c.requires.each)

pub grade_each-requires-clause-good : goal.grade_each-requires-clause-good
grade_each-requires-clause-good c = λ found.
    let g = c.self.inside.batch.group in
    subst (λ (a : ArrivalsView). AreGoodValues g.circuit g.vector g.latches (good_of_net a))
    (sym (c.start.ensures.arrivals (sym c.start.ensures.found ∙ found))) c.good_values-good.ensures.good

pub grade_each-requires-clause-table : goal.grade_each-requires-clause-table
grade_each-requires-clause-table c = c.start.ensures.table ∙ c.self.invariant.1

pub grade_each-requires-clause-firsts : goal.grade_each-requires-clause-firsts
grade_each-requires-clause-firsts c = λ found.
    c.start.ensures.firsts (sym c.start.ensures.found ∙ found) ∙ ap (λ n. replicate n no_firsts) c.self.invariant.1

pub copy_grades-requires : goal.copy_grades-requires
copy_grades-requires c =
    are_followers c.self.inside.batch.group c.args.faults.now c.args.number c.args.grades.now
    (firsts_if c.grade_each.new.stems.found c.grade_each.new.stems.firsts.items) c.grade_each.new.stems.followers.items
    c.grade_each.new.grades
    (omega (arith, c.requires.each, c.grade_each.auto.grades)) c.in_ok-grade_each.ensures.shared

pub returns-clause-passed : goal.returns-clause-passed
returns-clause-passed c =
    on_ok_weaker c.copy_grades.result
    (λ copied. subst (λ (b : BatchView). IsGradedFrame b.group c.args.faults.now c.args.number c.args.grades.now
    c.copy_grades.new.grades) c.self.view_is
    (all_graded c.self.inside.batch.group c.args.faults.now c.args.number c.args.grades.now c.grade_each.new.grades
    c.copy_grades.new.grades (firsts_if c.grade_each.new.stems.found c.grade_each.new.stems.firsts.items)
    c.grade_each.new.stems.followers.items
    c.in_ok-grade_each.ensures.passed c.in_ok-grade_each.ensures.shared copied))
    c.copy_grades.ensures

pub returns-clause-known : goal.returns-clause-known
returns-clause-known c =
    on_ok_weaker c.copy_grades.result
    (λ copied k. subst (λ (b : BatchView). AreLatches b.group.circuit (grade_at c.copy_grades.new.grades k).diffs)
    c.self.view_is
    (known_after c.self.inside.batch.group.circuit c.grade_each.new.stems.followers.items c.grade_each.new.grades
    c.copy_grades.new.grades copied c.in_ok-grade_each.ensures.known k))
    c.copy_grades.ensures
