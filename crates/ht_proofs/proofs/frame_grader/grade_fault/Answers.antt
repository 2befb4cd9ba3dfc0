use Rattle.std.proofs.Common.{◌+◌, ◌∙◌, length, List, refl, sym, ap, subst, arith}
use Rattle.std.proofs.lemmas.Result.{on_ok_weaker}
use Rattle.ht_proofs.specs.declared.grade.Grade.{Grade}
use Rattle.ht_proofs.specs.declared.stems.Follower.{Follower}
use Rattle.ht_proofs.specs.LaneGrades.{grade_at}
use Rattle.ht_proofs.specs.Batches.{BatchStandsFor}
use Rattle.ht_proofs.specs.Followers.{firsts_if, following}
use Rattle.ht_proofs.proofs.BatchLaws.{counted_same, lanes_on}
use Rattle.ht_proofs.proofs.FollowerLaws.{frame_stands, grades_same, known_on, lane_same, passed_on, sharing_on}
use Rattle.ht_proofs.proofs.frame_grader.grade_fault.Goals as goal

pub returns-in_err-in_lane-clause-steps : goal.returns-in_err-in_lane-clause-steps
returns-in_err-in_lane-clause-steps c = record { rises = omega arith; most = omega arith }

pub returns-then-not-in_lane-clause-steps : goal.returns-then-not-in_lane-clause-steps
returns-then-not-in_lane-clause-steps c = record { rises = omega arith; most = omega arith }

pub returns-then-not-in_lane-clause-stands : goal.returns-then-not-in_lane-clause-stands
returns-then-not-in_lane-clause-stands c = λ start has frame.
    let i = c.args.i in
    let old = c.args.grades.now in
    let new = c.needs_lane.new.grades in
    let s = c.args.batch.now in
    let stems = c.args.stems.now in
    let after = c.needs_lane.new.self in
    let table = firsts_if stems.found stems.firsts.items in
    let goes = c.in_ok-in_lane.ensures.goes in
    let others = c.in_ok-in_lane.ensures.others in
    let passing = frame.stands in
    let inside = c.requires.known in
    let not_yet = sym (ap (λ (g : Grade). g.verdict) (passing.passed.later i (omega arith))) ∙ c.requires.undetected in
    record {
      stands = record {
        lanes = lanes_on i s old new c.needs_lane.auto.grades others
            (known_on s.group c.args.fault c.args.number i (grade_at old i) table stems.followers.items
            c.in_ok-in_lane.in_lane (grade_at new i) (firsts_if after.found after.firsts.items) after.followers.items
            goes (passing.lanes.known i))
            passing.lanes;
        room = passing.room;
        count = c.needs_lane.auto.grades ∙ passing.count;
        passed = passed_on start.frame start.faults c.args.number start.grades i c.args.fault s old table
            stems.followers.items has passing.passed frame.shared new others c.requires.undetected
            c.in_ok-in_lane.in_lane (grade_at new i) (firsts_if after.found after.firsts.items) after.followers.items
            goes c.if-not-in_lane.true refl;
        counted = counted_same (length start.frame.circuit.gates) start.grades i (length s.lanes) start.steps
            c.args.steps.now.count (omega (arith, inside, passing.count)) not_yet passing.counted;
        rises = passing.rises;
      };
      shared = sharing_on start.frame start.faults c.args.number start.grades i c.args.fault s old table
          stems.followers.items has passing.passed frame.shared c.in_ok-in_lane.in_lane (grade_at new i)
          (firsts_if after.found after.firsts.items) after.followers.items goes;
    }

pub returns-clause-stands : goal.returns-clause-stands
returns-clause-stands c =
    let i = c.args.i in
    let old = c.args.grades.now in
    let new = c.needs_lane.new.grades in
    let s = c.args.batch.now in
    let stems = c.args.stems.now in
    let after = c.needs_lane.new.self in
    let table = firsts_if stems.found stems.firsts.items in
    let goes = c.in_ok-in_lane.ensures.goes in
    let same = lane_same s.group c.args.fault c.args.number i (grade_at old i) table stems.followers.items
    c.in_ok-in_lane.in_lane (grade_at new i) (firsts_if after.found after.firsts.items) after.followers.items goes
    c.if-not-in_lane.false in
    let grades = grades_same old new i c.needs_lane.auto.grades c.in_ok-in_lane.ensures.others same.1 in
    on_ok_weaker c.take.result
    (λ took start has frame.
    frame_stands start c.args.number (i + 1) c.take.new.self after c.take.new.grades c.take.new.steps.count
    (took start (following after.followers.items) has
    (subst (λ (l : List Grade). BatchStandsFor start c.args.number i (following after.followers.items) s l
    c.args.steps.now.count) (sym grades)
    (subst (λ (f : List Follower). BatchStandsFor start c.args.number i (following f) s old c.args.steps.now.count)
    (sym same.0) frame.stands)))
    (sharing_on start.frame start.faults c.args.number start.grades i c.args.fault s old table stems.followers.items
    has frame.stands.passed frame.shared c.in_ok-in_lane.in_lane (grade_at new i)
    (firsts_if after.found after.firsts.items) after.followers.items goes))
    c.take.ensures.stands
