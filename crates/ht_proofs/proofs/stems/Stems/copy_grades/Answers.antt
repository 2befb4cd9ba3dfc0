use Rattle.std.proofs.Common.{◌≡◌, ◌<◌, ◌∙◌, List, length, get_or, ap, arith, set}
use Rattle.std.proofs.lemmas.List.{get_or_default}
use Rattle.ht_proofs.specs.declared.stems.Follower.{Follower}
use Rattle.ht_proofs.specs.LaneGrades.{grade_at, no_grade}
use Rattle.ht_proofs.specs.Followers.{no_follower}
use Rattle.ht_proofs.proofs.FollowerLaws.{copied_more}
use Rattle.ht_proofs.proofs.stems.Stems.copy_grades.Goals as goal

pub loop-follower-preserved : goal.loop-follower-preserved
loop-follower-preserved c =
    let n = c.loop-follower.follower-index in
    let followers = c.args.self.now.followers.items in
    let held = c.deref-follower-items.result.now in
    let mid = c.loop-follower.grades in
    let grade = c.in_ok-grade.grade in
    let long = ap (λ (l : List Follower). length l) c.deref-follower-items.ensures.value in
    let inside : n < length followers = omega (arith, c.loop-follower-test.true, long) in
    let at : get_or held n no_follower ≡ get_or followers n no_follower =
    ap (λ (l : List Follower). get_or l n no_follower) c.deref-follower-items.ensures.value in
    let first = ap (λ (e : Follower). e.first) at in
    let known : (get_or held n no_follower).first < length mid =
    omega (arith, c.requires.first_known n inside, first, c.loop-follower.auto.grades) in
    copied_more n followers c.args.grades.now mid (set mid (get_or held n no_follower).fault grade) grade inside
    c.requires c.loop-follower.auto.grades
    (c.in_ok-grade.ensures
    ∙ (get_or_default mid (get_or held n no_follower).first c.index-grades-follower.result no_grade known
    ∙ ap (λ (e : Follower). grade_at mid e.first) at))
    (ap (λ (e : Follower). set mid e.fault grade) at) c.loop-follower.invariant
