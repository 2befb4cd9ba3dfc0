use Rattle.std.proofs.Common.{◌≡◌, ◌<◌, ◌∷◌, ◌++◌, ◌∙◌, [], List, length, get_or, set, ap, arith}
use Rattle.std.proofs.lemmas.List.{get_or_default}
use Rattle.ht_group.specs.declared.diffs.Diff.{Diff}
use Rattle.ht_proofs.specs.LaneGrades.{grade_at, no_grade}
use Rattle.ht_compact.specs.declared.runners.Runner.{Runner}
use Rattle.ht_compact.specs.Runs.{runner_at}
use Rattle.ht_compact.proofs.LogLaws.{logged_all, logged_more, none_logged}
use Rattle.ht_compact.proofs.run.log_each.Goals as goal

pub loop-j-init : goal.loop-j-init
loop-j-init c = none_logged c.args.undetected.now c.args.grades.now c.args.runners.now

pub loop-j-preserved : goal.loop-j-preserved
loop-j-preserved c =
    let grades = c.args.grades.now in
    let now = c.loop-j.runners in
    let x = get_or c.args.undetected.now c.loop-j.j-index 0 in
    let none : Runner = record { place = 0; log = []; rest = 0 } in
    let known : x < length grades = c.requires.known c.loop-j.j-index 0 c.loop-j-test.true in
    let inside : x < length now = omega (arith, known, c.requires.each, c.loop-j.invariant.every) in
    let runner = get_or_default now x c.index-runners-j.result none inside in
    let grade = get_or_default grades x c.index-grades-j.result no_grade known in
    let copied = c.in_ok-diffs.ensures in
    let pushed = c.in_ok-push.ensures in
    let one = c.index-runners-j.is in
    let two = c.index-grades-j.is in
    let log : c.push.new.self ≡ (runner_at now x).log ++ (grade_at grades x).diffs ∷ [] = cc in
    let with_log : Runner → List (List Diff) → Runner = λ r l. record { place = r.place; log = l; rest = r.rest } in
    logged_more c.args.undetected.now grades c.loop-j.j-index c.args.runners.now now _ c.requires.undetected
    c.loop-j-test.true inside c.loop-j.invariant
    (ap (λ (r : Runner). set now x (with_log r c.push.new.self)) runner
    ∙ ap (λ (l : List (List Diff)). set now x (with_log (runner_at now x) l)) log)

pub returns : goal.returns
returns c =
    logged_all c.args.undetected.now c.args.grades.now c.loop-j.j-index c.args.runners.now c.loop-j.runners
    c.requires.undetected c.requires.each (omega (arith, c.loop-j-test.false)) c.loop-j.invariant
