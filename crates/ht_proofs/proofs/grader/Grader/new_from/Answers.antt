use Rattle.std.proofs.Common.{◌≡◌, ◌∙◌, [], None, length, replicate, rules, sym, ap, subst}
use Rattle.std.specs.List.{range_with_len}
use Rattle.ht_proofs.specs.PackedView.{PackedView, GraderStandsFor, chosen_faults, grades_at_start}
use Rattle.ht_proofs.specs.LaneGrades.{no_grade}
use Rattle.ht_proofs.proofs.PackedLaws.{start_fields, start_stands, start_view}
use Rattle.ht_proofs.proofs.grader.Grader.new_from.Goals as goal

pub invariant_of-result : goal.invariant_of-result
invariant_of-result c =
    let faults = c.in_ok-faults.faults.items in
    let kept = c.in_ok-kept.kept in
    let verdicts : kept.verdicts.items ≡ replicate (length faults) None = search rules in
    let undetected : kept.undetected.items ≡ range_with_len 0 (length faults) = search rules in
    let grades : kept.grades.items ≡ replicate (length faults) no_grade = search rules in
    start_fields c.args.circuit.now c.in_ok-frame.frame.group.circuit c.args.start.now c.args.faults.now
    c.args.which.now faults c.in_ok-latches.latches.items kept.verdicts.items kept.undetected.items kept.grades.items
    c.requires.faults c.requires.known c.in_ok-frame.ensures c.requires.latches c.in_ok-faults.ensures
    c.in_ok-latches.ensures.items verdicts undetected grades

pub returns-clause-start : goal.returns-clause-start
returns-clause-start c =
    let faults = c.in_ok-faults.faults.items in
    let kept = c.in_ok-kept.kept in
    let verdicts : kept.verdicts.items ≡ replicate (length faults) None = search rules in
    let grades : kept.grades.items ≡ replicate (length faults) no_grade = search rules in
    start_view c.args.circuit.now c.in_ok-frame.frame.group.circuit c.args.start.now faults
    c.in_ok-latches.latches.items kept.verdicts.items kept.grades.items c.in_ok-frame.ensures
    c.in_ok-latches.ensures.items verdicts grades
    ∙ ap (grades_at_start c.args.circuit.now c.args.start.now) c.in_ok-faults.ensures

pub returns-clause-stands : goal.returns-clause-stands
returns-clause-stands c =
    subst (λ (g : PackedView). GraderStandsFor g c.args.start.now []) (sym (returns-clause-start c))
    (start_stands c.args.circuit.now c.args.start.now (chosen_faults c.args.faults.now c.args.which.now))
