use Rattle.std.proofs.Common.{List, Bool, ◌∙◌, refl, subst}
use Rattle.ht_compact.specs.DetectedFaults.{IsMissed}
use Rattle.ht_compact.proofs.GradedLaws.{none_lost}
use Rattle.ht_compact.proofs.WithoutLaws.{without_none}
use Rattle.ht_compact.proofs.compaction.graded_list.Goals as goal

pub unreachable-requires : goal.unreachable-requires
unreachable-requires c =
    let circuit = c.args.circuit.now in
    let kept = c.in_ok-kept.kept in
    let k = c.in-Some.field-0 in
    none_lost circuit c.args.list.now.list c.args.detected.now kept.wanted.items k c.requires.detected
    c.in_ok-kept.ensures.wanted
    (subst (λ (l : List (List Bool)). IsMissed circuit kept.wanted.items l k)
    (without_none kept.vectors.list 0 0 refl ∙ c.in_ok-kept.ensures.list)
    (c.in_ok-leave_out_unless_lost.ensures.lost k c.in-Some.is))
