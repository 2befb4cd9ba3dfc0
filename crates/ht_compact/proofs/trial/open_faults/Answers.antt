use Rattle.std.proofs.Common.{List, [], ◌∙◌, subst}
use Rattle.std.proofs.lemmas.List.{get_or_default}
use Rattle.ht_group.specs.declared.diffs.Diff.{Diff}
use Rattle.ht_compact.specs.Runs.{MayHavePushed}
use Rattle.ht_compact.proofs.GradedLaws.{none_open, open_more}
use Rattle.ht_compact.proofs.trial.open_faults.Goals as goal

pub loop-k-init : goal.loop-k-init
loop-k-init c = none_open c.args.histories.now c.args.from _ c.new-which.ensures.items

pub loop-k-preserved : goal.loop-k-preserved
loop-k-preserved c =
    open_more c.args.histories.now c.args.from c.loop-k.k c.loop-k.which.items c.push_open.new.which.items
    c.loop-k.invariant
    (subst (λ (l : List (List Diff)). MayHavePushed l c.args.from c.loop-k.k c.loop-k.which.items
    c.push_open.new.which.items)
    (c.index-histories-k.is ∙ get_or_default c.args.histories.now c.loop-k.k c.index-histories-k.result []
    c.loop-k-test.true)
    c.in_ok-push_open.ensures)
