use Rattle.std.proofs.Common.{◌<◌, ℕ, List, length, get_or, ap, subst}
use Rattle.std.proofs.lemmas.List.{get_or_default}
use Rattle.ht_faults.specs.Classes.{class_count, own_representatives}
use Rattle.ht_faults.proofs.OwnLaws.{own_below}
use Rattle.ht_texts.specs.declared.said.Said.{Said}
use Rattle.ht_texts.specs.declared.said.Said.TheVariants.{Undetected}
use Rattle.ht_texts.specs.Counts.{CountsOne}
use Rattle.ht_texts.proofs.CountLaws.{one_counted}
use Rattle.ht_texts.proofs.total.Sums.of.Goals as goal

pub bounds-saids-i : goal.bounds-saids-i
bounds-saids-i c =
    own_below c.args.classes.now _ c.loop-i.i-index (length c.args.saids.now) c.representatives-i-items.ensures
    c.loop-i-test.true c.requires

pub loop-i-preserved : goal.loop-i-preserved
loop-i-preserved c =
    let classes = c.args.classes.now in
    let saids = c.args.saids.now in
    let k = c.loop-i.i-index in
    let own = c.representatives-i-items.ensures in
    let i : ℕ = get_or c.representatives-i-items.result.now k 0 in
    let below : i < length saids = own_below classes _ k (length saids) own c.loop-i-test.true c.requires in
    let said = get_or_default saids i _ Undetected below in
    one_counted (class_count classes) saids c.args.search (own_representatives classes) k i c.loop-i.sums
    c.count.new.self c.loop-i.invariant (subst (λ (l : List ℕ). k < length l) own c.loop-i-test.true)
    (ap (λ (l : List ℕ). get_or l k 0) own)
    (subst (λ (said : Said). CountsOne said c.loop-i.sums c.count.new.self) said c.count.ensures)
