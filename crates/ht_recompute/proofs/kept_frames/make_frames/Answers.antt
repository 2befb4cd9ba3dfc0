use Rattle.std.proofs.Common.{List, sym, subst}
use Rattle.std.specs.List.{All}
use Rattle.std.proofs.lemmas.List.Elements.{All-push}
use Rattle.ht_recompute.specs.declared.net_sets.NetSets.{NetSets}
use Rattle.ht_recompute.specs.NetSetsOf.{AreNetSets}
use Rattle.ht_recompute.proofs.kept_frames.make_frames.Goals as goal

pub loop-alloc-preserved : goal.loop-alloc-preserved
loop-alloc-preserved c s is old =
    let P = AreNetSets c.args.circuit.now s in
    subst (All P) (sym {A = List NetSets} c.in_ok-push.ensures.items)
    (All-push P c.loop-alloc.sets.items c.in_ok-new.field-0 (c.loop-alloc.invariant s is old)
    (c.in_ok-new.ensures s is))

pub returns-in_err-push-clause-frames : goal.returns-in_err-push-clause-frames
returns-in_err-push-clause-frames c s is old =
    subst (All (AreNetSets c.args.circuit.now s)) (sym c.in_err-push.ensures.items)
    (c.loop-alloc.invariant s is old)
