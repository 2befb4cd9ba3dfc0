use Rattle.std.proofs.Common.{length, sym, subst}
use Rattle.ht_recompute.specs.KeptFramesOf.{KeptState}
use Rattle.ht_check.proofs.ToldLaws.{EachIsBelow}
use Rattle.ht_check.proofs.window_walks.take_one_frame.Goals as goal

pub one_frame-requires : goal.one_frame-requires
one_frame-requires c =
    subst (λ (k : KeptState). EachIsBelow (length k.circuit.dffs) c.args.z.now) (sym c.in-Ok.ensures.taken) c.requires
