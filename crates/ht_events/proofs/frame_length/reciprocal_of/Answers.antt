use Rattle.std.proofs.Common.{arith}
use Rattle.ht_events.proofs.ReciprocalLaws.{reciprocal_is}
use Rattle.ht_events.proofs.frame_length.reciprocal_of.Goals as goal

pub returns : goal.returns
returns c =
    let some = c.if-items-eq0.false in
    reciprocal_is c.args.items (omega (arith, some)) c.requires
