use Rattle.std.proofs.Common.{sym}
use Rattle.ht_forward.proofs.FoundLaws.{frame_known}
use Rattle.ht_forward.proofs.ahead.sure_frame.Goals as goal

pub returns-clause-sure : goal.returns-clause-sure
returns-clause-sure c = (c.in-Sure.place, sym c.in-Sure.ensures)

pub returns-clause-known : goal.returns-clause-known
returns-clause-known c =
    frame_known c.args.window.now.window c.args.window.now.decisions c.in-Sure.frame c.in-Sure.place c.requires.seeks
    c.requires.outputs (sym c.in-Sure.ensures)
