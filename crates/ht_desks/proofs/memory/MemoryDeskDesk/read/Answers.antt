use Rattle.ht_desks.proofs.MemoryLaws.{reads_taken}
use Rattle.ht_desks.proofs.memory.MemoryDeskDesk.read.Goals as goal

pub returns-clause-frame : goal.returns-clause-frame
returns-clause-frame c = reads_taken c.args.port c.args.self.now c.set-2.new.self c.set-2.ensures.others
