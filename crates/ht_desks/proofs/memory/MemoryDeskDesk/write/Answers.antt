use Rattle.ht_desks.specs.Memory.{memory_view}
use Rattle.ht_desks.proofs.MemoryLaws.{fails_counted, writes_counted}
use Rattle.ht_desks.proofs.memory.MemoryDeskDesk.write.Goals as goal

pub returns-in-Err-clause-frame : goal.returns-in-Err-clause-frame
returns-in-Err-clause-frame c =
    let counted = c.count_out_fault-in-Err.ensures in
    writes_counted (memory_view c.add.new.self) _ c.in-Err.ensures.frame counted.later counted.others

pub returns-in-Err-clause-failed : goal.returns-in-Err-clause-failed
returns-in-Err-clause-failed c =
    let counted = c.count_out_fault-in-Err.ensures in
    fails_counted (memory_view c.add.new.self) _ c.in-Err.ensures.failed counted.counted counted.others
