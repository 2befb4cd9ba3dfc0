use Rattle.std.proofs.Common.{take, true}
use Rattle.ht_ports.specs.Desk.{Wrote}
use Rattle.ht_ports.specs.declared.ports.OutPort.TheVariants.{Err}
use Rattle.ht_bench.specs.RefusalText.{loop_text}
use Rattle.ht_bench.proofs.refusal_text.write_names.Given as goal

abbrev pub invariant-loop-name : goal.invariant-loop-name
invariant-loop-name g l =
    Wrote Err (loop_text (take l.name-index l.names)) true (g.D.Desk.view l.fn.desk) (g.D.Desk.view l.desk)
