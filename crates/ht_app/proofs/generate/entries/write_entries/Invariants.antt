use Rattle.std.proofs.Common.{IsTrue, take}
use Rattle.std.specs.Prelude.{Ok}
use Rattle.ht_ports.specs.declared.ports.OutPort.TheVariants.{Proofs}
use Rattle.ht_files.specs.Searched.{entry_steps}
use Rattle.ht_app.specs.Generating.{Adds}
use Rattle.ht_app.specs.Steps.{StaysWritable}
use Rattle.ht_app.proofs.generate.entries.write_entries.Given as goal

abbrev pub invariant-loop-fault : goal.invariant-loop-fault
invariant-loop-fault g l = record {
  proofs : IsTrue ((g.D.Desk.view l.desk).is_created Proofs);
  stays : StaysWritable (g.D.Desk.view l.fn.desk) (g.D.Desk.view l.desk);
  so_far : Adds {A = Unit {0}} (entry_steps 0 (take l.fault l.verdicts.entries)) l.fn.sizes l.sizes (Ok tt)
      (g.D.Desk.view l.fn.desk) (g.D.Desk.view l.desk);
}
