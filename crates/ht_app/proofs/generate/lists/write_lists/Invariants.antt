use Rattle.std.proofs.Common.{◌≤◌, ℕ, List, Bool, IsTrue, length, take}
use Rattle.std.specs.Prelude.{Ok}
use Rattle.ht_ports.specs.declared.ports.OutPort.TheVariants.{Tests}
use Rattle.ht_net.specs.Circuit.Netlist.{Netlist}
use Rattle.ht_full.specs.Searches.{IsFullOf}
use Rattle.ht_app.proofs.Common.{Tern}
use Rattle.ht_app.specs.Generating.{WritesLists}
use Rattle.ht_app.specs.Steps.{StaysWritable}
use Rattle.ht_app.proofs.generate.lists.write_lists.Given as goal

abbrev pub invariant-chunks : goal.invariant-chunks
invariant-chunks g l = record {
  tests : IsTrue ((g.D.Desk.view l.desk).is_created Tests);
  stays : StaysWritable (g.D.Desk.view l.fn.desk) (g.D.Desk.view l.desk);
  within : l.written ≤ length l.search.known.vectors.list;
  full : (c : Netlist) (representatives : List ℕ) (start : List Tern) (given : List (List Bool))
      (chosen : List Bool) (work : ℕ)
      → IsFullOf c representatives start given chosen work l.fn.search
      → IsFullOf c representatives start given chosen work l.search;
  so_far : (c : Netlist) (representatives : List ℕ) (start : List Tern) (given : List (List Bool))
      (chosen : List Bool) (work : ℕ)
      → IsFullOf c representatives start given chosen work l.fn.search
      → WritesLists {A = Unit {0}} c given (take l.written l.search.known.vectors.list) l.fn.sizes l.sizes (Ok tt)
      (g.D.Desk.view l.fn.desk) (g.D.Desk.view l.desk);
}

abbrev pub decreases-chunks : goal.decreases-chunks
decreases-chunks g l = l.search.left
