use Rattle.std.proofs.Common.{◌∙◌, List, ap, sym, get_or}
use Rattle.ht_net.specs.declared.fault.Fault.{Fault}
use Rattle.ht_net.specs.Circuit.Netlist.{Netlist}
use Rattle.ht_faults.specs.Sites.{faults_of}
use Rattle.ht_faults.specs.Classes.{fault_at}
use Rattle.ht_faults.specs.FaultList.{no_fault}
use Rattle.ht_full.specs.Known.{KnownView}
use Rattle.ht_full.proofs.known.Known.fault.Goals as goal

-- the list of the circuit's faults has it
pub returns : goal.returns
returns c =
    let kept = c.self.invariant in
    c.get.ensures
    ∙ ap (λ (l : List Fault). get_or l c.args.i no_fault)
    (kept.faults ∙ ap (λ (n : Netlist). faults_of n) (sym kept.circuit))
    ∙ ap (λ (k : KnownView). fault_at k.verdicts.circuit c.args.i) c.self.view_is
