use Rattle.std.proofs.Common.{◌∙◌, List, length, get_or, sym, ap, subst, arith}
use Rattle.ht_net.specs.declared.fault.Fault.{Fault}
use Rattle.ht_faults.specs.FaultList.{no_fault}
use Rattle.ht_stems.specs.Arrivals.{HasLine}
use Rattle.ht_causes.proofs.ListedLaws.{listed_line}
use Rattle.ht_causes.proofs.run.note_fault.Goals as goal

pub net_of_line-net-requires : goal.net_of_line-net-requires
net_of_line-net-requires c =
    let count = ap (λ (l : List Fault). length l) c.requires.faults in
    subst (λ (f : Fault). HasLine c.args.circuit.now f.site)
    (sym (c.get-fault.ensures ∙ ap (λ (l : List Fault). get_or l c.args.i no_fault) c.requires.faults))
    (listed_line c.args.circuit.now c.args.i (omega (arith, count, c.requires.known)))
