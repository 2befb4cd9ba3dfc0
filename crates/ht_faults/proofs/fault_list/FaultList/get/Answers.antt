use Rattle.std.proofs.Common.{◌/◌, ◌%◌, length, get_or, arith, ap, ◌∙◌, sym, List}
use Rattle.std.proofs.lemmas.List.{get_or_read}
use Rattle.ht_net.specs.declared.fault.Site.{Site}
use Rattle.ht_net.specs.declared.fault.Site.TheVariants.{Stem}
use Rattle.ht_net.specs.declared.fault.Fault.{Fault}
use Rattle.ht_faults.specs.Sites.{site_faults}
use Rattle.ht_net.specs.Circuit.Netlist.{no_net}
use Rattle.ht_faults.specs.FaultList.{no_fault}
use Rattle.ht_faults.proofs.ListLaws.{faults_count, fault_at}
use Rattle.ht_faults.proofs.fault_list.FaultList.get.Goals as goal

pub index-requires : goal.index-requires
index-requires c =
    let view = ap (λ (l : List Fault). length l) c.self.view_is in
    omega (arith, faults_count c.self.inside.sites.items, view)

pub returns : goal.returns
returns c =
    let view = ap (λ (l : List Fault). length l) c.self.view_is in
    let count = faults_count c.self.inside.sites.items in
    let site = get_or_read c.self.inside.sites.items (c.args.i / 2) c.index.result.now (omega (arith, count, view))
    c.index.ensures (Stem no_net) in
    c.fault_of.ensures ∙ (ap (λ (s : Site). get_or (site_faults s) (c.args.i % 2) no_fault) site
    ∙ (sym (fault_at c.self.inside.sites.items c.args.i (Stem no_net) no_fault (omega (arith, count, view)))
    ∙ ap (λ (l : List Fault). get_or l c.args.i no_fault) c.self.view_is))
