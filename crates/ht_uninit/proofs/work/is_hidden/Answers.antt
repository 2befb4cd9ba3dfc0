use Rattle.std.proofs.Common.{◌<◌, ◌∙◌, List, length, get_or, ap, sym, subst}
use Rattle.ht_net.specs.declared.fault.Fault.{Fault}
use Rattle.ht_faults.proofs.MemberLaws.{fault_site}
use Rattle.ht_faults.specs.FaultList.{no_fault}
use Rattle.ht_faults.specs.Sites.{IsFaultSite}
use Rattle.ht_uninit.proofs.work.is_hidden.Goals as goal

pub cone_root-root-requires : goal.cone_root-root-requires
cone_root-root-requires c =
    let n = c.args.circuit.now in
    let k = c.args.k in
    let is = c.get.ensures ∙ ap (λ (fs : List Fault). get_or fs k no_fault) c.requires.faults in
    let inside = subst (λ (fs : List Fault). k < length fs) c.requires.faults c.requires.fault in
    subst (λ (f : Fault). IsFaultSite n f.site) (sym is) (fault_site n k inside)
