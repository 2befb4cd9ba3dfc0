-- Each fault of the list stands on a line of the circuit.
use Rattle.std.proofs.Common.{◌≡◌, ◌∙◌, ◌<◌, ℕ, List, length, get_or, ap, sym, subst}
use Rattle.ht_net.specs.declared.fault.Fault.{Fault}
use Rattle.ht_net.specs.declared.fault.Site.{Site}
use Rattle.ht_net.specs.declared.fault.Site.TheVariants.{Stem, DffPin, GatePin}
use Rattle.ht_net.specs.Circuit.Netlist.{Netlist}
use Rattle.ht_faults.specs.Sites.{IsFaultSite, faults_of}
use Rattle.ht_faults.proofs.MemberLaws.{fault_site}
use Rattle.ht_faults.specs.Classes.{fault_at}
use Rattle.ht_faults.specs.FaultList.{no_fault}
use Rattle.ht_texts.specs.Sites.{IsSite}

fault_site_is_line : (c : Netlist) (site : Site) → IsFaultSite c site → IsSite c site
fault_site_is_line c (Stem x) is = is
fault_site_is_line c (DffPin j) is = is.0
fault_site_is_line c (GatePin g i) is = (is.0, is.1)

-- the site of each fault of the list is a line of the circuit
pub fault_is_on_line : (c : Netlist) (i : ℕ) → i < length (faults_of c) → IsSite c (fault_at c i).site
fault_is_on_line c i inside = fault_site_is_line c (fault_at c i).site (fault_site c i inside)

-- the same of a fault that was read from a list of them
pub listed_is_on_line : (c : Netlist) (faults : List Fault) (i : ℕ) (fault : Fault) → faults ≡ faults_of c
    → i < length faults → fault ≡ get_or faults i no_fault → IsSite c fault.site
listed_is_on_line c faults i fault listed inside is =
    subst (λ (f : Fault). IsSite c f.site) (sym (is ∙ ap (λ (l : List Fault). get_or l i no_fault) listed))
    (fault_is_on_line c i (subst (λ (l : List Fault). i < length l) listed inside))
