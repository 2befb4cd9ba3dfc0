-- The lines and sites of the faults of a list.
use Rattle.std.proofs.Common.{◌<◌, ℕ, length}
use Rattle.ht_net.specs.declared.fault.Site.{Site}
use Rattle.ht_net.specs.declared.fault.Site.TheVariants.{Stem, DffPin, GatePin}
use Rattle.ht_net.specs.Circuit.Netlist.{Netlist}
use Rattle.ht_faults.specs.Sites.{IsFaultSite, faults_of}
use Rattle.ht_faults.specs.Classes.{fault_at}
use Rattle.ht_faults.proofs.MemberLaws.{fault_site}
use Rattle.ht_stems.specs.Arrivals.{HasLine}
use Rattle.ht_group.specs.GroupView.{HasSite}

line_there : (c : Netlist) (site : Site) → IsFaultSite c site → HasLine c site
line_there c (Stem x) h = h
line_there c (DffPin j) h = h.0
line_there c (GatePin g i) h = (h.0, h.1)

-- the circuit has the line of each fault of its list
pub listed_line : (c : Netlist) (i : ℕ) → i < length (faults_of c) → HasLine c (fault_at c i).site
listed_line c i inside = line_there c (fault_at c i).site (fault_site c i inside)

-- and its site
pub listed_site : (c : Netlist) (i : ℕ) → i < length (faults_of c) → HasSite c (fault_at c i).site
listed_site c i inside = line_site c (fault_at c i).site (listed_line c i inside)
  where
    line_site : (c : Netlist) (site : Site) → HasLine c site → HasSite c site
    line_site c (Stem x) h = h
    line_site c (DffPin j) h = h
    line_site c (GatePin g i) h = h.0
