-- A fault list as contracts see it, and how its fields stand for it.
use Rattle.std.specs.Prelude.{◌<◌, ◌^◌, List, false, length}
use Rattle.std.specs.List.{flat_map}
use Rattle.ht_net.specs.declared.fault.Site.TheVariants.{Stem}
use Rattle.ht_net.specs.declared.fault.Fault.{Fault}
use Rattle.ht_net.specs.Circuit.Netlist.{no_net}
use Rattle.ht_faults.specs.Sites.{site_faults}
use Rattle.ht_faults.specs.declared.fault_list.FaultList.TheInside.{Inside}

-- what stands where a list has no fault
abbrev pub no_fault : Fault
no_fault = record { site = Stem no_net; value = false }

-- two faults for each site
abbrev pub faults_at : Inside → List Fault
faults_at a = flat_map site_faults a.sites.items

-- the faults can be counted in 32 bits
pub record IsShort (a : Inside) : Type 0 where
  pub short : length (faults_at a) < 2 ^ 32
