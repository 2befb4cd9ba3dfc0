-- An effect ends within the circuit.
use Rattle.std.proofs.Common.{◌<◌, ◌+◌, ℕ, Bool, None, length, sym, subst, arith, inl, inr}
use Rattle.ht_tern.specs.declared.tern.Tern.{Tern}
use Rattle.ht_tern.specs.Gate.{tern_of}
use Rattle.ht_net.specs.declared.fault.Site.{Site}
use Rattle.ht_net.specs.declared.fault.Site.TheVariants.{Stem, DffPin, GatePin}
use Rattle.ht_net.specs.declared.fault.Fault.{Fault}
use Rattle.ht_net.specs.Circuit.Netlist.{Netlist, first_gate_net, net_count}
use Rattle.ht_net.specs.Frames.Frame.{gate_output}
use Rattle.ht_net.specs.Frames.Faults.{tern_rules}
use Rattle.ht_stems.specs.declared.arrival.Arrival.{Arrival}
use Rattle.ht_stems.specs.ForcedNets.{with_net_value}
use Rattle.ht_stems.specs.Arrivals.{Arrives, unchanged, unread, at_latch, at_output, at_stem, through_gate, FaultArrives, HasLine, IsWithin, SiteArrives}

module _ (c : Netlist) (good : ℕ → Tern) where
  arrival_within : (x : ℕ) (v : Tern) (a : Arrival) → Arrives c good x v a → x < net_count c → IsWithin c a
  arrival_within _ _ _ (unchanged x v own) known = tt
  arrival_within _ _ _ (unread x v other none) known = tt
  arrival_within _ _ _ (at_latch x v j other loads) known = loads.1
  arrival_within _ _ _ (at_output x v o other loads) known = loads.1
  arrival_within _ _ _ (at_stem x v other loads) known = known
  arrival_within _ _ _ (through_gate x v g a other loads rest) known =
      arrival_within (first_gate_net c + g) (gate_output c (tern_rules None) (with_net_value good x v) g) a rest
      (omega (arith, loads.1))

  site_within : (site : Site) (bit : Bool) (a : Arrival) → HasLine c site → SiteArrives c good site bit a
      → IsWithin c a
  site_within (Stem x) bit a line arrives = arrival_within x.0 (tern_of bit) a arrives line
  site_within (GatePin g i) bit a line arrives =
      let known : g < length c.gates = line.0 in
      arrival_within (first_gate_net c + g) _ a arrives (omega arith)
  site_within (DffPin j) bit a line arrives = subst (IsWithin c) (sym arrives) line

  -- the effect of a fault at a line of the circuit ends within the circuit
  pub fault_within : (fault : Fault) (a : Arrival) → HasLine c fault.site → FaultArrives c good fault a
      → IsWithin c a
  fault_within fault a line (inl p) = subst (IsWithin c) (sym p.1) tt
  fault_within fault a line (inr p) = site_within fault.site fault.value a line p.1
