-- A circuit stays wired when a line is expanded.
use Rattle.std.proofs.Common.{◌≡◌, ◌<◌, ◌+◌, ℕ, suc, zero, List, [], ◌∷◌, false, length, get_or, map, refl, sym, ap, subst, arith}
use Rattle.ht_net.specs.declared.net.NetId.{NetId}
use Rattle.ht_net.specs.declared.fault.Site.{Site}
use Rattle.ht_net.specs.declared.fault.Site.TheVariants.{Stem, DffPin, GatePin}
use Rattle.ht_net.specs.Circuit.Netlist.{Netlist, no_net, net_count, IsCircuit}
use Rattle.ht_net.specs.Frames.Faults.{is_stem, is_data_pin}
use Rattle.ht_net.proofs.Depth.{IsDepth}
use Rattle.ht_net.proofs.DepthLaws.{circuit_depth}
use Rattle.ht_slow.specs.Slow.{carrier_of, IsLine}
use Rattle.ht_slow.specs.ExpandedLine.{read_net, read_dffs, net, expanded_line}
use Rattle.ht_slow.proofs.Wired.{IsWired}
use Rattle.ht_slow.proofs.DepthLaws.{expanded_depth, net_known}

pub circuit_is_wired : (c : Netlist) → IsCircuit c → IsWired c
circuit_is_wired c circuit = let d = circuit_depth c circuit in record {
  depth = d.0;
  deep = d.1;
  data_known = circuit.data_known;
  outputs_known = circuit.outputs_known;
}

-- a line's net is there
pub line_inside : (c : Netlist) (site : Site) → IsWired c → IsLine c site → carrier_of c site < net_count c
line_inside c (Stem x) wired h = h
line_inside c (DffPin j) wired h = wired.data_known j h
line_inside c (GatePin g i) wired h = wired.deep.known g i h.0 h.1

-- the data pins are there
data_known : (c : Netlist) (site : Site) (names : List (List ℕ)) → carrier_of c site < net_count c
    → (depth : ℕ → ℕ) → IsDepth c depth → (j : ℕ) (ds : List NetId)
    → ((o : ℕ) → o < length ds → (get_or ds o no_net).0 < net_count c)
    → (o : ℕ) → o < length (read_dffs c site j ds)
    → (get_or (read_dffs c site j ds) o no_net).0 < net_count (expanded_line c site names)
data_known c site names inside depth deep j [] known zero h =
    net_known c site names depth deep inside (net (carrier_of c site)) false false inside
data_known c site names inside depth deep j [] known (suc o) h = absurd (omega arith)
data_known c site names inside depth deep j (d ∷ ds) known zero h =
    net_known c site names depth deep inside d (is_stem site d.0) (is_data_pin site j) (known 0 (omega arith))
data_known c site names inside depth deep j (d ∷ ds) known (suc o) h =
    data_known c site names inside depth deep (j + 1) ds (λ k l. known (suc k) (omega arith)) o (omega arith)

pub map_at : (c : Netlist) (site : Site) (xs : List NetId) (o : ℕ) (d : NetId) → o < length xs
    → get_or (map (read_net c site false) xs) o d ≡ read_net c site false (get_or xs o no_net)
map_at c site [] o d h = absurd (omega arith)
map_at c site (x ∷ xs) zero d h = refl
map_at c site (x ∷ xs) (suc o) d h = map_at c site xs o d (omega arith)

pub map_length : (c : Netlist) (site : Site) (xs : List NetId) → length (map (read_net c site false) xs) ≡ length xs
map_length c site [] = refl
map_length c site (x ∷ xs) = ap suc (map_length c site xs)

pub expanded_is_wired : (c : Netlist) (site : Site) (names : List (List ℕ)) → IsWired c → IsLine c site
    → IsWired (expanded_line c site names)
expanded_is_wired c site names wired line =
    let inside = line_inside c site wired line in
    let deep = expanded_depth c site names wired.depth wired.deep inside in
    record {
      depth = deep.0;
      deep = deep.1;
      data_known = data_known c site names inside wired.depth wired.deep 0 c.dffs wired.data_known;
      outputs_known = λ o h. let l = map_length c site c.outputs in
          subst (λ (x : NetId). x.0 < net_count (expanded_line c site names))
          (sym (map_at c site c.outputs o no_net (omega (arith, l))))
          (net_known c site names wired.depth wired.deep inside (get_or c.outputs o no_net)
          (is_stem site (get_or c.outputs o no_net).0) false
          (wired.outputs_known o (omega (arith, l))));
    }
