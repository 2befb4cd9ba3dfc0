-- What stands where in an expanded circuit, and that it has a depth.
use Rattle.std.proofs.Common.{◌≡◌, ◌<◌, ◌+◌, ℕ, suc, zero, List, [], ◌∷◌, length, get_or, refl, ◌∙◌, ap, arith}
use Rattle.ht_tern.specs.declared.gate.Kind.TheVariants.{And, Or}
use Rattle.ht_net.specs.declared.net.NetId.{NetId}
use Rattle.ht_net.specs.declared.fault.Site.{Site}
use Rattle.ht_net.specs.declared.fault.Site.TheVariants.{DffPin}
use Rattle.ht_net.specs.Circuit.Netlist.{Netlist, Gate, no_net, no_gate}
use Rattle.ht_net.specs.Frames.Faults.{is_pin, is_data_pin}
use Rattle.ht_slow.specs.Slow.{carrier_of}
use Rattle.ht_slow.specs.ExpandedLine.{moved, before_net, both_net, read_net, read_args, read_gates, read_dffs, net, expanded_line}

-- the gate that reads what gate g reads, perhaps by the line
abbrev pub read_gate : Netlist → Site → ℕ → Gate → Gate
read_gate c site g gate = record { kind = gate.kind; args = read_args c site g 0 gate.args }

-- the two gates of the line
abbrev pub line_gate : Netlist → Site → Gate
line_gate c site = record { kind = Or; args = net (moved c (carrier_of c site)) ∷ net (both_net c) ∷ [] }

abbrev pub both_gate : Netlist → Site → Gate
both_gate c site = record { kind = And; args = net (moved c (carrier_of c site)) ∷ net (before_net c) ∷ [] }

module _ (c : Netlist) (site : Site) where
  pub gates_length : (g : ℕ) (gates : List Gate) → length (read_gates c site g gates) ≡ length gates + 2
  gates_length g [] = refl
  gates_length g (gate ∷ gates) = let rest = gates_length (g + 1) gates in omega (arith, rest)

  pub old_gate : (g : ℕ) (gates : List Gate) (k : ℕ) → k < length gates
      → get_or (read_gates c site g gates) k no_gate ≡ read_gate c site (g + k) (get_or gates k no_gate)
  old_gate g [] k h = absurd (omega arith)
  old_gate g (gate ∷ gates) zero h =
      let z : g ≡ g + 0 = omega arith in ap (λ (n : ℕ). read_gate c site n gate) z
  old_gate g (gate ∷ gates) (suc k) h =
      let z : g + 1 + k ≡ g + suc k = omega arith in
      old_gate (g + 1) gates k (omega arith) ∙ ap (λ (n : ℕ). read_gate c site n (get_or gates k no_gate)) z

  pub first_new_gate : (g : ℕ) (gates : List Gate) → get_or (read_gates c site g gates) (length gates) no_gate
      ≡ line_gate c site
  first_new_gate g [] = refl
  first_new_gate g (gate ∷ gates) = first_new_gate (g + 1) gates

  pub second_new_gate : (g : ℕ) (gates : List Gate) → get_or (read_gates c site g gates) (suc (length gates)) no_gate
      ≡ both_gate c site
  second_new_gate g [] = refl
  second_new_gate g (gate ∷ gates) = second_new_gate (g + 1) gates

  pub args_length : (g i : ℕ) (args : List NetId) → length (read_args c site g i args) ≡ length args
  args_length g i [] = refl
  args_length g i (a ∷ args) = ap suc (args_length g (i + 1) args)

  pub old_arg : (g i : ℕ) (args : List NetId) (k : ℕ) → k < length args
      → get_or (read_args c site g i args) k no_net ≡ read_net c site (is_pin site g (i + k)) (get_or args k no_net)
  old_arg g i [] k h = absurd (omega arith)
  old_arg g i (a ∷ args) zero h =
      let z : i ≡ i + 0 = omega arith in ap (λ (n : ℕ). read_net c site (is_pin site g n) a) z
  old_arg g i (a ∷ args) (suc k) h =
      let z : i + 1 + k ≡ i + suc k = omega arith in
      old_arg g (i + 1) args k (omega arith)
      ∙ ap (λ (n : ℕ). read_net c site (is_pin site g n) (get_or args k no_net)) z

  pub dffs_length : (j : ℕ) (dffs : List NetId) → length (read_dffs c site j dffs) ≡ suc (length dffs)
  dffs_length j [] = refl
  dffs_length j (d ∷ dffs) = ap suc (dffs_length (j + 1) dffs)

  pub old_dff : (j : ℕ) (dffs : List NetId) (k : ℕ) → k < length dffs
      → get_or (read_dffs c site j dffs) k no_net ≡ read_net c site (is_data_pin site (j + k)) (get_or dffs k no_net)
  old_dff j [] k h = absurd (omega arith)
  old_dff j (d ∷ dffs) zero h =
      let z : j ≡ j + 0 = omega arith in ap (λ (n : ℕ). read_net c site (is_data_pin site n) d) z
  old_dff j (d ∷ dffs) (suc k) h =
      let z : j + 1 + k ≡ j + suc k = omega arith in
      old_dff (j + 1) dffs k (omega arith)
      ∙ ap (λ (n : ℕ). read_net c site (is_data_pin site n) (get_or dffs k no_net)) z

  pub old_dff_is : (names : List (List ℕ)) (j : ℕ) → j < length c.dffs
      → carrier_of (expanded_line c site names) (DffPin j)
      ≡ (read_net c site (is_data_pin site j) (get_or c.dffs j no_net)).0
  old_dff_is names j h =
      let z : 0 + j ≡ j = omega arith in
      ap (λ (a : NetId). a.0) (old_dff 0 c.dffs j h
      ∙ ap (λ (n : ℕ). read_net c site (is_data_pin site n) (get_or c.dffs j no_net)) z)
