-- An expanded circuit has a depth: what lies deeper than the line's net moves down by two.
use Rattle.std.proofs.Common.{◌≡◌, ◌<◌, ◌≤◌, ◌+◌, ◌-◌, ℕ, suc, zero, List, Bool, true, false, cond, length, get_or, refl, sym, ◌∙◌, ap, subst, arith, inl, inr}
use Rattle.std.specs.Prelude.{ltb, eqb, ◌&&◌}
use Rattle.std.proofs.lemmas.Bool.{true≢false}
use Rattle.std.proofs.lemmas.Bool.Decides.{nat_tests, eqb_tells}
use Rattle.ht_net.specs.declared.net.NetId.{NetId}
use Rattle.ht_net.specs.declared.fault.Site.{Site}
use Rattle.ht_net.specs.declared.fault.Site.TheVariants.{Stem, DffPin, GatePin}
use Rattle.ht_net.specs.Circuit.Netlist.{Netlist, Gate, no_net, first_gate_net, net_count, gate_at, arg_at}
use Rattle.ht_net.specs.Frames.Faults.{is_stem, is_pin}
use Rattle.ht_net.proofs.Depth.{IsDepth}
use Rattle.ht_net.proofs.FrameLaws.{le_or_lt}
use Rattle.ht_slow.specs.Slow.{carrier_of}
use Rattle.ht_slow.specs.ExpandedLine.{moved, before_net, line_net, both_net, read_net, net, expanded_line}
use Rattle.ht_slow.proofs.PlaceLaws.{read_gate, line_gate, both_gate, gates_length, old_gate, first_new_gate, second_new_gate, args_length, old_arg, dffs_length}

-- what is deeper than d moves down by two
abbrev pub lowered : ℕ → ℕ → ℕ
lowered d k = cond (ltb d k) (k + 2) k

pub lowered_falls : (d j k : ℕ) → j < k → lowered d j < lowered d k
lowered_falls d j k h = grind (arith, nat_tests)

pub lowered_past : (d k : ℕ) → d < k → d + 2 < lowered d k
lowered_past d k h = grind (arith, nat_tests)

pub lowered_small : (d k n : ℕ) → k ≤ n → lowered d k ≤ n + 2
lowered_small d k n h = grind (arith, nat_tests)

abbrev pub wide_depth : Netlist → Site → (ℕ → ℕ) → ℕ → ℕ
wide_depth c site depth n =
    cond (ltb n (first_gate_net c)) (lowered (depth (carrier_of c site)) (depth n))
    (cond (eqb n (first_gate_net c)) 0
    (cond (ltb n (suc (net_count c))) (lowered (depth (carrier_of c site)) (depth (n - 1)))
    (cond (eqb n (suc (net_count c))) (depth (carrier_of c site) + 2) (depth (carrier_of c site) + 1))))

module _ (c : Netlist) (site : Site) (depth : ℕ → ℕ) where
  abbrev at : ℕ
  at = carrier_of c site

  abbrev deepness : ℕ → ℕ
  deepness = wide_depth c site depth

  depth_moved : (x : ℕ) → x < net_count c → deepness (moved c x) ≡ lowered (depth at) (depth x)
  depth_moved x h = elim (le_or_lt (first_gate_net c) x) [
    | inl k ↦ let e : suc x - 1 ≡ x = omega arith in
        let f : lowered (depth at) (depth (suc x - 1)) ≡ lowered (depth at) (depth x) =
        ap (λ (n : ℕ). lowered (depth at) (depth n)) e in
        grind (arith, nat_tests)
    | inr k ↦ grind (arith, nat_tests)
  ]

  depth_line : deepness (line_net c) ≡ depth at + 2
  depth_line = grind (arith, nat_tests)

  depth_both : deepness (both_net c) ≡ depth at + 1
  depth_both = grind (arith, nat_tests)

  depth_before : deepness (before_net c) ≡ 0
  depth_before = grind (arith, nat_tests)

-- a load that sees the line reads its net
sees : (c : Netlist) (site : Site) (g i : ℕ) → is_stem site (arg_at c g i) ≡ true → carrier_of c site ≡ arg_at c g i
sees c (Stem y) g i h = elim (eqb_tells (arg_at c g i) y.0) [
  | inl p ↦ sym p.1
  | inr p ↦ absurd (true≢false (sym h ∙ p.0))
]
sees c (DffPin j) g i h = absurd (true≢false (sym h))
sees c (GatePin k l) g i h = absurd (true≢false (sym h))

is_load : (c : Netlist) (site : Site) (g i : ℕ) → is_pin site g i ≡ true → carrier_of c site ≡ arg_at c g i
is_load c (Stem y) g i p = absurd (true≢false (sym p))
is_load c (DffPin j) g i p = absurd (true≢false (sym p))
is_load c (GatePin h k) g i p = elim (eqb_tells g h) [
  | inl a ↦ elim (eqb_tells i k) [
    | inl b ↦ ap (λ (n : ℕ). arg_at c n k) (sym a.1) ∙ ap (λ (n : ℕ). arg_at c g n) (sym b.1)
    | inr b ↦ absurd (true≢false (sym p ∙ (ap (λ (t : Bool). t && eqb i k) a.0 ∙ b.0)))
  ]
  | inr a ↦ absurd (true≢false (sym p ∙ ap (λ (t : Bool). t && eqb i k) a.0))
]

module _ (c : Netlist) (site : Site) (names : List (List ℕ)) (depth : ℕ → ℕ) (deep : IsDepth c depth)
    (inside : carrier_of c site < net_count c) where
  abbrev big : Netlist
  big = expanded_line c site names

  first_is : first_gate_net big ≡ suc (first_gate_net c)
  first_is = let d = dffs_length c site 0 c.dffs in omega (arith, d)

  count_is : net_count big ≡ net_count c + 3
  count_is = let d = dffs_length c site 0 c.dffs in let g = gates_length c site 0 c.gates in omega (arith, d, g)

  -- a net that is read in place of another, by whether the line is seen
  net_falls : (a : NetId) (stem at_line : Bool) (d : ℕ) → a.0 < net_count c
      → (stem ≡ true → carrier_of c site ≡ a.0) → (at_line ≡ true → carrier_of c site ≡ a.0) → depth a.0 < d
      → wide_depth c site depth (cond stem (line_net c) (cond at_line (line_net c) (moved c a.0)))
      < lowered (depth (carrier_of c site)) d
  net_falls a true at_line d h s p less =
      let e = depth_line c site depth in
      let f : depth (carrier_of c site) ≡ depth a.0 = ap depth (s refl) in
      let l = lowered_past (depth (carrier_of c site)) d (omega (arith, f)) in
      omega (arith, e, l)
  net_falls a false true d h s p less =
      let e = depth_line c site depth in
      let f : depth (carrier_of c site) ≡ depth a.0 = ap depth (p refl) in
      let l = lowered_past (depth (carrier_of c site)) d (omega (arith, f)) in
      omega (arith, e, l)
  net_falls a false false d h s p less =
      let e = depth_moved c site depth a.0 h in
      let l = lowered_falls (depth (carrier_of c site)) (depth a.0) d less in
      omega (arith, e, l)

  pub net_known : (a : NetId) (stem at_line : Bool) → a.0 < net_count c
      → cond stem (line_net c) (cond at_line (line_net c) (moved c a.0)) < net_count big
  net_known a true at_line h = let t = count_is in omega (arith, t)
  net_known a false true h = let t = count_is in omega (arith, t)
  net_known a false false h = let t = count_is in elim (le_or_lt (first_gate_net c) a.0) [
    | inl k ↦ grind (arith, nat_tests)
    | inr k ↦ grind (arith, nat_tests)
  ]

  pub old_arg_is : (g i : ℕ) → g < length c.gates → i < length (gate_at c g).args
      → arg_at big g i ≡ (read_net c site (is_pin site g i) (get_or (gate_at c g).args i no_net)).0
  old_arg_is g i h l =
      let z : 0 + g ≡ g = omega arith in
      let y : 0 + i ≡ i = omega arith in
      ap (λ (gate : Gate). (get_or gate.args i no_net).0)
      (old_gate c site 0 c.gates g h ∙ ap (λ (n : ℕ). read_gate c site n (gate_at c g)) z)
      ∙ ap (λ (a : NetId). a.0) (old_arg c site g 0 (gate_at c g).args i l
      ∙ ap (λ (n : ℕ). read_net c site (is_pin site g n) (get_or (gate_at c g).args i no_net)) y)

  pub old_width : (g : ℕ) → g < length c.gates → length (gate_at big g).args ≡ length (gate_at c g).args
  old_width g h = ap (λ (gate : Gate). length gate.args) (old_gate c site 0 c.gates g h)
      ∙ args_length c site (0 + g) 0 (gate_at c g).args

  gate_depth : (g : ℕ) → g < length c.gates → wide_depth c site depth (first_gate_net big + g)
      ≡ lowered (depth (carrier_of c site)) (depth (first_gate_net c + g))
  gate_depth g h =
      let f = first_is in
      let m : first_gate_net big + g ≡ moved c (first_gate_net c + g) = grind (arith, nat_tests) in
      ap (wide_depth c site depth) m ∙ depth_moved c site depth (first_gate_net c + g) (omega arith)

  first_gate_depth : wide_depth c site depth (first_gate_net big + length c.gates) ≡ depth (carrier_of c site) + 2
  first_gate_depth =
      let f = first_is in
      let m : first_gate_net big + length c.gates ≡ line_net c = omega (arith, f) in
      ap (wide_depth c site depth) m ∙ depth_line c site depth

  second_gate_depth : wide_depth c site depth (first_gate_net big + suc (length c.gates))
      ≡ depth (carrier_of c site) + 1
  second_gate_depth =
      let f = first_is in
      let m : first_gate_net big + suc (length c.gates) ≡ both_net c = omega (arith, f) in
      ap (wide_depth c site depth) m ∙ depth_both c site depth

  -- the arguments of a gate are there, and less deep than gate g
  abbrev Fits : ℕ → Gate → Type 0
  Fits g gate = (i : ℕ) → i < length gate.args → ((get_or gate.args i no_net).0 < net_count big)
      × (wide_depth c site depth (get_or gate.args i no_net).0 < wide_depth c site depth (first_gate_net big + g))

  line_at : Fits (length c.gates) (line_gate c site)
  line_at zero h =
      let d = first_gate_depth in
      let m = depth_moved c site depth (carrier_of c site) inside in
      let k = net_known (net (carrier_of c site)) false false inside in
      let l : lowered (depth (carrier_of c site)) (depth (carrier_of c site)) ≡ depth (carrier_of c site) =
      grind (arith, nat_tests) in
      (k, omega (arith, d, m, l))
  line_at (suc zero) h =
      let d = first_gate_depth in
      let b = depth_both c site depth in
      let t = count_is in
      (omega (arith, t), omega (arith, d, b))
  line_at (suc (suc i)) h = absurd (omega arith)

  both_at : Fits (suc (length c.gates)) (both_gate c site)
  both_at zero h =
      let d = second_gate_depth in
      let m = depth_moved c site depth (carrier_of c site) inside in
      let k = net_known (net (carrier_of c site)) false false inside in
      let l : lowered (depth (carrier_of c site)) (depth (carrier_of c site)) ≡ depth (carrier_of c site) =
      grind (arith, nat_tests) in
      (k, omega (arith, d, m, l))
  both_at (suc zero) h =
      let d = second_gate_depth in
      let b = depth_before c site depth in
      let t = count_is in
      (omega (arith, t), omega (arith, d, b))
  both_at (suc (suc i)) h = absurd (omega arith)

  fits_old : (g i : ℕ) → g < length c.gates → i < length (gate_at big g).args
      → (arg_at big g i < net_count big)
      × (wide_depth c site depth (arg_at big g i) < wide_depth c site depth (first_gate_net big + g))
  fits_old g i h l =
      let w = old_width g h in
      let i_in : i < length (gate_at c g).args = omega (arith, w) in
      let a : NetId = get_or (gate_at c g).args i no_net in
      let is = old_arg_is g i h i_in in
      let here = deep.known g i h i_in in
      let less = deep.falls g i h i_in in
      let d = gate_depth g h in
      let known = net_known a (is_stem site a.0) (is_pin site g i) here in
      let falls = net_falls a (is_stem site a.0) (is_pin site g i) (depth (first_gate_net c + g)) here (sees c site g i)
      (is_load c site g i) less in (
        subst (λ (n : ℕ). n < net_count big) (sym is) known,
        subst (λ (n : ℕ). wide_depth c site depth n < wide_depth c site depth (first_gate_net big + g)) (sym is)
            (subst (λ (n : ℕ). wide_depth c site depth (read_net c site (is_pin site g i) a).0 < n) (sym d) falls),
      )

  fits : (g : ℕ) → g < length big.gates → Fits g (gate_at big g)
  fits g h =
      let n = gates_length c site 0 c.gates in
      elim (le_or_lt (length c.gates) g) [
        | inr old ↦ λ i l. fits_old g i old l
        | inl new ↦ elim (eqb_tells g (length c.gates)) [
          | inl p ↦ subst (λ (k : ℕ). Fits k (gate_at big k)) (sym p.1)
              (subst (Fits (length c.gates)) (sym (first_new_gate c site 0 c.gates)) line_at)
          | inr p ↦
              let is : suc (length c.gates) ≡ g = omega (arith, n, p.1) in
              subst (λ (k : ℕ). Fits k (gate_at big k)) is
              (subst (Fits (suc (length c.gates))) (sym (second_new_gate c site 0 c.gates)) both_at)
        ]
      ]

  small : (x : ℕ) → x < net_count big → wide_depth c site depth x ≤ length big.gates
  small x h =
      let n : length big.gates ≡ length c.gates + 2 = gates_length c site 0 c.gates in
      let t = count_is in
      let a = deep.small (carrier_of c site) inside in
      elim (le_or_lt (suc (first_gate_net c)) x) [
        | inr low ↦ elim (le_or_lt (first_gate_net c) x) [
          | inl e ↦ grind (arith, nat_tests)
          | inr l ↦
              let s = lowered_small (depth (carrier_of c site)) (depth x) (length c.gates)
              (deep.small x (omega arith)) in
              grind (arith, nat_tests)
        ]
        | inl up ↦ elim (le_or_lt (suc (net_count c)) x) [
          | inr l ↦
              let s = lowered_small (depth (carrier_of c site)) (depth (x - 1)) (length c.gates)
              (deep.small (x - 1) (omega arith)) in
              grind (arith, nat_tests)
          | inl l ↦ grind (arith, nat_tests)
        ]
      ]

  pub expanded_depth : (d : ℕ → ℕ) × IsDepth big d
  expanded_depth = (
    wide_depth c site depth,
    record {
      small = small;
      known = λ g i h l. (fits g h i l).0;
      falls = λ g i h l. (fits g h i l).1;
    },
  )
