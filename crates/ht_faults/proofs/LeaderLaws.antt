-- Faults of the list have one leader exactly where they are in one class.
use Rattle.std.proofs.Common.{◌≡◌, ◌<◌, ◌≤◌, ◌+◌, ◌⊎◌, ℕ, List, Bool, true, false, cond, Option, Some, None, length, get_or, refl, sym, ◌∙◌, ap, arith, inl, inr, subst}
use Rattle.ht_net.specs.declared.fault.Site.{Site}
use Rattle.ht_net.specs.declared.fault.Site.TheVariants.{Stem, DffPin, GatePin}
use Rattle.ht_net.specs.declared.fault.Fault.{Fault}
use Rattle.ht_net.specs.Circuit.Netlist.{Netlist, first_gate_net, net_count, gate_at, arg_at, IsCircuit}
use Rattle.ht_faults.specs.Sites.{is_fanout, IsFaultSite, faults_of}
use Rattle.ht_net.specs.Circuit.Levels.{loads_of}
use Rattle.ht_faults.proofs.MemberLaws.{fault_site}
use Rattle.ht_faults.specs.Classes.{EquivalentPair, SameClass, itself, paired, turned, joined, fault_at, output_line}
use Rattle.ht_faults.specs.Leaders.{stem_number, output_value, output_number, StayInClass, GateJoins, leader_after, leader_by, AreLeaders}
use Rattle.ht_faults.proofs.LoadLaws.{many_loads}
use Rattle.ht_faults.proofs.FaultListLaws.{listed_once, number_below, stem_listed, stems_listed}

-- the leader of a fault that has the number i
abbrev leader_at : Netlist → List ℕ → ℕ → Fault → ℕ
leader_at c stems i f = leader_by c stems i f.site f.value

module _ (c : Netlist) (circuit : IsCircuit c) (stems : List ℕ) (stay : StayInClass c stems)
    (joins : (g : ℕ) → g < length c.gates → GateJoins c stems g) where
  -- two faults are one, or have one leader whatever their numbers are
  abbrev Meets : Fault → Fault → Type 0
  Meets f g = (f ≡ g) ⊎ ((i j : ℕ) → leader_at c stems i f ≡ leader_at c stems j g)

  -- an input fault has the leader of the output fault
  input_leader : (g p : ℕ) (v w : Bool) → g < length c.gates → p < length (gate_at c g).args → output_value c g v
      ≡ Some w
      → (i : ℕ)
      → (fanout : Bool) → is_fanout c (arg_at c g p) ≡ fanout
      → leader_by c stems i (cond fanout (GatePin g p) (Stem (record { 0 = arg_at c g p }))) v
      ≡ get_or stems (output_number c g w) 0
  input_leader g p v w inside pin values i true is = ap (leader_after c stems i g) values
  input_leader g p v w inside pin values i false is = (joins g inside p pin).joins v w is values

  pair_meets : (f g : Fault) → EquivalentPair c f g → (i j : ℕ) → leader_at c stems i f ≡ leader_at c stems j g
  pair_meets f g h i j =
      ap (λ (s : Site). leader_by c stems i s f.value) h.at_input
      ∙ (input_leader h.gate h.pin f.value g.value h.is_gate h.is_pin h.values i (is_fanout c (arg_at c h.gate h.pin))
      refl
      ∙ sym (ap (λ (s : Site). leader_by c stems j s g.value) h.at_output))

  meets_back : (f g : Fault) → Meets f g → Meets g f
  meets_back f g (inl e) = inl (sym e)
  meets_back f g (inr h) = inr (λ i j. sym (h j i))

  join : (f g k : Fault) → Meets f g → Meets g k → Meets f k
  join f g k (inl e) h = subst (λ (x : Fault). Meets x k) (sym e) h
  join f g k (inr h) (inl e) = subst (λ (x : Fault). Meets f x) e (inr h)
  join f g k (inr h) (inr l) = inr (λ i j. h i 0 ∙ l 0 j)

  class_meets : (f g : Fault) → SameClass c f g → Meets f g
  class_meets _ _ (itself f) = inl refl
  class_meets _ _ (paired f g h) = inr (pair_meets f g h)
  class_meets _ _ (turned f g h) = meets_back f g (class_meets f g h)
  class_meets _ _ (joined f g k h l) = join f g k (class_meets f g h) (class_meets g k l)

  -- a fault's leader is a fault of its class
  abbrev LeadsToMember : ℕ → Fault → ℕ → Type 0
  LeadsToMember i f e = (e < length (faults_of c)) × SameClass c f (fault_at c e)

  stem_leads_to_member : (i x : ℕ) (v : Bool) (f : Fault) → x < net_count c
      → SameClass c f (fault_at c (stem_number x v))
      → LeadsToMember i f (get_or stems (stem_number x v) 0)
  stem_leads_to_member i x v f inside h =
      let at : stem_number x v < length stems = let b = number_below x (net_count c) v inside in let e = stay.every
      in omega arith in
      let low = stay.known (stem_number x v) at in
      let some = stems_listed c in
      let long = stay.every in
      let a : get_or stems (stem_number x v) 0 < length (faults_of c) = omega arith in (
        a,
        joined f (fault_at c (stem_number x v)) (fault_at c (get_or stems (stem_number x v) 0)) h
            (stay.member (stem_number x v) at),
      )

  pin_leads_to_member : (i g p : ℕ) (v : Bool) (f : Fault) → i < length (faults_of c) → f ≡ fault_at c i → f
      ≡ record { site = GatePin g p; value = v }
      → g < length c.gates → p < length (gate_at c g).args → is_fanout c (arg_at c g p) ≡ true
      → (o : Option Bool) → output_value c g v ≡ o → LeadsToMember i f (leader_after c stems i g o)
  pin_leads_to_member i g p v f listed at is inside pin fanout None values =
      (listed, subst (λ (x : Fault). SameClass c f x) at (itself f))
  pin_leads_to_member i g p v f listed at is inside pin fanout (Some w) values =
      let output : Fault = record { site = output_line c g; value = w } in
      let pair : EquivalentPair c f (record { site = output_line c g; value = w }) = record {
        gate = g;
        is_gate = inside;
        pin = p;
        is_pin = pin;
        at_input = ap (λ (x : Fault). x.site) is ∙ sym
            (ap (λ (b : Bool). let s : Site = cond b (GatePin g p) (Stem (record { 0 = arg_at c g p })) in s) fanout);
        at_output = refl;
        values = ap (λ (x : Fault). output_value c g x.value) is ∙ values;
      } in
      stem_leads_to_member i (first_gate_net c + g) w f (omega arith)
      (subst (λ (x : Fault). SameClass c f x) (sym (stem_listed c (first_gate_net c + g) w (omega arith)))
      (paired f output pair))

  leads_to_member_by : (i : ℕ) (f : Fault) → i < length (faults_of c) → f ≡ fault_at c i → (s : Site) (v : Bool) → f
      ≡ record { site = s; value = v }
      → IsFaultSite c s → LeadsToMember i f (leader_by c stems i s v)
  leads_to_member_by i f listed at (Stem x) v is site =
      stem_leads_to_member i x.0 v f site
      (subst (λ (y : Fault). SameClass c f y) (is ∙ sym (stem_listed c x.0 v site)) (itself f))
  leads_to_member_by i f listed at (DffPin j) v is site = (listed, subst (λ (x : Fault). SameClass c f x) at (itself f))
  leads_to_member_by i f listed at (GatePin g p) v is site =
      let more : 2 ≤ loads_of c (arg_at c g p) = site.2 in
      pin_leads_to_member i g p v f listed at is site.0 site.1 (many_loads c (arg_at c g p) (omega arith))
      (output_value c g v) refl

  leads_to_member : (i : ℕ) → i < length (faults_of c)
      → LeadsToMember i (fault_at c i) (leader_at c stems i (fault_at c i))
  leads_to_member i listed = leads_to_member_by i (fault_at c i) listed refl (fault_at c i).site (fault_at c i).value
      refl
      (fault_site c i listed)

  -- what faults lead to, by number, are leaders
  pub are_leaders : (leaders : List ℕ) → length leaders ≡ length (faults_of c)
      → ((i : ℕ) → i < length (faults_of c) → get_or leaders i 0 ≡ leader_by c stems i (fault_at c i).site
      (fault_at c i).value) → AreLeaders c leaders
  are_leaders leaders long is = record {
    every = long;
    known = λ i l.
        let listed : i < length (faults_of c) = omega arith in
        let e = is i listed in
        let w = (leads_to_member i listed).0 in
        omega arith;
    exact = λ i j l m.
        let a : i < length (faults_of c) = omega arith in
        let b : j < length (faults_of c) = omega arith in
        let well_i : SameClass c (fault_at c i) (fault_at c (get_or leaders i 0)) = subst
        (λ (n : ℕ). SameClass c (fault_at c i) (fault_at c n)) (sym (is i a)) (leads_to_member i a).1 in
        let well_j : SameClass c (fault_at c j) (fault_at c (get_or leaders j 0)) = subst
        (λ (n : ℕ). SameClass c (fault_at c j) (fault_at c n)) (sym (is j b)) (leads_to_member j b).1 in (
          λ e. joined (fault_at c i) (fault_at c (get_or leaders i 0)) (fault_at c j) well_i
              (subst (λ (n : ℕ). SameClass c (fault_at c n) (fault_at c j)) (sym e)
              (turned (fault_at c j) (fault_at c (get_or leaders j 0)) well_j)),
          λ h. same_leader leaders is i j a b (class_meets (fault_at c i) (fault_at c j) h),
        );
  }
    where
      same_leader : (leaders : List ℕ)
          → ((i : ℕ) → i < length (faults_of c) → get_or leaders i 0 ≡ leader_by c stems i (fault_at c i).site
          (fault_at c i).value)
          → (i j : ℕ) → i < length (faults_of c) → j < length (faults_of c) → Meets (fault_at c i) (fault_at c j)
          → get_or leaders i 0 ≡ get_or leaders j 0
      same_leader leaders is i j a b (inl e) = ap (λ (n : ℕ). get_or leaders n 0) (listed_once c i j a b e)
      same_leader leaders is i j a b (inr h) = is i a ∙ (h i j ∙ sym (is j b))
