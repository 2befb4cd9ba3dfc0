-- Cubes and steps that pass refute the fault.
use Rattle.std.proofs.Common.{◌≡◌, ◌<◌, ◌+◌, ◌*◌, ℕ, suc, zero, List, [], ◌∷◌, ◌++◌, map, Bool, true, false, not, length, get_or, refl, sym, ◌∙◌, ap, subst, arith, inl, inr}
use Rattle.std.specs.Prelude.{nat_eq}
use Rattle.std.specs.List.{Contains, filter, flat_map, list_any}
use Rattle.std.proofs.lemmas.List.{get_or_past}
use Rattle.std.proofs.lemmas.Bool.{both_ways, cases_Bool, cases_lt, cond_both, cond-true, cond-false, or_left, or_right, and_parts, not-true, not_from_false, eqb-true, eq-eqb}
use Rattle.std.proofs.lemmas.List.Elements.{All-nil, All-cons, All-append, All-map, All-contains, Contains-get_or, Contains-append_left, Contains-append_right}
use Rattle.ht_tern.specs.declared.tern.Tern.{Tern}
use Rattle.ht_tern.specs.declared.tern.Tern.TheVariants.{Unk}
use Rattle.ht_tern.specs.Gate.{tern_of}
use Rattle.ht_tern.specs.Opposite.{Opposite}
use Rattle.ht_net.specs.declared.net.NetId.{NetId}
use Rattle.ht_net.specs.declared.fault.Fault.{Fault}
use Rattle.ht_net.specs.Circuit.Netlist.{Netlist, IsCircuit, net_count, no_net}
use Rattle.ht_net.specs.Frames.Frame.{frame_outputs, values_at}
use Rattle.ht_net.specs.Detect.Detection.{terns_of}
use Rattle.ht_net.proofs.ValueLaws.{seen_get, seen_length}
use Rattle.ht_net.proofs.KeptLaws.{contains_map}
use Rattle.ht_cubes.specs.declared.rail.Rail.{Rail}
use Rattle.ht_cubes.specs.declared.signed_var.SignedVar.{SignedVar}
use Rattle.ht_cubes.specs.declared.clause_step.ClauseStep.{ClauseStep}
use Rattle.ht_cubes.specs.Rails.{JointState, Avoids, AvoidsAll, AgreesOutside}
use Rattle.ht_cubes.specs.Cubes.{next_joint, joint_output, AreKeptFrom, CubesRefute}
use Rattle.ht_cubes.specs.Formula.{positive, needs, frame_clauses, cube_clause, next_target, differs_target, output_targets, is_constant, may_come, all_targets, targets_of, target_clauses, some_target, without_constants, first_target, clauses_of}
use Rattle.ht_cubes.specs.Passing.{RefutesByCubes}
use Rattle.ht_cubes.proofs.OutsideLaws.{net_outside}
use Rattle.ht_cubes.proofs.MeaningLaws.{truth_of, IsTrueClause, AreTrueClauses, any_found, any_from, needs_some, just_one}
use Rattle.ht_cubes.proofs.StepLaws.{refuted_by_steps}
use Rattle.ht_cubes.proofs.FrameLaws.{always_true, target_value, AllTrue, opposite_bits, seen, values, frame_true, cube_true, next_true, differs_true, driven}

-- an element that passes a test is among those that pass
pub contains_filter : {X : Type 0} (p : X → Bool) (xs : List X) (x : X) → Contains xs x → p x ≡ true
    → Contains (filter p xs) x
contains_filter {X} p xs x h passes = at xs h.0 h.1 h.2
  where
    at : (ys : List X) (k : ℕ) → k < length ys → get_or ys k x ≡ x → Contains (filter p ys) x
    at [] k l e = absurd (omega arith)
    at (y ∷ ys) zero l e =
        let here : p y ≡ true = ap p e ∙ passes in
        let P : List X → Type 0 = λ zs. Contains zs x in
        subst P (sym (cond-true (p y) (y ∷ filter p ys) (filter p ys) here)) (0, omega arith, e)
    at (y ∷ ys) (suc k) l e =
        let rest = at ys k (omega arith) e in
        cond_both (p y) (y ∷ filter p ys) (filter p ys) (λ zs. Contains zs x)
        (λ yes. (suc rest.0, omega (arith, rest.1), rest.2)) (λ no. rest)

-- an element of one of the lists is an element of the lists joined
pub contains_flat : {X Y : Type 0} (f : X → List Y) (xs : List X) (x : X) (y : Y) → Contains xs x → Contains (f x) y
    → Contains (flat_map f xs) y
contains_flat {X} {Y} f xs x y h inside = at xs h.0 h.1 h.2
  where
    at : (zs : List X) (k : ℕ) → k < length zs → get_or zs k x ≡ x → Contains (flat_map f zs) y
    at [] k l e = absurd (omega arith)
    at (z ∷ zs) zero l e =
        let P : X → Type 0 = λ w. Contains (f w) y in
        Contains-append_left (f z) (flat_map f zs) y (subst P (sym e) inside)
    at (z ∷ zs) (suc k) l e = Contains-append_right (f z) (flat_map f zs) y (at zs k (omega arith) e)

module _ (values : ℕ → Bool) (always : values 0 ≡ true) where
  -- the constant false isn't true
  constant_fails : (l : SignedVar) → is_constant false l ≡ true → truth_of values l ≡ true → ⊥
  constant_fails l h so =
      let parts = and_parts (nat_eq l.variable 0) (not l.value) h in
      let zero_one : l.variable ≡ 0 = eqb-true l.variable 0 parts.0 in
      let off : l.value ≡ false = not-true l.value parts.1 in
      both_ways (truth_of values l)
      (cond-false l.value (values l.variable) (not (values l.variable)) off
      ∙ ap not (ap values zero_one ∙ always)) so

  kept_true : (clause : List SignedVar) → IsTrueClause values clause
      → IsTrueClause values (filter (λ l. not (is_constant false l)) clause)
  kept_true clause h =
      let (x, inside, is) = any_found (truth_of values) clause h in
      elim (cases_Bool (is_constant false x)) [
        | inl bad ↦ absurd (constant_fails x bad is)
        | inr good ↦ any_from (truth_of values) (filter (λ l. not (is_constant false l)) clause) x
            (contains_filter (λ l. not (is_constant false l)) clause x inside
            (not_from_false (is_constant false x) good)) is
      ]

  -- clauses stay true without constants
  plain_true : (clauses : List (List SignedVar)) → AreTrueClauses values clauses
      → AreTrueClauses values (flat_map without_constants clauses)
  plain_true [] h = All-nil (IsTrueClause values)
  plain_true (clause ∷ more) h =
      All-append (IsTrueClause values) (without_constants clause) (flat_map without_constants more)
      (cond_both (list_any (is_constant true) clause) [] (filter (λ l. not (is_constant false l)) clause ∷ [])
      (AreTrueClauses values) (λ yes. All-nil (IsTrueClause values))
      (λ no. All-cons (IsTrueClause values) (filter (λ l. not (is_constant false l)) clause) []
      (kept_true clause (h 0 [] (omega arith))) (All-nil (IsTrueClause values))))
      (plain_true more (λ k d l. h (suc k) d (omega arith)))

  -- a target of which all is true has no constant false
  comes_true : (target : List SignedVar) → AllTrue values target → may_come target ≡ true
  comes_true target h = elim (cases_Bool (list_any (is_constant false) target)) [
    | inl bad ↦
        let (x, inside, is) = any_found (is_constant false) target bad in
        absurd (constant_fails x is (All-contains (λ (l : SignedVar). truth_of values l ≡ true) target x h inside))
    | inr good ↦ not_from_false (list_any (is_constant false) target) good
  ]

  targets_true : (d : List SignedVar) (first : ℕ) (targets : List (List SignedVar))
      → ((i : ℕ) → i < length targets → values (first + i) ≡ true → AllTrue values (get_or targets i d))
      → AreTrueClauses values (target_clauses first targets)
  targets_true d first [] h = All-nil (IsTrueClause values)
  targets_true d first (target ∷ more) h =
      All-append (IsTrueClause values) (map (λ l. needs (positive first) (l ∷ [])) target)
      (target_clauses (suc first) more)
      (All-map (IsTrueClause values) (λ l. needs (positive first) (l ∷ [])) target
      (λ k e inside. needs_some values (positive first) (get_or target k e ∷ [])
      (λ so. just_one values (get_or target k e)
      (h 0 (omega arith) (ap values (let z : first + 0 ≡ first = omega arith in z) ∙ so) k e inside))))
      (targets_true d (suc first) more
      (λ i l so. h (suc i) (omega arith)
      (ap values (let z : first + suc i ≡ suc first + i = omega arith in z) ∙ so)))

  some_true : (first : ℕ) (targets : List (List SignedVar)) (i : ℕ) → i < length targets
      → values (first + i) ≡ true → IsTrueClause values (some_target first targets)
  some_true first [] i l so = absurd (omega arith)
  some_true first (target ∷ more) zero l so =
      or_left (truth_of values (positive first)) (list_any (truth_of values) (some_target (suc first) more))
      (ap values (let z : first ≡ first + 0 = omega arith in z) ∙ so)
  some_true first (target ∷ more) (suc i) l so =
      or_right (truth_of values (positive first)) (list_any (truth_of values) (some_target (suc first) more))
      (some_true (suc first) more i (omega arith)
      (ap values (let z : suc first + i ≡ first + suc i = omega arith in z) ∙ so))

not_itself : (t : Tern) → Opposite t t → ⊥
not_itself t h =
    let (bit, one, two) = opposite_bits t t h in
    unlike bit (sym one ∙ two)
  where
    unlike : (bit : Bool) → tern_of bit ≡ tern_of (not bit) → ⊥
    unlike true e = cc
    unlike false e = cc

module _ (c : Netlist) (circuit : IsCircuit c) (fault : Fault) (start : List Tern) (cubes : List (List Rail))
    (steps : List ClauseStep) (h : RefutesByCubes c fault start cubes steps) where
  module _ (bits : List Bool) (s : JointState) (agree : AgreesOutside c h.cone s) (avoids : AvoidsAll s cubes) where
    -- the values where the target of a variable comes
    abbrev valued : (ℕ → Bool) → ℕ → Bool
    valued comes = values c circuit fault h.cone h.is_cone.encloses bits s agree comes

    zero_true : (comes : ℕ → Bool) → valued comes 0 ≡ true
    zero_true comes = always_true (net_count c) (driven c circuit fault h.cone h.is_cone.encloses bits s agree) comes

    clauses_true : (comes : ℕ → Bool) (d : List SignedVar)
        → ((i : ℕ) → i < length (targets_of c fault h.cone cubes) → valued comes (first_target c + i) ≡ true
        → AllTrue (valued comes) (get_or (targets_of c fault h.cone cubes) i d))
        → (k : ℕ) → k < length (targets_of c fault h.cone cubes) → valued comes (first_target c + k) ≡ true
        → AreTrueClauses (valued comes) (clauses_of c fault h.cone cubes)
    clauses_true comes d each k inside so =
        let T = IsTrueClause (valued comes) in
        let targets = targets_of c fault h.cone cubes in
        let first = first_target c in
        let always : valued comes 0 ≡ true = zero_true comes in
        let frame = frame_clauses c fault h.cone in
        let denied = map (cube_clause c h.cone) cubes in
        All-append T (frame ++ denied ++ target_clauses first targets) (some_target first targets ∷ [])
        (All-append T (frame ++ denied) (target_clauses first targets)
        (All-append T frame denied
        (frame_true c circuit fault h.cone h.is_cone.encloses bits s agree comes)
        (All-map T (cube_clause c h.cone) cubes
        (λ j e l. cube_true c circuit fault h.cone h.is_cone.encloses bits s agree comes (get_or cubes j e)
        (h.known j e l) (avoids j e l))))
        (targets_true (valued comes) always d first targets each))
        (All-cons T (some_target first targets) [] (some_true (valued comes) always first targets k inside so)
        (All-nil T))

    -- no target has all that is true
    target_excluded : (target : List SignedVar) → Contains (all_targets c fault h.cone cubes) target
        → ((comes : ℕ → Bool) → AllTrue (valued comes) target) → ⊥
    target_excluded target has all =
        let may : may_come target ≡ true = comes_true (valued (λ n. false)) (zero_true (λ n. false)) target
        (all (λ n. false)) in
        let inside = contains_filter may_come (all_targets c fault h.cone cubes) target has may in
        let k = inside.0 in
        let first = first_target c in
        let targets = targets_of c fault h.cone cubes in
        let comes : ℕ → Bool = λ n. nat_eq n (first + k) in
        let at : (i : ℕ) → valued comes (first + i) ≡ comes (first + i) = λ i.
        let e : first + i ≡ suc (net_count c * 4 + i) = omega arith in
        ap (valued comes) e ∙ (target_value (net_count c) (driven c circuit fault h.cone h.is_cone.encloses bits s agree)
        comes (net_count c * 4 + i) (omega arith) ∙ ap comes (sym e)) in
        refuted_by_steps (valued comes) _ steps
        (plain_true (valued comes) (zero_true comes) (clauses_of c fault h.cone cubes)
        (clauses_true comes target
        (λ i l so.
        let same : first + i ≡ first + k = eqb-true (first + i) (first + k) (sym (at i) ∙ so) in
        let here : i ≡ k = omega arith in
        let P : List SignedVar → Type 0 = λ t. AllTrue (valued comes) t in
        subst P (sym (ap (λ (n : ℕ). get_or targets n target) here ∙ inside.2)) (all comes))
        k inside.1 (at k ∙ eq-eqb (first + k) (first + k) refl)))
        h.passes h.ends

    avoided : (k : ℕ) (d : List Rail) → k < length cubes → Avoids (next_joint c fault bits s) (get_or cubes k d)
    avoided k d inside all =
        let cube = get_or cubes k d in
        target_excluded (next_target c fault h.cone cube)
        (Contains-append_left (map (next_target c fault h.cone) cubes) _ (next_target c fault h.cone cube)
        (contains_map (next_target c fault h.cone) cubes cube (Contains-get_or cubes k d inside)))
        (λ comes. next_true c circuit fault h.cone h.is_cone.encloses bits s agree comes cube (h.known k d inside) all)

    -- both values of an output in the cone are targets
    has_target : (net : NetId) (bit : Bool) → h.cone net.0 ≡ true
        → Contains (output_targets c fault h.cone net) (differs_target c fault h.cone net.0 bit)
    has_target net bit in_it =
        let two = differs_target c fault h.cone net.0 false ∷ differs_target c fault h.cone net.0 true ∷ [] in
        let P : List (List SignedVar) → Type 0 = λ l. Contains l (differs_target c fault h.cone net.0 bit) in
        subst P (sym (cond-true (h.cone net.0) two [] in_it)) (one bit)
      where
        one : (bit : Bool)
            → Contains (differs_target c fault h.cone net.0 false ∷ differs_target c fault h.cone net.0 true ∷ [])
            (differs_target c fault h.cone net.0 bit)
        one false = (0, omega arith, refl)
        one true = (1, omega arith, refl)

    net_same : (o : ℕ) → o < length c.outputs
        → Opposite (seen c circuit fault h.cone h.is_cone.encloses bits s agree false (get_or c.outputs o no_net).0)
        (seen c circuit fault h.cone h.is_cone.encloses bits s agree true (get_or c.outputs o no_net).0) → ⊥
    net_same o inside opposite =
        let net = get_or c.outputs o no_net in
        let see = seen c circuit fault h.cone h.is_cone.encloses bits s agree in
        elim (cases_Bool (h.cone net.0)) [
          | inl in_it ↦
              let (bit, good, faulty) = opposite_bits (see false net.0) (see true net.0) opposite in
              target_excluded (differs_target c fault h.cone net.0 bit)
              (Contains-append_right (map (next_target c fault h.cone) cubes) _ (differs_target c fault h.cone net.0 bit)
              (contains_flat (output_targets c fault h.cone) c.outputs net (differs_target c fault h.cone net.0 bit)
              (Contains-get_or c.outputs o no_net inside) (has_target net bit in_it)))
              (λ comes. differs_true c circuit fault h.cone h.is_cone.encloses bits s agree comes net.0 bit
              (circuit.outputs_known o inside) good faulty)
          | inr out ↦
              let same : see false net.0 ≡ see true net.0 =
              net_outside c circuit fault h.cone h.is_cone.encloses (terns_of bits) s.good s.faulty agree net.0
              (circuit.outputs_known o inside) out in
              let P : Tern → Type 0 = λ t. Opposite t (see true net.0) in
              not_itself (see true net.0) (subst P same opposite)
        ]

    silent : (o : ℕ) → ¬ Opposite (joint_output c fault bits s false o) (joint_output c fault bits s true o)
    unfolding frame_outputs
    silent o opposite =
        let see = seen c circuit fault h.cone h.is_cone.encloses bits s agree in
        elim (cases_lt o (length c.outputs)) [
          | inl inside ↦
              let at = λ (m : Bool). seen_get (see m) c.outputs o Unk inside in
              net_same o inside
              (let P : Tern → Type 0 = λ t. Opposite t (see true (get_or c.outputs o no_net).0) in
              subst P (at false)
              (let Q : Tern → Type 0 = λ t. Opposite (joint_output c fault bits s false o) t in
              subst Q (at true) opposite))
          | inr past ↦
              let none = λ (m : Bool). get_or_past (values_at (see m) c.outputs) o Unk
              (omega (arith, seen_length (see m) c.outputs)) in
              (let P : Tern → Type 0 = λ t. Opposite t Unk in
              subst P (none false)
              (let Q : Tern → Type 0 = λ t. Opposite (joint_output c fault bits s false o) t in
              subst Q (none true) opposite))
        ]

  kept : AreKeptFrom c fault h.cone cubes
  kept = record {
    stays = λ bits s agree avoids k d inside. avoided bits s agree avoids k d inside;
    silent = λ bits s agree avoids o. silent bits s agree avoids o;
  }

  -- where cubes and steps pass, the cubes refute the fault from the start
  pub cubes_refute : CubesRefute c fault start cubes
  cubes_refute = record { cone = h.cone; is_cone = h.is_cone; starts = h.starts; kept = kept }
