-- What a search that found decisions says: no closed set within the held one has the flip-flop. So the set that is left
-- where no removal was for want of budget has each member of each closed set.
use Rattle.std.specs.Prelude.{eqb, ltb, leb, is_some, IsTrue, ◌==◌}
use Rattle.std.specs.List.{list_all, range_with_len}
use Rattle.std.proofs.Common.{◌≡◌, ◌⊎◌, ◌<◌, ◌≤◌, ◌+◌, ◌*◌, ℕ, List, [], ◌∷◌, ◌++◌, Bool, true, false, not, ◌&&◌, ◌||◌, cond, Option, Some, None, length, get_or, refl, sym, ◌∙◌, ap, inl, inr, arith, subst}
use Rattle.std.proofs.lemmas.Bool.{and_parts, false_from_ne_true, false≢true, not_from_false, or_from, not-true}
use Rattle.std.proofs.lemmas.Bool.Decides.{eqb_tells, nat_tests}
use Rattle.std.proofs.lemmas.List.Folds.{list_all-append, list_any-append}
use Rattle.std.proofs.lemmas.List.FromFn.{get_or-map-range_with_len, length-map-range_with_len}
use Rattle.ht_tern.specs.declared.tern.Tern.{Tern}
use Rattle.ht_tern.specs.declared.tern.Tern.TheVariants.{One, Unk, Zero}
use Rattle.ht_tern.specs.Gate.{tern_of}
use Rattle.ht_pairs.specs.Decided.{values_left}
use Rattle.ht_pairs.specs.Pairs.{IsMember}
use Rattle.ht_net.specs.Detect.Detection.{terns_of}
use Rattle.ht_net.specs.Frames.Faults.{tern_rules}
use Rattle.ht_net.specs.Frames.Frame.{net_value}
use Rattle.ht_net.specs.Circuit.Netlist.{Netlist, first_gate_net}
use Rattle.ht_tree.specs.Window.Decisions.{decided_value, is_in, latch_values_left, newer}
use Rattle.ht_tree.specs.Walk.FoundLists.{bit_or_zero, vector_of}
use Rattle.ht_tree.specs.Window.Nodes.{cube_of, or_unknown}
use Rattle.ht_tree.specs.Walk.Searches.{node_at}
use Rattle.ht_tree.specs.Walk.Walks.{Fits, Node, children, decide, decides}
use Rattle.ht_tree.specs.Window.WindowStatus.{is_definite}
use Rattle.ht_tree.specs.declared.token.Assign3.{Assign3}
use Rattle.ht_tree.specs.declared.token.Token.{Token}
use Rattle.ht_tree.specs.declared.token.Token.TheVariants as token
use Rattle.ht_tree.proofs.DecidedLaws.{decides_more, decides_value}
use Rattle.ht_tree.proofs.MemberLaws.{member_filter, member_range}
use Rattle.ht_records.proofs.BackFrameLaws.{cube_value, two_input}
use Rattle.ht_records.proofs.BitPathLaws.{AreBitsAt, bit_definite, bit_read, bits_decided, bits_more}
use Rattle.ht_records.proofs.CubeLaws.{cube_held}
use Rattle.ht_records.proofs.LeadLaws.{IsInput, unknown_left}
use Rattle.ht_records.proofs.ListLaws.{filter_member, range_member}
use Rattle.ht_records.proofs.StackLaws.{EachNode, top_keeps}
use Rattle.ht_uninit.specs.declared.record.Removed.{Removed}
use Rattle.ht_uninit.specs.declared.record.Removed.TheVariants.{Free, Spent}
use Rattle.ht_uninit.specs.ClosedSets.{AreUnknown, Contains, IsClosedSet}
use Rattle.ht_faults.specs.Sites.{data_net}
use Rattle.ht_uninit.specs.HeldSearches.{FindsKnown}
use Rattle.ht_uninit.specs.HeldWindows.{held_judge, held_unknown, set_held}
use Rattle.ht_uninit.specs.Rounds.{ComesTo, IsRemoval, begins, passes, keeps, removes, again, held_after, is_free, is_removed, removed_dff}
use Rattle.ht_uninit.proofs.ClosedLaws.{next_good}
use Rattle.ht_uninit.proofs.HeldPathLaws.{held_high, held_value, member_held}
use Rattle.ht_uninit.proofs.HoldLaws.{Holds, Leaves, net_holds}
use Rattle.ht_uninit.proofs.UnknownLaws.{sure_known}

-- ---- the decisions of a walk

-- A node whose inputs are decided to bits, and which decides no latch that is held.
record IsOwn (c : Netlist) (u : List ℕ) (n : Node) : Type 0 where
  pub bits : AreBitsAt (IsInput c) n.decisions
  pub apart : (var : ℕ) → decides (held_unknown c u) var ≡ true → decides n.decisions var ≡ false

three_latch : (c : Netlist) (var : ℕ) (b d e : Bool) → IsTrue ((b && d) && not e) → leb c.inputs var ≡ b
    → (c.inputs ≤ var) × (e ≡ false)
three_latch c var true true false h is = (grind (arith, nat_tests), refl)
three_latch c var true true true h is = absurd (false≢true h)
three_latch c var true false e h is = absurd (false≢true h)
three_latch c var false d e h is = absurd (false≢true h)

module _ (c : Netlist) (u : List ℕ) where
  own_decide : (n : Node) (var : ℕ) (value : Tern) → IsOwn c u n → (IsInput c var → is_definite value ≡ true)
      → decides (held_unknown c u) var ≡ false → IsOwn c u (decide n var value)
  own_decide n var value h bit out =
      let d : Assign3 = record { var = var; value = value } in
      record {
        bits = bits_more (IsInput c) n.decisions d h.bits bit;
        apart = λ v is. decides_more n.decisions d v ∙ or_from (decides n.decisions v) (eqb var v) (h.apart v is)
            (other v is (eqb_tells var v));
      }
    where
      other : (v : ℕ) → decides (held_unknown c u) v ≡ true
          → ((eqb var v ≡ true) × (var ≡ v)) ⊎ ((eqb var v ≡ false) × ¬ (var ≡ v)) → eqb var v ≡ false
      other v is (inl e) = absurd (false≢true (sym out ∙ (ap (decides (held_unknown c u)) e.1 ∙ is)))
      other v is (inr e) = e.0

  own_children : (x : ℕ) (n : Node) (t : Token) → Fits (held_judge c u x) n t → IsOwn c u n
      → EachNode (IsOwn c u) (children n t)
  own_children x n token.Dead fit h = tt
  own_children x n token.Before fit h = absurd (false≢true fit.1)
  own_children x n (token.Two var first) fit h =
      let low = two_input c var (ltb var (1 * c.inputs)) fit.1 refl in
      let out : decides (held_unknown c u) var ≡ false =
      false_from_ne_true (decides (held_unknown c u) var)
      (λ is. absurd (let high = held_high c u var is in omega (arith, low, high))) in (
        own_decide n var (tern_of first) h (λ l. bit_definite first) out,
        (own_decide n var (tern_of (not first)) h (λ l. bit_definite (not first)) out, tt),
      )
  own_children x n (token.Three var) fit h =
      let latch = three_latch c var (leb c.inputs var) (ltb var (first_gate_net c)) (decides (held_unknown c u) var)
      fit.1 refl in (
        own_decide n var Zero h (λ l. refl) latch.1,
        (
          own_decide n var One h (λ l. refl) latch.1,
          (own_decide n var Unk h (λ l. absurd (let high = latch.0 in omega (arith, l, high))) latch.1, tt),
        ),
      )

-- ---- a frame that the decisions leave

bits_append : (P : ℕ → Type 0) (xs ys : List Assign3) → AreBitsAt P xs → AreBitsAt P ys → AreBitsAt P (xs ++ ys)
bits_append P [] ys h k = k
bits_append P (x ∷ xs) ys h k = (h.0, bits_append P xs ys h.1 k)

held_bits : (c : Netlist) (u : List ℕ) → AreBitsAt (IsInput c) (held_unknown c u)
held_bits c [] = tt
held_bits c (j ∷ u) = (λ l. absurd (omega (arith, l)), held_bits c u)

is_none : (o : Option Tern) → is_some o ≡ false → o ≡ None
is_none None h = refl
is_none (Some v) h = cc

-- what a second path doesn't decide is as after the first
decided_before : (xs ys : List Assign3) (var : ℕ) → decided_value ys var ≡ None
    → decided_value (xs ++ ys) var ≡ decided_value xs var
decided_before [] ys var none = none
decided_before (x ∷ xs) ys var none =
    ap (λ (o : Option Tern). newer o (cond (eqb x.var var) (Some x.value) None)) (decided_before xs ys var none)

unknown_or_none : (o : Option Tern) → (o ≡ None) ⊎ (o ≡ Some Unk) → or_unknown o ≡ Unk
unknown_or_none o (inl e) = rw e refl
unknown_or_none o (inr e) = rw e refl

module _ (c : Netlist) (budget : ℕ) (u : List ℕ) (x : ℕ) (sets : List Assign3)
    (finds : FindsKnown c budget u x sets) where
  abbrev whole : List Assign3
  whole = held_unknown c u ++ finds.path

  abbrev vector : List Bool
  vector = vector_of c whole 0

  abbrev state : List Tern
  state = cube_of c whole

  own : IsOwn c u (node_at finds.path)
  own =
      top_keeps (IsOwn c u) (held_judge c u x) (own_children c u x) (record { bits = tt; apart = λ var h. refl })
      finds.tokens (node_at finds.path) finds.found.walk.fit finds.found.top

  whole_bits : AreBitsAt (IsInput c) whole
  whole_bits = bits_append (IsInput c) (held_unknown c u) finds.path (held_bits c u) own.bits

  wide : length vector ≡ c.inputs
  wide = length-map-range_with_len (λ i. bit_or_zero (decided_value whole (0 * c.inputs + i))) 0 c.inputs

  bit_at : (i : ℕ) → i < c.inputs → get_or vector i false ≡ bit_or_zero (decided_value whole i)
  bit_at i l =
      let at : 0 * c.inputs + i ≡ i = omega arith in
      get_or-map-range_with_len (λ i. bit_or_zero (decided_value whole (0 * c.inputs + i))) 0 c.inputs i i false l
      (omega arith)
      ∙ ap (λ (n : ℕ). bit_or_zero (decided_value whole n)) at

  frame_left : Leaves c whole vector state
  frame_left = record {
    wide = wide;
    held = cube_held c whole;
    input = λ i l. subst (λ (b : Bool). IsMember (tern_of b) (values_left (decided_value whole i))) (sym (bit_at i l))
        (bit_read (decided_value whole i) (bits_decided (IsInput c) whole whole_bits i l));
    latch = λ j l. subst (λ (v : Tern). IsMember v (latch_values_left (decided_value whole (c.inputs + j))))
        (sym (cube_value c whole j l)) (unknown_left (decided_value whole (c.inputs + j)));
  }

  state_unknown : (j : ℕ) → j < length c.dffs → is_in u j ≡ true → get_or state j Unk ≡ Unk
  state_unknown j l inside =
      let var = c.inputs + j in
      let none = is_none (decided_value finds.path var)
      (sym (decides_value finds.path var) ∙ own.apart var (member_held c u j inside)) in
      cube_value c whole j l
      ∙ (ap or_unknown (decided_before (held_unknown c u) finds.path var none)
      ∙ unknown_or_none (decided_value (held_unknown c u) var) (held_value c u var))

  -- the next state isn't always unknown, so no closed set within u has the flip-flop
  pub free_excluded : (v : ℕ → Bool) → IsClosedSet c v → Contains c (is_in u) v → (j : ℕ) → j < length c.dffs
      → x ≡ data_net c j → ¬ (v j ≡ true)
  free_excluded v closed within j l is inside =
      let unknown : AreUnknown c v state = λ k m h. state_unknown k m (within k m h) in
      let next = closed.stays vector state wide (cube_held c whole) unknown j l inside in
      let value : net_value c (tern_rules None) (terns_of vector) state x ≡ Unk =
      ap (net_value c (tern_rules None) (terns_of vector) state) is
      ∙ (sym (next_good c (terns_of vector) state j l) ∙ next) in
      sure_known (set_held c u x finds.path) finds.found.found.sure
      (subst (Holds (set_held c u x finds.path)) value (net_holds c whole vector state frame_left x))

-- ---- the set that is left

in_from : (j : ℕ) (xs : List ℕ) → IsMember j xs → is_in xs j ≡ true
in_from j [] h = absurd h
in_from j (x ∷ xs) (inl e) = rw e (first x (is_in xs x))
  where
    first : (n : ℕ) (b : Bool) → (eqb n n || b) ≡ true
    first n b = ap (λ (a : Bool). a || b) (let e : eqb n n ≡ true = grind (arith, nat_tests) in e)
in_from j (x ∷ xs) (inr h) = second (eqb x j) (in_from j xs h)
  where
    second : (a : Bool) {b : Bool} → b ≡ true → (a || b) ≡ true
    second true h = refl
    second false h = h

in_member : (j : ℕ) (xs : List ℕ) → is_in xs j ≡ true → IsMember j xs
in_member j [] h = cc
in_member j (x ∷ xs) h = elim (eqb_tells x j) [
  | inl e ↦ inl (sym e.1)
  | inr e ↦ inr (in_member j xs (sym (ap (λ (b : Bool). b || is_in xs j) e.0) ∙ h))
]

-- a flip-flop that isn't removed is in the set that is left
pub left_in : (c : Netlist) (removed : List Removed) (j : ℕ) → j < length c.dffs → is_removed removed j ≡ false
    → is_in (held_after c removed) j ≡ true
left_in c removed j l out =
    in_from j (held_after c removed)
    (member_filter (λ j. not (is_removed removed j)) (range_with_len 0 (length c.dffs)) j
    (member_range j 0 (length c.dffs) (omega arith) (omega (arith, l))) (not_from_false (is_removed removed j) out))

-- a member of the set that is left is a flip-flop of the circuit and isn't removed
pub in_left : (c : Netlist) (removed : List Removed) (j : ℕ) → is_in (held_after c removed) j ≡ true
    → (j < length c.dffs) × (is_removed removed j ≡ false)
in_left c removed j h =
    let kept = filter_member (λ j. not (is_removed removed j)) (range_with_len 0 (length c.dffs)) j
    (in_member j (held_after c removed) h) in
    let low = (range_member j 0 (length c.dffs) kept.0).1 in
    (omega (arith, low), not-true (is_removed removed j) kept.1)

removed_push : (removed : List Removed) (r : Removed) (j : ℕ) → is_removed removed j ≡ false → ¬ (removed_dff r ≡ j)
    → is_removed (removed ++ r ∷ []) j ≡ false
removed_push removed r j out other =
    list_any-append (λ r. removed_dff r == j) removed (r ∷ [])
    ∙ or_from (is_removed removed j) (eqb (removed_dff r) j || false) out (or_from (eqb (removed_dff r) j) false
    (elim (eqb_tells (removed_dff r) j) [
      | inl e ↦ absurd (other e.1)
      | inr e ↦ e.0
    ]) refl)

-- a flip-flop that a search freed is in no closed set within the set that was held
freed : (c : Netlist) (budget : ℕ) (u : List ℕ) (r : Removed) → is_free r ≡ true → IsRemoval c budget u r
    → (v : ℕ → Bool) → IsClosedSet c v → Contains c (is_in u) v → removed_dff r < length c.dffs
    → ¬ (v (removed_dff r) ≡ true)
freed c budget u (Free j sets) free found v closed within l =
    free_excluded c budget u (data_net c j) sets found v closed within j l refl
freed c budget u (Spent j tokens) free found v closed within l = cc

all_parts : (removed : List Removed) (r : Removed) → list_all is_free (removed ++ r ∷ []) ≡ true
    → (list_all is_free removed ≡ true) × (is_free r ≡ true)
all_parts removed r h =
    let parts = and_parts (list_all is_free removed) (list_all is_free (r ∷ []))
    (sym (list_all-append is_free removed (r ∷ [])) ∙ h) in
    (parts.0, (and_parts (is_free r) true parts.1).0)

module _ (c : Netlist) (budget : ℕ) (v : ℕ → Bool) (closed : IsClosedSet c v) where
  -- where each removal was free, the set that is left has each member of a closed set
  pub left_contains : (removed : List Removed) (before j : ℕ) → ComesTo c budget removed before j
      → list_all is_free removed ≡ true → Contains c (is_in (held_after c removed)) v
  left_contains removed before j (begins) free k l inside = left_in c [] k l refl
  left_contains removed before j (passes r b i h m out) free k l inside = left_contains removed b i h free k l inside
  left_contains removed before j (keeps r b i t h m out closes) free k l inside =
      left_contains removed b i h free k l inside
  left_contains removed before j (removes old b i r h m out is why) free k l inside =
      let parts = all_parts old r free in
      let within : Contains c (is_in (held_after c old)) v = left_contains old b i h parts.0 in
      let known = in_left c old k (within k l inside) in
      left_in c (old ++ r ∷ []) k l
      (removed_push old r k known.1
      (λ e. freed c budget (held_after c old) r parts.1 why v closed within (omega (arith, is, m))
      (ap v e ∙ inside)))
  left_contains removed before j (again r b h more) free k l inside =
      left_contains removed b (length c.dffs) h free k l inside
