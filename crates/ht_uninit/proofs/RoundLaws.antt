-- The members of a round, one after the other.
use Rattle.std.specs.Prelude.{eqb, ◌==◌, filter}
use Rattle.std.specs.List.{range_with_len}
use Rattle.std.proofs.Common.{◌≡◌, ◌≢◌, ◌<◌, ◌≤◌, ◌+◌, ◌-◌, ℕ, suc, zero, List, [], ◌∷◌, ◌++◌, Bool, true, false, not, ◌&&◌, ◌||◌, cond, Option, Some, None, length, get_or, set, replicate, refl, sym, ◌∙◌, ap, inl, inr, arith, subst, get_or-set_other, get_or-set_same}
use Rattle.std.proofs.lemmas.Bool.{false≢true, true_from_ne_false}
use Rattle.std.proofs.lemmas.Bool.Decides.{eqb_tells, nat_tests}
use Rattle.std.proofs.lemmas.List.{length-replicate, length-set, length_push}
use Rattle.std.proofs.lemmas.List.Folds.{list_any-append}
use Rattle.std.proofs.lemmas.List.FromFn.{length-range_with_len}
use Rattle.ht_net.specs.Circuit.Netlist.{Netlist}
use Rattle.ht_tree.specs.declared.token.Token.{Token}
use Rattle.ht_tree.specs.Window.Decisions.{is_in}
use Rattle.ht_uninit.specs.declared.record.Removed.{Removed}
use Rattle.ht_faults.specs.Sites.{data_net}
use Rattle.ht_uninit.specs.HeldSearches.{ClosesUnknown}
use Rattle.ht_uninit.specs.HeldStates.{HeldState}
use Rattle.ht_uninit.specs.HeldWindows.{without}
use Rattle.ht_uninit.specs.Records.{IsWalkOf}
use Rattle.ht_uninit.specs.RoundStates.{IsAt, IsFinished}
use Rattle.ht_uninit.specs.Rounds.{ComesTo, IsRemoval, again, begins, held_after, is_removed, keeps, passes, removed_dff, removes}
use Rattle.ht_uninit.proofs.FreeLaws.{in_left, left_in}

-- ---- the set after one removal more

filter_both : (p q r : ℕ → Bool) (xs : List ℕ) → ((x : ℕ) → r x ≡ (q x && p x)) → filter r xs ≡ filter p (filter q xs)
filter_both p q r [] h = refl
filter_both p q r (x ∷ xs) h = by (q x) (h x) (filter_both p q r xs h)
  where
    by : (a : Bool) → r x ≡ (a && p x) → filter r xs ≡ filter p (filter q xs)
        → cond (r x) (x ∷ filter r xs) (filter r xs) ≡ filter p (cond a (x ∷ filter q xs) (filter q xs))
    by true e rest = (λ k. cond (e k) (x ∷ rest k) (rest k))
    by false e rest = (λ k. cond (e k) (x ∷ rest k) (rest k))

neither : (a b : Bool) → not (a || (b || false)) ≡ (not a && not b)
neither true b = refl
neither false true = refl
neither false false = refl

-- one removal more leaves the set without that flip-flop
pub held_push : (c : Netlist) (removed : List Removed) (r : Removed)
    → held_after c (removed ++ r ∷ []) ≡ without (held_after c removed) (removed_dff r)
held_push c removed r =
    filter_both (λ k. not (removed_dff r == k)) (λ k. not (is_removed removed k))
    (λ k. not (is_removed (removed ++ r ∷ []) k)) (range_with_len 0 (length c.dffs))
    (λ k. ap not (list_any-append (λ r. removed_dff r == k) removed (r ∷ []))
    ∙ neither (is_removed removed k) (eqb (removed_dff r) k))

few_without : (u : List ℕ) (j : ℕ) → length (without u j) ≤ length u
few_without [] j = omega arith
few_without (x ∷ u) j = by (eqb j x) (few_without u j)
  where
    by : (b : Bool) → length (without u j) ≤ length u
        → length (cond (not b) (x ∷ without u j) (without u j)) ≤ suc (length u)
    by true h = omega (arith, h)
    by false h = omega (arith, h)

-- a set without one of its members is smaller
pub fewer_without : (u : List ℕ) (j : ℕ) → is_in u j ≡ true → length (without u j) + 1 ≤ length u
fewer_without [] j h = cc
fewer_without (x ∷ u) j h = elim (eqb_tells x j) [
  | inl e ↦
      let same : eqb j x ≡ true = (let at = e.1 in grind (arith, nat_tests)) in
      let few = few_without u j in
      let out = ap (λ (b : Bool). length (cond (not b) (x ∷ without u j) (without u j))) same in
      omega (arith, few, out)
  | inr e ↦
      let other : eqb j x ≡ false = (let ne = e.1 in grind (arith, nat_tests)) in
      let few = fewer_without u j (sym (ap (λ (b : Bool). b || is_in u j) e.0) ∙ h) in
      let out = ap (λ (b : Bool). length (cond (not b) (x ∷ without u j) (without u j))) other in
      omega (arith, few, out)
]

all_held : (xs : List ℕ) → filter (λ j. not (is_removed [] j)) xs ≡ xs
all_held [] = refl
all_held (x ∷ xs) = ap (λ (ys : List ℕ). x ∷ ys) (all_held xs)

-- ---- walks

none_walk : (c : Netlist) (budget : ℕ) (removed : List Removed) (k : ℕ) (walk : Option (List Token)) → walk ≡ None
    → is_removed removed k ≡ true → IsWalkOf c budget removed k walk
none_walk c budget removed k None e h = h
none_walk c budget removed k (Some tokens) e h = cc

abbrev no_walk : Option (List Token)
no_walk = None

none_at : (n k : ℕ) → get_or (replicate n no_walk) k no_walk ≡ no_walk
none_at zero k = refl
none_at (suc n) zero = refl
none_at (suc n) (suc k) = none_at n k

module _ (c : Netlist) (budget before j : ℕ) (held : HeldState) (removed : List Removed)
    (walks : List (Option (List Token))) (h : IsAt c budget before j held removed walks) where
  -- whether j is a member
  pub in_set : is_in held.members j ≡ is_in (held_after c removed) j
  in_set = ap (λ (u : List ℕ). is_in u j) h.members

  member_left : is_in held.members j ≡ true → is_removed removed j ≡ false
  member_left is = (in_left c removed j (sym in_set ∙ is)).1

  stranger_gone : j < length c.dffs → is_in held.members j ≡ false → is_removed removed j ≡ true
  stranger_gone l out =
      true_from_ne_false (is_removed removed j) (λ e. false≢true (sym out ∙ (in_set ∙ left_in c removed j l e)))

  -- a flip-flop of the circuit is one of the held window's
  pub dff_inside : j < length c.dffs → j < length held.circuit.dffs
  dff_inside l = subst (λ (n : Netlist). j < length n.dffs) (sym h.circuit) l

  -- the list of walks has an entry for each flip-flop
  pub dff_walk : j < length c.dffs → j < length walks
  dff_walk l = let long = h.long in omega (arith, l, long)

  -- a flip-flop that isn't a member is passed
  pub at_passes : j < length c.dffs → is_in held.members j ≡ false
      → IsAt c budget before (j + 1) held removed walks
  at_passes l out =
      let gone = stranger_gone l out in
      record {
        circuit = h.circuit;
        members = h.members;
        fresh = h.fresh;
        comes = passes removed before j h.comes l gone;
        few = h.few;
        later = h.later;
        long = h.long;
        gone = h.gone;
        kept = λ same k m. elim (eqb_tells k j) [
          | inl e ↦ subst (λ (n : ℕ). IsWalkOf c budget removed n (get_or walks n None)) (sym e.1)
              (none_walk c budget removed j (get_or walks j None) (h.gone j gone) gone)
          | inr e ↦ let other = e.1 in h.kept same k (omega (arith, m, other))
        ];
      }

  module _ (held' : HeldState) (circuit : held'.circuit ≡ c) (fresh : held'.path ≡ []) (l : j < length c.dffs)
      (is : is_in held.members j ≡ true) where
    -- a member whose search closes stays in the set and has its walk
    pub at_keeps : held'.members ≡ held.members → (tokens : List Token)
        → ClosesUnknown c budget held.members (data_net c j) tokens → (walks' : List (Option (List Token)))
        → walks' ≡ set walks j (Some tokens)
        → IsAt c budget before (j + 1) held' removed walks'
    at_keeps same tokens closes walks' set_is =
        let left = member_left is in
        let long = h.long in
        let closed = subst (λ (u : List ℕ). ClosesUnknown c budget u (data_net c j) tokens) h.members closes in
        let here : get_or walks' j None ≡ Some tokens =
        ap (λ (ws : List (Option (List Token))). get_or ws j None) set_is
        ∙ get_or-set_same walks j (Some tokens) None (omega (arith, l, long)) in
        let away : (k : ℕ) → k ≢ j → get_or walks' k None ≡ get_or walks k None =
        λ k ne. ap (λ (ws : List (Option (List Token))). get_or ws k None) set_is
        ∙ get_or-set_other walks j k (Some tokens) None ne in
        record {
          circuit = circuit;
          members = same ∙ h.members;
          fresh = fresh;
          comes = keeps removed before j tokens h.comes l left closed;
          few = h.few;
          later = h.later;
          long = ap (λ (ws : List (Option (List Token))). length ws) set_is ∙ (length-set walks j (Some tokens) ∙ h.long);
          gone = λ k out. elim (eqb_tells k j) [
            | inl e ↦ absurd (false≢true (sym left ∙ (ap (is_removed removed) (sym e.1) ∙ out)))
            | inr e ↦ away k e.1 ∙ h.gone k out
          ];
          kept = λ all k m. elim (eqb_tells k j) [
            | inl e ↦ subst (λ (n : ℕ). IsWalkOf c budget removed n (get_or walks' n None)) (sym e.1)
                (subst (λ (w : Option (List Token)). IsWalkOf c budget removed j w) (sym here) (left, closed))
            | inr e ↦
                let other = e.1 in
                subst (λ (w : Option (List Token)). IsWalkOf c budget removed k w) (sym (away k other))
                (h.kept all k (omega (arith, m, other)))
          ];
        }

    -- a member that is removed for a reason leaves the set and has no walk
    pub at_removes : held'.members ≡ without held.members j → (r : Removed) → removed_dff r ≡ j
        → IsRemoval c budget held.members r → (removed' : List Removed) → removed' ≡ removed ++ r ∷ []
        → (walks' : List (Option (List Token))) → walks' ≡ set walks j None
        → IsAt c budget before (j + 1) held' removed' walks'
    at_removes less r dff why removed' push walks' set_is =
        let left = member_left is in
        let long = h.long in
        let few = h.few in
        let later = h.later in
        let more = ap (λ (rs : List Removed). length rs) push ∙ length_push removed r in
        let after : held_after c removed' ≡ without (held_after c removed) j =
        ap (held_after c) push ∙ (held_push c removed r ∙ ap (without (held_after c removed)) dff) in
        let fewer = fewer_without (held_after c removed) j (sym in_set ∙ is) in
        let size = ap (λ (u : List ℕ). length u) after in
        let here : get_or walks' j None ≡ None =
        ap (λ (ws : List (Option (List Token))). get_or ws j None) set_is
        ∙ get_or-set_same walks j None None (omega (arith, l, long)) in
        let away : (k : ℕ) → k ≢ j → get_or walks' k None ≡ get_or walks k None =
        λ k ne. ap (λ (ws : List (Option (List Token))). get_or ws k None) set_is
        ∙ get_or-set_other walks j k None None ne in
        record {
          circuit = circuit;
          members = less ∙ (ap (λ (u : List ℕ). without u j) h.members ∙ sym after);
          fresh = fresh;
          comes = subst (λ (rs : List Removed). ComesTo c budget rs before (j + 1)) (sym push)
              (removes removed before j r h.comes l left dff
              (subst (λ (u : List ℕ). IsRemoval c budget u r) h.members why));
          few = omega (arith, few, more, fewer, size);
          later = omega (arith, later, more);
          long = ap (λ (ws : List (Option (List Token))). length ws) set_is ∙ (length-set walks j None ∙ h.long);
          gone = λ k out. elim (eqb_tells k j) [
            | inl e ↦ subst (λ (n : ℕ). get_or walks' n None ≡ None) (sym e.1) here
            | inr e ↦ away k e.1 ∙ h.gone k (was (is_removed removed k) (eqb (removed_dff r) k)
                (sym (list_any-append (λ r. removed_dff r == k) removed (r ∷ []))
                ∙ (ap (λ (rs : List Removed). is_removed rs k) (sym push) ∙ out))
                (λ same. e.1 (let at : removed_dff r ≡ k = grind (arith, nat_tests) in sym at ∙ dff)))
          ];
          kept = λ all. absurd (omega (arith, later, more, all));
        }
      where
        was : (a b : Bool) → (a || (b || false)) ≡ true → ¬ (b ≡ true) → a ≡ true
        was true b e off = refl
        was false true e off = absurd (off refl)
        was false false e off = cc

-- the next round
pub at_again : (c : Netlist) (budget before : ℕ) (held : HeldState) (removed : List Removed)
    (walks : List (Option (List Token))) → IsAt c budget before (length c.dffs) held removed walks
    → ¬ (length removed ≡ before) → IsAt c budget (length removed) 0 held removed walks
at_again c budget before held removed walks h more =
    let later = h.later in
    record {
      circuit = h.circuit;
      members = h.members;
      fresh = h.fresh;
      comes = again removed before h.comes (omega (arith, later, more));
      few = h.few;
      later = omega arith;
      long = h.long;
      gone = h.gone;
      kept = λ all k l. absurd (omega (arith, l));
    }

-- the last round
pub at_end : (c : Netlist) (budget before : ℕ) (held : HeldState) (removed : List Removed)
    (walks : List (Option (List Token))) → IsAt c budget before (length c.dffs) held removed walks
    → length removed ≡ before → IsFinished c budget held removed walks
at_end c budget before held removed walks h none =
    let few = h.few in
    record {
      circuit = h.circuit;
      members = h.members;
      fresh = h.fresh;
      ends = subst (λ (n : ℕ). ComesTo c budget removed n (length c.dffs)) (sym none) h.comes;
      few = omega (arith, few);
      long = h.long;
      each = h.kept (sym none);
    }

-- a round that removes some leaves fewer
pub fewer_left : (c : Netlist) (budget before : ℕ) (held : HeldState) (removed removed' : List Removed)
    (walks : List (Option (List Token))) → IsAt c budget before (length c.dffs) held removed' walks
    → before ≡ length removed → ¬ (length removed' ≡ before)
    → length c.dffs - length removed' < length c.dffs - length removed
fewer_left c budget before held removed removed' walks h start more =
    let few = h.few in
    let later = h.later in
    omega (arith, few, later, start, more)

-- the first round
pub at_start : (c : Netlist) (budget : ℕ) (held : HeldState) (removed : List Removed)
    (walks : List (Option (List Token))) → held.circuit ≡ c → held.members ≡ range_with_len 0 (length c.dffs)
    → held.path ≡ [] → removed ≡ [] → walks ≡ replicate (length c.dffs) None
    → IsAt c budget 0 0 held removed walks
at_start c budget held removed walks circuit members fresh none empty =
    let all : held_after c removed ≡ range_with_len 0 (length c.dffs) =
    ap (held_after c) none ∙ all_held (range_with_len 0 (length c.dffs)) in
    let size = ap (λ (u : List ℕ). length u) all in
    let count = length-range_with_len 0 (length c.dffs) in
    let zeros = ap (λ (rs : List Removed). length rs) none in
    record {
      circuit = circuit;
      members = members ∙ sym all;
      fresh = fresh;
      comes = subst (λ (rs : List Removed). ComesTo c budget rs 0 0) (sym none) begins;
      few = omega (arith, size, count, zeros);
      later = omega arith;
      long = ap (λ (ws : List (Option (List Token))). length ws) empty ∙ length-replicate (length c.dffs) None;
      gone = λ k out. ap (λ (ws : List (Option (List Token))). get_or ws k None) empty ∙ none_at (length c.dffs) k;
      kept = λ same k l. absurd (omega (arith, l));
    }
