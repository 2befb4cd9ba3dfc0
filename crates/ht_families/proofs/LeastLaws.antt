-- Frames of sets are monotone: from larger sets they show and take larger ones. So the family that grows from a start
-- stays within each family that closes.
use Rattle.std.proofs.Common.{◌≡◌, ◌<◌, ℕ, suc, zero, List, [], ◌∷◌, ◌++◌, map, Bool, Option, Some, length, get_or, refl, sym, ◌∙◌, ap, inl, inr, arith, subst}
use Rattle.ht_tern.specs.declared.tern.Tern.{Tern}
use Rattle.ht_tern.specs.declared.tern.Tern.TheVariants.{Unk}
use Rattle.ht_tern.specs.declared.gate.Kind.{Kind}
use Rattle.ht_tern.specs.Gate.{AllRelated}
use Rattle.ht_pairs.specs.Pairs.{Pair, pair, IsMember, IsChoice, MayDiffer, lifted_set, stuck_pair, stuck_set}
use Rattle.ht_pairs.specs.Included.{Includes, joined_set}
use Rattle.ht_pairs.proofs.SetLaws.{lifted_set_holds, map_member, member_either, member_left, member_map, set_of_holds}
use Rattle.ht_net.specs.declared.fault.Fault.{Fault}
use Rattle.ht_net.specs.Frames.Frame.{Rules}
use Rattle.ht_net.specs.Circuit.Netlist.{Netlist}
use Rattle.ht_net.proofs.FaultLaws.{rules_keep}
use Rattle.ht_net.proofs.RelationLaws.{Preserves, get_related, next_related, outputs_related}
use Rattle.ht_tree.specs.Window.Windows.{pair_set_rules}
use Rattle.ht_tree.specs.Record.ClosedFamilies.{Closes, HoldsState, IncludesEach, any_vector, shown_sets, taken_sets, Family}
use Rattle.ht_families.specs.Families.{start_family}
use Rattle.ht_records.proofs.RunFamilyLaws.{shown_long, taken_long}

-- one set within another
abbrev Below : List Pair → List Pair → Type 0
Below set other = Includes other set

choice_below : (pairs : List Pair) (sets others : List (List Pair)) → AllRelated Below sets others
    → IsChoice pairs sets → IsChoice pairs others
choice_below [] [] [] h k = tt
choice_below [] [] (o ∷ others) h k = absurd h
choice_below [] (s ∷ sets) others h k = absurd k
choice_below (p ∷ pairs) [] others h k = absurd k
choice_below (p ∷ pairs) (s ∷ sets) [] h k = absurd h
choice_below (p ∷ pairs) (s ∷ sets) (o ∷ others) h k = (h.0 p k.0, choice_below pairs sets others h.1 k.1)

lifted_below : (kind : Kind) (sets others : List (List Pair)) → AllRelated Below sets others
    → Below (lifted_set kind sets) (lifted_set kind others)
lifted_below kind sets others h p i =
    let w = (lifted_set_holds kind sets p).0 i in
    (lifted_set_holds kind others p).1 (w.0, choice_below w.0 sets others h w.1, w.2)

stuck_below : (value : Bool) (set other : List Pair) → Below set other → Below (stuck_set value set) (stuck_set value other)
unfolding stuck_set
stuck_below value set other h p i =
    let w = map_member (stuck_pair value) set p ((set_of_holds (map (stuck_pair value) set) p).0 i) in
    (set_of_holds (map (stuck_pair value) other) p).1
    (subst (λ (q : Pair). IsMember q (map (stuck_pair value) other)) (sym w.2)
    (member_map (stuck_pair value) other w.0 (h w.0 w.1)))

-- from larger sets gates and lines make larger ones, with or without a fault
pub sets_monotone : (fault : Option Fault) → Preserves Below (pair_set_rules fault) (pair_set_rules fault)
sets_monotone fault = rules_keep Below (pair Unk Unk ∷ []) (pair Unk Unk ∷ []) lifted_set lifted_set stuck_set stuck_set
    (λ p i. i) lifted_below stuck_below fault

same_below : (sets : List (List Pair)) → AllRelated Below sets sets
same_below [] = tt
same_below (s ∷ sets) = (λ p i. i, same_below sets)

all_below : (sets others : List (List Pair)) → length sets ≡ length others → IncludesEach others sets
    → AllRelated Below sets others
all_below [] [] e all = tt
all_below [] (o ∷ others) e all = absurd (omega arith)
all_below (s ∷ sets) [] e all = absurd (omega arith)
all_below (s ∷ sets) (o ∷ others) e all =
    (all 0 (omega arith), all_below sets others (omega arith) (λ j l. all (suc j) (omega arith)))

module _ (c : Netlist) (fault : Fault) (family other : Family) (long : length family ≡ length other)
    (within : IncludesEach other family) where
  -- what frames with the fault go by
  abbrev r : Rules (List Pair)
  r = pair_set_rules (Some fault)

  taken_below : (j : ℕ) → Below (get_or (taken_sets c fault family) j []) (get_or (taken_sets c fault other) j [])
  taken_below j = get_related Below (taken_sets c fault family) (taken_sets c fault other) j [] []
      (next_related Below c r r (sets_monotone (Some fault)) (any_vector c) family (any_vector c) other
      (same_below (any_vector c)) (all_below family other long within)) (λ p i. i)

  shown_below : (o : ℕ) → Below (get_or (shown_sets c fault family) o []) (get_or (shown_sets c fault other) o [])
  shown_below o = get_related Below (shown_sets c fault family) (shown_sets c fault other) o [] []
      (outputs_related Below c r r (sets_monotone (Some fault)) (any_vector c) family (any_vector c) other
      (same_below (any_vector c)) (all_below family other long within)) (λ p i. i)

-- A family on its way: it is within each family that closes.
pub record IsGrown (c : Netlist) (fault : Fault) (start : List Tern) (family : Family) : Type 0 where
  pub sets : length family ≡ length c.dffs
  pub starts : HoldsState family start
  pub within : (other : Family) → Closes c fault start other → IncludesEach other family

-- the family of a start gives each flip-flop only the pair that it starts with
pub start_at : (start : List Tern) (j : ℕ) → j < length start
    → get_or (start_family start) j [] ≡ pair (get_or start j Unk) (get_or start j Unk) ∷ []
start_at [] j l = absurd (omega arith)
start_at (v ∷ start) zero l = refl
start_at (v ∷ start) (suc j) l = start_at start j (omega arith)

-- the family of a start has a set for each value of the start
pub start_long : (start : List Tern) → length (start_family start) ≡ length start
start_long [] = refl
start_long (v ∷ start) = ap suc (start_long start)

-- what is joined is within each family that closes
pub grows_on : (c : Netlist) (fault : Fault) (start : List Tern) (family next : Family)
    → IsGrown c fault start family → length next ≡ length family
    → ((j : ℕ) → j < length family → get_or next j [] ≡ joined_set (get_or family j []) (get_or (taken_sets c fault family) j []))
    → length start ≡ length c.dffs → IsGrown c fault start next
grows_on c fault start family next grown long joined wide = record {
  sets = long ∙ grown.sets;
  starts = λ j l.
      let n = grown.sets in
      let old = get_or family j [] in
      let next_sets = get_or (taken_sets c fault family) j [] in
      subst (λ (s : List Pair). IsMember (pair (get_or start j Unk) (get_or start j Unk)) s)
      (sym (joined j (omega (arith, l, n, wide))))
      ((set_of_holds (old ++ next_sets) _).1 (member_left _ old next_sets (grown.starts j l)));
  within = λ other closes j l p i.
      let n = grown.sets in
      let m = closes.sets in
      let old = get_or family j [] in
      let next_sets = get_or (taken_sets c fault family) j [] in
      let here = subst (λ (s : List Pair). IsMember p s) (joined j (omega (arith, l, long))) i in
      elim (member_either p old next_sets ((set_of_holds (old ++ next_sets) p).0 here)) [
        | inl k ↦ grown.within other closes j (omega (arith, l, long)) p k
        | inr k ↦
            let t = taken_long c fault other in
            closes.stays j (omega (arith, l, long, n, t)) p
            (taken_below c fault family other (n ∙ sym m) (grown.within other closes) j p k)
      ];
}

-- where an output may differ in its frame, no family closes
may_below : (set other : List Pair) → Below set other → MayDiffer set → MayDiffer other
may_below set other h (inl i) = inl (h _ i)
may_below set other h (inr i) = inr (h _ i)

-- where some output may differ in what a grown family shows, no family closes
pub none_closes : (c : Netlist) (fault : Fault) (start : List Tern) (family : Family) (o : ℕ)
    → IsGrown c fault start family → o < length c.outputs → MayDiffer (get_or (shown_sets c fault family) o [])
    → (other : Family) → ¬ Closes c fault start other
none_closes c fault start family o grown l may other closes =
    let n = shown_long c fault other in
    closes.silent o [] (omega (arith, l, n))
    (may_below _ _ (shown_below c fault family other (grown.sets ∙ sym closes.sets) (grown.within other closes) o) may)
