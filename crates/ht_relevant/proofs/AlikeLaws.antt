-- Gates and lines that aren't stuck make alike sets of alike sets.
use Rattle.std.proofs.Common.{◌≡◌, ◌∙◌, List, [], ◌∷◌, map, false, ◌||◌, Option, Some, None, sym, ap, inl, inr}
use Rattle.std.proofs.lemmas.Bool.{and_left, and_right}
use Rattle.std.specs.List.{list_any, list_all}
use Rattle.ht_tern.specs.declared.tern.Tern.{Tern}
use Rattle.ht_tern.specs.declared.tern.Tern.TheVariants.{Zero, One, Unk}
use Rattle.ht_tern.specs.declared.gate.Kind.{Kind}
use Rattle.ht_tern.specs.Gate.{gate_value}
use Rattle.ht_tern.specs.Opposite.{are_opposite}
use Rattle.ht_pairs.specs.Pairs.{Pair, pair, IsMember, IsChoice, differs, gate_pair, lifted_set}
use Rattle.ht_pairs.specs.Decided.{same_pairs}
use Rattle.ht_pairs.proofs.SetLaws.{lifted_set_holds, map_member}
use Rattle.ht_tree.specs.Window.Decisions.{latch_values_left}
use Rattle.ht_relevant.specs.Alike.{IsAlike}

-- pairs of a value with itself
pub doubled_alike : (v : Tern) (vs : List Tern) → IsAlike (map (λ v. pair v v) (v ∷ vs))
doubled_alike v vs = record {
  some = pair v v;
  member = inl (λ i. pair v v);
  alike = λ p h. let m = map_member (λ v. pair v v) (v ∷ vs) p h in
      ap (λ (q : Pair). q.good) m.2 ∙ sym (ap (λ (q : Pair). q.faulty) m.2);
}

-- the pairs of a value that is the same in both machines, decided or not, are alike
pub same_alike : (value : Option Tern) → IsAlike (same_pairs value)
same_alike None = doubled_alike Zero (One ∷ [])
same_alike (Some v) = doubled_alike v []

-- the pairs of the values left to a latch, each with itself, are alike
pub left_alike : (value : Option Tern) → IsAlike (map (λ v. pair v v) (latch_values_left value))
left_alike None = doubled_alike Zero (One ∷ Unk ∷ [])
left_alike (Some v) = doubled_alike v []

-- a single pair of equal values is alike
pub one_alike : (a b : Tern) → a ≡ b → IsAlike (pair a b ∷ [])
one_alike a b e = record {
  some = pair a b;
  member = inl (λ i. pair a b);
  alike = λ p h. single p h;
} where
  single : (p : Pair) → IsMember p (pair a b ∷ []) → p.good ≡ p.faulty
  single p (inl m) = ap (λ (q : Pair). q.good) m ∙ (e ∙ sym (ap (λ (q : Pair). q.faulty) m))
  single p (inr m) = absurd m

-- each of the sets is alike
abbrev pub AllAlike : List (List Pair) → Type 0
AllAlike [] = Unit {0}
AllAlike (s ∷ sets) = IsAlike s × AllAlike sets

-- one member of each
firsts : (sets : List (List Pair)) → AllAlike sets → List Pair
firsts [] h = []
firsts (s ∷ sets) h = h.0.some ∷ firsts sets h.1

firsts_chosen : (sets : List (List Pair)) (h : AllAlike sets) → IsChoice (firsts sets h) sets
unfolding firsts
firsts_chosen [] h = tt
firsts_chosen (s ∷ sets) h = (h.0.member, firsts_chosen sets h.1)

halves_same : (pairs : List Pair) (sets : List (List Pair)) → IsChoice pairs sets → AllAlike sets
    → map (λ (p : Pair). p.good) pairs ≡ map (λ (p : Pair). p.faulty) pairs
halves_same [] [] m h = λ i. []
halves_same [] (s ∷ sets) m h = absurd m
halves_same (p ∷ pairs) [] m h = absurd m
halves_same (p ∷ pairs) (s ∷ sets) m h =
    let here : p.good ≡ p.faulty = h.0.alike p m.0 in
    let rest = halves_same pairs sets m.1 h.1 in
    λ i. here i ∷ rest i

-- a gate
pub lifted_alike : (kind : Kind) (sets : List (List Pair)) → AllAlike sets → IsAlike (lifted_set kind sets)
lifted_alike kind sets h = record {
  some = gate_pair kind (firsts sets h);
  member = (lifted_set_holds kind sets (gate_pair kind (firsts sets h))).1
      (firsts sets h, firsts_chosen sets h, λ i. gate_pair kind (firsts sets h));
  alike = λ p m.
      let a = (lifted_set_holds kind sets p).0 m in
      ap (λ (q : Pair). q.good) a.2
      ∙ (ap (gate_value kind) (halves_same a.0 sets a.1 h) ∙ sym (ap (λ (q : Pair). q.faulty) a.2));
}

-- ---- no difference

same_opposite : (a : Tern) → are_opposite a a ≡ false
same_opposite Zero = λ i. false
same_opposite One = λ i. false
same_opposite Unk = λ i. false

-- no pair of an alike set differs
pub none_differs : (set : List Pair) → IsAlike set → list_any differs set ≡ false
none_differs set h = by set (λ p m. h.alike p m) where
  by : (s : List Pair) → ((p : Pair) → IsMember p s → p.good ≡ p.faulty) → list_any differs s ≡ false
  by [] k = λ i. false
  by (p ∷ s) k =
      let here : differs p ≡ false = ap (are_opposite p.good) (sym (k p (inl (λ i. p)))) ∙ same_opposite p.good in
      let rest : list_any differs s ≡ false = by s (λ q m. k q (inr m)) in
      (λ i. here i || rest i)

-- not all pairs of an alike set differ
pub not_all_differ : (set : List Pair) → IsAlike set → list_all differs set ≡ false
not_all_differ set h = by set h.some h.member (h.alike h.some h.member) where
  by : (s : List Pair) (p : Pair) → IsMember p s → p.good ≡ p.faulty → list_all differs s ≡ false
  by [] p m e = absurd m
  by (q ∷ s) p (inl m) e =
      let here : differs q ≡ false =
      ap differs (sym m) ∙ (ap (are_opposite p.good) (sym e) ∙ same_opposite p.good) in
      and_left (differs q) (list_all differs s) here
  by (q ∷ s) p (inr m) e = and_right (differs q) (list_all differs s) (by s p m e)
