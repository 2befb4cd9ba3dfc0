-- Diagnoses, fault by fault.
use Rattle.std.proofs.Common.{◌≡◌, ◌<◌, ◌+◌, ◌++◌, ◌∷◌, [], inl, inr, ℕ, List, Bool, true, length, Option, Some, None, sym, ◌∙◌, ap, subst, arith, length-append}
use Rattle.std.specs.Option.{ForSome}
use Rattle.std.proofs.lemmas.Bool.{cases_eq}
use Rattle.std.proofs.lemmas.List.{get_or_append_left}
use Rattle.std.proofs.Math.Seq.{get_or-append_seam}
use Rattle.ht_tern.specs.declared.tern.Tern.{Tern}
use Rattle.ht_net.specs.declared.place.Place.{Place}
use Rattle.ht_net.specs.Circuit.Netlist.{Netlist}
use Rattle.ht_net.specs.Detect.Detection.{IsPlace}
use Rattle.ht_faults.specs.Classes.{fault_at, is_representative}
use Rattle.ht_serial.specs.Contradictions.{IsFirstContradiction}
use Rattle.ht_dictionary.specs.Diagnoses.{contradiction_at}

-- this place is what is said of fault i
pub record IsPlaceOf (c : Netlist) (representatives : List ℕ) (list : List (List Bool)) (rows : List (List Tern))
    (i : ℕ) (place : Option Place) : Type 0 where
  pub first : is_representative representatives i ≡ true
      → IsFirstContradiction c (Some (fault_at c i)) list rows place
  pub within : ForSome place (IsPlace c)

-- the same of the first faults
pub record ArePlacesOf (c : Netlist) (representatives : List ℕ) (list : List (List Bool)) (rows : List (List Tern))
    (n : ℕ) (places : List (Option Place)) : Type 0 where
  pub each : length places ≡ n
  pub every : (i : ℕ) → i < n → IsPlaceOf c representatives list rows i (contradiction_at places i)

-- one fault more
pub one_place_more : (c : Netlist) (representatives : List ℕ) (list : List (List Bool)) (rows : List (List Tern))
    (n : ℕ) (places more : List (Option Place)) (place : Option Place)
    → ArePlacesOf c representatives list rows n places → more ≡ places ++ place ∷ []
    → IsPlaceOf c representatives list rows n place → ArePlacesOf c representatives list rows (n + 1) more
one_place_more c representatives list rows n places more place so_far pushed one = record {
  each = omega (
    arith,
    ap (λ (l : List (Option Place)). length l) pushed,
    length-append places (place ∷ []),
    so_far.each,
  );
  every = λ i less. elim (cases_eq i n) [
    | inl same ↦
        let here : contradiction_at more i ≡ place = ap (λ (l : List (Option Place)). contradiction_at l i) pushed
        ∙ (ap (contradiction_at (places ++ place ∷ [])) (same ∙ sym so_far.each)
        ∙ get_or-append_seam places place [] None) in
        subst (IsPlaceOf c representatives list rows i) (sym here)
        (subst (λ (k : ℕ). IsPlaceOf c representatives list rows k place) (sym same) one)
    | inr other ↦
        let below : i < n = omega arith in
        let here : contradiction_at more i ≡ contradiction_at places i =
        ap (λ (l : List (Option Place)). contradiction_at l i) pushed
        ∙ get_or_append_left places (place ∷ []) None i (omega (arith, below, so_far.each)) in
        subst (IsPlaceOf c representatives list rows i) (sym here) (so_far.every i below)
  ];
}
