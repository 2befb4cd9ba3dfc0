-- First detections, class by class, from what a packed grader keeps of the representatives.
use Rattle.std.proofs.Common.{◌≡◌, ◌<◌, ◌≤◌, ◌+◌, inl, inr, ℕ, List, Bool, length, get_or, set, Option, None, sym, ◌∙◌, ap, subst, arith}
use Rattle.std.specs.List.{slice_get}
use Rattle.std.specs.Option.{ForSome, option_map}
use Rattle.std.proofs.lemmas.Option.{slice_get-map, slice_get-get_or}
use Rattle.std.proofs.lemmas.Bool.{cases_eq}
use Rattle.std.proofs.lemmas.List.{length-set, get_or-set_same, get_or-set_other}
use Rattle.ht_tern.specs.declared.tern.Tern.{Tern}
use Rattle.ht_net.specs.declared.fault.Fault.{Fault}
use Rattle.ht_net.specs.declared.place.Place.{Place}
use Rattle.ht_net.specs.Circuit.Netlist.{Netlist}
use Rattle.ht_net.specs.Detect.Detection.{DetectsFrom, IsFirstFrom}
use Rattle.ht_faults.specs.Sites.{faults_of}
use Rattle.ht_faults.specs.Classes.{fault_at, own_representatives}
use Rattle.ht_faults.proofs.OwnLaws.{representative_is_own}
use Rattle.ht_serial.specs.Places.{IsWithin}
use Rattle.ht_proofs.specs.PackedView.{PackedView, GraderStandsFor, chosen_faults, verdict_at}
use Rattle.ht_proofs.specs.Detections.{place_at, AreFirstDetections, AreWithin}
use Rattle.ht_proofs.proofs.VectorLaws.{found_inside, found_output}

-- the first detections of the first k classes
pub record AreFirstSoFar (c : Netlist) (representatives : List ℕ) (start : List Tern) (list : List (List Bool)) (k : ℕ)
    (places : List (Option Place)) : Type 0 where
  pub each : length places ≡ length (faults_of c)
  pub first : (j : ℕ) → j < k → IsFirstFrom c (fault_at c (get_or (own_representatives representatives) j 0)) start list
      (place_at places (get_or (own_representatives representatives) j 0))
  pub within : AreWithin c list places

-- what holds of each entry that is a place holds once one is written of which it holds
pub each_set : (P : Place → Type 0) (places : List (Option Place)) (place : Option Place) (i : ℕ) → i < length places
    → ForSome place P → ((j : ℕ) → ForSome (place_at places j) P) → (j : ℕ)
    → ForSome (place_at (set places i place) j) P
each_set P places place i inside here each j = elim (cases_eq j i) [
  | inl same ↦
      subst (λ n. ForSome (place_at (set places i place) n) P) (sym same)
      (subst (λ p. ForSome p P) (sym (get_or-set_same places i place None inside)) here)
  | inr other ↦
      subst (λ p. ForSome p P) (sym (get_or-set_other places i j place None other)) (each j)
]

-- one class more: its representative's entry is written
pub one_more : (c : Netlist) (representatives : List ℕ) (start : List Tern) (list : List (List Bool))
    (places : List (Option Place))
    (place : Option Place) (k i : ℕ)
    → AreFirstSoFar c representatives start list k places → i ≡ get_or (own_representatives representatives) k 0
    → i < length places → IsFirstFrom c (fault_at c i) start list place → ForSome place (IsWithin c list)
    → AreFirstSoFar c representatives start list (k + 1) (set places i place)
one_more c representatives start list places place k i so_far is inside first within = record {
  each = length-set places i place ∙ so_far.each;
  first = λ j less. elim (cases_eq (own j) i) [
    | inl same ↦
        subst (λ n. IsFirstFrom c (fault_at c n) start list (place_at (set places i place) n)) (sym same)
        (subst (IsFirstFrom c (fault_at c i) start list) (sym written) first)
    | inr other ↦ elim (cases_eq j k) [
      | inl last ↦ absurd (other (ap own last ∙ sym is))
      | inr before ↦
          subst (IsFirstFrom c (fault_at c (own j)) start list)
          (sym (get_or-set_other places i (own j) place None other))
          (so_far.first j (omega arith))
    ]
  ];
  within = each_set (IsWithin c list) places place i inside within so_far.within;
}
  where
    own : ℕ → ℕ
    own j = get_or (own_representatives representatives) j 0

    written : place_at (set places i place) i ≡ place
    written = get_or-set_same places i place None inside

-- all classes
pub all_first : (c : Netlist) (representatives : List ℕ) (start : List Tern) (list : List (List Bool))
    (places : List (Option Place))
    (k : ℕ)
    → length representatives ≡ length (faults_of c) → AreFirstSoFar c representatives start list k places
    → length (own_representatives representatives) ≤ k → AreFirstDetections c representatives start list places
all_first c representatives start list places k every so_far done = record {
  each = so_far.each;
  first = λ i inside is.
      let found = representative_is_own representatives i (omega (arith, inside, every)) is in
      subst (λ n. IsFirstFrom c (fault_at c n) start list (place_at places n)) found.2
      (so_far.first found.0 (omega (arith, found.1, done)));
}

-- a place where a list detects a fault is one of the circuit and of the list
pub detected_within : (c : Netlist) (fault : Fault) (start : List Tern) (list : List (List Bool)) (p : Place)
    → DetectsFrom c fault start list p.vector p.output → IsWithin c list p
detected_within c fault start list p d = record {
  vector = found_inside c fault start list p.vector p.output d;
  output = found_output c fault start list p.vector p.output d;
}

-- The verdict of a packed grader on the k-th representative is its first detection.
pub own_verdict : (c : Netlist) (representatives : List ℕ) (start : List Tern) (list : List (List Bool))
    (packed : PackedView) (k : ℕ)
    → packed.circuit ≡ c → packed.faults ≡ chosen_faults (faults_of c) (own_representatives representatives)
    → k < length (own_representatives representatives) → GraderStandsFor packed start list
    → IsFirstFrom c (fault_at c (get_or (own_representatives representatives) k 0)) start list (verdict_at packed k)
own_verdict c representatives start list packed k circuit faults inside stands =
    subst (λ (n : Netlist). IsFirstFrom n (fault_at c (get_or own k 0)) start list (verdict_at packed k)) circuit
    (stands.first k (fault_at c (get_or own k 0)) (ap (λ (l : List Fault). slice_get l k) faults
    ∙ (slice_get-map (fault_at c) own k ∙ ap (option_map (fault_at c)) (slice_get-get_or own k 0 inside))))
  where
    own : List ℕ
    own = own_representatives representatives

-- a first detection is within the circuit and the list
pub first_within : (c : Netlist) (fault : Fault) (start : List Tern) (list : List (List Bool)) (place : Option Place)
    → IsFirstFrom c fault start list place → ForSome place (IsWithin c list)
first_within c fault start list place first =
    λ p is. detected_within c fault start list p (subst (IsFirstFrom c fault start list) is first).0

-- the representatives of the circuit of a packed grader are its faults, whatever the circuit is called
pub chosen_again : (c d : Netlist) (representatives : List ℕ) (faults : List Fault) → d ≡ c
    → faults ≡ chosen_faults (faults_of c) (own_representatives representatives)
    → faults ≡ chosen_faults (faults_of d) (own_representatives representatives)
chosen_again c d representatives faults same is =
    is ∙ ap (λ (n : Netlist). chosen_faults (faults_of n) (own_representatives representatives)) (sym same)
