-- Which faults a list detects, by their first detections.
use Rattle.std.proofs.Common.{◌≡◌, ◌<◌, ◌≤◌, ◌+◌, ◌^◌, ◌++◌, ◌∷◌, [], inl, inr, ℕ, List, Bool, true, false, length, get_or, Option, Some, None, sym, ◌∙◌, ap, subst, arith, length-append}
use Rattle.std.specs.Prelude.{is_some}
use Rattle.std.specs.List.{All, Contains, range_with_len}
use Rattle.std.proofs.lemmas.Bool.{cases_eq}
use Rattle.std.proofs.lemmas.List.{get_or_default, map-append}
use Rattle.std.proofs.lemmas.List.Elements.{All-push, All-weaker, filter_passes, Contains-append_left, Contains-push}
use Rattle.ht_net.specs.declared.place.Place.{Place}
use Rattle.ht_net.specs.Circuit.Netlist.{Netlist}
use Rattle.ht_net.specs.Detect.Detection.{IsFirstDetection, unknown_state}
use Rattle.ht_faults.specs.Sites.{faults_of}
use Rattle.ht_faults.specs.Classes.{AreClasses, fault_at, is_representative, own_representatives}
use Rattle.ht_faults.proofs.OwnLaws.{own_is_fault, own_within, representative_is_own}
use Rattle.ht_proofs.specs.Detections.{place_at, AreFirstDetections}
use Rattle.ht_compact.specs.declared.detected.DetectedFault.{DetectedFault}
use Rattle.ht_compact.specs.Compacts.{IsDetectedBy, IsDetectedClass, AreDetectedClasses}
use Rattle.ht_compact.specs.DetectedFaults.{AreDetectedFaults, IsDetectedFault, fault_numbers}

-- a first detection is a detection, and where there is none the list detects nothing
pub detected_first : (c : Netlist) (list : List (List Bool)) (i : ℕ) (place : Option Place) → is_some place ≡ true
    → IsFirstDetection c (fault_at c i) list place → IsDetectedBy c list i
detected_first c list i None some first = cc
detected_first c list i (Some p) some first =
    record { vector = p.vector; output = p.output; detects = first.0 }

-- a list with no first detection of a fault doesn't detect it
pub undetected_first : (c : Netlist) (list : List (List Bool)) (i : ℕ) (place : Option Place)
    → is_some place ≡ false → IsFirstDetection c (fault_at c i) list place → ¬ IsDetectedBy c list i
undetected_first c list i None none first is = first is.vector is.output is.detects
undetected_first c list i (Some p) none first is = cc

-- ---- class by class

-- the representative of class k
abbrev pub own_at : List ℕ → ℕ → ℕ
own_at representatives k = get_or (own_representatives representatives) k 0

own_passes : (representatives : List ℕ) (k : ℕ) → k < length (own_representatives representatives)
    → is_representative representatives (own_at representatives k) ≡ true
own_passes representatives k inside =
    filter_passes (is_representative representatives) (range_with_len 0 (length representatives)) k 0 inside

-- the first detection of the representative of class k
pub own_first : (c : Netlist) (representatives : List ℕ) (list : List (List Bool)) (places : List (Option Place))
    (k i : ℕ) (place : Option Place) → AreClasses c representatives
    → AreFirstDetections c representatives (unknown_state c) list places → k < length
    (own_representatives representatives)
    → i ≡ own_at representatives k → place ≡ get_or places i place → IsFirstDetection c (fault_at c i) list place
own_first c representatives list places k i place classes are inside is read =
    let fault : i < length (faults_of c) = omega (arith, is, own_is_fault representatives k inside, classes.every) in
    let own : is_representative representatives i ≡ true =
    subst (λ (n : ℕ). is_representative representatives n ≡ true) (sym is) (own_passes representatives k inside) in
    let here : get_or places i place ≡ place_at places i =
    get_or_default places i place None (omega (arith, fault, are.each)) in
    subst (IsFirstDetection c (fault_at c i) list) (sym (read ∙ here)) (are.first i fault own)

-- The representatives of the first k classes that the list detects.
pub record AreDetectedSoFar (c : Netlist) (representatives : List ℕ) (list : List (List Bool)) (k : ℕ)
    (detected : List DetectedFault) : Type 0 where
  pub some : k ≤ length (own_representatives representatives)
  pub few : length detected ≤ k
  pub each : All (IsDetectedFault c list) detected
  pub sound : All (IsDetectedClass c representatives list) (fault_numbers detected)
  pub complete : (j : ℕ) → j < k → IsDetectedBy c list (own_at representatives j)
      → Contains (fault_numbers detected) (own_at representatives j)

-- no class yet
pub none_detected : (c : Netlist) (representatives : List ℕ) (list : List (List Bool)) (detected : List DetectedFault)
    → detected ≡ [] → AreDetectedSoFar c representatives list 0 detected
none_detected c representatives list detected is =
    subst (AreDetectedSoFar c representatives list 0) (sym is) (record {
      some = omega arith;
      few = omega arith;
      each = λ k d inside. absurd (omega (arith, inside));
      sound = λ k d inside. absurd (omega (arith, inside));
      complete = λ j less found. absurd (omega (arith, less));
    })

-- one class more is detected
pub detected_more : (c : Netlist) (representatives : List ℕ) (list : List (List Bool)) (k : ℕ)
    (detected more : List DetectedFault) (one : DetectedFault) → AreClasses c representatives
    → AreDetectedSoFar c representatives list k detected → k < length (own_representatives representatives)
    → one.fault ≡ own_at representatives k → IsDetectedFault c list one → more ≡ detected ++ one ∷ []
    → AreDetectedSoFar c representatives list (k + 1) more
detected_more c representatives list k detected more one classes so_far inside is here pushed =
    let numbers : fault_numbers (detected ++ one ∷ []) ≡ fault_numbers detected ++ one.fault ∷ [] =
    map-append (λ (d : DetectedFault). d.fault) detected (one ∷ []) in
    subst (AreDetectedSoFar c representatives list (k + 1)) (sym pushed) (record {
      some = omega (arith, inside);
      few = omega (arith, so_far.few, length-append detected (one ∷ []));
      each = All-push (IsDetectedFault c list) detected one so_far.each here;
      sound =
          subst (All (IsDetectedClass c representatives list)) (sym numbers)
          (All-push (IsDetectedClass c representatives list) (fault_numbers detected) one.fault so_far.sound (record {
            fault = omega (arith, is, own_is_fault representatives k inside, classes.every);
            representative =
                subst (λ (n : ℕ). is_representative representatives n ≡ true) (sym is)
                (own_passes representatives k inside);
            detected = record { vector = one.vector; output = here.output; detects = here.detects };
          }));
      complete = λ j less found.
          subst (λ (l : List ℕ). Contains l (own_at representatives j)) (sym numbers) (elim (cases_eq j k) [
            | inl same ↦
                subst (Contains (fault_numbers detected ++ one.fault ∷ []))
                (is ∙ ap (own_at representatives) (sym same)) (Contains-push (fault_numbers detected) one.fault)
            | inr other ↦
                Contains-append_left (fault_numbers detected) (one.fault ∷ []) (own_at representatives j)
                (so_far.complete j (omega arith) found)
          ]);
    })

-- one class more isn't
pub detected_same : (c : Netlist) (representatives : List ℕ) (list : List (List Bool)) (k : ℕ)
    (detected : List DetectedFault) (i : ℕ) → AreDetectedSoFar c representatives list k detected
    → i ≡ own_at representatives k → k < length (own_representatives representatives) → ¬ IsDetectedBy c list i
    → AreDetectedSoFar c representatives list (k + 1) detected
detected_same c representatives list k detected i so_far is inside none = record {
  some = omega (arith, inside);
  few = omega (arith, so_far.few);
  each = so_far.each;
  sound = so_far.sound;
  complete = λ j less found. elim (cases_eq j k) [
    | inl same ↦
        absurd (none (subst (IsDetectedBy c list) (ap (own_at representatives) same ∙ sym is) found))
    | inr other ↦ so_far.complete j (omega arith) found
  ];
}

-- a place that is read of a class
pub class_detected : (c : Netlist) (list : List (List Bool)) (i : ℕ) (place : Place) (read : Option Place)
    → read ≡ Some place → IsFirstDetection c (fault_at c i) list read
    → IsDetectedFault c list (record { fault = i; vector = place.vector })
class_detected c list i place read is first =
    record { output = place.output; detects = (subst (IsFirstDetection c (fault_at c i) list) is first).0 }

-- all classes
pub all_detected : (c : Netlist) (representatives : List ℕ) (list : List (List Bool)) (k : ℕ)
    (detected : List DetectedFault) → AreClasses c representatives
    → AreDetectedSoFar c representatives list k detected → length (own_representatives representatives) ≤ k
    → AreDetectedClasses c representatives list (fault_numbers detected)
all_detected c representatives list k detected classes so_far done = record {
  sound = so_far.sound;
  complete = λ i is.
      let own = representative_is_own representatives i (omega (arith, is.fault, classes.every)) is.representative in
      subst (Contains (fault_numbers detected)) own.2
      (so_far.complete own.0 (omega (arith, own.1, done)) (subst (IsDetectedBy c list) (sym own.2) is.detected));
}

-- and they are faults of the circuit
pub all_known : (c : Netlist) (representatives : List ℕ) (list : List (List Bool)) (k : ℕ)
    (detected : List DetectedFault) → AreDetectedSoFar c representatives list k detected
    → length representatives < 2 ^ 32 → AreDetectedFaults c list detected
all_known c representatives list k detected so_far few = record {
  each = so_far.each;
  known =
      All-weaker (IsDetectedClass c representatives list) (λ i. i < length (faults_of c)) (λ i is. is.fault)
      (fault_numbers detected) so_far.sound;
  few = omega (arith, few, so_far.few, so_far.some, own_within representatives);
}
