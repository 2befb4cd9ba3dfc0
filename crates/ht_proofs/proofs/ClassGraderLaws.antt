-- What a grader of classes keeps over its lists.
use Rattle.std.proofs.Common.{◌≡◌, ◌<◌, ◌++◌, ℕ, List, [], Bool, true, Option, Some, None, length, get_or, replicate, refl, sym, ◌∙◌, ap, subst, arith, inl, inr, length-append}
use Rattle.std.specs.List.{slice_get}
use Rattle.std.specs.Option.{ForSome, option_map}
use Rattle.std.proofs.lemmas.List.{get_or_past, get_or-replicate, length-replicate}
use Rattle.std.proofs.lemmas.Option.{slice_get-map, slice_get-get_or}
use Rattle.ht_tern.specs.declared.tern.Tern.{Tern}
use Rattle.ht_net.specs.declared.fault.Fault.{Fault}
use Rattle.ht_net.specs.declared.place.Place.{Place}
use Rattle.ht_net.specs.Circuit.Netlist.{Netlist}
use Rattle.ht_net.specs.Detect.Detection.{IsFirstFrom, IsStart, state_from}
use Rattle.ht_net.proofs.ApartLaws.{detected_apart_from}
use Rattle.ht_net.proofs.FrameLaws.{le_or_lt}
use Rattle.ht_faults.specs.Sites.{faults_of}
use Rattle.ht_faults.specs.Classes.{AreClasses, fault_at, is_representative, own_representatives}
use Rattle.ht_serial.specs.Places.{IsWithin}
use Rattle.ht_proofs.specs.PackedView.{GraderStandsFor, state_at, verdict_at}
use Rattle.ht_proofs.specs.Detections.{AreFirstDetections, ArePlaces, AreWithin, place_at}
use Rattle.ht_proofs.specs.ClassGraderView.{AreOfClasses, ClassGraderStandsFor, ClassGraderView, IsVerdictOn}
use Rattle.ht_proofs.specs.ClassGraderOf.{IsClassGrader}
use Rattle.ht_proofs.proofs.DetectionLaws.{chosen_again}
use Rattle.ht_proofs.proofs.VectorLaws.{found_inside}

-- ---- before the first list

-- no vectors detect nothing
none_detected : (c : Netlist) (fault : Fault) (start : List Tern) → IsFirstFrom c fault start [] None
none_detected c fault start t o d =
    let inside : t < 0 = found_inside c fault start [] t o d in absurd (omega (arith, inside))

-- an entry that is no place
abbrev pub nowhere : Option Place
nowhere = None

-- where every entry is none, no fault has a place
pub none_placed : (n i : ℕ) (places : List (Option Place)) → places ≡ replicate n None → place_at places i ≡ None
none_placed n i places is =
    ap (λ (l : List (Option Place)). get_or l i None) is ∙ elim (le_or_lt n i) [
      | inl past ↦ get_or_past (replicate n None) i None (omega (arith, past, length-replicate n nowhere))
      | inr inside ↦ get_or-replicate n i None None inside
    ]

-- none is a place of whatever there is
pub none_for : (P : Place → Type 0) (place : Option Place) → place ≡ None → ForSome place P
none_for P place none = λ p some. let bad : None ≡ Some p = sym none ∙ some in cc

-- a grader without places stands for no vectors
pub starts : (g : ClassGraderView) (start : List Tern) → AreClasses g.machines.circuit g.representatives
    → IsStart g.machines.circuit start → length g.places ≡ length g.representatives
    → ((i : ℕ) → place_at g.places i ≡ None) → GraderStandsFor g.machines start [] → ClassGraderStandsFor g start []
starts g start classes latches each none stands = record {
  latches = latches;
  first = record {
    each = each ∙ classes.every;
    first = λ i inside own.
        subst (IsFirstFrom g.machines.circuit (fault_at g.machines.circuit i) start []) (sym (none i))
        (none_detected g.machines.circuit (fault_at g.machines.circuit i) start);
  };
  within = λ i. none_for (IsWithin g.machines.circuit []) (place_at g.places i) (none i);
  run = λ live. stands;
}

-- ---- one list more

-- machines of the same faults are those of the classes
pub still_of_classes : (g h : ClassGraderView) → h.machines.circuit ≡ g.machines.circuit
    → h.machines.faults ≡ g.machines.faults → h.representatives ≡ g.representatives
    → length h.places ≡ length g.places → ArePlaces h.machines.circuit h.places → IsClassGrader g → IsClassGrader h
still_of_classes g h circuit faults representatives each known is = record {
  classes = subst (AreClasses h.machines.circuit) (sym representatives)
      (subst (λ (n : Netlist). AreClasses n g.representatives) (sym circuit) is.classes);
  faults = subst (AreOfClasses h.machines) (sym representatives)
      (chosen_again g.machines.circuit h.machines.circuit g.representatives h.machines.faults circuit
      (faults ∙ is.faults));
  each = each ∙ (is.each ∙ ap (λ (l : List ℕ). length l) (sym representatives));
  known = known;
}

-- places within a list are within a longer one
within_longer : (c : Netlist) (list more : List (List Bool)) (places : List (Option Place)) → AreWithin c list places
    → AreWithin c (list ++ more) places
within_longer c list more places within = λ i p is.
    let here = within i p is in
    record { vector = omega (arith, here.vector, length-append list more); output = here.output }

-- What a list is added to stands for the longer list, if the machines run through the list and the places are theirs.
pub adds : (g h : ClassGraderView) (start : List Tern) (before more : List (List Bool))
    → h.machines.circuit ≡ g.machines.circuit → g.live ≡ true
    → (GraderStandsFor g.machines start before → GraderStandsFor h.machines start (before ++ more))
    → (GraderStandsFor h.machines start (before ++ more) → AreWithin h.machines.circuit (before ++ more) g.places
    → AreFirstDetections h.machines.circuit h.representatives start (before ++ more) h.places)
    → (GraderStandsFor h.machines start (before ++ more) → AreWithin h.machines.circuit (before ++ more) g.places
    → AreWithin h.machines.circuit (before ++ more) h.places)
    → ClassGraderStandsFor g start before → ClassGraderStandsFor h start (before ++ more)
adds g h start before more circuit live runs first within stands = record {
  latches = subst (λ (n : Netlist). IsStart n start) (sym circuit) stands.latches;
  first = first run old;
  within = within run old;
  run = λ still. run;
}
  where
    run : GraderStandsFor h.machines start (before ++ more)
    run = runs (stands.run live)

    old : AreWithin h.machines.circuit (before ++ more) g.places
    old = subst (λ (n : Netlist). AreWithin n (before ++ more) g.places) (sym circuit)
        (within_longer g.machines.circuit before more g.places stands.within)

-- ---- what a verdict says

-- the entry of a representative is the verdict on its fault over the list that the grader stands for
pub verdict_on : (g : ClassGraderView) (start : List Tern) (list : List (List Bool)) (i : ℕ) (place : Option Place)
    → i < length (faults_of g.machines.circuit) → is_representative g.representatives i ≡ true
    → place ≡ place_at g.places i → ClassGraderStandsFor g start list
    → IsVerdictOn g.machines.circuit i start list place
verdict_on g start list i place inside own here stands = record {
  first = first;
  within = subst (λ (p : Option Place). ForSome p (IsWithin g.machines.circuit list)) (sym here) (stands.within i);
  apart = λ p found. detected_apart_from g.machines.circuit fault start list p.vector p.output
      (subst (IsFirstFrom g.machines.circuit fault start list) found first).0;
}
  where
    fault : Fault
    fault = fault_at g.machines.circuit i

    first : IsFirstFrom g.machines.circuit fault start list place
    first = subst (IsFirstFrom g.machines.circuit fault start list) (sym here) (stands.first.first i inside own)

-- ---- the machine of a representative

module _ (g : ClassGraderView) (faults : AreOfClasses g.machines g.representatives) (i k : ℕ)
    (within : k < length (own_representatives g.representatives))
    (is : get_or (own_representatives g.representatives) k 0 ≡ i) where
  abbrev own : List ℕ
  own = own_representatives g.representatives

  abbrev fault : Fault
  fault = fault_at g.machines.circuit i

  machine_is : slice_get g.machines.faults k ≡ Some fault
  machine_is = ap (λ (l : List Fault). slice_get l k) faults
      ∙ (slice_get-map (fault_at g.machines.circuit) own k
      ∙ (ap (option_map (fault_at g.machines.circuit)) (slice_get-get_or own k 0 within)
      ∙ ap (λ (n : ℕ). Some (fault_at g.machines.circuit n)) is))

  -- what no vectors detect has no verdict
  none_seen : (start : List Tern) (list : List (List Bool)) → IsFirstFrom g.machines.circuit fault start list None
      → (place : Option Place) → IsFirstFrom g.machines.circuit fault start list place → place ≡ None
  none_seen start list undetected None first = refl
  none_seen start list undetected (Some p) first = absurd (undetected p.vector p.output first.0)

  -- the machine of a representative without a place has the latches that its fault gives after the list
  pub state_after : (start : List Tern) (list : List (List Bool)) → i < length (faults_of g.machines.circuit)
      → is_representative g.representatives i ≡ true → place_at g.places i ≡ None → g.live ≡ true
      → ClassGraderStandsFor g start list
      → state_at g.machines k ≡ state_from g.machines.circuit (Some fault) start list
  state_after start list inside represents none live stands =
      let run = stands.run live in
      let undetected = subst (IsFirstFrom g.machines.circuit fault start list) none
      (stands.first.first i inside represents) in
      run.state k fault machine_is (none_seen start list undetected (verdict_at g.machines k)
      (run.first k fault machine_is))
