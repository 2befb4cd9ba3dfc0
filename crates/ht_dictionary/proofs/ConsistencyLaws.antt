-- What a contradiction means: a machine that explains an observation has none, so what it shows doesn't contradict it;
-- and members of a class have the same.
use Rattle.std.proofs.Common.{◌≡◌, ◌<◌, ℕ, List, [], Bool, true, false, Option, Some, None, length, get_or, map, refl, sym, ◌∙◌, subst, inl, inr}
use Rattle.std.specs.Prelude.{◌↔◌, MatchOption}
use Rattle.std.proofs.lemmas.Bool.{eq-eqb}
use Rattle.ht_tern.specs.declared.tern.Tern.{Tern}
use Rattle.ht_tern.specs.declared.tern.Tern.TheVariants.{Zero, One}
use Rattle.ht_tern.specs.Gate.{StandsFor}
use Rattle.ht_tern.specs.Opposite.{Opposite}
use Rattle.ht_net.specs.declared.fault.Fault.{Fault}
use Rattle.ht_net.specs.declared.place.Place.{Place}
use Rattle.ht_net.specs.Circuit.Netlist.{Netlist, IsCircuit}
use Rattle.ht_net.specs.Detect.Detection.{IsBefore, IsStart, IsState, bit_at, output_at, outputs_from, some_state, terns_of, unknown_state}
use Rattle.ht_net.proofs.ApartLaws.{output_stands, unknown_allows}
use Rattle.ht_net.proofs.SilenceLaws.{some_allowed, some_long}
use Rattle.ht_faults.specs.Sites.{faults_of}
use Rattle.ht_faults.specs.Classes.{AreClasses, fault_at}
use Rattle.ht_faults.proofs.ClassLaws.{own_representative}
use Rattle.ht_faults.proofs.RunLaws.{tern_members_alike}
use Rattle.ht_serial.specs.Contradictions.{observed_at, Contradicts, IsFirstContradiction}
use Rattle.ht_serial.specs.Opposites.{IsOppositeAt}
use Rattle.ht_serial.proofs.ContradictionLaws.{opposite_within}
use Rattle.ht_dictionary.specs.Diagnoses.{Diagnoses, Explains, contradiction_at}
use Rattle.ht_dictionary.specs.DiagnosisView.{DiagnosisView}

-- ---- one machine

-- No bit stands for both of two opposite values.
one_bit : (a b : Tern) (bit : Bool) → StandsFor a bit → StandsFor b bit → ¬ Opposite a b
one_bit Zero One true (inl h) g o = cc
one_bit Zero One true (inr h) g o = cc
one_bit Zero One false h (inl g) o = cc
one_bit Zero One false h (inr g) o = cc
one_bit One Zero false (inl h) g o = cc
one_bit One Zero false (inr h) g o = cc
one_bit One Zero true h (inl g) o = cc
one_bit One Zero true h (inr g) o = cc
one_bit a b bit h g o = o

-- A machine that explains an observation contradicts none of it.
pub explained_consistent : (c : Netlist) (fault : Option Fault) (state : List Bool) (list : List (List Bool))
    (rows : List (List Tern)) → IsState c state → Explains c fault state list rows
    → (t o : ℕ) → ¬ Contradicts c fault list rows t o
explained_consistent c fault state list rows is explains t o h =
    let within = opposite_within (observed_at rows t o) c fault (unknown_state c) list t o h in
    one_bit (observed_at rows t o) (output_at c fault list t o) (bit_at c fault state list t o)
    (explains t o within.0 within.1) (output_stands c fault (unknown_state c) state list t o (unknown_allows c state is)) h

-- What a machine shows from a start is explained by its run from a state that the start allows.
pub shown_consistent : (c : Netlist) (fault : Option Fault) (start : List Tern) (list : List (List Bool))
    → IsStart c start → (t o : ℕ) → ¬ Contradicts c fault list (outputs_from c fault start list) t o
shown_consistent c fault start list is =
    let state = some_state start in
    explained_consistent c fault state list (outputs_from c fault start list) (some_long start ∙ is)
    (λ t o vector output. output_stands c fault start state list t o (some_allowed start))

-- ---- its class

-- A fault and the representative of its class show the same.
pub members_shown : (c : Netlist) (representatives : List ℕ) (i : ℕ) (start : List Tern) (list : List (List Bool))
    → IsCircuit c → AreClasses c representatives → i < length (faults_of c)
    → outputs_from c (Some (fault_at c (get_or representatives i 0))) start list
    ≡ outputs_from c (Some (fault_at c i)) start list
members_shown c representatives i start list circuit classes inside =
    (tern_members_alike c (fault_at c (get_or representatives i 0)) (fault_at c i) circuit
    (classes.exact i inside).member).outputs start (map terns_of list)

-- the first contradiction, by the rows that the machine shows
abbrev IsFirstInRows : List (List Tern) → Option Place → List (List Tern) → Type 0
IsFirstInRows rows place shown =
    MatchOption place ((t o : ℕ) → ¬ IsOppositeAt (get_or rows t []) (get_or shown t []) o)
    (λ p. IsOppositeAt (get_or rows p.vector []) (get_or shown p.vector []) p.output
    × ((t o : ℕ) → IsBefore t o p → ¬ IsOppositeAt (get_or rows t []) (get_or shown t []) o))

-- They have the same first contradiction.
pub members_contradicted : (c : Netlist) (representatives : List ℕ) (i : ℕ) (list : List (List Bool))
    (rows : List (List Tern)) (place : Option Place) → IsCircuit c → AreClasses c representatives
    → i < length (faults_of c)
    → IsFirstContradiction c (Some (fault_at c (get_or representatives i 0))) list rows place
    ↔ IsFirstContradiction c (Some (fault_at c i)) list rows place
members_contradicted c representatives i list rows place circuit classes inside =
    let shown = members_shown c representatives i (unknown_state c) list circuit classes inside in
    (subst (IsFirstInRows rows place) shown, subst (IsFirstInRows rows place) (sym shown))

-- ---- a diagnosis

-- where there is no contradiction there is no first one
none_first : (c : Netlist) (fault : Option Fault) (list : List (List Bool)) (rows : List (List Tern))
    (place : Option Place) → ((t o : ℕ) → ¬ Contradicts c fault list rows t o)
    → IsFirstContradiction c fault list rows place → place ≡ None
none_first c fault list rows None none first = refl
none_first c fault list rows (Some p) none first = absurd (none p.vector p.output first.0)

-- What the good machine shows is consistent with it, by each diagnosis.
pub good_diagnosed : (c : Netlist) (representatives : List ℕ) (start : List Tern) (list : List (List Bool))
    (diagnosis : DiagnosisView) → IsStart c start
    → Diagnoses c representatives list (outputs_from c None start list) diagnosis → diagnosis.good ≡ None
good_diagnosed c representatives start list diagnosis is said =
    none_first c None list (outputs_from c None start list) diagnosis.good (shown_consistent c None start list is)
    said.good

-- What a faulty machine shows is consistent with its representative.
pub fault_diagnosed : (c : Netlist) (representatives : List ℕ) (i : ℕ) (start : List Tern) (list : List (List Bool))
    (diagnosis : DiagnosisView) → IsCircuit c → AreClasses c representatives → i < length (faults_of c)
    → IsStart c start → Diagnoses c representatives list (outputs_from c (Some (fault_at c i)) start list) diagnosis
    → contradiction_at diagnosis.places (get_or representatives i 0) ≡ None
fault_diagnosed c representatives i start list diagnosis circuit classes inside is said =
    let r : ℕ = get_or representatives i 0 in
    let rows = outputs_from c (Some (fault_at c i)) start list in
    let own = eq-eqb (get_or representatives r 0) r (own_representative c representatives i classes inside) in
    let consistent = (members_contradicted c representatives i list rows None circuit classes inside).1
    (shown_consistent c (Some (fault_at c i)) start list is) in
    none_first c (Some (fault_at c r)) list rows (contradiction_at diagnosis.places r) consistent
    (said.first r (classes.exact i inside).listed own)
