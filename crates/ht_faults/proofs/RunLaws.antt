-- Members of a class run alike.
use Rattle.std.proofs.Common.{◌≡◌, ◌<◌, ◌+◌, ℕ, List, [], ◌∷◌, Bool, true, false, cond, length, get_or, Option, Some, None, map, refl, sym, ◌∙◌, ap, subst}
use Rattle.std.specs.Prelude.{◌↔◌, MatchOption}
use Rattle.ht_tern.specs.declared.tern.Tern.{Tern}
use Rattle.ht_tern.specs.declared.tern.Tern.TheVariants.{Unk}
use Rattle.ht_tern.specs.declared.gate.Kind.{Kind}
use Rattle.ht_tern.specs.Gate.{tern_operations, bool_operations, gate_value, bool_gate_value, tern_of}
use Rattle.ht_net.specs.declared.fault.Fault.{Fault}
use Rattle.ht_net.specs.declared.place.Place.{Place}
use Rattle.ht_net.specs.declared.fault.Site.{Site}
use Rattle.ht_net.specs.declared.fault.Site.TheVariants.{GatePin}
use Rattle.ht_net.specs.Circuit.Netlist.{Netlist, first_gate_net, gate_at, arg_at, IsCircuit}
use Rattle.ht_net.specs.Frames.Frame.{Rules, frame_outputs, next_state, run_outputs, run_state}
use Rattle.ht_net.specs.Frames.Faults.{rules_of, tern_rules, bool_rules}
use Rattle.ht_tern.specs.Opposite.{Opposite}
use Rattle.ht_net.specs.Detect.Detection.{IsBefore, IsFirstFrom, output_from, outputs_from, terns_of}
use Rattle.ht_faults.specs.Sites.{is_fanout, faults_of}
use Rattle.ht_faults.specs.Table.{equivalent_output}
use Rattle.ht_faults.specs.Classes.{EquivalentPair, SameClass, itself, paired, turned, joined, output_line, fault_at, AreClasses}
use Rattle.ht_faults.specs.Alike.{RunAlike}
use Rattle.ht_net.proofs.DepthLaws.{circuit_depth}
use Rattle.ht_faults.proofs.GateLaws.{tern_bits, bool_bits, table_holds}
use Rattle.ht_faults.proofs.LoadLaws.{read_by}
use Rattle.ht_faults.proofs.LineLaws.{stuck, stem_site}
use Rattle.ht_faults.proofs.PairLaws.{HasTable, FrameAlike, pin_pair, stem_pair}

-- Machines that are alike in a frame are alike in a run.
frames_outputs : {V : Type 0} → (c : Netlist) (r s : Rules V) → FrameAlike c r s
    → (state : List V) (vectors : List (List V)) → run_outputs c r state vectors ≡ run_outputs c s state vectors
frames_outputs c r s h state [] = refl
frames_outputs {V} c r s h state (vector ∷ vectors) =
    ap (λ (row : List V). row ∷ run_outputs c r (next_state c r vector state) vectors) (h.outputs vector state)
    ∙ ap (λ (rows : List (List V)). frame_outputs c s vector state ∷ rows)
    (ap (λ (next : List V). run_outputs c r next vectors) (h.next vector state) ∙ frames_outputs c r s h
    (next_state c s vector state) vectors)

frames_states : {V : Type 0} → (c : Netlist) (r s : Rules V) → FrameAlike c r s
    → (state : List V) (vectors : List (List V)) → run_state c r state vectors ≡ run_state c s state vectors
frames_states c r s h state [] = refl
frames_states {V} c r s h state (vector ∷ vectors) =
    ap (λ (next : List V). run_state c r next vectors) (h.next vector state) ∙ frames_states c r s h
    (next_state c s vector state) vectors

frames_alike : {V : Type 0} → (c : Netlist) (r s : Rules V) → FrameAlike c r s → RunAlike c r s
frames_alike c r s h = record { outputs = frames_outputs c r s h; states = frames_states c r s h }

module _ {V : Type 0} (blank : V) (gate : Kind → List V → V) (at : Bool → V) (table : HasTable blank gate at)
    (c : Netlist) (circuit : IsCircuit c) where
  abbrev machine : Fault → Rules V
  machine f = rules_of blank gate (λ b v. at b) (Some f)

  -- by whether the input's net is a fanout
  pair_by : (g i : ℕ) (v w : Bool) → g < length c.gates → i < length (gate_at c g).args
      → equivalent_output (gate_at c g).kind (length (gate_at c g).args) v ≡ Some w
      → (fanout : Bool) → is_fanout c (arg_at c g i) ≡ fanout
      → FrameAlike c (stuck blank gate at (cond fanout (GatePin g i) (stem_site (arg_at c g i))) v)
      (stuck blank gate at (stem_site (first_gate_net c + g)) w)
  pair_by g i v w inside pin values true is =
      let d = circuit_depth c circuit in
      pin_pair blank gate at table c d.0 d.1 circuit g i v w inside pin values
  pair_by g i v w inside pin values false is =
      let d = circuit_depth c circuit in
      stem_pair blank gate at table c d.0 d.1 circuit g i v w inside pin values (arg_at c g i)
      (circuit.known g i inside pin) refl
      (read_by c (arg_at c g i) g i is inside pin refl)

  pair_alike : (f g : Fault) → EquivalentPair c f g → FrameAlike c (machine f) (machine g)
  pair_alike f g h =
      let alike = pair_by h.gate h.pin f.value g.value h.is_gate h.is_pin h.values (is_fanout c (arg_at c h.gate h.pin))
      refl in
      let by_input : Site → Type 0 = λ site. FrameAlike c (stuck blank gate at site f.value)
      (stuck blank gate at (output_line c h.gate) g.value) in
      let by_output : Site → Type 0 = λ site. FrameAlike c (stuck blank gate at f.site f.value)
      (stuck blank gate at site g.value) in
      subst by_output (sym h.at_output) (subst by_input (sym h.at_input) alike)

  members_alike : (f g : Fault) → SameClass c f g → RunAlike c (machine f) (machine g)
  members_alike _ _ (itself f) = record { outputs = λ state vectors. refl; states = λ state vectors. refl }
  members_alike _ _ (paired f g h) = frames_alike c (machine f) (machine g) (pair_alike f g h)
  members_alike _ _ (turned f g h) =
      let alike = members_alike f g h in
      record {
        outputs = λ state vectors. sym (alike.outputs state vectors);
        states = λ state vectors. sym (alike.states state vectors);
      }
  members_alike _ _ (joined f g k h l) =
      let first = members_alike f g h in
      let second = members_alike g k l in
      record {
        outputs = λ state vectors. first.outputs state vectors ∙ second.outputs state vectors;
        states = λ state vectors. first.states state vectors ∙ second.states state vectors;
      }

tern_table : HasTable Unk gate_value tern_of
tern_table = record { decides = table_holds tern_operations tern_of Unk tern_bits }

bool_table : HasTable false bool_gate_value (λ b. b)
bool_table = record { decides = table_holds bool_operations (λ b. b) false bool_bits }

-- machines with faults of one class run alike over three values
pub tern_members_alike : (c : Netlist) (f g : Fault) → IsCircuit c → SameClass c f g
    → RunAlike c (tern_rules (Some f)) (tern_rules (Some g))
tern_members_alike c f g circuit h = members_alike Unk gate_value tern_of tern_table c circuit f g h

-- machines with faults of one class run alike over two values
pub bool_members_alike : (c : Netlist) (f g : Fault) → IsCircuit c → SameClass c f g
    → RunAlike c (bool_rules (Some f)) (bool_rules (Some g))
bool_members_alike c f g circuit h = members_alike false bool_gate_value (λ b. b) bool_table c circuit f g h

-- What a list detects first depends on the faulty machine's outputs alone.
abbrev DetectsBy : Netlist → List Tern → List (List Bool) → List (List Tern) → ℕ → ℕ → Type 0
DetectsBy c start list rows t o = Opposite (output_from c None start list t o) (get_or (get_or rows t []) o Unk)

abbrev IsFirstBy : Netlist → List Tern → List (List Bool) → Option Place → List (List Tern) → Type 0
IsFirstBy c start list place rows =
    MatchOption place ((t o : ℕ) → ¬ DetectsBy c start list rows t o)
    (λ p. DetectsBy c start list rows p.vector p.output
    × ((t o : ℕ) → IsBefore t o p → ¬ DetectsBy c start list rows t o))

-- a list detects faults of one class first at the same place, from the same start
pub members_detected : (c : Netlist) (f g : Fault) (start : List Tern) (list : List (List Bool)) (place : Option Place)
    → IsCircuit c → SameClass c f g
    → IsFirstFrom c f start list place ↔ IsFirstFrom c g start list place
members_detected c f g start list place circuit h =
    let rows : outputs_from c (Some f) start list
    ≡ outputs_from c (Some g) start list = (tern_members_alike c f g circuit h).outputs start (map terns_of list) in
    (subst (IsFirstBy c start list place) rows, subst (IsFirstBy c start list place) (sym rows))

-- a list detects a fault first at the place where it detects its representative first
pub representative_detected : (c : Netlist) (representatives : List ℕ) (i : ℕ) (start : List Tern)
    (list : List (List Bool)) (place : Option Place) → IsCircuit c → AreClasses c representatives
    → i < length (faults_of c) → IsFirstFrom c (fault_at c (get_or representatives i 0)) start list place
    ↔ IsFirstFrom c (fault_at c i) start list place
representative_detected c representatives i start list place circuit h inside =
    members_detected c (fault_at c (get_or representatives i 0)) (fault_at c i) start list place circuit
    (h.exact i inside).member

-- The members of a class show the same, in three values and in two, and are detected by the same lists.
pub ruleset members_rules = (tern_members_alike, bool_members_alike, members_detected)
