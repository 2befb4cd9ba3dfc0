-- Classes of equivalent faults.
use Rattle.std.specs.Prelude.{◌≡◌, ◌<◌, ◌+◌, ◌==◌, ℕ, List, Bool, Some, length, get_or, cond, filter}
use Rattle.std.specs.List.{range_with_len}
use Rattle.ht_net.specs.declared.fault.Site.{Site}
use Rattle.ht_net.specs.declared.fault.Site.TheVariants.{Stem, GatePin}
use Rattle.ht_net.specs.declared.fault.Fault.{Fault}
use Rattle.ht_net.specs.Circuit.Netlist.{Netlist, first_gate_net, gate_at, arg_at}
use Rattle.ht_faults.specs.Sites.{is_fanout, faults_of}
use Rattle.ht_faults.specs.FaultList.{no_fault}
use Rattle.ht_faults.specs.Table.{equivalent_output}

-- The line of pin i of gate g: the pin, if it is a fault site, else the stem of its net.
abbrev pub line_of_pin : Netlist → ℕ → ℕ → Site
line_of_pin c g i = cond (is_fanout c (arg_at c g i)) (GatePin g i)
    (Stem (record { 0 = arg_at c g i }))

-- the stem of the net that gate g drives
abbrev pub output_line : Netlist → ℕ → Site
output_line c g = Stem (record { 0 = first_gate_net c + g })

-- An input fault of a gate and an output fault of the same gate are equivalent, by the table. No pair crosses a
-- flip-flop.
pub record EquivalentPair (c : Netlist) (input output : Fault) : Type 0 where
  pub gate : ℕ
  pub is_gate : gate < length c.gates
  pub pin : ℕ
  pub is_pin : pin < length (gate_at c gate).args
  pub at_input : input.site ≡ line_of_pin c gate pin
  pub at_output : output.site ≡ output_line c gate
  pub values : equivalent_output (gate_at c gate).kind (length (gate_at c gate).args) input.value
      ≡ Some output.value

-- Two faults are in one class: the closure of the equivalent pairs.
pub data SameClass (c : Netlist) : Fault → Fault → Type 0 where
  itself : (f : Fault) → SameClass c f f
  paired : (f g : Fault) → EquivalentPair c f g → SameClass c f g
  turned : (f g : Fault) → SameClass c f g → SameClass c g f
  joined : (f g h : Fault) → SameClass c f g → SameClass c g h → SameClass c f h

-- fault i of the list, which counts from 0
abbrev pub fault_at : Netlist → ℕ → Fault
fault_at c i = get_or (faults_of c) i no_fault

-- r is the least number of a fault in the class of fault i
pub record IsRepresentative (c : Netlist) (i r : ℕ) : Type 0 where
  pub listed : r < length (faults_of c)
  pub member : SameClass c (fault_at c r) (fault_at c i)
  pub least : (k : ℕ) → k < r → ¬ SameClass c (fault_at c k) (fault_at c i)

-- a representative for each fault of the list, by number
pub record AreClasses (c : Netlist) (representatives : List ℕ) : Type 0 where
  pub every : length representatives ≡ length (faults_of c)
  pub exact : (i : ℕ) → i < length (faults_of c) → IsRepresentative c i (get_or representatives i 0)

-- ---- the representatives by themselves

-- fault i is its own representative
abbrev pub is_representative : List ℕ → ℕ → Bool
is_representative representatives i = get_or representatives i 0 == i

-- the faults that are their own representative, rising: one for each class
abbrev pub own_representatives : List ℕ → List ℕ
own_representatives representatives =
    filter (is_representative representatives) (range_with_len 0 (length representatives))

-- how many classes there are
abbrev pub class_count : List ℕ → ℕ
class_count representatives = length (own_representatives representatives)
