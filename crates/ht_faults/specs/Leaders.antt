-- The leaders of faults: each line feeds at most one gate, so a fault has at most one equivalent fault one gate
-- further, and its leader is the last of this chain.
use Rattle.std.specs.Prelude.{◌≡◌, ◌≢◌, ◌<◌, ◌+◌, ◌*◌, ◌↔◌, ℕ, List, Bool, true, false, Option, Some, None, length, get_or, set}
use Rattle.ht_net.specs.declared.fault.Site.{Site}
use Rattle.ht_net.specs.declared.fault.Site.TheVariants.{Stem, DffPin, GatePin}
use Rattle.ht_net.specs.Circuit.Netlist.{Netlist, first_gate_net, net_count, gate_at, arg_at}
use Rattle.ht_faults.specs.Sites.{is_fanout, faults_of}
use Rattle.ht_faults.specs.Table.{equivalent_output}
use Rattle.ht_faults.specs.Classes.{SameClass, fault_at}

-- the number of a stem's fault in the fault list
abbrev pub stem_number : ℕ → Bool → ℕ
stem_number x false = 2 * x
stem_number x true = 2 * x + 1

-- what the output of gate g is stuck at, where an input is stuck at a value and the two faults are equivalent
abbrev pub output_value : Netlist → ℕ → Bool → Option Bool
output_value c g value = equivalent_output (gate_at c g).kind (length (gate_at c g).args) value

-- the number of the output fault of gate g
abbrev pub output_number : Netlist → ℕ → Bool → ℕ
output_number c g value = stem_number (first_gate_net c + g) value

-- the leaders of stems' faults, where fault i is given the leader of an output fault of gate g
abbrev pub united : Netlist → ℕ → ℕ → Option Bool → List ℕ → List ℕ
united c g i None leaders = leaders
united c g i (Some w) leaders = set leaders i (get_or leaders (output_number c g w) 0)

-- The leader of each stem's fault is a stem's fault of its class.
pub record StayInClass (c : Netlist) (leaders : List ℕ) : Type 0 where
  pub every : length leaders ≡ 2 * net_count c
  pub known : (k : ℕ) → k < length leaders → get_or leaders k 0 < length leaders
  pub member : (k : ℕ) → k < length leaders
      → SameClass c (fault_at c k) (fault_at c (get_or leaders k 0))

-- The two faults of each pair at pin i of gate g whose input is a stem have one leader.
pub record PinJoins (c : Netlist) (leaders : List ℕ) (g i : ℕ) : Type 0 where
  pub joins : (v w : Bool) → is_fanout c (arg_at c g i) ≡ false → output_value c g v ≡ Some w
      → get_or leaders (stem_number (arg_at c g i) v) 0 ≡ get_or leaders (output_number c g w) 0

-- Each pin of gate g has joined the classes that the table of equivalences gives it.
abbrev pub GateJoins : Netlist → List ℕ → ℕ → Type 0
GateJoins c leaders g = (i : ℕ) → i < length (gate_at c g).args → PinJoins c leaders g i

-- No fault but those of the stems at the pins of gate g changes its leader.
pub record OthersStay (c : Netlist) (before after : List ℕ) (g : ℕ) : Type 0 where
  pub stay : (k : ℕ) → ((i : ℕ) (v : Bool) → i < length (gate_at c g).args
      → k ≢ stem_number (arg_at c g i) v) → get_or after k 0 ≡ get_or before k 0

-- the leader of an output fault of gate g, or the number i where there is none
abbrev pub leader_after : Netlist → List ℕ → ℕ → ℕ → Option Bool → ℕ
leader_after c leaders i g None = i
leader_after c leaders i g (Some w) = get_or leaders (output_number c g w) 0

-- the leader of fault i, which is on this line, by the leaders of the stems' faults: fault i itself where no line
-- after it has an equivalent one
abbrev pub leader_by : Netlist → List ℕ → ℕ → Site → Bool → ℕ
leader_by c leaders i (Stem x) v = get_or leaders (stem_number x.0 v) 0
leader_by c leaders i (DffPin j) v = i
leader_by c leaders i (GatePin g p) v = leader_after c leaders i g (output_value c g v)

-- Faults of the list have one leader exactly where they are in one class.
pub record AreLeaders (c : Netlist) (leaders : List ℕ) : Type 0 where
  pub every : length leaders ≡ length (faults_of c)
  pub known : (i : ℕ) → i < length leaders → get_or leaders i 0 < length leaders
  pub exact : (i j : ℕ) → i < length leaders → j < length leaders
      → (get_or leaders i 0 ≡ get_or leaders j 0) ↔ SameClass c (fault_at c i) (fault_at c j)
