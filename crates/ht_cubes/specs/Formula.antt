-- The formula of a fault and a list of cubes: one frame after a joint state that avoids all cubes, some cube comes
-- about or some output differs.
--
-- A clause is a list of signed variables. Variable 0 is the constant true while clauses are made; in the formula itself
-- a clause with a true constant isn't there, and a false constant is left out of its clause.
use Rattle.std.specs.Prelude.{◌+◌, ◌*◌, ℕ, suc, zero, List, [], ◌∷◌, ◌++◌, Bool, true, false, not, ◌&&◌, map, length, get_or, if◌then◌else◌, nat_eq, nat_le}
use Rattle.std.specs.List.{filter, flat_map, list_any, range_with_len}
use Rattle.ht_tern.specs.declared.gate.Kind.{Kind}
use Rattle.ht_tern.specs.declared.gate.Kind.TheVariants.{And, Nand, Or, Nor, Xor, Xnor, Not, Buf}
use Rattle.ht_tern.specs.Gate.{bool_xor, inverts}
use Rattle.ht_net.specs.declared.net.NetId.{NetId}
use Rattle.ht_net.specs.declared.fault.Fault.{Fault}
use Rattle.ht_net.specs.Circuit.Netlist.{Netlist, first_gate_net, net_count, gate_at, no_net}
use Rattle.ht_net.specs.Frames.Frame.{Rules, pin_values}
use Rattle.ht_net.specs.Frames.Faults.{rules_of, is_stem}
use Rattle.ht_cubes.specs.declared.rail.Rail.{Rail}
use Rattle.ht_cubes.specs.declared.signed_var.SignedVar.{SignedVar}
use Rattle.ht_cubes.specs.declared.signal.Signal.{Signal}
use Rattle.ht_cubes.specs.Rails.{stuck_line}

-- ---- signed variables and signals

-- A bit as a number.
abbrev pub bit_number : Bool → ℕ
bit_number false = 0
bit_number true = 1

-- The number of a rail's variable, of so many nets: net x of a machine is definitely the bit. For the net of a
-- flip-flop it is what the latch holds.
abbrev pub rail_variable : ℕ → Bool → ℕ → Bool → ℕ
rail_variable nets false x bit = 2 * x + bit_number bit + 1
rail_variable nets true x bit = 2 * nets + 2 * x + bit_number bit + 1

-- A variable that is to be true.
abbrev pub positive : ℕ → SignedVar
positive n = record { variable = n; value = true }

-- The signed variable that says the opposite.
abbrev pub complement : SignedVar → SignedVar
complement l = record { variable = l.variable; value = not l.value }

-- The constant that is true where the bit is.
abbrev pub constant : Bool → SignedVar
constant bit = record { variable = 0; value = bit }

-- Of the two rails of a line, the one that says that the line is definitely the bit.
abbrev pub rail_of : Signal → Bool → SignedVar
rail_of s bit = if bit then s.one else s.zero

-- A line that is stuck at a bit.
abbrev pub stuck_signal : Bool → Signal
stuck_signal bit = record { zero = constant (not bit); one = constant bit }

-- A line of which nothing is known.
abbrev pub unknown_signal : Signal
unknown_signal = record { zero = constant false; one = constant false }

-- The complement of a line.
abbrev pub turned : Signal → Signal
turned s = record { zero = s.one; one = s.zero }

-- What drives net x of a machine; outside the cone it is the same in both machines.
abbrev pub driver_signal : Netlist → (ℕ → Bool) → Bool → ℕ → Signal
driver_signal c cone faulty x = record {
  zero = positive (rail_variable (net_count c) (faulty && cone x) x false);
  one = positive (rail_variable (net_count c) (faulty && cone x) x true);
}

-- The lines of a machine as signals: a stuck line is a constant where its loads see it.
abbrev pub signal_rules : Fault → Bool → Rules Signal
signal_rules fault faulty = rules_of unknown_signal (λ kind pins. unknown_signal) (λ bit s. stuck_signal bit)
    (stuck_line fault faulty)

-- Net x of a machine as its loads see it.
abbrev pub net_signal : Netlist → Fault → (ℕ → Bool) → Bool → ℕ → Signal
net_signal c fault cone faulty x = (signal_rules fault faulty).stem x (driver_signal c cone faulty x)

-- The pins of gate g of a machine.
abbrev pub pin_signals : Netlist → Fault → (ℕ → Bool) → Bool → ℕ → List Signal
pin_signals c fault cone faulty g =
    pin_values (signal_rules fault faulty) g (net_signal c fault cone faulty) 0 (gate_at c g).args

-- What latch j of a machine holds.
abbrev pub latch_signal : Netlist → (ℕ → Bool) → Bool → ℕ → Signal
latch_signal c cone faulty j = driver_signal c cone faulty (c.inputs + j)

-- What latch j of a machine takes for the next frame.
abbrev pub next_signal : Netlist → Fault → (ℕ → Bool) → Bool → ℕ → Signal
next_signal c fault cone faulty j =
    (signal_rules fault faulty).data_pin j (net_signal c fault cone faulty (get_or c.dffs j no_net).0)

-- ---- gates

-- The clause by which one signed variable needs some of others.
abbrev pub needs : SignedVar → List SignedVar → List SignedVar
needs l others = complement l ∷ others

-- A line isn't both 0 and 1.
abbrev pub either_clauses : Signal → List (List SignedVar)
either_clauses s = (complement s.zero ∷ complement s.one ∷ []) ∷ []

-- What the output of a gate of one pin needs: each value needs that of the pin.
abbrev pub single_clauses : Signal → Signal → List (List SignedVar)
single_clauses out pin = needs out.zero (pin.zero ∷ []) ∷ needs out.one (pin.one ∷ []) ∷ []

-- What the output of a gate needs whose pins have a controlling bit: the other bit needs it of each pin, and the
-- controlling bit of some pin.
abbrev pub controlled_clauses : Bool → Signal → List Signal → List (List SignedVar)
controlled_clauses bit out pins =
    map (λ (p : Signal). needs (rail_of out (not bit)) (rail_of p (not bit) ∷ [])) pins
    ++ needs (rail_of out bit) (map (λ (p : Signal). rail_of p bit) pins) ∷ []

-- All lists of so many bits, in the order of the binary numbers that have the first bit as the highest.
abbrev pub choices : ℕ → List (List Bool)
choices zero = [] ∷ []
choices (suc n) = map (λ bits. false ∷ bits) (choices n) ++ map (λ bits. true ∷ bits) (choices n)

-- The parity of bits.
abbrev pub parity_of : List Bool → Bool
parity_of [] = false
parity_of (b ∷ bits) = bool_xor b (parity_of bits)

-- Pins aren't all at the bits of a choice.
abbrev pub excluded : List Signal → List Bool → List SignedVar
excluded [] bits = []
excluded (p ∷ pins) [] = []
excluded (p ∷ pins) (b ∷ bits) = complement (rail_of p b) ∷ excluded pins bits

-- The most pins of a parity for which each choice of their bits has a clause.
abbrev pub max_parity_pins : ℕ
max_parity_pins = 8

-- What a parity at a bit excludes: each choice of the pins' bits whose parity is the other bit.
abbrev pub exclusions : Bool → Signal → List Signal → List (List SignedVar)
exclusions bit out pins =
    map (λ bits. needs (rail_of out bit) (excluded pins bits))
    (filter (λ bits. bool_xor bit (parity_of bits)) (choices (length pins)))

-- What a parity at a bit needs: each pin is definite, and no choice of the pins' bits has the other parity.
abbrev pub parity_clauses : Bool → Signal → List Signal → List (List SignedVar)
parity_clauses bit out pins =
    map (λ (p : Signal). needs (rail_of out bit) (p.zero ∷ p.one ∷ [])) pins
    ++ (if nat_le (length pins) max_parity_pins then exclusions bit out pins else [])

-- What the output of a gate needs of two pins or more, where the kind doesn't invert.
abbrev pub kind_clauses : Kind → Signal → List Signal → List (List SignedVar)
kind_clauses And out pins = controlled_clauses false out pins
kind_clauses Nand out pins = controlled_clauses false out pins
kind_clauses Or out pins = controlled_clauses true out pins
kind_clauses Nor out pins = controlled_clauses true out pins
kind_clauses Xor out pins = parity_clauses false out pins ++ parity_clauses true out pins
kind_clauses Xnor out pins = parity_clauses false out pins ++ parity_clauses true out pins
kind_clauses Not out pins = []
kind_clauses Buf out pins = []

-- What the output of a gate is before the inversion of its kind.
abbrev pub uninverted : Kind → Signal → Signal
uninverted kind out = if inverts kind then turned out else out

-- What the output of a gate needs of its pins.
abbrev pub gate_clauses : Kind → Signal → List Signal → List (List SignedVar)
gate_clauses kind out [] = []
gate_clauses kind out (p ∷ []) = single_clauses (uninverted kind out) p
gate_clauses kind out (p ∷ q ∷ pins) = kind_clauses kind (uninverted kind out) (p ∷ q ∷ pins)

-- ---- a frame

-- An input isn't both 0 and 1.
abbrev pub input_clauses : Netlist → (ℕ → Bool) → ℕ → List (List SignedVar)
input_clauses c cone x = either_clauses (driver_signal c cone false x)

-- A latch isn't both 0 and 1: that of the good machine, and in the cone that of the faulty one.
abbrev pub latch_clauses : Netlist → (ℕ → Bool) → ℕ → List (List SignedVar)
latch_clauses c cone j = either_clauses (latch_signal c cone false j)
    ++ (if cone (c.inputs + j) then either_clauses (latch_signal c cone true j) else [])

-- Gate g of one machine.
abbrev pub machine_clauses : Netlist → Fault → (ℕ → Bool) → Bool → ℕ → List (List SignedVar)
machine_clauses c fault cone faulty g = gate_clauses (gate_at c g).kind
    (driver_signal c cone faulty (first_gate_net c + g)) (pin_signals c fault cone faulty g)

-- Whether the faulty machine has clauses of its own for gate g: its net is in the cone, and isn't the stuck stem.
abbrev pub is_doubled : Netlist → Fault → (ℕ → Bool) → ℕ → Bool
is_doubled c fault cone g = cone (first_gate_net c + g) && not (is_stem fault.site (first_gate_net c + g))

-- Gate g of the good machine, and of the faulty one where it has clauses of its own.
abbrev pub both_clauses : Netlist → Fault → (ℕ → Bool) → ℕ → List (List SignedVar)
both_clauses c fault cone g = machine_clauses c fault cone false g
    ++ (if is_doubled c fault cone g then machine_clauses c fault cone true g else [])

-- One frame of both machines: the inputs, the latches, the gates.
abbrev pub frame_clauses : Netlist → Fault → (ℕ → Bool) → List (List SignedVar)
frame_clauses c fault cone = flat_map (input_clauses c cone) (range_with_len 0 c.inputs)
    ++ flat_map (latch_clauses c cone) (range_with_len 0 (length c.dffs))
    ++ flat_map (both_clauses c fault cone) (range_with_len 0 (length c.gates))

-- Not all rails of a cube hold.
abbrev pub cube_clause : Netlist → (ℕ → Bool) → List Rail → List SignedVar
cube_clause c cone cube =
    map (λ (r : Rail). complement (rail_of (latch_signal c cone r.faulty r.dff) r.value)) cube

-- ---- targets

-- A cube comes about: all its rails hold in the next joint state.
abbrev pub next_target : Netlist → Fault → (ℕ → Bool) → List Rail → List SignedVar
next_target c fault cone cube =
    map (λ (r : Rail). rail_of (next_signal c fault cone r.faulty r.dff) r.value) cube

-- Net x differs: it is at the bit in the good machine, and at the other in the faulty one.
abbrev pub differs_target : Netlist → Fault → (ℕ → Bool) → ℕ → Bool → List SignedVar
differs_target c fault cone x bit = rail_of (net_signal c fault cone false x) bit
    ∷ rail_of (net_signal c fault cone true x) (not bit) ∷ []

-- An output in the cone differs, with 0 and with 1 in the good machine.
abbrev pub output_targets : Netlist → Fault → (ℕ → Bool) → NetId → List (List SignedVar)
output_targets c fault cone net =
    if cone net.0 then differs_target c fault cone net.0 false ∷ differs_target c fault cone net.0 true ∷ [] else []

-- A signed variable is the constant of this bit.
abbrev pub is_constant : Bool → SignedVar → Bool
is_constant true l = nat_eq l.variable 0 && l.value
is_constant false l = nat_eq l.variable 0 && not l.value

-- No rail of a target is the constant false.
abbrev pub may_come : List SignedVar → Bool
may_come target = not (list_any (is_constant false) target)

-- What must not come: a cube, or an output that differs. Each is a list of rails that hold together.
abbrev pub all_targets : Netlist → Fault → (ℕ → Bool) → List (List Rail) → List (List SignedVar)
all_targets c fault cone cubes =
    map (next_target c fault cone) cubes ++ flat_map (output_targets c fault cone) c.outputs

-- The targets that have a variable: those of which no rail is the constant false.
abbrev pub targets_of : Netlist → Fault → (ℕ → Bool) → List (List Rail) → List (List SignedVar)
targets_of c fault cone cubes = filter may_come (all_targets c fault cone cubes)

-- Each target has a variable, from this number on, that needs each of its rails.
abbrev pub target_clauses : ℕ → List (List SignedVar) → List (List SignedVar)
target_clauses first [] = []
target_clauses first (target ∷ more) =
    map (λ l. needs (positive first) (l ∷ [])) target ++ target_clauses (suc first) more

-- Some target comes.
abbrev pub some_target : ℕ → List (List SignedVar) → List SignedVar
some_target first [] = []
some_target first (target ∷ more) = positive first ∷ some_target (suc first) more

-- ---- the formula

-- A clause without constants: none where a constant is true, else without those that are false.
abbrev pub without_constants : List SignedVar → List (List SignedVar)
without_constants clause =
    if list_any (is_constant true) clause then [] else filter (λ l. not (is_constant false l)) clause ∷ []

-- The first variable of a target: after the rails of both machines.
abbrev pub first_target : Netlist → ℕ
first_target c = 4 * net_count c + 1

-- The clauses with constants: the frame, the cubes that are avoided, the targets, and that some target comes.
abbrev pub clauses_of : Netlist → Fault → (ℕ → Bool) → List (List Rail) → List (List SignedVar)
clauses_of c fault cone cubes = frame_clauses c fault cone ++ map (cube_clause c cone) cubes
    ++ target_clauses (first_target c) (targets_of c fault cone cubes)
    ++ some_target (first_target c) (targets_of c fault cone cubes) ∷ []

-- The formula: the clauses without constants, numbered from 1.
abbrev pub formula_of : Netlist → Fault → (ℕ → Bool) → List (List Rail) → List (List SignedVar)
formula_of c fault cone cubes = flat_map without_constants (clauses_of c fault cone cubes)

-- The highest variable of the formula.
abbrev pub last_variable : Netlist → Fault → (ℕ → Bool) → List (List Rail) → ℕ
last_variable c fault cone cubes = 4 * net_count c + length (targets_of c fault cone cubes)
