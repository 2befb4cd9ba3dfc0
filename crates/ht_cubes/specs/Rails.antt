-- Rails and forbidden cubes: what the latches of both machines may hold.
use Rattle.std.specs.Prelude.{◌≡◌, ◌<◌, ◌+◌, ℕ, List, Bool, true, false, Option, Some, None, length, get_or, if◌then◌else◌}
use Rattle.std.specs.List.{All}
use Rattle.ht_tern.specs.declared.tern.Tern.{Tern}
use Rattle.ht_tern.specs.declared.tern.Tern.TheVariants.{Unk}
use Rattle.ht_tern.specs.Gate.{tern_of}
use Rattle.ht_net.specs.declared.fault.Fault.{Fault}
use Rattle.ht_net.specs.declared.fault.Site.{Site}
use Rattle.ht_net.specs.declared.fault.Site.TheVariants.{Stem, DffPin, GatePin}
use Rattle.ht_net.specs.Circuit.Netlist.{Netlist, first_gate_net, net_count, gate_at, arg_at, no_net}
use Rattle.ht_cubes.specs.declared.rail.Rail.{Rail}

-- A joint state is what the latches of the good and of the faulty machine hold.
pub record JointState : Type 0 where
  pub good : List Tern
  pub faulty : List Tern

-- The latches of one machine of a joint state.
abbrev pub latches_of : JointState → Bool → List Tern
latches_of s faulty = if faulty then s.faulty else s.good

-- The joint state in which both machines hold this state.
abbrev pub both : List Tern → JointState
both state = record { good = state; faulty = state }

-- The stuck line of a machine: the good one has none.
abbrev pub stuck_line : Fault → Bool → Option Fault
stuck_line fault faulty = if faulty then Some fault else None

-- A rail holds in a joint state: its flip-flop, in its machine, definitely holds its value.
abbrev pub Holds : JointState → Rail → Type 0
Holds s rail = get_or (latches_of s rail.faulty) rail.dff Unk ≡ tern_of rail.value

-- A joint state avoids a cube: some rail of the cube doesn't hold.
abbrev pub Avoids : JointState → List Rail → Type 0
Avoids s cube = ¬ All (Holds s) cube

-- A joint state avoids each cube of a list.
abbrev pub AvoidsAll : JointState → List (List Rail) → Type 0
AvoidsAll s cubes = All (Avoids s) cubes

-- The net that a stuck line changes first: that of a stem, or the net that the pin's gate or flip-flop drives.
abbrev pub first_changed : Netlist → Site → ℕ
first_changed c (Stem x) = x.0
first_changed c (DffPin j) = c.inputs + j
first_changed c (GatePin g i) = first_gate_net c + g

-- A set of nets encloses a fault: it has the net that the stuck line changes first, and with a net what the gates and
-- flip-flops that read it drive.
pub record Encloses (c : Netlist) (fault : Fault) (nets : ℕ → Bool) : Type 0 where
  pub first : first_changed c fault.site < net_count c → nets (first_changed c fault.site) ≡ true
  pub gates : (g i : ℕ) → g < length c.gates → i < length (gate_at c g).args → nets (arg_at c g i) ≡ true
      → nets (first_gate_net c + g) ≡ true
  pub dffs : (j : ℕ) → j < length c.dffs → nets (get_or c.dffs j no_net).0 ≡ true → nets (c.inputs + j) ≡ true

-- The cone of a fault is the least set of nets that encloses it: its effect comes to no other net.
pub record IsCone (c : Netlist) (fault : Fault) (cone : ℕ → Bool) : Type 0 where
  pub encloses : Encloses c fault cone
  pub least : (nets : ℕ → Bool) → Encloses c fault nets → (x : ℕ) → cone x ≡ true → nets x ≡ true

-- Outside the cone the latches of both machines hold the same.
abbrev pub AgreesOutside : Netlist → (ℕ → Bool) → JointState → Type 0
AgreesOutside c cone s = (j : ℕ) → j < length c.dffs → cone (c.inputs + j) ≡ false
    → get_or s.good j Unk ≡ get_or s.faulty j Unk

-- The rails of a cube are of flip-flops that are there, and one of the faulty machine is of a flip-flop in the cone.
abbrev pub IsKnownRail : Netlist → (ℕ → Bool) → Rail → Type 0
IsKnownRail c cone rail = (rail.dff < length c.dffs) × (rail.faulty ≡ true → cone (c.inputs + rail.dff) ≡ true)
