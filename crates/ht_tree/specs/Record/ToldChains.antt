-- Told chains: frames in which the two machines differ for certain, each from states that may differ at the flip-flops
-- that earlier frames told.
use Rattle.std.specs.Prelude.{◌≡◌, ◌<◌, ℕ, List, [], ◌∷◌, ◌++◌, map, flat_map, Bool, true, false, ◌||◌, length}
use Rattle.std.specs.List.{list_all}
use Rattle.ht_tern.specs.Gate.{tern_of}
use Rattle.ht_pairs.specs.Pairs.{differs}
use Rattle.ht_net.specs.declared.fault.Fault.{Fault}
use Rattle.ht_net.specs.Circuit.Netlist.{Netlist}
use Rattle.ht_tree.specs.declared.token.Assign3.{Assign3}
use Rattle.ht_tree.specs.declared.told.Assign.{Assign}
use Rattle.ht_tree.specs.declared.told.Told.{Told}
use Rattle.ht_tree.specs.declared.window.Spot.{Spot}
use Rattle.ht_tree.specs.declared.window.Spot.TheVariants.{Output, State, Cube}
use Rattle.ht_tree.specs.Record.Rising.{Rises}
use Rattle.ht_tree.specs.Window.Decisions.{is_in}
use Rattle.ht_tree.specs.Window.Windows.{one_frame_window}
use Rattle.ht_tree.specs.Window.Places.{set_at}
use Rattle.ht_tree.specs.Window.Variables.{may_two}

-- decisions to bits as a path
abbrev pub path_by : List Assign → List Assign3
path_by sets = map (λ (a : Assign). record { var = a.var; value = tern_of a.value }) sets

-- the path of a told frame's decisions
abbrev pub told_path : Told → List Assign3
told_path told = path_by told.sets

-- the variables of decisions
abbrev pub vars_of : List Assign → List ℕ
vars_of sets = map (λ (a : Assign). a.var) sets

-- a place of the one-frame window of a set: an output, or the next state of a flip-flop outside the set
abbrev pub IsToldPlace : Netlist → List ℕ → Spot → Type 0
IsToldPlace c z (Output o) = o < length c.outputs
IsToldPlace c z (State j) = (j < length c.dffs) × (is_in z j ≡ false)
IsToldPlace c z Cube = ⊥

-- A told frame: its variables are legal and rise, and under its decisions its place holds only 01 and 10.
pub record Tells (c : Netlist) (fault : Fault) (z : List ℕ) (told : Told) : Type 0 where
  pub rises : Rises (vars_of told.sets)
  pub legal : list_all (may_two (one_frame_window c fault z)) (vars_of told.sets) ≡ true
  pub place : IsToldPlace c z told.place
  pub differs : list_all differs (set_at (one_frame_window c fault z) (told_path told) 0 told.place) ≡ true

-- the flip-flop of a place that is a next state
abbrev pub state_of_spot : Spot → List ℕ
state_of_spot (State j) = j ∷ []
state_of_spot (Output o) = []
state_of_spot Cube = []

-- the place is an output
abbrev pub is_output : Spot → Bool
is_output (Output o) = true
is_output (State j) = false
is_output Cube = false

-- the flip-flops that a chain tells, in its order
abbrev pub states_of : List Told → List ℕ
states_of chain = flat_map (λ (told : Told). state_of_spot told.place) chain

-- the chain tells an output
abbrev pub ends_at_output : List Told → Bool
ends_at_output [] = false
ends_at_output (told ∷ chain) = is_output told.place || ends_at_output chain

-- A chain of frames from a set of flip-flops on: each frame has a property at the set, then the flip-flop that it tells
-- joins the set, and none comes after an output.
abbrev pub AreChained : (List ℕ → Told → Type 0) → List ℕ → List Told → Type 0
AreChained P z [] = Unit {0}
AreChained P z (told ∷ chain) =
    P z told × (is_output told.place ≡ true → chain ≡ []) × AreChained P (z ++ state_of_spot told.place) chain

-- a told chain: it begins with two machines in one state, and each frame is told where the states may differ at what
-- was
-- told before it
abbrev pub IsToldChain : Netlist → Fault → List Told → Type 0
IsToldChain c fault chain = AreChained (Tells c fault) [] chain
