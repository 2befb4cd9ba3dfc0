-- The nets that matter in a window: those that are read where the machines may differ.
use Rattle.std.specs.Prelude.{◌≡◌, ◌<◌, ◌+◌, ℕ, suc, List, Bool, true, false, not, length, get_or}
use Rattle.ht_net.specs.Circuit.Netlist.{Netlist, first_gate_net, gate_at, arg_at, no_net}
use Rattle.ht_tree.specs.declared.token.Assign3.{Assign3}
use Rattle.ht_tree.specs.declared.window.Spot.TheVariants.{Output, State}
use Rattle.ht_tree.specs.Window.Decisions.{is_in}
use Rattle.ht_tree.specs.Window.Places.{set_at, spot_net}
use Rattle.ht_tree.specs.Window.Windows.{Start, one_frame, unknown, state_pair, back, SearchWindow}
use Rattle.ht_relevant.specs.Alike.{IsAlike}

-- Some nets of each frame, with all that their drivers read.
pub record IsClosedBack (c : Netlist) (frames : ℕ) (is : ℕ → ℕ → Bool) : Type 0 where
  pub gates : (f g i : ℕ) → f < frames → g < length c.gates → i < length (gate_at c g).args
      → is f (first_gate_net c + g) ≡ true → is f (arg_at c g i) ≡ true
  pub dffs : (f j : ℕ) → suc f < frames → j < length c.dffs → is (suc f) (c.inputs + j) ≡ true
      → is f (get_or c.dffs j no_net).0 ≡ true

-- a difference of the next states of flip-flop j counts
abbrev pub counts_state : Start → ℕ → Bool
counts_state (one_frame z) j = not (is_in z j)
counts_state unknown j = false
counts_state (state_pair good faulty) j = false
counts_state (back cube limit) j = false

-- Some nets of each frame, with all that their drivers read: at any place of another net the machines are alike,
-- whatever is decided.
pub record IsRelevant (w : SearchWindow) (is : ℕ → ℕ → Bool) : Type 0 where
  pub closed : IsClosedBack w.circuit w.frames is
  pub outputs : (f o : ℕ) → f < w.frames → o < length w.circuit.outputs
      → is f (spot_net w.circuit (Output o)) ≡ false → (path : List Assign3) → IsAlike (set_at w path f (Output o))
  pub states : (j : ℕ) → j < length w.circuit.dffs → counts_state w.start j ≡ true
      → is 0 (spot_net w.circuit (State j)) ≡ false → (path : List Assign3) → IsAlike (set_at w path 0 (State j))
