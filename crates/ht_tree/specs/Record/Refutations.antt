-- A refutation, and what it means.
use Rattle.std.specs.Prelude.{◌<◌, ℕ, List, Bool, length, get_or}
use Rattle.ht_net.specs.declared.fault.Fault.{Fault}
use Rattle.ht_net.specs.Circuit.Netlist.{Netlist}
use Rattle.ht_net.specs.Detect.Detection.{Detects, IsState}
use Rattle.ht_net.specs.Detect.Silence.{Sealed, Silent}
use Rattle.ht_tree.specs.declared.token.Token.{Token}
use Rattle.ht_tree.specs.Walk.Walks.{IsComplete}
use Rattle.ht_tree.specs.Record.Rising.{Rises}
use Rattle.ht_tree.specs.Window.Decisions.{is_in}
use Rattle.ht_tree.specs.Window.Windows.{one_frame_window}
use Rattle.ht_tree.specs.Window.Nodes.{judge_of}

-- A refutation: a rising set of flip-flops, and a complete walk of its one-frame window.
pub record Refutes (c : Netlist) (fault : Fault) (z : List ℕ) (tokens : List Token) : Type 0 where
  pub rises : Rises z
  pub known : (i : ℕ) → i < length z → get_or z i 0 < length c.dffs
  pub complete : IsComplete (judge_of (one_frame_window c fault z)) tokens

-- No list of any length shows a difference: a difference can't leave the set of flip-flops, both machines give equal
-- outputs from every common state, and no list of vectors detects the fault.
pub record IsUntestable (c : Netlist) (fault : Fault) (z : List ℕ) : Type 0 where
  pub sealed : Sealed c fault (is_in z)
  pub silent : (state : List Bool) → IsState c state → Silent c fault state
  pub undetected : (list : List (List Bool)) (t o : ℕ) → ¬ Detects c fault list t o
