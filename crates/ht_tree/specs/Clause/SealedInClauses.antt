-- A fault that is sealed in a set, as long as the good machine's states meet each of these clauses.
use Rattle.std.specs.Prelude.{◌≡◌, ℕ, List, Bool, true, Some, None, length}
use Rattle.ht_net.specs.declared.fault.Fault.{Fault}
use Rattle.ht_net.specs.Circuit.Netlist.{Netlist}
use Rattle.ht_net.specs.Frames.Frame.{frame_outputs, next_state}
use Rattle.ht_net.specs.Frames.Faults.{bool_rules}
use Rattle.ht_net.specs.Detect.Detection.{IsState}
use Rattle.ht_net.specs.Detect.Silence.{AgreeOutside}
use Rattle.ht_tree.specs.declared.clause.Literal.{Literal}
use Rattle.ht_tree.specs.Clause.Clauses.{meets_each}

-- From states that agree outside z, the good one meeting every clause, one frame of the good and of the faulty machine
-- gives equal outputs, and next states that agree outside z.
pub record SealedIn (c : Netlist) (fault : Fault) (z : ℕ → Bool) (clauses : List (List Literal)) : Type 0 where
  pub outputs : (vector state state' : List Bool) → length vector ≡ c.inputs → IsState c state → IsState c state'
      → meets_each clauses state ≡ true → AgreeOutside c z state state'
      → frame_outputs c (bool_rules None) vector state ≡ frame_outputs c (bool_rules (Some fault)) vector state'
  pub stays : (vector state state' : List Bool) → length vector ≡ c.inputs → IsState c state → IsState c state'
      → meets_each clauses state ≡ true → AgreeOutside c z state state'
      → AgreeOutside c z (next_state c (bool_rules None) vector state)
      (next_state c (bool_rules (Some fault)) vector state')
