-- What two-valued runs show of a fault: sealed and silent.
use Rattle.std.specs.Prelude.{◌≡◌, ◌<◌, ℕ, List, Bool, false, Some, None, length, get_or}
use Rattle.ht_net.specs.declared.fault.Fault.{Fault}
use Rattle.ht_net.specs.Circuit.Netlist.{Netlist}
use Rattle.ht_net.specs.Frames.Frame.{frame_outputs, next_state, run_outputs}
use Rattle.ht_net.specs.Frames.Faults.{bool_rules}
use Rattle.ht_net.specs.Detect.Detection.{IsState}

-- two states that are equal but perhaps at the flip-flops of z
abbrev pub AgreeOutside : Netlist → (ℕ → Bool) → List Bool → List Bool → Type 0
AgreeOutside c z state state' = (j : ℕ) → j < length c.dffs → z j ≡ false
    → get_or state j false ≡ get_or state' j false

-- From states that agree outside z, one frame of the good and of the faulty machine gives equal outputs, and next
-- states that agree outside z.
pub record Sealed (c : Netlist) (fault : Fault) (z : ℕ → Bool) : Type 0 where
  pub outputs : (vector state state' : List Bool) → length vector ≡ c.inputs → IsState c state
      → IsState c state' → AgreeOutside c z state state'
      → frame_outputs c (bool_rules None) vector state
      ≡ frame_outputs c (bool_rules (Some fault)) vector state'
  pub stays : (vector state state' : List Bool) → length vector ≡ c.inputs → IsState c state
      → IsState c state' → AgreeOutside c z state state'
      → AgreeOutside c z (next_state c (bool_rules None) vector state)
      (next_state c (bool_rules (Some fault)) vector state')

-- From the common state both machines give equal outputs for every list of vectors.
abbrev pub Silent : Netlist → Fault → List Bool → Type 0
Silent c fault state = (list : List (List Bool)) → run_outputs c (bool_rules None) state list
    ≡ run_outputs c (bool_rules (Some fault)) state list
