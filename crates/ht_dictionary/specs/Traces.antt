-- The value of every net in each frame of a machine's run: the good machine or one with a stuck line over three values,
-- from a start.
use Rattle.std.specs.Prelude.{◌≡◌, ◌<◌, ℕ, List, [], Bool, Option, length, get_or, map, take}
use Rattle.ht_tern.specs.declared.tern.Tern.{Tern}
use Rattle.ht_tern.specs.declared.tern.Tern.TheVariants.{Unk}
use Rattle.ht_net.specs.declared.fault.Fault.{Fault}
use Rattle.ht_net.specs.Circuit.Netlist.{Netlist, net_count}
use Rattle.ht_net.specs.Frames.Frame.{net_value, values_at}
use Rattle.ht_net.specs.Frames.Faults.{tern_rules}
use Rattle.ht_net.specs.Detect.Detection.{state_from, terns_of}
use Rattle.ht_frame.specs.Values.{env_of}

-- The row has the value of each net in a frame, in the order of the nets' numbers.
pub record AreNetValues (c : Netlist) (fault : Option Fault) (vector latches row : List Tern)
    : Type 0 where
  pub width : length row ≡ net_count c
  pub values : (x : ℕ) → x < net_count c
      → get_or row x Unk ≡ net_value c (tern_rules fault) vector latches x

-- the row has the value of each net in frame t of the run: the flip-flops hold what the vectors before it left
abbrev pub IsFrame : Netlist → Option Fault → List Tern → List (List Bool) → ℕ → List Tern → Type 0
IsFrame c fault start list t row = AreNetValues c fault (terns_of (get_or list t []))
    (state_from c fault start (take t list)) row

-- the rows have the values of the first n frames of the run
pub record AreFrames (c : Netlist) (fault : Option Fault) (start : List Tern)
    (list : List (List Bool)) (n : ℕ) (rows : List (List Tern)) : Type 0 where
  pub count : length rows ≡ n
  pub frames : (t : ℕ) → t < n → IsFrame c fault start list t (get_or rows t [])

-- The rows are the trace of the machine's run over the vectors from the start: one for each vector, with the value of
-- each net.
abbrev pub IsTrace : Netlist → Option Fault → List Tern → List (List Bool) → List (List Tern)
    → Type 0
IsTrace c fault start list rows = AreFrames c fault start list (length list) rows

-- what the outputs show by rows of nets
abbrev pub outputs_in : Netlist → List (List Tern) → List (List Tern)
outputs_in c rows = map (λ row. values_at (env_of Unk row) c.outputs) rows
