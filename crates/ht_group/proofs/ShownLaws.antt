-- What an output shows and what a latch is after a frame, from the values of nets.
use Rattle.std.proofs.Common.{◌≡◌, ◌<◌, ◌+◌, ◌∙◌, ℕ, List, [], length, get_or, ap, sym, refl, arith, None}
use Rattle.ht_tern.specs.declared.tern.Tern.{Tern}
use Rattle.ht_tern.specs.declared.tern.Tern.TheVariants.{Unk}
use Rattle.ht_net.specs.Circuit.Netlist.{Netlist, no_net}
use Rattle.ht_net.specs.Frames.Frame.{Rules, net_value, frame_outputs, next_state}
use Rattle.ht_net.specs.Frames.Faults.{forced, tern_rules}
use Rattle.ht_net.proofs.ValueLaws.{seen_get, taken_get}

-- an output shows in a frame the value of its net
pub shown_at : (c : Netlist) (r : Rules Tern) (vector latches : List Tern) (o : ℕ) → o < length c.outputs
    → net_value c r vector latches (get_or c.outputs o no_net).0 ≡ get_or (frame_outputs c r vector latches) o Unk
unfolding frame_outputs
shown_at c r vector latches o inside = sym (seen_get (net_value c r vector latches) c.outputs o Unk inside)

-- a flip-flop takes at the end of a frame what its data pin makes of the value of the net there
pub next_at : (c : Netlist) (r : Rules Tern) (vector latches : List Tern) (j : ℕ) → j < length c.dffs
    → r.data_pin j (net_value c r vector latches (get_or c.dffs j no_net).0)
    ≡ get_or (next_state c r vector latches) j Unk
unfolding next_state
next_at c r vector latches j inside =
    let start : j ≡ 0 + j = omega arith in
    let env = net_value c r vector latches in
    ap (λ (n : ℕ). r.data_pin n (env (get_or c.dffs j no_net).0)) start
    ∙ sym (taken_get r env 0 c.dffs j Unk inside)

-- the good machine's data pins change nothing
pub good_data_pin : (j : ℕ) (v : Tern) → v ≡ (tern_rules None).data_pin j v
unfolding forced
good_data_pin j v = refl
