-- What a frame of sets makes of its arrays.
use Rattle.std.proofs.Common.{◌≡◌, ◌<◌, ◌+◌, ◌*◌, ℕ, suc, List, Option, get_or, ◌∙◌, ap, arith}
use Rattle.ht_tern.specs.declared.tern.Tern.{Tern}
use Rattle.ht_pairs.specs.Pairs.{Pair}
use Rattle.ht_net.specs.declared.fault.Fault.{Fault}
use Rattle.ht_net.specs.Circuit.Netlist.{Netlist, IsCircuit, net_count, no_net}
use Rattle.ht_net.specs.Frames.Frame.{net_value, values_at, data_values, frame_outputs, next_state}
use Rattle.ht_net.proofs.ValueLaws.{seen_same, taken_same}
use Rattle.ht_tree.specs.Window.Windows.{pair_set_rules}
use Rattle.ht_recompute.specs.GateSets.{sets_of}
use Rattle.ht_recompute.specs.FrameSetsOf.{FrameState, frame_after, inputs_by, latches_after, outputs_of_frame}

-- what the outputs show and the flip-flops take, where the nets have their sets in a frame
module _ (c : Netlist) (fault : Option Fault) (vector latches values : List (List Pair)) (circuit : IsCircuit c)
    (sets : (x : ℕ) → x < net_count c → sets_of values x ≡ net_value c (pair_set_rules fault) vector latches x) where
  -- where the nets have their sets in a frame, the outputs show those of the frame
  pub frame_shown : values_at (sets_of values) c.outputs ≡ frame_outputs c (pair_set_rules fault) vector latches
  unfolding frame_outputs
  frame_shown =
      seen_same (sets_of values) (net_value c (pair_set_rules fault) vector latches) c.outputs
      (λ o l. sets (get_or c.outputs o no_net).0 (circuit.outputs_known o l))

  -- where the nets have their sets in a frame, the flip-flops take its next states
  pub frame_taken : data_values (pair_set_rules fault) (sets_of values) 0 c.dffs
      ≡ next_state c (pair_set_rules fault) vector latches
  unfolding next_state
  frame_taken =
      taken_same (pair_set_rules fault) (sets_of values) (net_value c (pair_set_rules fault) vector latches) 0 c.dffs
      (λ j l. sets (get_or c.dffs j no_net).0 (circuit.data_known j l))

-- A frame that is run after f others.
pub record RanFrame (s new : FrameState) (decisions : List (Option Tern)) (f : ℕ) : Type 0 where
  pub circuit : new.circuit ≡ s.circuit
  pub fault : new.fault ≡ s.fault
  pub latches : new.latches ≡ latches_after s decisions (f + 1)
  pub outputs : new.outputs ≡ outputs_of_frame s decisions f

-- a frame run after f others by their decisions has the outputs of frame f, and the latches after it
pub ran_frame : (s now new : FrameState) (decisions : List (Option Tern)) (f first : ℕ) → now.circuit ≡ s.circuit
    → now.fault ≡ s.fault → now.latches ≡ latches_after s decisions f → first ≡ f * s.circuit.inputs
    → new ≡ frame_after now (inputs_by decisions first now.circuit.inputs) → RanFrame s new decisions f
ran_frame s now new decisions f first circuit fault latches at is =
    let before : FrameState = record {
      circuit = s.circuit;
      fault = s.fault;
      latches = latches_after s decisions f;
      outputs = now.outputs;
    } in
    let same : now ≡ before =
    (λ i. record { circuit = circuit i; fault = fault i; latches = latches i; outputs = now.outputs }) in
    let vector = inputs_by decisions (f * s.circuit.inputs) s.circuit.inputs in
    let new_is : new ≡ frame_after before vector =
    is ∙ (λ i. frame_after (same i) (inputs_by decisions (at i) (circuit i).inputs)) in
    let next : suc f ≡ f + 1 = omega arith in
    record {
      circuit = ap (λ (t : FrameState). t.circuit) new_is;
      fault = ap (λ (t : FrameState). t.fault) new_is;
      latches = ap (λ (t : FrameState). t.latches) new_is ∙ ap (latches_after s decisions) next;
      outputs = ap (λ (t : FrameState). t.outputs) new_is;
    }
