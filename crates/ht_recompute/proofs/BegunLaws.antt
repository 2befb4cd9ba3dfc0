-- A window whose frame is begun with the decisions that were written.
use Rattle.std.proofs.Common.{◌≡◌, ◌≤◌, ◌+◌, ◌*◌, List, Option, length, ap, ◌∙◌, arith}
use Rattle.std.specs.Vec.{with_items}
use Rattle.std.proofs.lemmas.List.{with_items_is}
use Rattle.ht_tern.specs.declared.tern.Tern.{Tern}
use Rattle.ht_recompute.specs.declared.recomputed_window.RecomputedWindow.TheInside.{Inside}
use Rattle.ht_recompute.specs.WindowStarts.{latches_by}
use Rattle.ht_recompute.specs.FrameSetsOf.{FrameState, frame_after, inputs_by}
use Rattle.ht_recompute.specs.RecomputedWindowOf.{HasWindowRoom}

-- There is room for these decisions, and the frame has the latches that they give.
pub record IsFrameBegun (a : Inside) (decisions : List (Option Tern)) (s : FrameState) : Type 0 where
  pub room : a.frames * a.frame.circuit.inputs + 2 * length a.frame.circuit.dffs ≤ length decisions
  pub circuit : s.circuit ≡ a.frame.circuit
  pub fault : s.fault ≡ a.frame.fault
  pub latches : s.latches ≡ latches_by a.start decisions a.frame.circuit

-- The window's decisions were lent, and were written over.
module _ (a : Inside) (lent decisions : List (Option Tern)) (is : lent ≡ a.decisions.items)
    (long : length decisions ≡ length lent) where
  -- what is lent of them then is what was written
  pub written_over : (seen : List (Option Tern)) → seen ≡ (with_items a.decisions decisions).items → seen ≡ decisions
  written_over seen after = after ∙ with_items_is a.decisions decisions (omega (arith, long, ap length is))

  -- a frame whose latches are by the decisions that are lent again is begun with those that were written
  pub frame_begun : (seen : List (Option Tern)) (s : FrameState) → HasWindowRoom a
      → seen ≡ (with_items a.decisions decisions).items
      → s ≡ record a.frame { latches = latches_by a.start seen a.frame.circuit } → IsFrameBegun a decisions s
  frame_begun seen s held after begun = record {
    room = omega (arith, long, ap length is, held.decisions);
    circuit = ap (λ (t : FrameState). t.circuit) begun;
    fault = ap (λ (t : FrameState). t.fault) begun;
    latches = ap (λ (t : FrameState). t.latches) begun
        ∙ ap (λ (d : List (Option Tern)). latches_by a.start d a.frame.circuit) (written_over seen after);
  }

  -- a frame that ran by the decisions that are lent again ran by those that were written
  pub frame_ran : (seen : List (Option Tern)) (s new : FrameState)
      → seen ≡ (with_items a.decisions decisions).items
      → new ≡ frame_after s (inputs_by seen 0 s.circuit.inputs)
      → new ≡ frame_after s (inputs_by decisions 0 s.circuit.inputs)
  frame_ran seen s new after ran =
      ran ∙ ap (λ (d : List (Option Tern)). frame_after s (inputs_by d 0 s.circuit.inputs)) (written_over seen after)
