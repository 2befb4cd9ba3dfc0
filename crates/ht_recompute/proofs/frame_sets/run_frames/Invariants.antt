use Rattle.std.proofs.Common.{◌≡◌, ◌-◌, flat_map}
use Rattle.std.specs.List.{range_with_len}
use Rattle.ht_recompute.specs.Differences.{in_either, differences_in}
use Rattle.ht_recompute.specs.FrameSetsOf.{latches_after, outputs_of_frame}
use Rattle.ht_recompute.proofs.frame_sets.run_frames.Given as goal

abbrev pub invariant-loop-f : goal.invariant-loop-f
invariant-loop-f l = record {
  circuit : l.frame.circuit ≡ l.fn.frame.circuit;
  fault : l.frame.fault ≡ l.fn.frame.fault;
  latches : l.frame.latches ≡ latches_after l.fn.frame l.decisions l.f;
  shown : in_either l.shown
      (differences_in (flat_map (outputs_of_frame l.fn.frame l.decisions) (range_with_len l.f (l.frames - l.f))))
      ≡ differences_in (flat_map (outputs_of_frame l.fn.frame l.decisions) (range_with_len 0 l.frames));
}
