use Rattle.std.proofs.Common.{◌≡◌, drop}
use Rattle.ht_tern.specs.Gate.{gate_value_over, polarity_of, folded, operation_of}
use Rattle.ht_lanes.specs.Lanes.{Lanes, lane_operations}
use Rattle.ht_net.specs.Frames.Frame.{values_at}
use Rattle.ht_frame.specs.Values.{env_of}
use Rattle.ht_group.proofs.evaluate.eval_nets.Given as goal

abbrev pub invariant-loop-arg : goal.invariant-loop-arg
invariant-loop-arg l = (blank : Lanes) → polarity_of lane_operations l.kind
    (folded (operation_of lane_operations l.kind) l.word
    (values_at (env_of blank l.words) (drop l.arg-index l.arg-items)))
    ≡ gate_value_over lane_operations blank l.kind (values_at (env_of blank l.words) l.args)
