use Rattle.std.proofs.Common.{◌≡◌, ◌∷◌, drop}
use Rattle.ht_net.specs.Frames.Frame.{values_at}
use Rattle.ht_frame.specs.Values.{env_of}
use Rattle.ht_frame.proofs.frame.eval_nets.Given as goal

abbrev pub invariant-loop-arg : goal.invariant-loop-arg
invariant-loop-arg g l =
    g.V.Domain.gate l.kind (l.value ∷ values_at (env_of g.V.Domain.blank l.values) (drop l.arg-index l.arg-items))
    ≡ g.V.Domain.gate l.kind (values_at (env_of g.V.Domain.blank l.values) l.args)
