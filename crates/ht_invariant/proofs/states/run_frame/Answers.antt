use Rattle.std.proofs.Common.{◌∙◌, length, ap}
use Rattle.ht_net.specs.Frames.Faults.{bool_rules}
use Rattle.ht_random.proofs.RandomVectorLaws.{random_vector_length}
use Rattle.ht_serial.specs.MachineState.{stepped}
use Rattle.ht_invariant.proofs.states.run_frame.Goals as goal

pub step-requires : goal.step-requires
step-requires c =
    ap length (c.deref.ensures.value ∙ c.in_ok-vector.ensures.vector)
    ∙ (random_vector_length c.args.inputs c.args.words.now ∙ c.requires)

pub returns-clause-machine : goal.returns-clause-machine
returns-clause-machine c =
    c.step.ensures ∙ ap (stepped bool_rules c.args.machine.now) (c.deref.ensures.value ∙ c.in_ok-vector.ensures.vector)
