use Rattle.std.proofs.Common.{arith}
use Rattle.ht_tern.specs.declared.tern.Tern.TheVariants.{Unk}
use Rattle.ht_frame.specs.Values.{env_of}
use Rattle.ht_stems.proofs.PassLaws.{all_nets_end}
use Rattle.ht_stems.proofs.pass.LoadedCircuit.write_ends.Goals as goal

pub returns-clause-ends : goal.returns-clause-ends
returns-clause-ends c =
    all_nets_end c.args.self.now.circuit.now (env_of Unk c.args.values.now) c.loop-source.ends
    (λ x low. c.loop-source.invariant.low x
    (omega (arith, low, c.loop-source-test.false, c.loop-source.auto.source-end, c.inputs.ensures, c.dffs.ensures)))
    c.loop-source.invariant.gates
