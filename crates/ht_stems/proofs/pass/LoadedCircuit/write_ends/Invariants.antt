use Rattle.std.proofs.Common.{◌≡◌, ◌<◌, ◌+◌, ℕ, length, get_or}
use Rattle.ht_tern.specs.declared.tern.Tern.TheVariants.{Unk}
use Rattle.ht_net.specs.Circuit.Netlist.{first_gate_net}
use Rattle.ht_frame.specs.Values.{env_of}
use Rattle.ht_stems.specs.NetEnds.{AreNetEnds, no_ends}
use Rattle.ht_stems.proofs.pass.LoadedCircuit.write_ends.Given as goal

abbrev pub invariant-loop-source : goal.invariant-loop-source
invariant-loop-source l = record {
  same : l.values ≡ l.fn.values;
  low : (x : ℕ) → x < l.source → AreNetEnds l.self.circuit.now (env_of Unk l.fn.values) x (get_or l.ends x no_ends);
  gates : (g : ℕ) → g < length l.self.circuit.now.gates
      → AreNetEnds l.self.circuit.now (env_of Unk l.fn.values) (first_gate_net l.self.circuit.now + g)
      (get_or l.ends (first_gate_net l.self.circuit.now + g) no_ends);
}
