use Rattle.std.proofs.Common.{◌≡◌, ◌<◌, ◌≤◌, ◌+◌, ℕ, length, get_or}
use Rattle.ht_tern.specs.declared.tern.Tern.TheVariants.{Unk}
use Rattle.ht_net.specs.Circuit.Netlist.{first_gate_net}
use Rattle.ht_frame.specs.Values.{env_of}
use Rattle.ht_stems.specs.NetEnds.{AreNetEnds, no_ends}
use Rattle.ht_stems.proofs.pass.LoadedCircuit.write_gates.Given as goal

abbrev pub invariant-loop-i : goal.invariant-loop-i
invariant-loop-i l = record {
  same : l.values ≡ l.fn.values;
  done : (j : ℕ) → length l.order ≤ j + l.i → j < length l.order
      → AreNetEnds l.self.circuit.now (env_of Unk l.fn.values) (first_gate_net l.self.circuit.now + get_or l.order j 0)
      (get_or l.ends (first_gate_net l.self.circuit.now + get_or l.order j 0) no_ends);
}
