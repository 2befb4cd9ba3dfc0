use Rattle.std.proofs.Common.{◌≡◌, ◌+◌, ◌∙◌, ℕ, ap, sym, subst, get_or}
use Rattle.ht_tern.specs.declared.tern.Tern.TheVariants.{Unk}
use Rattle.ht_net.specs.Circuit.Netlist.{first_gate_net}
use Rattle.ht_frame.specs.Values.{env_of}
use Rattle.ht_stems.specs.declared.arrival.Arrival.{Arrival}
use Rattle.ht_stems.specs.Arrivals.{Arrives, unchanged, unread, at_latch, at_output, at_stem}
use Rattle.ht_stems.specs.NetEnds.{end_at, no_ends}
use Rattle.ht_stems.specs.declared.net_loads.NetLoads.TheVariants.{NoLoad, OneGate}
use Rattle.ht_stems.proofs.PassLaws.{entry_loads, ends_through, not_value}
use Rattle.ht_stems.proofs.pass.LoadedCircuit.end.Goals as goal

pub returns-then-has_net_value-clause-end : goal.returns-then-has_net_value-clause-end
returns-then-has_net_value-clause-end c =
    unchanged c.args.net.0 c.args.value (sym (c.has_net_value.ensures.0 c.if-has_net_value.true))

pub returns-in-NoLoad-clause-end : goal.returns-in-NoLoad-clause-end
returns-in-NoLoad-clause-end c =
    unread c.args.net.0 c.args.value (not_value c.has_net_value.ensures c.if-has_net_value.false)
    (entry_loads c.requires.tables.loads c.requires.net c.index.ensures c.in-NoLoad.is)

pub returns-in-OneGate-clause-end : goal.returns-in-OneGate-clause-end
returns-in-OneGate-clause-end c =
    let net = c.args.self.now.circuit.now in
    let g = c.in-OneGate.gate in
    let good = env_of Unk c.args.values.now in
    let output = c.forced_gate_output-output.result in
    let entry : get_or c.args.self.now.loads.now c.args.net.0 NoLoad ≡ OneGate c.in-OneGate.gate =
    ap (λ (n : ℕ). get_or c.args.self.now.loads.now n NoLoad) (sym c.index.ensures) ∙ c.in-OneGate.is in
    let told : c.end_in.result
    ≡ end_at (get_or c.args.ends.now (first_gate_net c.args.self.now.circuit.now + c.in-OneGate.gate) no_ends)
    c.forced_gate_output-output.result =
    c.end_in.ensures
    ∙ ap (λ (n : ℕ). end_at (get_or c.args.ends.now n no_ends) c.forced_gate_output-output.result)
    c.gate_net.ensures.net
    in
    let P : Arrival → Type 0 = Arrives net good c.args.net.0 c.args.value in
    subst P (sym told)
    (ends_through net good c.args.self.now.loads.now c.args.ends.now c.args.net.0 g c.args.value output c.requires.net
    c.requires.tables.loads (not_value c.has_net_value.ensures c.if-has_net_value.false) entry
    c.requires.after
    c.forced_gate_output-output.ensures.output)

pub returns-in-OneDataPin-clause-end : goal.returns-in-OneDataPin-clause-end
returns-in-OneDataPin-clause-end c =
    at_latch c.args.net.0 c.args.value c.in-OneDataPin.dff
    (not_value c.has_net_value.ensures c.if-has_net_value.false)
    (entry_loads c.requires.tables.loads c.requires.net c.index.ensures c.in-OneDataPin.is)

pub returns-in-OneOutput-clause-end : goal.returns-in-OneOutput-clause-end
returns-in-OneOutput-clause-end c =
    at_output c.args.net.0 c.args.value c.in-OneOutput.output
    (not_value c.has_net_value.ensures c.if-has_net_value.false)
    (entry_loads c.requires.tables.loads c.requires.net c.index.ensures c.in-OneOutput.is)

pub returns-in-Several-clause-end : goal.returns-in-Several-clause-end
returns-in-Several-clause-end c =
    at_stem c.args.net.0 c.args.value (not_value c.has_net_value.ensures c.if-has_net_value.false)
    (entry_loads c.requires.tables.loads c.requires.net c.index.ensures c.in-Several.is)
