use Rattle.std.proofs.Common.{◌≡◌, ◌∙◌, ℕ, List, Some, get_or, ap}
use Rattle.ht_tern.specs.declared.tern.Tern.{Tern}
use Rattle.ht_tern.specs.declared.tern.Tern.TheVariants.{Unk}
use Rattle.ht_net.specs.Frames.Frame.{gate_output}
use Rattle.ht_net.specs.Frames.Faults.{tern_rules}
use Rattle.ht_frame.specs.Values.{env_of}
use Rattle.ht_stems.specs.declared.net_ends.NetEnds.{NetEnds}
use Rattle.ht_stems.specs.NetEnds.{end_at, no_ends}
use Rattle.ht_stems.proofs.ViewLaws.{stem_told, pin_told}
use Rattle.ht_stems.proofs.arrivals.Arrivals.site.Goals as goal

pub returns-in-Stem-clause-end : goal.returns-in-Stem-clause-end
returns-in-Stem-clause-end c = stem_told c.self.inside c.args.self.now c.self.view_is c.self.invariant c.args.fault
    c.in-Stem.net c.from-value.result c.end_in.result c.in-Stem.is c.requires c.from-value.ensures
    (c.end_in.ensures
    ∙ ap (λ (l : List NetEnds). end_at (get_or l c.in-Stem.net.0 no_ends) c.from-value.result) c.deref.ensures.value)

pub returns-in-GatePin-clause-end : goal.returns-in-GatePin-clause-end
returns-in-GatePin-clause-end c =
    let a = c.self.inside in
    let g = c.in-GatePin.gate in
    let output = c.gate_output-output.result in
    let gives : c.gate_output-output.result
    ≡ gate_output c.self.inside.circuit.now (tern_rules (Some c.args.fault)) (env_of Unk c.self.inside.values.items)
    c.in-GatePin.gate =
    c.gate_output-output.ensures
    ∙ ap (λ (l : List Tern). gate_output a.circuit.now (tern_rules (Some c.args.fault)) (env_of Unk l) g)
    c.deref-in-GatePin.ensures.value in
    pin_told a c.args.self.now c.self.view_is c.self.invariant c.args.fault g c.in-GatePin.pin output
    c.end_in-in-GatePin.result c.in-GatePin.is c.requires gives
    (c.end_in-in-GatePin.ensures
    ∙ (ap (λ (l : List NetEnds). end_at (get_or l c.gate_net.result.0 no_ends) output)
    c.deref-in-GatePin-2.ensures.value
    ∙ ap (λ (n : ℕ). end_at (get_or a.ends.items n no_ends) output) c.gate_net.ensures.net))
