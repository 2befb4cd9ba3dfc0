use Rattle.std.proofs.Common.{◌≡◌, ◌<◌, ◌≤◌, ◌+◌, ◌-◌, ◌∙◌, ℕ, Bool, length, get_or, ap, sym, subst, arith}
use Rattle.ht_net.specs.declared.net.NetId.{NetId}
use Rattle.ht_net.specs.Circuit.Netlist.{Netlist, IsCircuit, net_count, no_net}
use Rattle.ht_tree.specs.declared.window.Spot.TheVariants.{State}
use Rattle.ht_tree.specs.declared.token.Choice.{Choice}
use Rattle.ht_tree.specs.declared.token.Choice.TheVariants.{Two}
use Rattle.ht_tree.specs.Window.Windows.{IsWindow, cell_at, first_input}
use Rattle.ht_tree.specs.Window.Places.{spot_net}
use Rattle.ht_tree.specs.Window.WalkBack.{Wanted, choice_at, end_in_frame, walk_back}
use Rattle.ht_tree.specs.Window.Variables.{IsLegalChoice}
use Rattle.ht_tree.proofs.PickLaws.{net_has_choice}
use Rattle.ht_window.specs.Matters.{is_relevant}
use Rattle.ht_window.specs.States.{WindowState}
use Rattle.ht_window.specs.WantedOf.{wanted_of}
use Rattle.ht_window.proofs.WalkLaws.{ends_low, ends_undetermined_at, choice_input, choice_latch, choice_back, data_matters, data_undetermined}
use Rattle.ht_window.proofs.window.Window.walk_back.Goals.{then-loop-frame-test+else-at-inputs, else-loop-frame-test}
use Rattle.ht_window.proofs.window.Window.walk_back.Goals as goal

pub loop-frame-init : goal.loop-frame-init
loop-frame-init c =
    let s = c.args.self.now in
    let valid : IsCircuit s.window.circuit = c.circuit-circuit.ensures.valid.circuit in
    let at : Wanted = record { net = c.args.net.0; bit = c.args.wanted } in
    let e = c.end_in_frame-at.ensures.end in
    record {
      frame = c.requires.frame;
      low = let l = ends_low s.window s.decisions valid c.args.frame at c.requires.net c.requires.undetermined
          in let n = ap (λ (x : Wanted). x.net) e in omega (arith, l, n);
      matters = c.end_in_frame-at.ensures.matters;
      undetermined = subst (λ (x : Wanted). 1 < length (cell_at s.window s.decisions c.args.frame x.net)) (sym e)
          (ends_undetermined_at s.window s.decisions valid c.args.frame at c.requires.net c.requires.undetermined);
      same = ap (choice_at s.window s.decisions c.args.frame) e;
    }

-- the data net of the latch where the walk stands
data_net : (c : goal.After-dff_data) → c.dff_data.result.0
    ≡ spot_net c.args.self.now.window.circuit (State (c.loop-frame.at.net - c.args.self.now.window.circuit.inputs))
data_net c =
    let circuit = c.circuit-circuit.ensures.circuit in
    let inputs = c.inputs-inputs.ensures ∙ ap (λ (n : Netlist). n.inputs) circuit in
    ap (λ (x : NetId). x.0)
    (c.dff_data.ensures ∙ (λ k. get_or (circuit k).dffs (c.loop-frame.at.net - inputs k) no_net))

-- the walk stands at a latch, past the inputs
at_latch : (c : goal.After-dff_data) → c.args.self.now.window.circuit.inputs ≤ c.loop-frame.at.net
at_latch c =
    let t = c.if-at-inputs.true in
    let inputs = c.inputs-inputs.ensures ∙ ap (λ (n : Netlist). n.inputs) c.circuit-circuit.ensures.circuit in
    omega (arith, t, inputs)

pub end_in_frame-at-requires-in-loop-frame-clause-matters : goal.end_in_frame-at-requires-in-loop-frame-clause-matters
end_in_frame-at-requires-in-loop-frame-clause-matters c =
    let s = c.args.self.now in
    let e = c.circuit-circuit.ensures in
    let i = c.loop-frame.invariant in
    ap (is_relevant s.relevant (c.loop-frame.frame - 1)) (data_net c)
    ∙ data_matters s.window s.decisions e.valid.circuit (is_relevant s.relevant) c.relevance.ensures.closed
    c.loop-frame.frame c.loop-frame.at.net i.frame c.loop-frame-test.true (at_latch c) i.low i.matters

pub end_in_frame-at-requires-in-loop-frame-clause-undetermined : goal.end_in_frame-at-requires-in-loop-frame-clause-undetermined
end_in_frame-at-requires-in-loop-frame-clause-undetermined c =
    let s = c.args.self.now in
    let e = c.circuit-circuit.ensures in
    let i = c.loop-frame.invariant in
    subst (λ (x : ℕ). 1 < length (cell_at s.window s.decisions (c.loop-frame.frame - 1) x)) (sym (data_net c))
    (data_undetermined s.window s.decisions e.valid.circuit c.loop-frame.frame c.loop-frame.at.net c.loop-frame-test.true
    (at_latch c) i.low i.undetermined)

pub loop-frame-preserved : goal.loop-frame-preserved
loop-frame-preserved c =
    let s = c.args.self.now in
    let n = s.window.circuit in
    let valid : IsCircuit n = c.circuit-circuit.ensures.valid.circuit in
    let circuit : c.circuit-circuit.result.now ≡ n = c.circuit-circuit.ensures.circuit in
    let inputs : c.inputs-inputs.result ≡ n.inputs = c.inputs-inputs.ensures ∙ ap (λ (n : Netlist). n.inputs) circuit in
    let i = c.loop-frame.invariant in
    let frame = c.loop-frame.frame in
    let here = c.loop-frame.at.net in
    let t = c.if-at-inputs.true in
    let l = c.loop-frame-test.true in
    let low = i.low in
    let f = i.frame in
    let high : n.inputs ≤ here = omega (arith, inputs, t) in
    let source : c.dff_data.result.0 ≡ spot_net n (State (here - n.inputs)) =
    ap (λ (x : NetId). x.0) (c.dff_data.ensures ∙ (λ k. get_or (circuit k).dffs (here - inputs k) no_net)) in
    let at : Wanted = record { net = spot_net n (State (here - n.inputs)); bit = c.loop-frame.at.bit } in
    let e : wanted_of c.end_in_frame-at-in-loop-frame.result ≡ end_in_frame s.window s.decisions (frame - 1) at =
    c.end_in_frame-at-in-loop-frame.ensures.end ∙ ap
    (λ (x : ℕ). end_in_frame s.window s.decisions (frame - 1) (record { net = x; bit = c.loop-frame.at.bit }))
    source in
    let known : at.net < net_count n = valid.data_known (here - n.inputs) (omega (arith, high, low)) in
    let undetermined = data_undetermined s.window s.decisions valid frame here (omega
    (arith, l)) high low i.undetermined
    in
    record {
      frame = omega (arith, f);
      low = let l = ends_low s.window s.decisions valid (frame - 1) at known undetermined
          in let n = ap (λ (x : Wanted). x.net) e in omega (arith, l, n);
      matters = c.end_in_frame-at-in-loop-frame.ensures.matters;
      undetermined = subst (λ (x : Wanted). 1 < length (cell_at s.window s.decisions (frame - 1) x.net)) (sym e)
          (ends_undetermined_at s.window s.decisions valid (frame - 1) at known undetermined);
      same = ap (choice_at s.window s.decisions (frame - 1)) e ∙
          (choice_back s.window s.decisions valid frame (wanted_of c.loop-frame.at) (omega (arith, l)) high ∙ i.same);
    }

-- the choice of a walk back is legal
legal_choice : (s : WindowState) (f x : ℕ) (bit : Bool) (result : Choice) → IsWindow s.window → f < s.window.frames
    → x < net_count s.window.circuit → 1 < length (cell_at s.window s.decisions f x)
    → result ≡ walk_back s.window s.decisions f x bit → IsLegalChoice s.window s.decisions result
legal_choice s f x bit result valid inside known h is =
    subst (λ (choice : Choice). IsLegalChoice s.window s.decisions choice) (sym is)
    (net_has_choice s.window s.decisions f x bit valid inside known h)

pub returns-then-at-inputs-2 : goal.returns-then-at-inputs-2
returns-then-at-inputs-2 c =
    let s = c.args.self.now in
    let n = s.window.circuit in
    let valid : IsCircuit n = c.circuit-circuit.ensures.valid.circuit in
    let circuit : c.circuit-circuit.result.now ≡ n = c.circuit-circuit.ensures.circuit in
    let inputs : c.inputs-inputs.result ≡ n.inputs = c.inputs-inputs.ensures ∙ ap (λ (n : Netlist). n.inputs) circuit in
    let t = c.if-at-inputs-2.true in
    let is : c.input_var.result ≡ first_input s.window c.loop-frame.frame + c.loop-frame.at.net =
    c.input_var.ensures in
    let choice : Two c.input_var.result c.loop-frame.at.bit
    ≡ walk_back s.window s.decisions c.args.frame c.args.net.0 c.args.wanted =
    ap (λ (x : ℕ). Two x c.loop-frame.at.bit) is
    ∙ (sym (choice_input s.window s.decisions valid c.loop-frame.frame (wanted_of c.loop-frame.at)
    (omega (arith, inputs, t))) ∙ c.loop-frame.invariant.same) in
    let r = c.requires in
    record {
      choice = choice;
      legal = legal_choice s c.args.frame c.args.net.0 c.args.wanted _ c.circuit-circuit.ensures.valid r.frame r.net
          r.undetermined choice;
    }

pub returns-else-at-inputs-2 : goal.returns-else-at-inputs-2
returns-else-at-inputs-2 c =
    let s = c.args.self.now in
    let window = c.circuit-circuit.ensures in
    let inputs = c.inputs-inputs.ensures ∙ ap (λ (n : Netlist). n.inputs) window.circuit in
    let t = c.if-at-inputs-2.false in
    let last : c.loop-frame.frame ≡ 0 = elim c.loop-frame-test.branch [
      | then-loop-frame-test+else-at-inputs w ↦ let u = w.if-at-inputs.false in absurd (omega (arith, t, u))
      | else-loop-frame-test w ↦ let u = w.loop-frame-test.false in omega (arith, u)
    ] in
    let choice : c.latch_choice.result ≡ walk_back s.window s.decisions c.args.frame c.args.net.0 c.args.wanted =
    c.latch_choice.ensures
    ∙ (sym (choice_latch s.window s.decisions window.valid.circuit c.loop-frame.frame (wanted_of c.loop-frame.at) last
    (omega (arith, inputs, t))) ∙ c.loop-frame.invariant.same) in
    let r = c.requires in
    record {
      choice = choice;
      legal = legal_choice s c.args.frame c.args.net.0 c.args.wanted _ window.valid r.frame r.net r.undetermined choice;
    }
