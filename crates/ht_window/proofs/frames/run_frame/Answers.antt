use Rattle.std.proofs.Common.{◌≡◌, ◌<◌, ◌∙◌, ℕ, sym, subst}
use Rattle.ht_net.specs.Circuit.Netlist.{Netlist, net_count}
use Rattle.ht_net.specs.Frames.Frame.{data_values, net_value}
use Rattle.ht_frame.specs.Values.{env_of}
use Rattle.ht_tree.specs.Window.Windows.{cell_at, pair_set_rules}
use Rattle.ht_window.specs.Cells.{blank}
use Rattle.ht_window.proofs.AllSetsLaws.{latches_taken}
use Rattle.ht_window.proofs.frames.run_frame.Goals as goal

pub returns-clause-latches : goal.returns-clause-latches
returns-clause-latches c =
    let d = c.args.decisions.now in
    let w = d.window in
    let row = c.settle.new.values in
    let circuit : c.circuit-circuit.result.now ≡ w.circuit = c.circuit-circuit.ensures.circuit in
    let fault : c.fault-fault.result ≡ w.fault = c.fault-fault.ensures in
    let vector = c.write_inputs.ensures in
    let latches = c.requires.latches in
    let sets : (x : ℕ) → x < net_count w.circuit → env_of blank row x ≡ cell_at w d.path c.args.frame x = λ x xs.
    c.settle.ensures x (subst (λ (n : Netlist). x < net_count n) (sym circuit) xs)
    ∙ (λ i. net_value (circuit i) (pair_set_rules (fault i)) (vector i) (latches i) x) in
    c.capture.ensures
    ∙ ((λ i. data_values (pair_set_rules (fault i)) (env_of blank row) 0 (circuit i).dffs)
    ∙ latches_taken w d.path c.circuit-circuit.ensures.valid c.args.frame row sets)
