-- The statements of a circuit drive each of its nets once, and say the circuit.
use Rattle.std.proofs.Common.{◌≡◌, ℕ, suc, ◌+◌, ◌<◌, ◌≤◌, List, [], ◌∷◌, ◌++◌, length, get_or, map, take, sum_by, append_assoc, append-nil, refl, sym, ap, ◌∙◌, arith}
use Rattle.std.proofs.lemmas.List.{length-map, take_all, get_or-map, take_more}
use Rattle.std.proofs.lemmas.List.Sums.{sum_by-cons}
use Rattle.ht_net.specs.declared.net.NetId.{NetId}
use Rattle.ht_net.specs.Circuit.Lists.{AllDiffer}
use Rattle.ht_net.specs.Circuit.Netlist.{Netlist, Gate, IsCircuit, first_gate_net, pin_count, no_net}
use Rattle.ht_net.specs.Build.Named.{Name, NamedDff, NamedGate, name_of, named_gates, named_of}
use Rattle.ht_bench.specs.Contents.{driven_by, named_of_statements}
use Rattle.ht_net.specs.Build.Draft.{named_pins, dff_outs, gate_outs}
use Rattle.ht_bench.specs.Normal.{statements_of}
use Rattle.ht_bench.proofs.NameListLaws.{with_names-differ}
use Rattle.ht_net.proofs.PlaceLaws.{one_place}
use Rattle.ht_bench.proofs.NamedPartLaws.{gate_named, named_dffs_count, named_gates_count, dff_out, gate_out}
use Rattle.ht_bench.proofs.NormalContentLaws.{named_said, driven_are}

-- names from n on, after those before it
names_go_on : (names outs : List Name) (n : ℕ) → n + length outs ≤ length names
    → ((k : ℕ) → k < length outs → get_or outs k [] ≡ get_or names (n + k) [])
    → take n names ++ outs ≡ take (n + length outs) names
names_go_on names [] n fits at = append-nil (take n names) ∙ ap (λ m. take m names) (omega arith)
names_go_on names (out ∷ outs) n fits at =
    let here : out ≡ get_or names n [] = at 0 (omega arith) ∙ ap (λ m. get_or names m []) (omega arith) in
    ap (λ name. take n names ++ name ∷ outs) here
    ∙ sym (append_assoc (take n names) (get_or names n [] ∷ []) outs)
    ∙ ap (λ l. l ++ outs) (sym (take_more names n [] (omega arith)))
    ∙ names_go_on names outs (n + 1) (omega arith)
    (λ k lt. at (suc k) (omega arith) ∙ ap (λ m. get_or names m []) (omega arith))
    ∙ ap (λ m. take m names) (omega arith)

sum_of_args : (c : Netlist) (x : ℕ) (gates : List Gate)
    → sum_by (λ (g : NamedGate). length g.args) (named_gates c x gates) ≡ sum_by (λ (g : Gate). length g.args) gates
sum_of_args c x [] = refl
sum_of_args c x (g ∷ gates) =
    let named = sum_by-cons (λ (y : NamedGate). length y.args) (gate_named c x g) (named_gates c (x + 1) gates) in
    let plain = sum_by-cons (λ (y : Gate). length y.args) g gates in
    let rest = sum_of_args c (x + 1) gates in
    omega (arith, length-map g.args (name_of c))

module _ (c : Netlist) (is : IsCircuit c) where
  -- the statements of a circuit drive its nets, in the order of their numbers
  pub driven_are_names : driven_by (statements_of c) ≡ c.names
  driven_are_names =
      let n = named_of c in
      let dffs : length (dff_outs n.dffs) ≡ length c.dffs = length-map n.dffs (λ (d : NamedDff). d.out) ∙
      named_dffs_count c c.inputs c.dffs in
      let gates : length (gate_outs n.gates) ≡ length c.gates = length-map n.gates (λ (g : NamedGate). g.out) ∙
      named_gates_count c (first_gate_net c) c.gates in
      driven_are n
      ∙ ap (λ l. l ++ gate_outs n.gates)
      (names_go_on c.names (dff_outs n.dffs) c.inputs (omega arith) (λ k lt. dff_out c c.inputs c.dffs k (omega arith)))
      ∙ ap (λ m. take m c.names ++ gate_outs n.gates) (omega arith)
      ∙ names_go_on c.names (gate_outs n.gates) (first_gate_net c) (omega arith)
      (λ k lt. gate_out c (first_gate_net c) c.gates k (omega arith))
      ∙ take_all (first_gate_net c + length (gate_outs n.gates)) c.names (omega arith)

  outputs_differ : AllDiffer (map (name_of c) c.outputs)
  outputs_differ x y d before below same =
      let count = length-map c.outputs (name_of c) in
      let x_known = is.outputs_known x (omega arith) in
      let y_known = is.outputs_known y (omega arith) in
      let number : ℕ → NetId = λ n. record { 0 = n } in
      is.outputs_differ x y no_net before (omega arith) (ap number (one_place c.names (get_or c.outputs x no_net).0
      (get_or c.outputs y no_net).0 is.names_differ (omega arith) (omega arith)
      (sym (get_or-map (name_of c) c.outputs x no_net d (omega arith)) ∙ same ∙ get_or-map (name_of c) c.outputs y
      no_net d (omega arith))))

  -- the statements say the circuit
  pub statements_say : named_of_statements (statements_of c) ≡ named_of c
  statements_say = named_said (named_of c) ∙ ap (λ l. record (named_of c) { outputs = l })
      (with_names-differ [] (named_of c).outputs outputs_differ)

  -- a circuit has as many pins by name as by number
  pub pins_are : named_pins (named_of c) ≡ pin_count c
  pins_are = omega (arith, named_dffs_count c c.inputs c.dffs, sum_of_args c (first_gate_net c) c.gates)
