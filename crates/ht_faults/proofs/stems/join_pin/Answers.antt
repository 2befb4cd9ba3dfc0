use Rattle.std.proofs.Common.{◌≡◌, ◌<◌, ℕ, List, Bool, true, false, length, get_or, sym, ◌∙◌, ap}
use Rattle.ht_net.specs.declared.net.NetId.{NetId}
use Rattle.ht_net.specs.Circuit.Netlist.{Netlist, arg_at, gate_at, no_net, IsCircuit}
use Rattle.ht_faults.specs.Sites.{is_fanout}
use Rattle.ht_faults.specs.Leaders.{stem_number, output_value, united}
use Rattle.ht_faults.proofs.UnionLaws.{AreUnited, united_pin}
use Rattle.ht_faults.proofs.stems.join_pin.Goals as goal

pub returns-then-has_fanout-clause-this : goal.returns-then-has_fanout-clause-this
returns-then-has_fanout-clause-this c =
    let n = c.args.circuit.now in
    let x : ℕ = (get_or c.gate_args.result.now c.args.i no_net).0 in
    let is : x ≡ arg_at n c.args.g c.args.i = ap (λ (l : List NetId). (get_or l c.args.i no_net).0)
    c.gate_args.ensures.args in
    let many : is_fanout n x ≡ true = sym c.has_fanout.ensures ∙ c.if-has_fanout.true in
    record { joins = λ v w single values. absurd (false_true (sym single ∙ (ap (is_fanout n) (sym is) ∙ many))) }
  where
    false_true : false ≡ true → ⊥
    false_true e = cc

pin_united : (n : Netlist) (circuit : IsCircuit n) (g i : ℕ) (inside : g < length n.gates)
    (pin : i < length (gate_at n g).args) (args : List NetId) (fanout : Bool) → args ≡ (gate_at n g).args
    → fanout ≡ is_fanout n (get_or args i no_net).0 → fanout ≡ false → (leaders some all : List ℕ)
    → some ≡ united n g (stem_number (get_or args i no_net).0 false) (output_value n g false) leaders
    → all ≡ united n g (stem_number (get_or args i no_net).0 true) (output_value n g true) some
    → AreUnited n g i leaders all
pin_united n circuit g i inside pin args fanout is test single leaders some all first second =
    united_pin n circuit g i inside pin
    (ap (λ (l : List NetId). is_fanout n (get_or l i no_net).0) (sym is) ∙ (sym test ∙ single))
    (get_or args i no_net).0 (ap (λ (l : List NetId). (get_or l i no_net).0) is) leaders some all first second

pub returns-clause-after : goal.returns-clause-after
returns-clause-after c =
    (pin_united c.args.circuit.now c.gate_args.ensures.circuit c.args.g c.args.i c.requires.gate c.requires.pin
    c.gate_args.result.now c.has_fanout.result c.gate_args.ensures.args c.has_fanout.ensures c.if-has_fanout.false
    c.args.leaders.now c.unite.new.leaders c.unite-2.new.leaders c.unite.ensures c.unite-2.ensures).after
    c.requires.before

pub returns-clause-this : goal.returns-clause-this
returns-clause-this c =
    (pin_united c.args.circuit.now c.gate_args.ensures.circuit c.args.g c.args.i c.requires.gate c.requires.pin
    c.gate_args.result.now c.has_fanout.result c.gate_args.ensures.args c.has_fanout.ensures c.if-has_fanout.false
    c.args.leaders.now c.unite.new.leaders c.unite-2.new.leaders c.unite.ensures c.unite-2.ensures).this
    c.requires.before.every

pub returns-clause-pins : goal.returns-clause-pins
returns-clause-pins c = λ k inside old.
    (pin_united c.args.circuit.now c.gate_args.ensures.circuit c.args.g c.args.i c.requires.gate c.requires.pin
    c.gate_args.result.now c.has_fanout.result c.gate_args.ensures.args c.has_fanout.ensures c.if-has_fanout.false
    c.args.leaders.now c.unite.new.leaders c.unite-2.new.leaders c.unite.ensures c.unite-2.ensures).pins
    c.requires.before.every k old

pub returns-clause-others : goal.returns-clause-others
returns-clause-others c =
    (pin_united c.args.circuit.now c.gate_args.ensures.circuit c.args.g c.args.i c.requires.gate c.requires.pin
    c.gate_args.result.now c.has_fanout.result c.gate_args.ensures.args c.has_fanout.ensures c.if-has_fanout.false
    c.args.leaders.now c.unite.new.leaders c.unite-2.new.leaders c.unite.ensures c.unite-2.ensures).others
