use Rattle.std.proofs.Common.{◌≡◌, ◌<◌, ◌-◌, ◌*◌, ◌++◌, ℕ, List, length, get_or, take, drop, sym, ◌∙◌, ap, arith, subst}
use Rattle.std.proofs.lemmas.List.{append-nil, take_all, drop_all}
use Rattle.ht_net.specs.Circuit.Netlist.{Netlist, IsCircuit, IsOrder}
use Rattle.ht_faults.specs.Leaders.{StayInClass, GateJoins, OthersStay}
use Rattle.ht_faults.proofs.OrderLaws.{own_stay, one_gate, all_gates}
use Rattle.ht_faults.proofs.stems.stem_leaders.Goals as goal

pub loop-k-init : goal.loop-k-init
loop-k-init c =
    let n = c.args.circuit.now in
    let count : length c.in_ok-leaders.leaders.items ≡ 2 * Rattle.ht_net.specs.Circuit.Netlist.net_count n = let a =
    c.in_ok-leaders.ensures.count in let b = c.nets.ensures.count in omega arith in
    record {
      stays = own_stay n c.in_ok-leaders.leaders.items count
          (λ k l. c.in_ok-leaders.ensures.own k (let b = c.nets.ensures.count in omega arith));
      joins = λ j low high. absurd (omega arith);
    }

-- what a slice of a whole vector was made into is the whole vector
whole : (len : ℕ) (new items : List ℕ) → len ≡ length items → length new ≡ length items
    → take len (new ++ drop (length new) items) ≡ new
whole len new items a b =
    ap (λ (l : List ℕ). take len (new ++ l)) (drop_all (length new) items (omega arith))
    ∙ (ap (take len) (append-nil new) ∙ take_all len new (omega arith))

pub loop-k-preserved : goal.loop-k-preserved
loop-k-preserved c =
    let n = c.args.circuit.now in
    let order = c.order-order.result.now in
    let k : ℕ = c.loop-k.k - 1 in
    let at : c.loop-k.k - 1 < length order = let a = c.loop-k-test.true in let b = c.loop-k.auto.k in omega arith in
    let long : length c.join_gate.new.leaders ≡ length c.loop-k.leaders.items = c.join_gate.auto.leaders ∙ ap
    (λ (l : List ℕ). length l) c.deref_mut.ensures.value in
    let is = whole c.loop-k.leaders.len c.join_gate.new.leaders c.loop-k.leaders.items c.loop-k.leaders.ok.0 long in
    let others : OthersStay n c.loop-k.leaders.items c.join_gate.new.leaders (get_or order (c.loop-k.k - 1) 0) =
    subst (λ (l : List ℕ). OthersStay n l c.join_gate.new.leaders (get_or order (c.loop-k.k - 1) 0))
    c.deref_mut.ensures.value c.join_gate.ensures.others in
    record {
      stays = subst (StayInClass n) (sym is) c.join_gate.ensures.after;
      joins = λ j low inside.
          subst (λ (l : List ℕ). GateJoins n l (get_or order j 0)) (sym is)
          (one_gate n order c.order-order.ensures.circuit c.order-order.ensures.order c.loop-k.leaders.items
          c.join_gate.new.leaders (c.loop-k.k - 1) at others c.join_gate.ensures.joins
          (λ i above there. c.loop-k.invariant.joins i (let t = c.loop-k-test.true in omega arith) there) j low inside);
    }

pub returns-clause-joins : goal.returns-clause-joins
returns-clause-joins c =
    all_gates c.args.circuit.now c.order-order.result.now c.order-order.ensures.circuit c.order-order.ensures.order
    c.loop-k.leaders.items
    (λ j low inside. c.loop-k.invariant.joins j (omega (arith, c.loop-k-test.false)) inside)
