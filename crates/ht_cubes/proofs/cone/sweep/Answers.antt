use Rattle.std.proofs.Common.{arith, ◌+◌, ◌<◌, ℕ, List, Bool, get_or, ◌∙◌, subst, below_more}
use Rattle.ht_cubes.specs.declared.cone.Reader.TheVariants.{Gate, Dff}
use Rattle.ht_cubes.specs.Cones.{CloseGates, Closes}
use Rattle.ht_cubes.proofs.ConeLaws.{Joins, grown_now, grown_more, joins_new, joins_old, swept_join, swept_more, swept_none, swept_so}
use Rattle.ht_cubes.proofs.cone.sweep.Goals as goal
use Rattle.ht_cubes.proofs.cone.sweep.Goals.{then-by_gate, else-by_gate, then-by_dff, else-by_dff}

pub gates-init : goal.gates-init
gates-init c = record {
  grown = grown_now c.args.circuit.now c.args.marks.now;
  swept = swept_none c.args.circuit.now _ c.args.marks.now (λ k l. absurd (omega arith));
}

pub mark-by_gate-requires : goal.mark-by_gate-requires
mark-by_gate-requires c = record {
  reader = c.order-order.ensures.order.each.within c.gates.g-index c.gates-test.true;
  marks = c.gates.invariant.grown.long ∙ c.requires;
}

pub gates-preserved : goal.gates-preserved
gates-preserved c =
    let n = c.args.circuit.now in
    let so_far = c.gates.invariant in
    let marked = c.mark-by_gate.ensures in
    let order = c.order-order.result.now in
    record {
      grown = grown_more n c.args.marks.now c.gates.marks c.mark-by_gate.new.marks so_far.grown marked.grown;
      swept = swept_more (λ (k : ℕ) (m : List Bool). Closes n (Gate (get_or order k 0)) m)
          c.gates.g-index so_far.grown.count marked.grown.count so_far.swept marked.swept (elim c.if-by_gate.branch [
            | then-by_gate w ↦ joins_new c.gates.changed w.if-by_gate.true w.changed-is
            | else-by_gate w ↦ joins_old w.if-by_gate.false w.changed-is
          ]);
    }

pub dffs-init : goal.dffs-init
dffs-init c = record {
  grown = c.gates.invariant.grown;
  swept = swept_so _ _ (λ all. (
    (λ g inside.
        let place = c.order-order.ensures.order.each.covers g inside in
        subst (λ (h : ℕ). Closes c.args.circuit.now (Gate h) c.gates.marks) place.2
        (all place.0 (let l = place.1 in omega (arith, l, c.gates-test.false)))),
    (λ k l. absurd (omega arith)),
  ))
      c.args.marks.now c.gates.marks c.gates.changed c.gates.invariant.swept;
}

pub mark-by_dff-requires : goal.mark-by_dff-requires
mark-by_dff-requires c = record {
  reader = let e = c.dffs-j-end.ensures in omega (arith, e, c.dffs-test.true);
  marks = c.dffs.invariant.grown.long ∙ c.requires;
}

pub dffs-preserved : goal.dffs-preserved
dffs-preserved c =
    let n = c.args.circuit.now in
    let j = c.dffs.j in
    let so_far = c.dffs.invariant in
    let marked = c.mark-by_dff.ensures in
    let joins : Joins c.dffs.changed c.mark-by_dff.result c.if-by_dff.changed = elim c.if-by_dff.branch [
      | then-by_dff w ↦ joins_new c.dffs.changed w.if-by_dff.true w.changed-is
      | else-by_dff w ↦ joins_old w.if-by_dff.false w.changed-is
    ] in
    record {
      grown = grown_more n c.args.marks.now c.dffs.marks c.mark-by_dff.new.marks so_far.grown marked.grown;
      swept = swept_join (λ (m : List Bool). CloseGates n m × ((k : ℕ) → k < j → Closes n (Dff k) m))
          (Closes n (Dff j)) (λ (m : List Bool). CloseGates n m × ((k : ℕ) → k < j + 1 → Closes n (Dff k) m))
          (λ m both here. (both.0, below_more (λ (k : ℕ). Closes n (Dff k) m) j both.1 here))
          c.args.marks.now c.dffs.marks c.mark-by_dff.new.marks c.dffs.changed c.mark-by_dff.result c.if-by_dff.changed
          so_far.grown.count marked.grown.count so_far.swept marked.swept joins.0 joins.1;
    }

pub returns : goal.returns
returns c = record {
  grown = c.dffs.invariant.grown;
  swept = swept_so _ _ (λ all. record {
    gates = all.0;
    dffs = λ j inside. all.1 j (let e = c.dffs-j-end.ensures in omega (arith, e, inside, c.dffs-test.false));
  }) c.args.marks.now c.dffs.marks c.dffs.changed c.dffs.invariant.swept;
}
