use Rattle.std.proofs.Common.{◌≡◌, ◌<◌, ℕ, List, length, ap, ◌∙◌, arith, subst}
use Rattle.ht_faults.specs.FirstIndex.{AreFirstIndices}
use Rattle.ht_faults.specs.Classes.{own_representatives}
use Rattle.ht_faults.proofs.ClassLaws.{are_classes}
use Rattle.ht_faults.proofs.classes.collapse.Goals as goal

pub first_indices-requires-clause-short : goal.first_indices-requires-clause-short
first_indices-requires-clause-short c =
    let e = ap (λ (l : List ℕ). length l) c.deref.ensures.value in
    omega (arith, e, c.in_ok-leaders.ensures.short)

-- as many indices as faults
indices_short : (leaders deref indices : List ℕ) → deref ≡ leaders → AreFirstIndices deref indices
    → length leaders < 4294967296
    → length indices < 4294967296
indices_short leaders deref indices is first short =
    let e = ap (λ (l : List ℕ). length l) is in
    let f = first.every in
    omega arith

pub own_representatives-requires : goal.own_representatives-requires
own_representatives-requires c =
    let e = ap (λ (l : List ℕ). length l) c.deref-2.ensures.value in
    let s = indices_short c.in_ok-leaders.leaders.items c.deref.result.now c.in_ok-by_fault.by_fault.items
    c.deref.ensures.value c.in_ok-by_fault.ensures c.in_ok-leaders.ensures.short in
    omega (arith, e, s)

pub invariant_of-result : goal.invariant_of-result
invariant_of-result c = record {
  own = c.in_ok-own.ensures ∙ ap own_representatives c.deref-2.ensures.value;
  short = indices_short c.in_ok-leaders.leaders.items c.deref.result.now c.in_ok-by_fault.by_fault.items
      c.deref.ensures.value
      c.in_ok-by_fault.ensures c.in_ok-leaders.ensures.short;
}

pub returns : goal.returns
returns c =
    are_classes c.args.circuit.now c.in_ok-leaders.leaders.items c.in_ok-by_fault.by_fault.items
    c.in_ok-leaders.ensures.leaders
    (subst (λ (l : List ℕ). AreFirstIndices l c.in_ok-by_fault.by_fault.items) c.deref.ensures.value
    c.in_ok-by_fault.ensures)
