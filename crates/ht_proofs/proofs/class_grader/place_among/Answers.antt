use Rattle.std.proofs.Common.{List, ℕ, length, ap, arith}
use Rattle.ht_faults.proofs.OwnLaws.{own_within, representative_is_own}
use Rattle.ht_proofs.proofs.class_grader.place_among.Goals as goal

pub overflow_cast-result : goal.overflow_cast-result
overflow_cast-result c =
    let own = ap (λ (l : List ℕ). length l) c.representatives-own-items.ensures in
    omega (arith, own, c.loop-k-test.true, own_within c.args.classes.now, c.len.ensures)

pub unreachable-requires : goal.unreachable-requires
unreachable-requires c =
    let own = ap (λ (l : List ℕ). length l) c.representatives-own-items.ensures in
    let found = representative_is_own c.args.classes.now c.args.i c.requires.listed c.requires.representative in
    let within = found.1 in
    c.loop-k.invariant found.0 (omega (arith, within, own, c.loop-k-test.false)) found.2
