use Rattle.std.proofs.Common.{◌≡◌, ◌<◌, ◌≢◌, ◌∙◌, ℕ, List, length, get_or, subst, sym, ap, arith}
use Rattle.ht_events.proofs.RankLaws.{known, distinct, are_ranked}
use Rattle.ht_events.proofs.ranks.ranking.Goals as goal

pub ranks_in-requires-clause-known : goal.ranks_in-requires-clause-known
ranks_in-requires-clause-known c =
    let f = c.in_ok-order.ensures in
    let n = f.count in
    subst (λ (o : List ℕ). (r : ℕ) → r < length o → get_or o r 0 < length o) (sym c.deref.ensures.value)
    (λ r h. let k = known c.args.circuit.now c.args.sources c.order.result.now c.in_ok-order.order.items
    c.order.ensures.order c.requires f.count f.low f.gates r (omega (arith, h, n)) in omega (arith, k, n))

pub ranks_in-requires-clause-distinct : goal.ranks_in-requires-clause-distinct
ranks_in-requires-clause-distinct c =
    let f = c.in_ok-order.ensures in
    let n = f.count in
    subst (λ (o : List ℕ). (q r : ℕ) → q < r → r < length o → get_or o q 0 ≢ get_or o r 0) (sym c.deref.ensures.value)
    (λ q r l h. distinct c.args.circuit.now c.args.sources c.order.result.now c.in_ok-order.order.items
    c.order.ensures.order c.requires f.count f.low f.gates q r l (omega (arith, h, n)))

pub returns-clause-ranked : goal.returns-clause-ranked
returns-clause-ranked c =
    let f = c.in_ok-order.ensures in
    let p = c.in_ok-ranks.ensures in
    let v = c.deref.ensures.value in
    are_ranked c.args.circuit.now c.args.sources c.order.result.now c.in_ok-order.order.items c.order.ensures.order
    c.requires f.count f.low f.gates c.in_ok-ranks.ranks.items (p.count ∙ ap length v)
    (subst (λ (o : List ℕ). (r : ℕ) → r < length o → get_or c.in_ok-ranks.ranks.items (get_or o r 0) 0 ≡ r) v p.ranks)
