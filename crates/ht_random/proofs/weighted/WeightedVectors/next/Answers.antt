use Rattle.std.proofs.Common.{◌≡◌, ◌+◌, ℕ, Bool, List, length, sym, ◌∙◌, ap, arith, subst}
use Rattle.std.proofs.lemmas.List.{with_items_is}
use Rattle.ht_random.specs.Words.{after_words}
use Rattle.ht_random.specs.WeightedVectors.{vector_by, weighted_vector}
use Rattle.ht_random.specs.WeightedOf.{Drawn, WordsGoOnAt}
use Rattle.ht_random.proofs.WeightedLaws.{begun, goes_on}
use Rattle.ht_random.proofs.weighted.WeightedVectors.next.Goals as goal

pub invariant_of-self : goal.invariant_of-self
invariant_of-self c =
    let a = c.self.inside in
    let n = length a.weights.items in
    let drawn : List ℕ = c.begin_burst.new.weights in
    let was = c.deref_mut.ensures.value in
    let begins = rw was at c.begin_burst.ensures.begins in
    let stays = rw was at c.begin_burst.ensures.goes_on in
    let start = begun n a.count a.seed a.words c.begin_burst.new.words a.weights.items drawn
    c.self.invariant begins stays in
    let long : length drawn ≡ n = omega arith in
    let items = with_items_is a.weights drawn (omega (arith, long)) in
    let wide : length c.deref_mut-2.result.now ≡ n =
    let made = c.in_ok-vector.ensures.len in
    let asked = c.len.ensures in
    let read = ap (λ (bits : List Bool). length bits) c.deref_mut-2.ensures.value in
    omega (arith, made, asked, read) in
    let next : c.draw_vector.new.words ≡ after_words n c.begin_burst.new.words =
    subst (λ (m : ℕ). c.draw_vector.new.words ≡ after_words m c.begin_burst.new.words) wide c.draw_vector.ensures.after
    in
    subst (λ (w : List ℕ). WordsGoOnAt (length w) (a.count + 1) a.seed c.draw_vector.new.words w) (sym items)
    (subst (λ (m : ℕ). WordsGoOnAt m (a.count + 1) a.seed c.draw_vector.new.words drawn) (sym long)
    (goes_on n a.count a.seed c.draw_vector.new.words drawn (next ∙ ap (after_words n) start.1) start.0))

pub returns-clause-vector : goal.returns-clause-vector
unfolding weighted_vector
returns-clause-vector c =
    let a = c.self.inside in
    let n = length a.weights.items in
    let drawn : List ℕ = c.begin_burst.new.weights in
    let bits : List Bool = c.draw_vector.new.vector in
    let was = c.deref_mut.ensures.value in
    let begins = rw was at c.begin_burst.ensures.begins in
    let stays = rw was at c.begin_burst.ensures.goes_on in
    let start = begun n a.count a.seed a.words c.begin_burst.new.words a.weights.items drawn
    c.self.invariant begins stays in
    let long : length drawn ≡ n = omega arith in
    let kept = c.deref.ensures.value ∙ (with_items_is a.weights drawn (omega (arith, long)) ∙ start.0) in
    let wide : length c.deref_mut-2.result.now ≡ n =
    let made = c.in_ok-vector.ensures.len in
    let asked = c.len.ensures in
    let read = ap (λ (bits : List Bool). length bits) c.deref_mut-2.ensures.value in
    omega (arith, made, asked, read) in
    with_items_is c.in_ok-vector.vector bits (omega arith)
    ∙ (c.draw_vector.ensures.vector
    ∙ ((λ i. vector_by (kept i) (wide i) (start.1 i))
    ∙ ap (λ (d : Drawn). weighted_vector d.width d.count d.seed) c.self.view_is))
