use Rattle.std.proofs.Common.{◌∙◌, ℕ, List, Bool, false, length, get_or, ap, sym, subst, arith, inl, inr}
use Rattle.std.proofs.lemmas.Bool.{cases_lt}
use Rattle.ht_items.specs.BitSets.{IsFirstMark, is_marked}
use Rattle.ht_items.proofs.BitLaws.{first_seen, mark_at}
use Rattle.ht_items.proofs.bit_set.BitSet.next.Goals as goal

pub next_mark-requires : goal.next_mark-requires
next_mark-requires c =
    let same = ap (λ (l : List ℕ). length l) c.deref.ensures.value in
    record {
      few = omega (arith, same, c.self.invariant.few);
      inside = omega (arith, same, c.self.invariant.room, c.if-from-self.false);
    }

pub returns-then-from-self-clause-none : goal.returns-then-from-self-clause-none
returns-then-from-self-clause-none c q from =
    let a = c.self.inside in
    sym (ap (λ (l : List Bool). get_or l q false) c.self.view_is)
    ∙ (mark_at a.bound a.words.items c.self.invariant.past q
    ∙ c.self.invariant.past q (omega (arith, from, c.if-from-self.true)))

pub returns-in-Some-clause-within : goal.returns-in-Some-clause-within
returns-in-Some-clause-within c =
    (first_seen c.self.inside c.self.invariant c.args.self.now c.self.view_is c.args.from c.in-Some.i
    (subst (λ (l : List ℕ). IsFirstMark l c.args.from c.in-Some.i) c.deref.ensures.value
    c.in-Some.ensures.found)).within

pub returns-in-Some-clause-marked : goal.returns-in-Some-clause-marked
returns-in-Some-clause-marked c =
    (first_seen c.self.inside c.self.invariant c.args.self.now c.self.view_is c.args.from c.in-Some.i
    (subst (λ (l : List ℕ). IsFirstMark l c.args.from c.in-Some.i) c.deref.ensures.value
    c.in-Some.ensures.found)).marked

pub returns-in-Some-clause-least : goal.returns-in-Some-clause-least
returns-in-Some-clause-least c =
    (first_seen c.self.inside c.self.invariant c.args.self.now c.self.view_is c.args.from c.in-Some.i
    (subst (λ (l : List ℕ). IsFirstMark l c.args.from c.in-Some.i) c.deref.ensures.value c.in-Some.ensures.found)).least

pub returns-in-None-clause-none : goal.returns-in-None-clause-none
returns-in-None-clause-none c q from =
    let a = c.self.inside in
    let same = ap (λ (l : List ℕ). length l) c.deref.ensures.value in
    sym (ap (λ (l : List Bool). get_or l q false) c.self.view_is)
    ∙ (mark_at a.bound a.words.items c.self.invariant.past q ∙ elim (cases_lt q a.bound) [
      | inl below ↦ ap (λ (l : List ℕ). is_marked l q) (sym c.deref.ensures.value)
          ∙ c.in-None.ensures.none q from (omega (arith, below, same, c.self.invariant.room))
      | inr past ↦ c.self.invariant.past q past
    ])
