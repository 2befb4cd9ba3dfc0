use Rattle.std.proofs.Common.{◌≡◌, ◌*◌, ◌+◌, ◌/◌, ◌%◌, ◌^◌, ℕ, get_or, refl, subst, arith, inl, inr}
use Rattle.std.proofs.Math.Nat.{div-le_self}
use Rattle.std.proofs.lemmas.Bool.{cases_lt}
use Rattle.std.proofs.lemmas.Option.{IfSome_then}
use Rattle.std.specs.Int.{trailing_zeros, w64}
use Rattle.ht_items.specs.BitSets.{IsFirstMark}
use Rattle.ht_items.proofs.BitLaws.{first_mark, first_after, none_in_word, none_then}
use Rattle.ht_items.proofs.bit_set.next_mark.Goals as goal

pub returns-then-rest-ne0-clause-found : goal.returns-then-rest-ne0-clause-found
returns-then-rest-ne0-clause-found c =
    let words = c.args.words.now in
    let w = c.args.from / 64 in
    let rest = get_or words w 0 / 2 ^ (c.args.from % 64) in
    let at : 64 * (c.args.from / 64) + c.args.from % 64 ≡ c.args.from = omega arith in
    let fits = (c.type_inv.words (c.args.from / 64)).fits in
    subst (λ (n : ℕ). IsFirstMark words n (n + trailing_zeros w64 rest)) at
    (first_mark words w (c.args.from % 64) rest (omega arith) refl (omega (arith, c.if-rest-ne0.true))
    (omega (arith, fits, div-le_self (get_or words w 0) (2 ^ (c.args.from % 64)))) fits)

pub returns-clause-found : goal.returns-clause-found
returns-clause-found c = IfSome_then c.next_word_mark.result c.next_word_mark.ensures.found
    (λ i h. first_after c.args.words.now c.args.from (64 * (c.args.from / 64 + 1)) i (omega arith)
    (λ q from below. none_in_word c.args.words.now (c.args.from / 64) (c.args.from % 64) c.if-rest-ne0.false q
    (omega (arith, from)) (omega (arith, below))) h)

pub returns-clause-none : goal.returns-clause-none
returns-clause-none c = none_then c.next_word_mark.result c.next_word_mark.ensures.none
    (λ after q from below. elim (cases_lt q (64 * (c.args.from / 64 + 1))) [
      | inl before ↦ none_in_word c.args.words.now (c.args.from / 64) (c.args.from % 64) c.if-rest-ne0.false q
          (omega (arith, from)) (omega (arith, before))
      | inr later ↦ after q later below
    ])
