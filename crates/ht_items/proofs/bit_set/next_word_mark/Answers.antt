use Rattle.std.proofs.Common.{◌*◌, get_or, refl, arith, inl, inr}
use Rattle.std.proofs.lemmas.Bool.{cases_lt}
use Rattle.ht_items.proofs.BitLaws.{first_in_word, first_after, zero_word}
use Rattle.ht_items.proofs.bit_set.next_word_mark.Goals as goal

pub returns-then-word-ne0-clause-found : goal.returns-then-word-ne0-clause-found
returns-then-word-ne0-clause-found c =
    let words = c.args.words.now in
    let word = get_or words c.loop-w.w 0 in
    first_after words (64 * c.args.at) (64 * c.loop-w.w) _ (omega (arith, c.loop-w.auto.w)) c.loop-w.invariant
    (first_in_word words c.loop-w.w word refl (omega (arith, c.if-word-ne0.true)) (c.type_inv.words c.loop-w.w).fits)

pub loop-w-preserved : goal.loop-w-preserved
loop-w-preserved c q from below = elim (cases_lt q (64 * c.loop-w.w)) [
  | inl before ↦ c.loop-w.invariant q from before
  | inr after ↦ zero_word c.args.words.now c.loop-w.w c.if-word-ne0.false q after (omega (arith, below))
]
