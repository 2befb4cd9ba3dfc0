use Rattle.std.proofs.Common.{rules, ◌≡◌, ◌<◌, ◌∙◌, sym, arith, length, get_or, ℕ, zero, suc, [], ◌∷◌, refl}
use Rattle.std.proofs.lemmas.List.{get_or_read}
use Rattle.ht_tern.specs.declared.tern.Tern.TheVariants.{Unk}
use Rattle.ht_lanes.specs.Lanes.{every_lane, word_at}
use Rattle.ht_lanes.specs.Rows.{AreApart, lanes_of}
use Rattle.ht_lanes.proofs.word.four_rows.Goals as goal

by_four : (P : ℕ → Type 0) → P 0 → P 1 → P 2 → P 3 → (i : ℕ) → i < 4 → P i
by_four P a b c d zero h = a
by_four P a b c d (suc zero) h = b
by_four P a b c d (suc (suc zero)) h = c
by_four P a b c d (suc (suc (suc zero))) h = d
by_four P a b c d (suc (suc (suc (suc i)))) h = absurd (omega (arith, h))

pub returns : goal.returns
returns c =
    let four = c.args.four.now in
    let long : length four ≡ 4 = search rules in
    let blank = every_lane Unk in
    let zeros = c.a.inside.zero ∷ c.b.inside.zero ∷ c.c.inside.zero ∷ c.d.inside.zero ∷ [] in
    let ones = c.a.inside.one ∷ c.b.inside.one ∷ c.c.inside.one ∷ c.d.inside.one ∷ [] in
    record {
      zero_count = refl;
      one_count = refl;
      each = by_four (λ i. word_at four i ≡ lanes_of (get_or zeros i 0) (get_or ones i 0))
          (sym (get_or_read four 0 c.index-four-0.result (omega arith) c.index-four-0.is blank)
          ∙ (c.index-four-0.is ∙ sym c.a.view_is))
          (sym (get_or_read four 1 c.index-four-1.result (omega arith) c.index-four-1.is blank)
          ∙ (c.index-four-1.is ∙ sym c.b.view_is))
          (sym (get_or_read four 2 c.index-four-2.result (omega arith) c.index-four-2.is blank)
          ∙ (c.index-four-2.is ∙ sym c.c.view_is))
          (sym (get_or_read four 3 c.index-four-3.result (omega arith) c.index-four-3.is blank)
          ∙ (c.index-four-3.is ∙ sym c.d.view_is));
      apart = by_four (λ i. AreApart (get_or zeros i 0) (get_or ones i 0))
          c.a.invariant c.b.invariant c.c.invariant c.d.invariant;
    }
