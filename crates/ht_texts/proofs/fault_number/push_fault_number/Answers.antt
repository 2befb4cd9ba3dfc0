use Rattle.std.proofs.Common.{◌≡◌, ◌++◌, ◌∷◌, [], refl, sym, ap, ◌∙◌, subst, arith}
use Rattle.std.proofs.lemmas.Fmt.{decimal_injective}
use Rattle.ht_texts.specs.FaultListTexts.{AreFaultLines}
use Rattle.ht_texts.proofs.FaultListLaws.{last_in, next_is_taken, taken_is_next}
use Rattle.ht_texts.proofs.fault_number.push_fault_number.Goals as goal

pub returns-in_default : goal.returns-in_default
returns-in_default c = λ lines are. (
  refl,
  λ all more.
      let next = taken_is_next c.args.count lines c.args.numbers.now.items c.args.line.now all
      (omega (arith, c.ranges.count.fits)) are more in
      c.in_default.ensures next.0
      (record { digits = next.1.text.digits; bound = omega (arith, next.1.text.bound, c.from.ensures) }),
)

pub returns-then-number-from : goal.returns-then-number-from
returns-then-number-from c = λ lines are. (
  refl,
  λ all more.
      let next = taken_is_next c.args.count lines c.args.numbers.now.items c.args.line.now all
      (omega (arith, c.ranges.count.fits)) are more in
      let last : c.last_of.result ≡ last_in c.args.numbers.now.items = c.last_of.ensures
      ∙ ap last_in c.deref.ensures.value in
      let same : c.in-Some.number ≡ next.0 = decimal_injective c.in-Some.number next.0
      (omega (arith, c.in-Some.ensures.bound, c.from.ensures, c.ranges.count.fits))
      (omega (arith, next.1.text.bound, c.ranges.count.fits))
      (sym c.in-Some.ensures.digits ∙ next.1.text.digits) in
      omega (arith, last, same, next.1.above, c.if-number-from.true, c.from-2.ensures),
)

pub returns : goal.returns
returns c = λ lines are.
    let numbers = c.args.numbers.now.items in
    let last : c.last_of.result ≡ last_in numbers = c.last_of.ensures ∙ ap last_in c.deref.ensures.value in
    subst (AreFaultLines c.args.count (lines ++ c.args.line.now ∷ [])) (sym c.in_ok-push.ensures.items)
    (next_is_taken c.args.count lines numbers c.args.line.now c.in-Some.number are (record {
      text = record {
        digits = c.in-Some.ensures.digits;
        bound = omega (arith, c.in-Some.ensures.bound, c.from.ensures);
      };
      above = omega (arith, last, c.if-number-from.false, c.from-2.ensures);
    }))
