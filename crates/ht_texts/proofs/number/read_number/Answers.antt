use Rattle.std.proofs.Common.{◌≡◌, false, not, ap, sym, ◌∙◌, arith}
use Rattle.std.proofs.lemmas.Slice.Eq.{bytes_eq-Decides}
use Rattle.ht_texts.proofs.NumberLaws.{number_is_utf8, unparsed_is_no_number, other_is_no_number}
use Rattle.ht_texts.proofs.number.read_number.Goals as goal
use Rattle.ht_texts.proofs.number.read_number.Goals.{then-number-most-via-then-number-most, then-number-most-via-else-number-most+then-ne}

pub returns-in_default : goal.returns-in_default
returns-in_default c = λ number is.
    c.in_default.ensures.cases.0 (number_is_utf8 c.args.most c.args.text.now number (omega arith) is)

pub returns-in_default-parse : goal.returns-in_default-parse
returns-in_default-parse c =
    unparsed_is_no_number c.args.most c.args.text.now c.in-Ok.digits.now c.in_default-parse.field-0 (omega arith)
    c.in-Ok.ensures.cases.0 c.in_default-parse.ensures.value.0

pub returns-then-number-most : goal.returns-then-number-most
returns-then-number-most c =
    other_is_no_number c.args.most c.args.text.now c.in-Ok.digits.now c.in-Ok-parse.number (omega arith)
    c.in-Ok.ensures.cases.0 c.in-Ok-parse.ensures.value.0
    (elim c.then-number-most.branch [
      | then-number-most-via-then-number-most w ↦ λ is. omega (arith, is.bound, w.if-number-most.true)
      | then-number-most-via-else-number-most+then-ne w ↦ λ is.
          let same = w.as_bytes.ensures.value ∙ w.format.ensures.text ∙ sym is.digits in
          let equal : w.ne.result ≡ false = w.ne.ensures ∙ ap not ((bytes_eq-Decides _ _).1 same) in
          grind (arith, equal, w.if-ne.true)
    ])
