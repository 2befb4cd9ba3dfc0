use Rattle.std.proofs.Common.{◌++◌, ap, sym, ◌∙◌}
use Rattle.std.specs.Prelude.{codes}
use Rattle.ht_texts.specs.Verdicts.{place_text}
use Rattle.ht_texts.proofs.FrontLaws.{rest_of_text, no_rest, the_rest, differs_after}
use Rattle.ht_texts.proofs.ItemLaws.{no_verdict, word_is_sayable}
use Rattle.ht_texts.proofs.VerdictLaws.{detection_parts}
use Rattle.ht_texts.proofs.read_verdict.read_verdict.Goals as goal

pub returns-in-Some : goal.returns-in-Some
returns-in-Some c =
    let word = c.in-Some.ensures c.args.circuit.now in
    (word_is_sayable c.args.circuit.now c.in-Some.said word.0, word.1)

pub returns-in_err-rest : goal.returns-in_err-rest
returns-in_err-rest c =
    let circuit = c.args.circuit.now in
    let text = c.args.text.now in
    rw c.from_residual.ensures (no_verdict circuit text (c.in_default.ensures circuit) (λ place is e.
    no_rest (codes "detected ") text c.strip_word.result c.in_err-rest.was (rest_of_text c.strip_word.ensures)
    (place_text circuit place) e))

pub returns-in_err-place : goal.returns-in_err-place
returns-in_err-place c =
    let circuit = c.args.circuit.now in
    let text = c.args.text.now in
    let front = the_rest (codes "detected ") text c.strip_word.result c.in_ok-rest.rest c.in_ok-rest.was
    (rest_of_text c.strip_word.ensures) in
    rw c.from_residual-in_err-place.ensures (no_verdict circuit text (c.in_default.ensures circuit) (λ place is e.
    differs_after (codes "detected ") (place_text circuit place) text c.in_ok-rest.rest.now front
    (c.in_err-place.ensures place is) e))

pub returns : goal.returns
returns c =
    let text = c.args.text.now in
    let front = the_rest (codes "detected ") text c.strip_word.result c.in_ok-rest.rest c.in_ok-rest.was
    (rest_of_text c.strip_word.ensures) in (
      c.in_ok-place.ensures.0,
      front ∙ ap (λ t. codes "detected " ++ t) c.in_ok-place.ensures.1
          ∙ sym (detection_parts c.args.circuit.now c.in_ok-place.place),
    )
