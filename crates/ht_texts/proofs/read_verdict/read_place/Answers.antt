use Rattle.std.proofs.Common.{◌≡◌, ◌+◌, ◌-◌, take, drop, sym, ◌∙◌, ap, arith}
use Rattle.std.specs.Fmt.{decimal}
use Rattle.std.proofs.lemmas.Fmt.{decimal_injective}
use Rattle.ht_texts.specs.Sites.{output_text}
use Rattle.ht_texts.proofs.VerdictLaws.{no_place_without_space, split_place, join_place, after_space}
use Rattle.ht_texts.proofs.read_verdict.read_place.Goals as goal

pub returns-in_err-space : goal.returns-in_err-space
returns-in_err-space c =
    rw c.from_residual.ensures (no_place_without_space c.args.circuit.now c.args.text.now
    (sym c.find_space.ensures ∙ c.in_err-space.was))

pub returns-in_err-number : goal.returns-in_err-number
returns-in_err-number c = rw c.from_residual-in_err-number.ensures (λ place is_place e.
    let at = sym c.find_space.ensures ∙ c.in_ok-space.was in
    let split = split_place c.args.circuit.now c.args.text.now c.in_ok-space.space place at is_place e in
    let number : take c.in_ok-space.space c.args.text.now ≡ decimal (place.vector + 1) = split.number in
    c.in_err-number.ensures (place.vector + 1)
    (record { digits = grind arith; bound = omega (arith, is_place.vector) }))

pub returns-then-number-eq0 : goal.returns-then-number-eq0
returns-then-number-eq0 c = λ place is_place e.
    let at = sym c.find_space.ensures ∙ c.in_ok-space.was in
    let split = split_place c.args.circuit.now c.args.text.now c.in_ok-space.space place at is_place e in
    let digits = c.in_ok-number.ensures.digits in
    let number : take c.in_ok-space.space c.args.text.now ≡ decimal (place.vector + 1) = split.number in
    let read : decimal c.in_ok-number.number ≡ decimal (place.vector + 1) = grind arith in
    let same : c.in_ok-number.number ≡ place.vector + 1 = decimal_injective c.in_ok-number.number (place.vector + 1)
    (omega (arith, c.in_ok-number.ensures.bound)) (omega (arith, is_place.vector)) read in
    omega (arith, same)

pub returns-in_err-output : goal.returns-in_err-output
returns-in_err-output c = rw c.from_residual-in_err-output.ensures (λ place is_place e.
    let at = sym c.find_space.ensures ∙ c.in_ok-space.was in
    let split = split_place c.args.circuit.now c.args.text.now c.in_ok-space.space place at is_place e in
    c.in_err-output.ensures place.output is_place.output
    (after_space c.args.text.now c.in_ok-space.space ∙ split.name))

pub returns : goal.returns
returns c =
    let circuit = c.args.circuit.now in
    let text = c.args.text.now in
    let k = c.in_ok-space.space in
    let n = c.in_ok-number.number in
    let at = sym c.find_space.ensures ∙ c.in_ok-space.was in
    let digits = c.in_ok-number.ensures.digits in
    let positive : n - 1 + 1 ≡ n = omega arith in
    let number : take k text ≡ decimal n = grind arith in
    let name : drop (k + 1) text ≡ output_text circuit c.in_ok-output.output =
    sym (after_space text k) ∙ c.in_ok-output.ensures.1 in (
      record { output = c.in_ok-output.ensures.0; vector = omega (arith, c.in_ok-number.ensures.bound) },
      join_place circuit text k (record { vector = n - 1; output = c.in_ok-output.output }) at
          (record { number = number ∙ ap decimal (sym positive); name = name }),
    )
