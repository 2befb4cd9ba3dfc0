use Rattle.std.proofs.Common.{append_assoc, ◌++◌, sym, ap, ◌∙◌}
use Rattle.std.specs.Prelude.{codes}
use Rattle.std.specs.Fmt.{decimal}
use Rattle.ht_entries.proofs.parse_words.number_then.Goals as goal

pub returns-in_err-number : goal.returns-in_err-number
returns-in_err-number c = rw c.from_residual.ensures (λ number rest counts e.
    c.in_err-number.ensures number rest counts (e ∙ append_assoc (decimal number) (codes " ") rest))

pub returns-in_err-rest : goal.returns-in_err-rest
returns-in_err-rest c =
    let space = c.in_ok-number.ensures.1.space in absurd (c.in_err-rest.ensures space.0 space.1)

pub returns : goal.returns
returns c =
    let number = c.in_ok-number.number in (
      c.in_ok-number.ensures.0,
      c.in_ok-number.ensures.1.parts ∙ ap (λ t. decimal number ++ t) c.in_ok-rest.ensures
          ∙ sym (append_assoc (decimal number) (codes " ") c.in_ok-rest.rest.now),
    )
