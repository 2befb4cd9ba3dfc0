use Rattle.std.proofs.Common.{drop, take, ◌+◌, sym, ◌∙◌}
use Rattle.std.specs.Fmt.{decimal}
use Rattle.ht_entries.proofs.SpaceLaws.{has_no_space, first_space, no_number_then, number_at_space}
use Rattle.ht_entries.proofs.parse_words.number_before_space.Goals as goal

pub returns-in_err-space : goal.returns-in_err-space
returns-in_err-space c = rw c.from_residual.ensures (λ number rest counts.
    has_no_space c.args.text.now (sym c.find_space.ensures ∙ c.in_err-space.was) (decimal number) rest)

pub returns-in_err-number : goal.returns-in_err-number
returns-in_err-number c =
    let text = c.args.text.now in
    let k = c.in_ok-space.space in
    let split = first_space text k (sym c.find_space.ensures ∙ c.in_ok-space.was) in
    rw c.from_residual-in_err-number.ensures
    (no_number_then text (take k text) (drop (k + 1) text) split.parts split.before c.in_err-number.ensures)

pub returns : goal.returns
returns c = (
  c.in_ok-number.ensures.1,
  number_at_space c.args.text.now c.in_ok-space.space c.in_ok-number.number
      (sym c.find_space.ensures ∙ c.in_ok-space.was) c.in_ok-number.ensures.0,
)
