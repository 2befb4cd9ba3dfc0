use Rattle.std.proofs.Common.{◌++◌, inl, inr, ap, ◌∙◌, arith}
use Rattle.ht_statement.proofs.ArgumentLaws.{adds_argument}
use Rattle.ht_statement.proofs.statement_text.push_arguments.Goals as goal
use Rattle.ht_statement.proofs.statement_text.push_arguments.Goals.{then-place-gt0+in_ok-push_separator, else-place-gt0}

pub loop-place-preserved : goal.loop-place-preserved
loop-place-preserved c =
    adds_argument c.args.circuit.now c.args.args.now c.loop-place.place _ _ c.if-place-gt0.text.items _ (omega arith)
    c.loop-place.invariant
    (elim c.if-place-gt0.branch [
      | then-place-gt0+in_ok-push_separator w ↦ inl
          (omega arith, ap (λ v. v.items) w.text-is ∙ w.in_ok-push_separator.ensures)
      | else-place-gt0 w ↦ inr (omega arith, ap (λ v. v.items) w.text-is)
    ])
    (c.in_ok-extend_from_slice.ensures.items ∙ ap (λ name. c.if-place-gt0.text.items ++ name) c.name.ensures)
