use Rattle.std.proofs.Common.{◌≡◌, ◌++◌, ℕ, List, append_assoc, ap, ◌∙◌}
use Rattle.std.proofs.lemmas.Result.{on_ok_weaker}
use Rattle.ht_texts.specs.Lines.{with_lf}
use Rattle.ht_entries.specs.declared.by_sets.BySetsLine.TheVariants as form
use Rattle.ht_entries.specs.LineTexts.{lines_text}
use Rattle.ht_entries.specs.BySets.{by_sets_text, row_lines}
use Rattle.ht_entries.proofs.by_sets.push_by_sets.Goals as goal

after_head : (text head rest begun end : List ℕ) → begun ≡ text ++ head → end ≡ begun ++ rest
    → end ≡ text ++ (head ++ rest)
after_head text head rest begun end begins ends =
    ends ∙ ap (λ t. t ++ rest) begins ∙ append_assoc text head rest

pub returns : goal.returns
returns c = on_ok_weaker c.push_rows.result
    (after_head c.args.text.now.items (with_lf (by_sets_text (form.Begins c.args.number)))
    (lines_text (row_lines c.args.rows.now)) _ _ c.in_ok-push_entry_head.ensures) c.push_rows.ensures
