use Rattle.std.proofs.Common.{rules, false, get_or, ◌≡◌, ◌∙◌, sym}
use Rattle.ht_statement.specs.LineToken.{begins_comment}
use Rattle.ht_statement.proofs.WordLaws.{first_word, no_mark}
use Rattle.ht_statement.proofs.token.first_token.Goals as goal

pub returns-clause-first : goal.returns-clause-first
returns-clause-first c =
    let content = c.after_blanks-content.result.now in
    let no_hash : begins_comment (get_or content 0 0) ≡ false = search rules in
    sym c.after_blanks-content.ensures.tokens
    ∙ first_word content c.split_word.result.0.now c.split_word.result.1.now c.in-len1-up.len_at_least no_hash
    c.after_blanks-content.ensures.no_blank
    (no_mark c.mark_of.result _ c.mark_of.ensures c.in_default-mark_of.is) c.split_word.ensures
