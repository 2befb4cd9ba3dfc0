use Rattle.std.proofs.Common.{◌≡◌, ℕ, ◌<◌, true, get_or}
use Rattle.ht_statement.specs.Word.{is_word_byte}
use Rattle.ht_statement.proofs.token.split_word.Given as goal

abbrev pub invariant-loop-place : goal.invariant-loop-place
invariant-loop-place l = (k : ℕ) → k < l.place → is_word_byte (get_or l.text k 0) ≡ true
