use Rattle.std.proofs.Common.{◌≡◌, ◌≤◌, length}
use Rattle.ht_statement.specs.LineToken.{tokens_of}
use Rattle.ht_statement.proofs.token.after_blanks.Given as goal

abbrev pub invariant-loop-rest : goal.invariant-loop-rest
invariant-loop-rest l = (tokens_of l.rest ≡ tokens_of l.text) × (length l.rest ≤ length l.text)

abbrev pub decreases-loop-rest : goal.decreases-loop-rest
decreases-loop-rest l = length l.rest
