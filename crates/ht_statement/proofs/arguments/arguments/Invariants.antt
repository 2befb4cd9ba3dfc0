use Rattle.std.proofs.Common.{◌≡◌, ◌++◌, length, option_map}
use Rattle.ht_statement.specs.LineToken.{tokens_of}
use Rattle.ht_statement.specs.LineForm.{arguments_of, further_arguments}
use Rattle.ht_statement.specs.StatementOf.{texts_of}
use Rattle.ht_statement.proofs.arguments.arguments.Given as goal

abbrev pub invariant-loop-after : goal.invariant-loop-after
invariant-loop-after l = arguments_of (tokens_of l.text) ≡ option_map (λ more. texts_of l.args.items ++ more)
    (further_arguments (tokens_of l.rest))

abbrev pub decreases-loop-after : goal.decreases-loop-after
decreases-loop-after l = length l.rest
