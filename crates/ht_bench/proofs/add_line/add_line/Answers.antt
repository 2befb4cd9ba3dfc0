use Rattle.ht_statement.specs.StatementOf.{statement_of}
use Rattle.ht_bench.proofs.ProgressLaws.{line_refused}
use Rattle.ht_bench.proofs.add_line.add_line.Goals as goal

pub returns-clause-refusal : goal.returns-clause-refusal
returns-clause-refusal c = line_refused c.add.result c.args.builder.now c.args.line.now
    (statement_of c.in_ok-statement.statement) c.in_ok-statement.ensures.states c.add.ensures.refusal
