use Rattle.std.proofs.Common.{rules}
use Rattle.ht_statement.specs.StatementOf.{statement_of}
use Rattle.ht_bench.proofs.FindLineLaws.{nothing_before, line_states, line_found, line_passed, not_at_end}
use Rattle.ht_bench.proofs.find_line.first_line.Goals as goal

pub loop-line-init : goal.loop-line-init
loop-line-init c = nothing_before c.args.text.now c.args.role c.args.name.now c.requires.has

pub read_again-requires : goal.read_again-requires
read_again-requires c =
    line_states c.in-Some.line.now c.in-Some.more.now c.loop-line.invariant c.in-Some.ensures.first

pub returns-then-has_net : goal.returns-then-has_net
returns-then-has_net c =
    line_found c.in-Some.line.now c.in-Some.more.now c.loop-line.invariant c.in-Some.ensures.first
    (statement_of c.in_ok-statement.statement) c.in_ok-statement.ensures (search rules)

pub loop-line-preserved-else-has_net : goal.loop-line-preserved-else-has_net
loop-line-preserved-else-has_net c =
    line_passed c.in-Some.line.now c.in-Some.more.now c.loop-line.invariant c.in-Some.ensures.first
    (statement_of c.in_ok-statement.statement) c.in_ok-statement.ensures c.in-Some.ensures.shorter (search rules)

pub loop-line-preserved : goal.loop-line-preserved
loop-line-preserved c =
    line_passed c.in-Some.line.now c.in-Some.more.now c.loop-line.invariant c.in-Some.ensures.first
    (statement_of c.in_ok-statement.statement) c.in_ok-statement.ensures c.in-Some.ensures.shorter (search rules)

pub unreachable-requires : goal.unreachable-requires
unreachable-requires c = not_at_end c.loop-line.invariant (search rules)
