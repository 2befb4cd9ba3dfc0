use Rattle.std.proofs.Common.{sym, ◌∙◌}
use Rattle.ht_cubes.proofs.StandingLaws.{stands_none, stands_false, stands_left, stands_same, same_literal, open_true, open_two, other_literal}
use Rattle.ht_cubes.proofs.standing.stands.Goals as goal
use Rattle.ht_cubes.proofs.standing.stands.Goals.{in-Some+else-value-literal, in-None+in-None-left, in-None+in-Some-left+else-ne}

pub loop-literal-init : goal.loop-literal-init
loop-literal-init c = stands_none c.args.values.now

pub returns-then-value-literal : goal.returns-then-value-literal
returns-then-value-literal c = open_true c.args.values.now c.args.clause.now c.loop-literal.literal-index _
    c.in-Some.value c.loop-literal-test.true c.in-Some.is c.if-value-literal.true

pub returns-then-ne : goal.returns-then-ne
returns-then-ne c = open_two c.args.values.now c.args.clause.now c.loop-literal.literal-index _ c.in-Some-left.other
    c.loop-literal.left c.loop-literal-test.true c.loop-literal.invariant c.in-Some-left.is c.in-None.is
    (other_literal c.in-Some-left.other _ (sym c.if-ne.true ∙ c.ne.ensures))

pub loop-literal-preserved : goal.loop-literal-preserved
loop-literal-preserved c =
    elim c.match-values-literal.branch [
      | in-Some+else-value-literal w ↦
          stands_false c.args.values.now c.args.clause.now c.loop-literal.literal-index _ c.loop-literal-test.true
          c.loop-literal.left c.match-values-literal.left w.in-Some.value c.loop-literal.invariant w.in-Some.is
          w.if-value-literal.false w.left-is
      | in-None+in-None-left w ↦
          stands_left c.args.values.now c.args.clause.now c.loop-literal.literal-index _ c.loop-literal-test.true
          c.loop-literal.left c.match-values-literal.left c.loop-literal.invariant w.in-None-left.is w.in-None.is
          w.left-is
      | in-None+in-Some-left+else-ne w ↦
          stands_same c.args.values.now c.args.clause.now c.loop-literal.literal-index _ c.loop-literal-test.true
          c.loop-literal.left c.match-values-literal.left w.in-Some-left.other c.loop-literal.invariant
          w.in-Some-left.is (same_literal w.in-Some-left.other _ (sym w.if-ne.false ∙ w.ne.ensures)) w.left-is
    ]
