use Rattle.std.proofs.Common.{◌∙◌, sym}
use Rattle.ht_cubes.specs.Formula.{is_constant}
use Rattle.std.proofs.Common.{false}
use Rattle.ht_cubes.proofs.PieceLaws.{none_more, target_none}
use Rattle.ht_cubes.proofs.targets.push_target.Goals as goal

pub returns-then-fails : goal.returns-then-fails
returns-then-fails c = target_none c.args.target.now c.rails.rail-index _ c.args.rows.now c.rails-test.true
    (sym c.is_constant-fails.ensures ∙ c.if-fails.true)

pub rails-preserved : goal.rails-preserved
rails-preserved c = none_more (is_constant false) c.args.target.now c.rails.rail-index _ c.rails-test.true
    c.rails.invariant (sym c.is_constant-fails.ensures ∙ c.if-fails.false)
