use Rattle.std.proofs.Common.{◌∙◌, sym}
use Rattle.ht_tree.proofs.NodeLaws.{two_at}
use Rattle.ht_recompute.proofs.recomputed_window.RecomputedWindowJudgedWindow.may_two.Goals as goal

pub returns : goal.returns
returns c = c.may_decide.ensures ∙ sym (two_at c.args.self.now c.args._node.now c.args.var)
