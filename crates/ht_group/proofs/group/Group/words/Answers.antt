use Rattle.std.proofs.Common.{◌∙◌, length, ap, sym}
use Rattle.ht_group.specs.GroupView.{GroupView, words_for}
use Rattle.ht_group.proofs.GroupLaws.{group_count}
use Rattle.ht_group.proofs.group.Group.words.Goals as goal

pub returns : goal.returns
returns c =
    c.words_for.ensures ∙ ap words_for (sym (group_count c.self.inside c.self.invariant)
    ∙ ap (λ (v : GroupView). length v.machines) c.self.view_is)
