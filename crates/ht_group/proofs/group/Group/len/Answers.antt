use Rattle.std.proofs.Common.{◌∙◌, length, ap, sym}
use Rattle.ht_group.specs.GroupView.{GroupView}
use Rattle.ht_group.proofs.GroupLaws.{group_count}
use Rattle.ht_group.proofs.group.Group.len.Goals as goal

pub returns-clause-count : goal.returns-clause-count
returns-clause-count c =
    sym (group_count c.self.inside c.self.invariant) ∙ ap (λ (v : GroupView). length v.machines) c.self.view_is
