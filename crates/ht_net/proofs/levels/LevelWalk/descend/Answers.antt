use Rattle.ht_net.proofs.VisitLaws.{joined_keeps}
use Rattle.ht_net.proofs.levels.LevelWalk.descend.Goals as goal

pub invariant_of-self-2 : goal.invariant_of-self-2
invariant_of-self-2 c = joined_keeps c.self.invariant c.self.view_is c.requires c.push.new.self.items
    c.in_ok-push.ensures.items
