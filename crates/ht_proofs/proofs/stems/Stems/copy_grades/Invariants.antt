use Rattle.ht_proofs.specs.Followers.{AreCopied}
use Rattle.ht_proofs.proofs.stems.Stems.copy_grades.Given as goal

abbrev pub invariant-loop-follower : goal.invariant-loop-follower
invariant-loop-follower l = AreCopied l.follower-index l.self.followers.items l.initial.grades l.grades
