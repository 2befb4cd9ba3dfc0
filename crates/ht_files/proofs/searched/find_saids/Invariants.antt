use Rattle.ht_files.specs.Saids.{AreSaidIn}
use Rattle.ht_files.proofs.searched.find_saids.Given as goal

abbrev pub invariant-loop-i : goal.invariant-loop-i
invariant-loop-i l = AreSaidIn l.verdicts l.i l.saids.items
