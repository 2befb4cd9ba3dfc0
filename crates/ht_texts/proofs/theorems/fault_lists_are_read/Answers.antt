use Rattle.ht_texts.specs.FaultListTexts.{AreSomeFaults}
use Rattle.ht_texts.proofs.FaultListLaws.{fault_lines_are_short, front_of_faults}
use Rattle.ht_texts.proofs.WrongLineLaws.{begun_is_right}
use Rattle.ht_texts.proofs.theorems.fault_lists_are_read.Goals as goal

pub returns-clause-short : goal.returns-clause-short
returns-clause-short c = fault_lines_are_short

pub returns-clause-read : goal.returns-clause-read
returns-clause-read c = λ count text numbers n m are.
    begun_is_right (AreSomeFaults count) (front_of_faults count) text n m (numbers, are)
