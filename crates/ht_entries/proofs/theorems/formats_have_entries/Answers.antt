use Rattle.ht_entries.specs.declared.numbered.Numbered.{Numbered}
use Rattle.ht_entries.proofs.FormatLaws.{third_has_all, second_has_others, first_stays}
use Rattle.ht_entries.proofs.theorems.formats_have_entries.Goals as goal

pub returns-clause-third : goal.returns-clause-third
returns-clause-third c = λ (e : Numbered). third_has_all e.entry

pub returns-clause-second : goal.returns-clause-second
returns-clause-second c = λ (e : Numbered). second_has_others e.entry

pub returns-clause-first : goal.returns-clause-first
returns-clause-first c = λ (e : Numbered). first_stays e.entry
