use Rattle.std.proofs.Common.{◌∙◌, List, Option, length, ap}
use Rattle.std.specs.List.{filter}
use Rattle.ht_net.specs.declared.place.Place.{Place}
use Rattle.ht_proofs.specs.Undetected.{is_undetected}
use Rattle.ht_proofs.proofs.UndetectedLaws.{left_after, listed_known}
use Rattle.ht_proofs.proofs.grader.note_verdicts.Goals as goal

pub write_verdicts-requires-clause-known : goal.write_verdicts-requires-clause-known
write_verdicts-requires-clause-known c =
    listed_known c.args.verdicts.now c.deref.result.now (length c.args.grades.now)
    (c.deref.ensures.value ∙ c.requires.undetected) c.requires.each

pub returns-clause-undetected : goal.returns-clause-undetected
returns-clause-undetected c =
    left_after c.args.verdicts.now c.args.grades.now c.args.undetected.now.items c.drop_detected.new.numbers.items
    c.requires.each c.requires.undetected c.requires.kept
    (c.drop_detected.ensures
    ∙ ap (λ (l : List (Option Place)). filter (is_undetected l) c.args.undetected.now.items) c.write_verdicts.ensures)
