use Rattle.std.proofs.Common.{rules, ◌≢◌, ℕ, List, Bool, true, false}
use Rattle.std.specs.Prelude.{codes}
use Rattle.ht_entries.specs.ByCubes.{machine_word}
use Rattle.ht_entries.proofs.line_items.MachineWord.parse.Goals as goal

no_machine : (word : List ℕ) → word ≢ codes "good" → word ≢ codes "faulty" → (faulty : Bool)
    → word ≢ machine_word faulty
no_machine word not_good not_faulty false = not_good
no_machine word not_good not_faulty true = not_faulty

pub returns : goal.returns
returns c =
    let not_good : c.args.word.now ≢ codes "good" = search rules in
    let not_faulty : c.args.word.now ≢ codes "faulty" = search rules in
    λ machine h. no_machine c.args.word.now not_good not_faulty machine.faulty
