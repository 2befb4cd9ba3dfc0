use Rattle.std.proofs.Common.{[], ◌∷◌, rules}
use Rattle.ht_app.proofs.Common.{put}
use Rattle.ht_app.proofs.WritingLaws.{does_in_part, does_then}
use Rattle.ht_app.proofs.output.begin_file.Goals as goal

pub returns-in_err-create-clause-does : goal.returns-in_err-create-clause-does
returns-in_err-create-clause-does g c =
    let does = does_in_part (put c.args.port c.args.text.now ∷ []) c.in_err-create.ensures.does in
    search (rules, does)

pub returns-clause-does : goal.returns-clause-does
returns-clause-does g c = does_then c.in_ok-create.ensures.does c.put.ensures.does
