use Rattle.std.proofs.Common.{◌≡◌, ◌∙◌, [], ◌∷◌, true, rules}
use Rattle.std.specs.Prelude.{is_some}
use Rattle.ht_verdicts.specs.Standing.{entry_at}
use Rattle.ht_files.specs.Searched.{entry_steps}
use Rattle.ht_app.proofs.SearchedLaws.{adds_unmade, entry_added}
use Rattle.ht_app.proofs.generate.entries.put_entry.Goals as goal

pub returns-in_err-text-clause-adds : goal.returns-in_err-text-clause-adds
returns-in_err-text-clause-adds g c =
    let entry = entry_at c.args.verdicts.now c.args.fault in
    let adds = adds_unmade {A = Unit {0}} (entry_steps c.args.fault (entry ∷ [])) c.args.sizes.now c.args.sizes.now
    (g.D.Desk.view c.args.desk.now) in
    search (rules, adds)

pub returns-clause-adds : goal.returns-clause-adds
returns-clause-adds g c =
    let entry = entry_at c.args.verdicts.now c.args.fault in
    let some : is_some entry ≡ true = search (rules, c.if-not-has_entry.false, c.has_entry.ensures) in
    entry_added c.args.fault entry c.deref.result.now c.args.sizes.now c.put_counted-written.new.size
    c.put_counted-written.result some (c.deref.ensures.value ∙ c.in_ok-text.ensures)
    c.put_counted-written.ensures.tries c.put_counted-written.ensures.counted
