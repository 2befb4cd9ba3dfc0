use Rattle.ht_tree.specs.Window.Windows.{state_pair}
use Rattle.ht_engine.proofs.DeepLaws.{if_ok_both, onward_holds}
use Rattle.ht_engine.proofs.deep.search_open.Goals as goal

pub returns-in-Ok-Entry-clause-holds : goal.returns-in-Ok-Entry-clause-holds
returns-in-Ok-Entry-clause-holds c =
    let states = state_pair c.args.states.good c.args.states.bad in
    let same = c.search_list.ensures.circuit in
    if_ok_both c.sweep_on.result _ _ _
    (λ w is shows. onward_holds c.args.bases.now.circuit c.args.fault c.args.settings.now states c.args.states.good
    c.args.states.bad c.in-Ok-Entry.entry (rw c.in-Ok-Entry.field-0-is at c.in-Ok-Entry.ensures.holds) w is shows)
    (rw same at c.sweep_on.ensures.answer) (rw same at c.sweep_on.ensures.holds)
