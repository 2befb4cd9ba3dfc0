use Rattle.std.proofs.Common.{◌∙◌, ℕ, None, List, length, ap, replicate, sym, subst}
use Rattle.ht_uninit.specs.declared.record.Removed.{Removed}
use Rattle.ht_uninit.specs.RoundStates.{IsAt}
use Rattle.ht_uninit.proofs.RoundLaws.{at_start}
use Rattle.ht_uninit.proofs.rounds.first_rounds.Goals as goal

pub returns : goal.returns
returns c = λ budget.
    let held = c.in_ok-held.held in
    let removed = c.new-removed.result.items in
    let walks = c.in_ok-walks.walks.items in
    subst (λ (before : ℕ). IsAt c.args.circuit.now budget before 0 held removed walks)
    (sym (ap (λ (rs : List Removed). length rs) c.new-removed.ensures.items))
    (at_start c.args.circuit.now budget held removed walks c.in_ok-held.ensures.circuit
    c.in_ok-held.ensures.members c.in_ok-held.ensures.path c.new-removed.ensures.items
    (c.in_ok-walks.ensures ∙ ap (λ (n : ℕ). replicate n None) c.dffs.ensures))
