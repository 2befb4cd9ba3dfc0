use Rattle.std.proofs.Common.{sym, subst}
use Rattle.ht_tree.specs.declared.token.Choice.{Choice}
use Rattle.ht_tree.specs.Window.Variables.{IsLegalChoice}
use Rattle.ht_tree.proofs.PickLaws.{open_has_choice}
use Rattle.ht_window.proofs.window.Window.pick.Goals as goal

pub returns-clause-legal : goal.returns-clause-legal
returns-clause-legal c =
    let s = c.args.self.now in
    let valid = c.circuit.ensures.valid in
    subst (λ (x : Choice). IsLegalChoice s.window s.decisions x) (sym c.choose.ensures)
    (open_has_choice s.window s.decisions valid c.requires)
