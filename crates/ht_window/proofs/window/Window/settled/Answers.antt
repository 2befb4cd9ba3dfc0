use Rattle.std.proofs.Common.{◌∙◌, ap, subst}
use Rattle.ht_tree.specs.Window.Windows.{SearchWindow}
use Rattle.ht_window.specs.Standing.{Standing}
use Rattle.ht_window.specs.BaseStates.{IsNew}
use Rattle.ht_window.proofs.window.Window.settled.Goals as goal

pub returns-in-Ok-clause-new : goal.returns-in-Ok-clause-new
returns-in-Ok-clause-new c =
    subst (λ (v : SearchWindow). IsNew v c.undecided.result)
    (ap (λ (s : Standing). s.window) (c.forget.ensures.standing ∙ c.in-Ok.ensures.standing))
    c.undecided.ensures.new
