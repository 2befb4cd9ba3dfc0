use Rattle.std.proofs.Common.{◌∙◌, ap, subst, sym, ◌≤◌, ℕ, length}
use Rattle.ht_window.specs.States.{undone}
use Rattle.ht_window.proofs.window.Window.undo.Goals as goal

pub undo_to-requires : goal.undo_to-requires
undo_to-requires c =
    let r = c.requires in
    subst (λ (n : ℕ). n ≤ length c.args.self.now.decisions) (sym (c.count_before.ensures r.0 r.1 r.2)) r.1

pub returns : goal.returns
returns c = λ k few at. c.undo_to.ensures ∙ ap (undone c.args.self.now) (c.count_before.ensures k few at)
