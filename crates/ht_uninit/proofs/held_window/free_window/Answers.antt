use Rattle.std.proofs.Common.{◌∙◌, ℕ, List, ap, replicate}
use Rattle.std.proofs.lemmas.Result.{IfOk-weaker}
use Rattle.ht_tern.specs.declared.tern.Tern.{Tern}
use Rattle.ht_tern.specs.declared.tern.Tern.TheVariants.{Unk}
use Rattle.ht_tree.specs.Window.Windows.{back_window}
use Rattle.ht_uninit.proofs.held_window.free_window.Goals as goal

pub returns-clause-window : goal.returns-clause-window
returns-clause-window c =
    let unknown = c.from_vec.ensures ∙ (c.in_ok-cube.ensures.items_if_clones_equal (λ y e. e)
    ∙ ap (λ (n : ℕ). replicate n Unk) c.dffs.ensures) in
    IfOk-weaker c.new-window.result _ _ (λ w is.
    is ∙ ap (λ (cube : List Tern). back_window c.args.circuit.now cube 0) unknown) c.new-window.ensures.window
