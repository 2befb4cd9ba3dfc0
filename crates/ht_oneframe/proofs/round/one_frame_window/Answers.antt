use Rattle.std.proofs.Common.{◌∙◌, List, Bool, ap}
use Rattle.std.proofs.lemmas.Result.{IfOk-weaker}
use Rattle.ht_tree.specs.Window.Windows as windows
use Rattle.ht_window.specs.Starts.{marked}
use Rattle.ht_oneframe.proofs.round.one_frame_window.Goals as goal

pub returns-clause-window : goal.returns-clause-window
returns-clause-window c = IfOk-weaker c.window-window.result _ _ (λ w e. e
    ∙ ap (λ (xs : List Bool). windows.one_frame_window c.args.bases.now.circuit c.args.fault (marked 0 xs))
    c.in_ok-z.ensures) c.window-window.ensures.window
