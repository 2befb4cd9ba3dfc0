use Rattle.std.proofs.Common.{◌∙◌, length, ap}
use Rattle.ht_justify.proofs.back_windows.first_window.Goals as goal

pub back_window-requires : goal.back_window-requires
back_window-requires c = ap length c.in_ok-copy.ensures ∙ c.requires

pub returns-clause-window : goal.returns-clause-window
returns-clause-window c = rw c.in_ok-copy.ensures at c.back_window.ensures.window
