use Rattle.std.proofs.Common.{◌≡◌}
use Rattle.ht_exports.proofs.window.decide_all.Given as goal

abbrev pub invariant-loop-frame : goal.invariant-loop-frame
invariant-loop-frame l = l.window.window ≡ l.fn.window.window
