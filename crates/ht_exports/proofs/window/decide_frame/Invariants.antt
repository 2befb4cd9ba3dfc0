use Rattle.std.proofs.Common.{◌≡◌}
use Rattle.ht_exports.proofs.window.decide_frame.Given as goal

abbrev pub invariant-loop-i : goal.invariant-loop-i
invariant-loop-i l = l.window.window ≡ l.fn.window.window
