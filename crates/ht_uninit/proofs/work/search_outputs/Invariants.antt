use Rattle.std.proofs.Common.{◌≡◌, [], length}
use Rattle.ht_uninit.specs.RoundStates.{AreOutputs}
use Rattle.ht_uninit.proofs.work.search_outputs.Given as goal

abbrev pub invariant-loop-o : goal.invariant-loop-o
invariant-loop-o l = (l.window.circuit ≡ l.circuit) × (l.window.members ≡ l.fn.held.members) × (l.window.path ≡ [])
    × (length l.outs.items ≡ l.o) × AreOutputs l.circuit l.budget l.fn.held.members l.o l.outs.items
