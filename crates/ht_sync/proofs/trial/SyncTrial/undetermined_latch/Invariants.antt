use Rattle.std.proofs.Common.{◌≡◌, length}
use Rattle.std.specs.List.{find}
use Rattle.ht_tree.specs.Window.Windows.{is_undetermined}
use Rattle.ht_sync.specs.SyncWindows.{flip_flops, last_set}
use Rattle.ht_sync.proofs.SeeLaws.{from}
use Rattle.ht_sync.proofs.trial.SyncTrial.undetermined_latch.Given as goal

abbrev pub invariant-loop-j : goal.invariant-loop-j
invariant-loop-j l =
    find (λ j. is_undetermined (last_set l.self.window.window l.self.window.decisions j))
    (flip_flops l.self.window.window.circuit)
    ≡ find (λ j. is_undetermined (last_set l.self.window.window l.self.window.decisions j))
    (from l.j (length l.self.window.window.circuit.dffs))
