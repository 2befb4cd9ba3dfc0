use Rattle.std.proofs.Common.{◌≡◌, length}
use Rattle.ht_causes.specs.Tracks.{AreFaultsNoted, AreFlags}
use Rattle.ht_causes.proofs.run.note_faults.Given as goal

abbrev pub invariant-loop-i : goal.invariant-loop-i
invariant-loop-i l = record {
  noted : AreFaultsNoted l.circuit l.group l.t l.lanes l.shown l.i l.initial.live l.initial.tracks l.live l.tracks;
  kept : AreFlags l.live l.read l.holds l.tracks;
  read : length l.read ≡ length l.initial.read;
  holds : length l.holds ≡ length l.initial.holds;
}
