use Rattle.std.proofs.Common.{◌≡◌, List, length}
use Rattle.ht_tern.specs.declared.tern.Tern.{Tern}
use Rattle.ht_stems.specs.ArrivedFrames.{AreGoodValues}
use Rattle.ht_stems.specs.ArrivalsView.{good_of_net}
use Rattle.ht_causes.specs.Seats.{AreAssigned, AreFirstLanes}
use Rattle.ht_causes.proofs.assign.assign_lanes.Given as goal

abbrev pub invariant-loop-i : goal.invariant-loop-i
invariant-loop-i l = record {
  same : l.arrivals ≡ l.initial.arrivals;
  table : length l.firsts ≡ length l.initial.firsts;
  assigned : (vector good : List Tern) → AreGoodValues l.initial.arrivals.circuit vector good
      (good_of_net l.initial.arrivals)
      → AreAssigned l.initial.arrivals.circuit vector good l.live l.tracks l.i l.leads.items l.by_fault.items
      × AreFirstLanes l.initial.arrivals.circuit vector good l.tracks l.leads.items l.firsts;
}
