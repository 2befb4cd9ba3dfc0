-- What the search of the window ahead of a pair of states means.
use Rattle.std.proofs.Common.{ℕ, List, arith}
use Rattle.ht_tern.specs.declared.tern.Tern.{Tern}
use Rattle.ht_net.specs.declared.fault.Fault.{Fault}
use Rattle.ht_net.specs.Circuit.Netlist.{Netlist}
use Rattle.ht_tree.specs.Record.Reached.{IsTernState}
use Rattle.ht_tree.specs.Walk.Searches.{node_at}
use Rattle.ht_tree.specs.Window.Windows.{forward_frames, forward_window}
use Rattle.ht_records.proofs.CompleteLaws.{complete_forward}
use Rattle.ht_records.proofs.ShortWalkLaws.{spends_spent}
use Rattle.ht_forward.specs.declared.ahead.Ahead.{Ahead}
use Rattle.ht_forward.specs.declared.ahead.Ahead.TheVariants.{Found, Closed, Spent}
use Rattle.ht_forward.specs.AheadSearches.{AheadHolds, IsAhead}
use Rattle.ht_forward.proofs.FoundLaws.{forward_list_shows, found_within}

-- each answer of the search ahead of two states means what it says of their difference
pub ahead_holds : (c : Netlist) (fault : Fault) (good faulty : List Tern) (budget : ℕ) (ahead : Ahead)
    → IsTernState c good → IsTernState c faulty
    → IsAhead (forward_window c fault forward_frames good faulty) budget ahead
    → AheadHolds c fault good faulty budget ahead
ahead_holds c fault good faulty budget (Found list) held held' h =
    let shows = forward_list_shows c fault forward_frames good faulty budget list held held' h in
    record {
      vectors = found_within (forward_window c fault forward_frames good faulty) budget list h forward_frames
          (omega arith);
      output = shows.0;
      shows = shows.1;
    }
ahead_holds c fault good faulty budget (Closed tokens) held held' h = record {
  walk = h.walk;
  none = complete_forward c fault forward_frames good faulty tokens held held' h.walk;
}
ahead_holds c fault good faulty budget (Spent tokens) held held' h =
    spends_spent (forward_window c fault forward_frames good faulty) budget tokens (node_at h.0) h.1
