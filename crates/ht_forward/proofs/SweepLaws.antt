-- What the answers of a sweep mean: its list detects, and its walks are a sweep record.
use Rattle.std.proofs.Common.{◌≡◌, ◌+◌, ◌-◌, ◌++◌, ℕ, List, [], ◌∷◌, length, refl, subst, arith}
use Rattle.std.proofs.lemmas.List.{length-append}
use Rattle.ht_tern.specs.declared.tern.Tern.{Tern}
use Rattle.ht_net.specs.declared.fault.Fault.{Fault}
use Rattle.ht_net.specs.Detect.Detection.{Detects}
use Rattle.ht_net.specs.Circuit.Netlist.{Netlist}
use Rattle.ht_net.specs.Frames.Rows.{Rows}
use Rattle.ht_tree.specs.declared.token.Token.{Token}
use Rattle.ht_tree.specs.Record.SearchRecords.{IsSweepRecord}
use Rattle.ht_tree.specs.Record.Reached.{IsTernState}
use Rattle.ht_tree.specs.Walk.Searches.{node_at}
use Rattle.ht_tree.specs.Window.Windows.{Start, state_pair, unknown}
use Rattle.ht_events.specs.Plans.{max_frames}
use Rattle.ht_net.proofs.MoreToldLaws.{detects_later}
use Rattle.ht_forward.specs.declared.sweeping.Swept.{Swept}
use Rattle.ht_forward.specs.declared.sweeping.Swept.TheVariants.{Found, Spent}
use Rattle.ht_forward.specs.AheadSearches.{IsListWithin, SpendsAhead}
use Rattle.ht_forward.specs.Lengths.{SpendEach, left_after}
use Rattle.ht_forward.specs.Sweeps.{FindsShort, IsSwept, IsSweptFrom, IsSweptList, SweepFinds, SweepSpends, SweptHolds, SweptOnHolds, sweep_guide, window_of}
use Rattle.ht_forward.proofs.FoundLaws.{forward_list_shows, sweep_list_detects}
use Rattle.ht_forward.proofs.LengthsLaws.{IsClosedTo, left_is, spends_record}

-- the last vector of a list that a sweep from all-unknown finds detects the fault, after any other list too
pub list_is_swept : (c : Netlist) (fault : Fault) (budget : ℕ) (list : Rows)
    → SweepFinds c fault unknown budget list → IsListWithin c max_frames list → IsSweptList c fault list
list_is_swept c fault budget list h vectors =
    let some = vectors.some in
    let here = sweep_list_detects c fault (length h.closed + 1) (left_after budget h.closed) list h.finds in
    record {
      vectors = vectors;
      output = here.0;
      detects = λ before.
          let long = length-append before list.list in
          let at : length before + (length list.list - 1) ≡ length (before ++ list.list) - 1 =
          omega (arith, long, some) in
          subst (λ (t : ℕ). Detects c fault (before ++ list.list) t here.0) at
          (detects_later c fault before list.list (length list.list - 1) here.0 here.1);
    }

-- ---- the searches of a sweep, which go by its windows

-- the search of the window after those that are closed spends what they left
pub sweep_spends : (c : Netlist) (fault : Fault) (start : Start) (budget frames left : ℕ) (walks : List (List Token))
    → IsClosedTo (sweep_guide c fault start) budget frames left walks → (last : List Token)
    → SpendsAhead (window_of c fault start frames) left last → SweepSpends c fault start budget (walks ++ last ∷ [])
sweep_spends c fault start budget frames left walks closed last h = record {
  closed = walks;
  last = last;
  all = refl;
  closes = closed.closes;
  spends = subst (λ (n : ℕ). SpendsAhead (window_of c fault start n) (left_after budget walks) last) closed.count
      (subst (λ (b : ℕ). SpendsAhead (window_of c fault start frames) b last)
      (left_is (sweep_guide c fault start) budget frames left walks closed) h);
}

spends_each : (c : Netlist) (fault : Fault) (start : Start) (budget : ℕ) (walks : List (List Token))
    → SweepSpends c fault start budget walks → SpendEach (sweep_guide c fault start) budget walks
spends_each c fault start budget walks h = record {
  closed = h.closed;
  last = h.last;
  node = node_at h.spends.0;
  all = h.all;
  closes = h.closes;
  spends = h.spends.1;
}

-- the walks of a sweep from all-unknown that spends its budget are a sweep record of the fault
pub spends_sweep : (c : Netlist) (fault : Fault) (budget : ℕ) (walks : List (List Token))
    → SweepSpends c fault unknown budget walks → IsSweepRecord c fault budget walks
spends_sweep c fault budget walks h =
    let r = spends_record (sweep_guide c fault unknown) budget walks (spends_each c fault unknown budget walks h) in
    record { complete = r.complete; unfinished = r.unfinished; fills = r.fills }

-- ---- what the answers mean

-- each answer of a sweep from all-unknown means what it says: a list that detects, or a sweep record
pub swept_holds : (c : Netlist) (fault : Fault) (budget : ℕ) (swept : Swept) → IsSwept c fault budget swept
    → FindsShort c swept → SweptHolds c fault budget swept
swept_holds c fault budget (Found list) h short = list_is_swept c fault budget list h short
swept_holds c fault budget (Spent walks) h short = spends_sweep c fault budget walks h

-- a list that a sweep from two states finds shows their difference at its last vector
pub swept_on_holds : (c : Netlist) (fault : Fault) (good faulty : List Tern) (budget : ℕ) (swept : Swept)
    → IsTernState c good → IsTernState c faulty → IsSweptFrom c fault (state_pair good faulty) budget swept
    → FindsShort c swept → SweptOnHolds c fault good faulty swept
swept_on_holds c fault good faulty budget (Found list) held held' h short =
    let shows = forward_list_shows c fault (length h.closed + 1) good faulty (left_after budget h.closed) list held held'
    h.finds in
    record { vectors = short; output = shows.0; shows = shows.1 }
swept_on_holds c fault good faulty budget (Spent walks) held held' h short = tt
