-- What the answers of the search for a list that synchronizes mean.
use Rattle.std.proofs.Common.{◌≡◌, ◌<◌, ◌≤◌, ◌+◌, ◌-◌, ℕ, List, [], ◌∷◌, Bool, length, get_or, sym, ◌∙◌, ap, arith, subst}
use Rattle.ht_net.specs.Circuit.Netlist.{Netlist}
use Rattle.ht_net.specs.Frames.Rows.{Rows}
use Rattle.ht_tree.specs.Walk.Budgets.{sweep_cost}
use Rattle.ht_tree.specs.Walk.FoundLists.{list_of}
use Rattle.ht_tree.specs.Record.Reached.{AreVectors}
use Rattle.ht_tree.specs.Walk.Searches.{node_at}
use Rattle.ht_tree.specs.Walk.Walks.{IsComplete}
use Rattle.ht_tree.specs.declared.token.Token.{Token}
use Rattle.ht_records.proofs.SureLaws.{list_length}
use Rattle.ht_records.proofs.WindowVectorLaws.{list_wide}
use Rattle.ht_forward.specs.LengthAnswers.{FindsAfter}
use Rattle.ht_forward.specs.Lengths.{IsLengthRecord, left_after, next_length}
use Rattle.ht_sync.specs.Synchronizing.{Synchronizes, SynchronizesTo}
use Rattle.ht_sync.specs.SyncSearches.{FindsSyncList, IsShortest, IsSpentRecord, SyncFinds, SyncSpends}
use Rattle.ht_sync.specs.SyncWindows.{sync_guide}
use Rattle.ht_forward.proofs.DeepLaws.{record_deep}
use Rattle.ht_forward.proofs.LengthsLaws.{closed_walk, spends_record}
use Rattle.ht_sync.proofs.SyncLaws.{complete_unsynchronized, empty_unsynchronized, ends_each_run, found_synchronizes, sync_walks_short}

-- complete walks for lengths 1 to d: no list of at most d vectors synchronizes
none_of : (c : Netlist) (d : ℕ) (walks : List (List Token)) → 0 < length c.dffs
    → ((k : ℕ) → k < d → IsComplete (sync_guide c (k + 1)).judge (get_or walks k []))
    → (list : List (List Bool)) → length list ≤ d → ¬ Synchronizes c list
none_of c d walks latches complete [] few = empty_unsynchronized c latches
none_of c d walks latches complete (v ∷ list) few =
    complete_unsynchronized c (length list + 1) (get_or walks (length list) []) (omega arith)
    (complete (length list) (omega (arith, few))) (v ∷ list) (omega arith)

module _ (c : Netlist) (frames budget : ℕ) (list : Rows) (finds : FindsSyncList c frames budget list) where
  vectors_are : list.list ≡ list_of c finds.path frames
  vectors_are = ap (λ (r : Rows). r.list) finds.listed

  -- the list has a vector for each frame
  pub list_counts : length list.list ≡ frames
  list_counts = ap (λ (vs : List (List Bool)). length vs) vectors_are ∙ list_length c finds.path frames

  -- each vector of the list has a bit for each input
  pub list_fits : AreVectors c list.list
  list_fits = subst (λ (vs : List (List Bool)). AreVectors c vs) (sym vectors_are) (list_wide c finds.path frames)

  -- the list is as wide as the circuit has inputs
  pub width_fits : list.width ≡ c.inputs
  width_fits = ap (λ (r : Rows). r.width) finds.listed

  -- the list that the search of one frame or more finds synchronizes
  pub list_synchronizes : 0 < frames → Synchronizes c list.list
  list_synchronizes some =
      subst (λ (vs : List (List Bool)). Synchronizes c vs) (sym vectors_are)
      (found_synchronizes c frames budget frames finds.tokens (node_at finds.path) some finds.found)

module _ (c : Netlist) (budget : ℕ) (list : Rows) (walks : List (List Token)) (latches : 0 < length c.dffs)
    (finds : FindsAfter (sync_guide c) (FindsSyncList c) budget list walks) where
  -- the list found after the closed lengths synchronizes
  pub found_list_synchronizes : Synchronizes c list.list
  found_list_synchronizes =
      list_synchronizes c (next_length walks) (left_after budget walks) list finds.finds (omega arith)

  -- the list found, with the state it synchronizes to, is what the search leads to
  pub found_is_answer : (state : List Bool) → SynchronizesTo c list.list state → SyncFinds c budget list state walks
  found_is_answer state ends =
      record { none = λ e. absurd (omega (arith, latches, e)); some = λ h. finds; ends = ends }

  -- the list found is a shortest that synchronizes, with a complete walk for each shorter length
  pub found_is_shortest : (state : List Bool) → SynchronizesTo c list.list state → IsShortest c list state walks
  found_is_shortest state ends =
      let n = list_counts c (next_length walks) (left_after budget walks) list finds.finds in
      let few = finds.few in
      let complete = closed_walk (sync_guide c) budget walks finds.closes in
      record {
        width = width_fits c (next_length walks) (left_after budget walks) list finds.finds;
        wide = list_fits c (next_length walks) (left_after budget walks) list finds.finds;
        few = omega (arith, n, few);
        ends = ends;
        each = ends_each_run c list.list state ends;
        walked = omega (arith, n);
        complete = complete;
        none = λ other h. none_of c (length walks) walks latches complete other (omega (arith, h, n));
      }

module _ (c : Netlist) (budget : ℕ) (walks : List (List Token)) (spends : SyncSpends c budget walks) where
  spent : IsLengthRecord (λ k. (sync_guide c k).judge) budget walks
  spent = spends_record (sync_guide c) budget walks spends.spends

  -- the walks of a search that spends its budget are a spent record
  pub spent_is_record : IsSpentRecord c budget walks
  spent_is_record = record {
    spent = spent;
    none = λ list h. none_of c (length walks - 1) walks spends.some
        (λ k l. spent.complete k (omega (arith, l))) list (omega (arith, h));
  }

  -- a budget that is enough for d lengths isn't spent where a list of so many vectors synchronizes
  pub enough_finds : (d : ℕ) (list : List (List Bool)) → sweep_cost c.inputs d ≤ budget → length list ≤ d
      → Synchronizes c list → ⊥
  enough_finds d list enough few h =
      let deep = record_deep (λ k. (sync_guide c k).judge) c.inputs (sync_walks_short c) budget walks spent d enough in
      spent_is_record.none list (omega (arith, few, deep)) h
