-- What the parts of the deep work come to together, and what the work of either kind of search means.
use Rattle.std.proofs.Common.{◌≡◌, ◌+◌, ◌-◌, ℕ, List, Bool, Some, None, inl, inr, length, sym, subst}
use Rattle.std.specs.Prelude.{IfOk, Result, Ok, Err}
use Rattle.ht_tern.specs.declared.tern.Tern.{Tern}
use Rattle.ht_net.specs.declared.fault.Fault.{Fault}
use Rattle.ht_net.specs.Detect.Detection.{IsStart, state_from}
use Rattle.ht_net.specs.Circuit.Netlist.{Netlist}
use Rattle.ht_net.specs.Frames.Rows.{Rows}
use Rattle.ht_tree.specs.declared.entry.Entry.{Entry}
use Rattle.ht_tree.specs.declared.entry.Entry.TheVariants.{Untestable, UntestableFrom, UndetectableBySets, UndetectableByCubes, Aborted}
use Rattle.ht_tree.specs.Window.Windows as window
use Rattle.ht_events.specs.Plans.{max_frames}
use Rattle.ht_forward.specs.AheadSearches.{IsListAhead}
use Rattle.ht_invariant.specs.declared.finding.Invariant.{Invariant}
use Rattle.ht_engine.specs.declared.settings.Settings.{Settings}
use Rattle.ht_engine.specs.declared.work.Work.{Work}
use Rattle.ht_engine.specs.declared.work.Work.TheVariants as work
use Rattle.ht_engine.specs.Attempts.{DetectsAlways}
use Rattle.ht_engine.specs.DeepWork.{DeepWorkHolds, DetectsAfter, HoldsAfter, IsDeepWork, IsOpenWork, IsWorkOnward, ShowsOn}
use Rattle.ht_engine.specs.Enough.{IsRefutation}
use Rattle.ht_engine.specs.FaultWork.{IsListWork, IsWork, PassesAlways, StaysOpen, WorkHolds}
use Rattle.ht_engine.proofs.EnoughLaws.{EntryPasses, aborted_is_other}
use Rattle.ht_engine.proofs.MoreVectorsLaws.{shows_after}

-- two facts of what a result holds give a third
pub if_ok_both : {T E : Type 0} (r : Result T E) (P Q R : T → Type 0) → ((x : T) → P x → Q x → R x) → IfOk r P
    → IfOk r Q → IfOk r R
if_ok_both (Ok x) P Q R f p q = f x p q
if_ok_both (Err e) P Q R f p q = tt

-- three facts of what a result holds give a fourth
pub if_ok_three : {T E : Type 0} (r : Result T E) (P Q R S : T → Type 0) → ((x : T) → P x → Q x → R x → S x)
    → IfOk r P → IfOk r Q → IfOk r R → IfOk r S
if_ok_three (Ok x) P Q R S f p q s = f x p q s
if_ok_three (Err e) P Q R S f p q s = tt

-- ---- what the plain work gives on a fault that is left open

-- if the rounds under the clauses leave the fault open, the attempt and the sweep give what the plain work gives
pub open_work : (c : Netlist) (fault : Fault) (budget : ℕ) (invariant : Invariant)
    → StaysOpen c fault budget invariant.clauses → (w : Work) → IsListWork c fault budget w
    → IsWork c fault budget invariant w
open_work c fault budget invariant under (work.List list) is = (under, is)
open_work c fault budget invariant under (work.Entry (Untestable z tokens)) is = absurd is
open_work c fault budget invariant under (work.Entry (UntestableFrom state clauses z tokens)) is = absurd is
open_work c fault budget invariant under (work.Entry (UndetectableBySets rows)) is = absurd is
open_work c fault budget invariant under (work.Entry (UndetectableByCubes cubes steps)) is = absurd is
open_work c fault budget invariant under (work.Entry (Aborted told walk aim walks)) is = (under, is)

-- ---- what the deep work gives

module _ (c : Netlist) (fault : Fault) (settings : Settings) (states : window.Start) (invariant : Invariant) where
  -- a refutation that the plain work gives is what the deep work gives
  pub refuted_deep : (entry : Entry) → IsWork c fault settings.budget invariant (work.Entry entry)
      → IsRefutation (work.Entry entry) → IsDeepWork c fault settings states invariant (work.Entry entry)
  refuted_deep (Untestable z tokens) is refutes = is
  refuted_deep (UntestableFrom state clauses z tokens) is refutes = is
  refuted_deep (UndetectableBySets rows) is refutes = absurd is
  refuted_deep (UndetectableByCubes cubes steps) is refutes = absurd is
  refuted_deep (Aborted told walk aim walks) is refutes = absurd (aborted_is_other refutes)

  -- what the deep work gives on an open fault is its answer, if the rounds under the clauses leave the fault open
  pub open_deep : StaysOpen c fault settings.budget invariant.clauses → (w : Work)
      → IsOpenWork c fault settings states w → IsDeepWork c fault settings states invariant w
  open_deep under (work.List list) is = (under, is)
  open_deep under (work.Entry (Untestable z tokens)) is = absurd is.1
  open_deep under (work.Entry (UntestableFrom state clauses z tokens)) is = absurd is.1
  open_deep under (work.Entry (UndetectableBySets rows)) is = (under, is)
  open_deep under (work.Entry (UndetectableByCubes cubes steps)) is = (under, is)
  open_deep under (work.Entry (Aborted told walk aim walks)) is = (under, is)

-- ---- the sweep from the states reached

-- what the sweep from the states reached gives holds as deep work, if the entry that it began with passes
pub onward_holds : (c : Netlist) (fault : Fault) (settings : Settings) (states : window.Start) (good faulty : List Tern)
    (entry : Entry) → PassesAlways c fault settings.budget entry → (w : Work)
    → IsWorkOnward c fault settings.budget states entry w → ShowsOn c fault good faulty w
    → DeepWorkHolds c fault settings good faulty w
onward_holds c fault settings states good faulty entry passes (work.List list) is shows = inr shows
onward_holds c fault settings states good faulty entry passes (work.Entry given) is shows =
    subst (λ (e : Entry). DeepWorkHolds c fault settings good faulty (work.Entry e)) (sym is.0) (passes settings.start)

-- ---- what it means

-- an entry that the deep work gives passes for the start of the settings
pub deep_passes : (c : Netlist) (fault : Fault) (settings : Settings) (good faulty : List Tern) (w : Work)
    → DeepWorkHolds c fault settings good faulty w → EntryPasses c fault settings w
deep_passes c fault settings good faulty (work.List list) holds = tt
deep_passes c fault settings good faulty (work.Entry entry) holds = holds

module _ (c : Netlist) (fault : Fault) (settings : Settings) (latches : IsStart c settings.start)
    (before : List (List Bool)) where
  always_after : (list : Rows) → DetectsAlways c fault list → DetectsAfter c fault settings.start before list
  always_after list h =
      let d = h.detects settings.start latches before in
      record { wide = h.wide; width = h.width; vector = d.0; output = d.1; detects = d.2 }

  ahead_after : (list : Rows) → IsListAhead c max_frames fault (state_from c None settings.start before)
      (state_from c (Some fault) settings.start before) list → DetectsAfter c fault settings.start before list
  ahead_after list h = record {
    wide = h.vectors.wide;
    width = h.vectors.width;
    vector = length before + (length list.list - 1);
    output = h.output;
    detects = shows_after c fault settings.start before list.list (length list.list - 1) h.output h.shows;
  }

  -- a list of the plain work detects the fault from the start after any vectors, and its entry passes
  pub plain_after : (w : Work) → WorkHolds c fault settings.budget w → HoldsAfter c fault settings before w
  plain_after (work.List list) holds = always_after list holds
  plain_after (work.Entry entry) holds = holds settings.start

  deep_after_these : (w : Work) → DeepWorkHolds c fault settings (state_from c None settings.start before)
      (state_from c (Some fault) settings.start before) w → HoldsAfter c fault settings before w
  deep_after_these (work.List list) (inl always) = always_after list always
  deep_after_these (work.List list) (inr ahead) = ahead_after list ahead
  deep_after_these (work.Entry entry) holds = holds

  -- a list of the deep work detects the fault after the vectors that lead to its states, and its entry passes
  pub deep_after : (good faulty : List Tern) → good ≡ state_from c None settings.start before
      → faulty ≡ state_from c (Some fault) settings.start before → (w : Work)
      → DeepWorkHolds c fault settings good faulty w → HoldsAfter c fault settings before w
  deep_after good faulty good_is faulty_is w holds =
      deep_after_these w
      (subst (λ (s : List Tern). DeepWorkHolds c fault settings (state_from c None settings.start before) s w) faulty_is
      (subst (λ (s : List Tern). DeepWorkHolds c fault settings s faulty w) good_is holds))
