-- A window whose cells follow another fault and another start: which nets that reaches first, and what holds meanwhile.
use Rattle.std.specs.Prelude.{◌≡◌, ◌<◌, ◌≤◌, ◌-◌, ℕ, false, Option}
use Rattle.ht_net.specs.Circuit.Netlist.{net_count, first_gate_net}
use Rattle.ht_net.specs.declared.fault.Fault.{Fault}
use Rattle.ht_events.specs.Items.{item_at}
use Rattle.ht_events.specs.Plans.{PlanState}
use Rattle.ht_events.specs.Pending.{CoreState, IsPending}
use Rattle.ht_tree.specs.Window.Windows.{SearchWindow}
use Rattle.ht_relevant.specs.Reached.{begins_at}
use Rattle.ht_window.specs.Cells.{HoldsValue}
use Rattle.ht_window.specs.Holding.{HeldState, MayHold}

-- A plan of a window's frames.
pub record IsPlanFor (p : PlanState) (w : SearchWindow) : Type 0 where
  pub circuit : p.circuit ≡ w.circuit
  pub frames : p.frames ≡ w.frames

-- net x of frame f holds what it gets, or is pending, or doesn't matter
abbrev pub HoldsOrPends : CoreState → HeldState → ℕ → ℕ → Type 0
HoldsOrPends s h f x = (h.standing.window.circuit.inputs ≤ x
    → ¬ IsPending s (item_at h.standing.window.circuit f (x - h.standing.window.circuit.inputs)))
    → MayHold h f x

-- From s and a to t and b each net that held what it got, or was pending, still does.
pub record IsRenewed (s : CoreState) (a : HeldState) (t : CoreState) (b : HeldState) : Type 0 where
  pub plan : t.plan ≡ s.plan
  pub standing : b.standing ≡ a.standing
  pub relevant : b.relevant ≡ a.relevant
  pub holds : (f x : ℕ) → f < a.standing.window.frames → x < net_count a.standing.window.circuit
      → HoldsOrPends s a f x → HoldsOrPends t b f x

-- Each net holds what it gets, but for those that this fault or that of the window reaches first, and for the latches of
-- the first frame.
pub record HoldsElsewhere (h : HeldState) (before : Option Fault) : Type 0 where
  pub holds : (f x : ℕ) → f < h.standing.window.frames → x < net_count h.standing.window.circuit
      → begins_at h.standing.window.circuit before x ≡ false
      → begins_at h.standing.window.circuit h.standing.window.fault x ≡ false
      → (f ≡ 0 → h.standing.window.circuit.inputs ≤ x → first_gate_net h.standing.window.circuit ≤ x)
      → HoldsValue h.standing.window h.standing.path h.cells.values f x
