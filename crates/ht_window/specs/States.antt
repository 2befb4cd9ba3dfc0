-- A window as contracts see it: its decisions in order, the mark before each of them, and the present mark.
use Rattle.std.specs.Prelude.{◌≡◌, ◌≢◌, ◌⊎◌, ℕ, List, [], ◌∷◌, ◌++◌, None, Option, IsTrue, length, get_or, take}
use Rattle.ht_tern.specs.declared.tern.Tern.{Tern}
use Rattle.ht_tern.specs.declared.tern.Tern.TheVariants.{Unk}
use Rattle.ht_tree.specs.declared.token.Assign3.{Assign3}
use Rattle.ht_tree.specs.Window.Windows.{SearchWindow}
use Rattle.ht_tree.specs.Window.Variables.{may_two, may_three}
use Rattle.ht_relevant.specs.Near.{RelevantState}
use Rattle.ht_relevant.specs.Relevant.{IsRelevant}
use Rattle.ht_window.specs.Cells.{IsHistory}
use Rattle.ht_window.specs.Matters.{is_relevant}
use Rattle.ht_window.specs.declared.window.Window.TheInside.{Inside}

-- A window with its decisions in order, the mark before each of them, the present mark, and the nets that matter, if not
-- all do.
pub record WindowState : Type 0 where
  pub window : SearchWindow
  pub decisions : List Assign3
  pub marks : List ℕ
  pub mark : ℕ
  pub relevant : Option RelevantState

-- the fields of a window as contracts see it
abbrev pub state_of : Inside → WindowState
state_of a = record {
  window = a.held.standing.window;
  decisions = a.held.standing.path;
  marks = a.marks.items;
  mark = length a.held.cells.trail;
  relevant = a.held.relevant;
}

-- the nets that matter are relevant to the window, in the good machine all, and their cells are those of the decisions
-- that stand, at every mark
pub record IsEvaluated (a : Inside) : Type 0 where
  pub circuit : a.core.plan.circuit ≡ a.held.standing.window.circuit
  pub frames : a.core.plan.frames ≡ a.held.standing.window.frames
  pub good : a.held.standing.window.fault ≡ None → a.held.relevant ≡ None
  pub relevant : IsRelevant a.held.standing.window (is_relevant a.held.relevant)
  pub history : IsHistory a.held.standing.window (is_relevant a.held.relevant) a.held.standing.path a.marks.items
      a.held.cells

-- a decision that the window allows
abbrev pub IsLegalDecision : SearchWindow → ℕ → Tern → Type 0
IsLegalDecision w var value = (IsTrue (may_two w var) × (value ≢ Unk)) ⊎ IsTrue (may_three w var)

-- the mark before decision k, or the present one
abbrev pub mark_before : WindowState → ℕ → ℕ
mark_before s k = get_or (s.marks ++ s.mark ∷ []) k 0

-- the first k decisions alone
abbrev pub undone : WindowState → ℕ → WindowState
undone s k = record s { decisions = take k s.decisions; marks = take k s.marks; mark = mark_before s k }
