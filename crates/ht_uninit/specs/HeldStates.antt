-- A window in which a set of flip-flops is held unknown, as contracts see it.
use Rattle.std.specs.Prelude.{◌≡◌, ◌≤◌, ◌+◌, ◌++◌, ℕ, List, Bool, true, false, length, drop}
use Rattle.ht_net.specs.Circuit.Netlist.{Netlist}
use Rattle.ht_tree.specs.declared.token.Assign3.{Assign3}
use Rattle.ht_tree.specs.Walk.Walks.{decides}
use Rattle.ht_tree.specs.Walk.Searches.{Guide}
use Rattle.ht_window.specs.Starts.{marked}
use Rattle.ht_window.specs.States.{WindowState}
use Rattle.ht_uninit.specs.declared.held_window.HeldWindow.TheInside.{Inside}
use Rattle.ht_uninit.specs.HeldWindows.{good_window, held_guide, held_unknown}

-- The circuit, the members of the set in rising order, and what a search has decided.
pub record HeldState : Type 0 where
  pub circuit : Netlist
  pub members : List ℕ
  pub path : List Assign3

-- The first decisions hold the members unknown, and no other decides one of them.
pub record Splits (c : Netlist) (u : List ℕ) (count : ℕ) (decisions : List Assign3) : Type 0 where
  pub all : count ≡ length u
  pub held : decisions ≡ held_unknown c u ++ drop count decisions
  pub apart : (var : ℕ) → decides (held_unknown c u) var ≡ true → decides (drop count decisions) var ≡ false

-- The marked flip-flops below j are held, and those from j on are not decided.
pub record HeldBelow (c : Netlist) (marks : List Bool) (j : ℕ) (decisions : List Assign3) : Type 0 where
  pub rest : decisions ++ held_unknown c (marked j (drop j marks)) ≡ held_unknown c (marked 0 marks)
  pub free : (k : ℕ) → j ≤ k → decides decisions (c.inputs + k) ≡ false

-- A window in which the marked flip-flops are held unknown.
pub record HoldsMarked (s : WindowState) (marks : List Bool) (count : ℕ) : Type 0 where
  pub window : s.window ≡ good_window s.window.circuit
  pub long : length marks ≡ length s.window.circuit.dffs
  pub splits : Splits s.window.circuit (marked 0 marks) count s.decisions

-- what a window, the marks of the members and their count stand for
abbrev pub state_by : WindowState → List Bool → ℕ → HeldState
state_by s marks count = record {
  circuit = s.window.circuit;
  members = marked 0 marks;
  path = drop count s.decisions;
}

-- how the fields of a window stand for it
abbrev pub held_state : Inside → HeldState
held_state a = state_by a.window a.marks.items a.count

-- the marked flip-flops are held
abbrev pub IsHolding : Inside → Type 0
IsHolding a = HoldsMarked a.window a.marks.items a.count

-- What a search looks at: a net, where a set is held unknown.
pub record HeldNet : Type 0 where
  pub circuit : Netlist
  pub members : List ℕ
  pub net : ℕ

-- what the search for a net goes by
abbrev pub guide_for : HeldNet → Guide
guide_for s = held_guide s.circuit s.members s.net
