-- A search so far, and what one step makes of it.
use Rattle.std.specs.Prelude.{◌≡◌, ◌<◌, ◌+◌, ℕ, List, [], ◌∷◌, length, reverse}
use Rattle.ht_tree.specs.Walk.Walks.{Node, Judge, AllFit, decide, root_stack, stack_after}
use Rattle.ht_tree.specs.Walk.Searches.{Guide, AllChosen, IsFound}
use Rattle.ht_search.specs.declared.problem.Point.{Point}
use Rattle.ht_search.specs.declared.progress.Untried.{Untried}
use Rattle.ht_search.specs.declared.progress.SearchProgress.{SearchProgress}
use Rattle.ht_search.specs.declared.step.StepAnswer.{StepAnswer}
use Rattle.ht_search.specs.declared.step.StepAnswer.TheVariants.{Goes, Found, Closed, Spent}
use Rattle.ht_search.specs.Legal.{MayDecide}
use Rattle.ht_search.specs.Routes.{Route, stops, back_to, Stands}

-- A value that waits to be tried gives a node of the stack: it is decided at an earlier stop, before which the search
-- began too.
pub record WaitsAt (j : Judge) (start : Point) (now at : Route) (u : Untried) (n : Node) : Type 0 where
  pub back : back_to (stops now) u.point ≡ stops at
  pub began : back_to (stops at) start ≡ back_to (stops now) start
  pub node : n ≡ decide at.here.node u.var u.value
  pub may : MayDecide j at.here.node u.var u.value

-- the values that wait, the next one first, give the nodes below the top; each waits at an earlier stop than the one
-- before it, or at the same
abbrev pub Waits : Judge → Point → Route → List Untried → List Node → Type 0
Waits j start now [] [] = Unit {0}
Waits j start now [] (n ∷ nodes) = ⊥
Waits j start now (u ∷ more) [] = ⊥
Waits j start now (u ∷ more) (n ∷ nodes) =
    (at : Route) × WaitsAt j start now at u n × Waits j start at more nodes

-- the stack of a search: the node now on top, and what waits
abbrev pub IsStack : Judge → Point → Route → List Untried → List Node → Type 0
IsStack j start now untried [] = ⊥
IsStack j start now untried (n ∷ nodes) =
    (n ≡ now.here.node) × Stands now start × Waits j start now untried nodes

-- A search so far: its tokens fit and are chosen, and they leave its stack.
pub record IsWalked (g : Guide) (start : Point) (now : Route) (p : SearchProgress) : Type 0 where
  pub fit : AllFit g.judge root_stack p.tokens.items
  pub chosen : AllChosen g.choice root_stack p.tokens.items
  pub stack : IsStack g.judge start now (reverse p.untried.items) (stack_after root_stack p.tokens.items)

-- One more token, for which the budget pays a unit.
pub record IsPaid (unit : ℕ) (old new : SearchProgress) : Type 0 where
  pub tokens : length new.tokens.items ≡ length old.tokens.items + 1
  pub left : new.left + unit ≡ old.left

-- The search goes on: it has one more token, and goes back to its start as before.
pub record GoesOn (g : Guide) (start : Point) (unit : ℕ) (now next : Route) (old new : SearchProgress) : Type 0 where
  pub walked : IsWalked g start next new
  pub back : back_to (stops next) start ≡ back_to (stops now) start
  pub paid : IsPaid unit old new

-- The search is at its end: with one more token no node is left.
pub record IsFinished (g : Guide) (unit : ℕ) (old new : SearchProgress) : Type 0 where
  pub fit : AllFit g.judge root_stack new.tokens.items
  pub chosen : AllChosen g.choice root_stack new.tokens.items
  pub finished : stack_after root_stack new.tokens.items ≡ []
  pub paid : IsPaid unit old new

-- what comes after one step: the search goes on, or the problem stands as before the step and it ends
abbrev pub StepsTo : Guide → Point → ℕ → Route → Route → SearchProgress → SearchProgress → StepAnswer → Type 0
StepsTo g start unit now next old new Goes = GoesOn g start unit now next old new
StepsTo g start unit now next old new Found = (next ≡ now) × (new ≡ old) × IsFound g.judge now.here.node
StepsTo g start unit now next old new Closed = (next ≡ now) × IsFinished g unit old new
StepsTo g start unit now next old new Spent =
    (next ≡ now) × (new ≡ old) × (¬ IsFound g.judge now.here.node) × (old.left < unit)
