-- The route of a problem that keeps the decisions of each window, one window under the other.
use Rattle.std.specs.Prelude.{◌+◌, ℕ, List, [], ◌∷◌, ◌++◌, map, reverse}
use Rattle.ht_tree.specs.declared.token.Assign3.{Assign3}
use Rattle.ht_tree.specs.Walk.Walks.{Node, root, decide, under}
use Rattle.ht_search.specs.declared.problem.Point.{Point}
use Rattle.ht_search.specs.Routes.{Stop, Route}

-- what a step of a path does: it decides a variable, or goes to the window under the node
pub data Step : Type 0 where
  Decides : Assign3 → Step
  Enters : Step

-- the node after steps, which stand in a list with the last one first
abbrev pub node_of : List Step → Node
node_of [] = root
node_of (Decides a ∷ older) = decide (node_of older) a.var a.value
node_of (Enters ∷ older) = under (node_of older)

-- how many windows were entered, and how many variables were decided in the last one
abbrev pub windows_entered : List Step → ℕ
windows_entered [] = 0
windows_entered (Decides a ∷ older) = windows_entered older
windows_entered (Enters ∷ older) = windows_entered older + 1

-- how many decisions came since the last window was entered
abbrev pub last_decided : List Step → ℕ
last_decided [] = 0
last_decided (Decides a ∷ older) = last_decided older + 1
last_decided (Enters ∷ older) = 0

-- the point after steps: these two counts
abbrev pub point_of : List Step → Point
point_of steps = record { level = windows_entered steps; mark = last_decided steps }

-- the stop after steps, those before each of them, and both as a route
abbrev pub stop_of : List Step → Stop
stop_of steps = record { point = point_of steps; node = node_of steps }

-- where the route stood before each of its steps, the latest first
abbrev pub stops_before : List Step → List Stop
stops_before [] = []
stops_before (s ∷ older) = stop_of older ∷ stops_before older

-- where steps lead, and where they stood before
abbrev pub route_of : List Step → Route
route_of steps = record { here = stop_of steps; earlier = stops_before steps }

-- the steps that the decisions of one window are, of the windows above, and of these and the last one
abbrev pub steps_of : List Assign3 → List Step
steps_of decisions = map Decides (reverse decisions)

-- the steps that lead through the windows above, with their decisions
abbrev pub steps_above : List (List Assign3) → List Step
steps_above [] = []
steps_above (decisions ∷ above) = Enters ∷ steps_of decisions ++ steps_above above

-- the steps that lead through the windows above, and then these decisions
abbrev pub steps_under : List (List Assign3) → List Assign3 → List Step
steps_under above decisions = steps_of decisions ++ steps_above (reverse above)
