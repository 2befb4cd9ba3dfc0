-- Where a problem stands, and the points to which it can go back.
use Rattle.std.specs.Prelude.{◌≡◌, ◌≢◌, List, [], ◌∷◌, Bool, ◌&&◌, ◌==◌, if◌then◌else◌}
use Rattle.ht_tree.specs.Walk.Walks.{Node}
use Rattle.ht_search.specs.declared.problem.Point.{Point}

-- a node on the way, and the point that stands for it
pub record Stop : Type 0 where
  pub point : Point
  pub node : Node

-- Where a problem stands now, and where it stood before each decision and each `Before` of its path, the last one
-- first.
pub record Route : Type 0 where
  pub here : Stop
  pub earlier : List Stop

-- the stops of a route, the one now first
abbrev pub stops : Route → List Stop
stops t = t.here ∷ t.earlier

-- two points are one
abbrev pub is_same_point : Point → Point → Bool
is_same_point p q = (p.level == q.level) && (p.mark == q.mark)

-- the stops from a point back: none where the point doesn't stand
abbrev pub back_to : List Stop → Point → List Stop
back_to [] p = []
back_to (x ∷ xs) p = if is_same_point x.point p then x ∷ xs else back_to xs p

-- it is the point now, or stood before a decision or a `Before` of the path
abbrev pub Stands : Route → Point → Type 0
Stands t p = back_to (stops t) p ≢ []

-- One step on, to a node: where the problem stood is the last of the earlier stops, and the new point is none of them.
pub record MovesOn (old new : Route) (next : Node) : Type 0 where
  pub earlier : new.earlier ≡ stops old
  pub node : new.here.node ≡ next
  pub fresh : back_to (stops old) new.here.point ≡ []
