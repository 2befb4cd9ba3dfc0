-- Each step gives a later point.
use Rattle.std.proofs.Common.{◌≡◌, ◌≢◌, ◌<◌, ◌+◌, ◌⊎◌, List, [], ◌∷◌, ◌++◌, false, refl, inl, inr, arith}
use Rattle.std.proofs.lemmas.Bool.Decides.{eqb_tells}
use Rattle.ht_tree.specs.declared.token.Assign3.{Assign3}
use Rattle.ht_tree.specs.Walk.Walks.{decide, under}
use Rattle.ht_search.specs.declared.problem.Point.{Point}
use Rattle.ht_search.specs.Routes.{stops, is_same_point, back_to, MovesOn}
use Rattle.ht_search.specs.WindowSteps.{Step, Decides, Enters, node_of, windows_entered, last_decided, point_of, route_of}
use Rattle.ht_search.proofs.RouteLaws.{back_here}

-- points of different levels or marks aren't the same
pub apart : (p q : Point) → (p.level ≢ q.level) ⊎ (p.mark ≢ q.mark) → is_same_point p q ≡ false
apart p q h = elim (eqb_tells p.level q.level) [
  | inl a ↦ elim h [
    | inl ne ↦ absurd (ne a.1)
    | inr ne ↦ elim (eqb_tells p.mark q.mark) [ inl b ↦ absurd (ne b.1) | inr b ↦ rw (a.0, b.0) refl ]
  ]
  | inr a ↦ rw a.0 refl
]

-- a point comes after another
abbrev pub Later : Point → Point → Type 0
Later p q = (q.level < p.level) ⊎ ((q.level ≡ p.level) × (q.mark < p.mark))

later_apart : (p q : Point) → Later p q → is_same_point p q ≡ false
later_apart p q (inl h) = apart p q (inl (λ e. absurd (omega (arith, e))))
later_apart p q (inr h) = let l : q.mark < p.mark = h.1 in apart p q (inr (λ e. absurd (omega (arith, e, l))))

earlier_apart : (p q : Point) → Later p q → is_same_point q p ≡ false
earlier_apart p q (inl h) = apart q p (inl (λ e. absurd (omega (arith, e))))
earlier_apart p q (inr h) = let l : q.mark < p.mark = h.1 in apart q p (inr (λ e. absurd (omega (arith, e, l))))

later_step : (p : Point) (s : Step) (older : List Step) → Later p (point_of (s ∷ older)) → Later p (point_of older)
later_step p (Decides a) older (inl h) = inl h
later_step p (Decides a) older (inr h) = inr (h.0, let l : last_decided older + 1 < p.mark = h.1 in omega arith)
later_step p Enters older (inl h) = inl (omega arith)
later_step p Enters older (inr h) = inl (let e : windows_entered older + 1 ≡ p.level = h.0 in omega arith)

-- a later point doesn't stand
pub later_fresh : (p : Point) (steps : List Step) → Later p (point_of steps)
    → back_to (stops (route_of steps)) p ≡ []
later_fresh p [] h = rw (earlier_apart p (point_of []) h) refl
later_fresh p (s ∷ older) h =
    rw (earlier_apart p (point_of (s ∷ older)) h) (later_fresh p older (later_step p s older h))

-- one more decision moves a route on to the node with that decision
pub decides_moves : (steps : List Step) (a : Assign3)
    → MovesOn (route_of steps) (route_of (Decides a ∷ steps)) (decide (node_of steps) a.var a.value)
decides_moves steps a = record {
  earlier = refl;
  node = refl;
  fresh = later_fresh (point_of (Decides a ∷ steps)) steps (inr (refl, omega arith));
}

-- one more window moves a route on to the first node of that window
pub enters_moves : (steps : List Step)
    → MovesOn (route_of steps) (route_of (Enters ∷ steps)) (under (node_of steps))
enters_moves steps = record {
  earlier = refl;
  node = refl;
  fresh = later_fresh (point_of (Enters ∷ steps)) steps (inl (omega arith));
}

later_than : (s : Step) (more older : List Step) → Later (point_of (s ∷ more ++ older)) (point_of older)
later_than (Decides a) [] older = inr (refl, omega arith)
later_than Enters [] older = inl (omega arith)
later_than (Decides a) (t ∷ more) older = elim (later_than t more older) [
  | inl h ↦ inl h
  | inr h ↦ inr (h.0, let l : last_decided older < last_decided (t ∷ more ++ older) = h.1 in omega arith)
]
later_than Enters (t ∷ more) older = elim (later_than t more older) [
  | inl h ↦ inl (omega arith)
  | inr h ↦ inl (let e : windows_entered older ≡ windows_entered (t ∷ more ++ older) = h.0 in omega arith)
]

-- going back to the point of older steps leaves them
pub back_older : (more older : List Step)
    → back_to (stops (route_of (more ++ older))) (point_of older) ≡ stops (route_of older)
back_older [] older = back_here (route_of older)
back_older (s ∷ more) older =
    rw (later_apart (point_of (s ∷ more ++ older)) (point_of older) (later_than s more older)) (back_older more older)
