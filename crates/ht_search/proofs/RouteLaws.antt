-- Points on a route, and going back to them.
use Rattle.std.proofs.Common.{◌≡◌, ◌≢◌, ℕ, List, [], ◌∷◌, Bool, true, false, cond, eqb, refl, sym, ap, ◌∙◌, inl, inr}
use Rattle.std.proofs.lemmas.Bool.Decides.{eqb_tells}
use Rattle.ht_tree.specs.Walk.Walks.{Node}
use Rattle.ht_search.specs.declared.problem.Point.{Point}
use Rattle.ht_search.specs.Routes.{Stop, Route, stops, is_same_point, back_to, Stands, MovesOn}

-- points with the same level and the same mark are the same
pub point_by : (level level' mark mark' : ℕ) → level ≡ level' → mark ≡ mark'
    → (let p : Point = record { level = level; mark = mark } in
    let q : Point = record { level = level'; mark = mark' } in p ≡ q)
point_by level level' mark mark' e f =
    ap (λ (k : ℕ). let r : Point = record { level = k; mark = mark } in r) e
    ∙ ap (λ (k : ℕ). let r : Point = record { level = level'; mark = k } in r) f

-- points that the test finds to be one are equal
pub same_point : (p q : Point) → is_same_point p q ≡ true → p ≡ q
same_point p q h = elim (eqb_tells p.level q.level) [
  | inl a ↦ elim (eqb_tells p.mark q.mark) [
    | inl b ↦ point_by p.level q.level p.mark q.mark a.1 b.1
    | inr b ↦ let k : is_same_point p q ≡ false = rw (a.0, b.0) refl in cc
  ]
  | inr a ↦ let k : is_same_point p q ≡ false = rw a.0 refl in cc
]

itself : (n : ℕ) → eqb n n ≡ true
itself n = elim (eqb_tells n n) [ inl a ↦ a.0 | inr a ↦ absurd (a.1 refl) ]

-- going back to the point now leaves the stops as they are
pub back_here : (t : Route) → back_to (stops t) t.here.point ≡ stops t
back_here t = rw (itself t.here.point.level, itself t.here.point.mark) refl

-- the route at an earlier stop
pub stands_by : (t at : Route) (p : Point) → back_to (stops t) p ≡ stops at → Stands t p
stands_by t at p e none = cc

-- routes with the same stops are the same
pub route_same : (t u : Route) → stops t ≡ stops u → t ≡ u
route_same t u e =
    let x : t.here ≡ u.here = cc in
    let y : t.earlier ≡ u.earlier = cc in
    ap (λ (k : Stop). let r : Route = record { here = k; earlier = t.earlier } in r) x
    ∙ ap (λ (k : List Stop). let r : Route = record { here = u.here; earlier = k } in r) y

-- a point that stands does so after a step
back_by : (b : Bool) (x : Stop) (xs : List Stop) (p : Point) → (b ≡ true → x.point ≡ p) → back_to xs x.point ≡ []
    → back_to xs p ≢ [] → cond b (x ∷ xs) (back_to xs p) ≡ back_to xs p
back_by true x xs p same fresh stands = absurd (stands (sym (ap (back_to xs) (same refl)) ∙ fresh))
back_by false x xs p same fresh stands = refl

-- after a step, going back to a point that stood before it leads to the same stops
pub back_moved : (now next : Route) (n : Node) (p : Point) → MovesOn now next n → Stands now p → back_to (stops next) p
    ≡ back_to (stops now) p
back_moved now next n p m stands =
    ap (λ (xs : List Stop). back_to (next.here ∷ xs) p) m.earlier
    ∙ back_by (is_same_point next.here.point p) next.here (stops now) p (same_point next.here.point p) m.fresh stands

-- a point that stands does so after a step too
pub stands_moved : (now next : Route) (n : Node) (p : Point) → MovesOn now next n → Stands now p → Stands next p
stands_moved now next n p m stands none = stands (sym (back_moved now next n p m stands) ∙ none)
