-- Going back over the decisions of windows that stand one under the other.
use Rattle.std.proofs.Common.{◌≡◌, ◌≢◌, ◌<◌, ◌≤◌, ◌+◌, List, [], ◌∷◌, ◌++◌, ltb, length, map, reverse, take, refl, sym, ap, ◌∙◌, inl, inr, arith, append_assoc}
use Rattle.std.proofs.lemmas.Bool.{cases_Bool}
use Rattle.std.proofs.lemmas.Bool.Decides.{nat_tests}
use Rattle.std.proofs.lemmas.List.{reverse-append, reverse-reverse, length_push, map-append, length-reverse, length-append}
use Rattle.std.proofs.Math.Seq.{take-append_seam}
use Rattle.ht_tree.specs.declared.token.Assign3.{Assign3}
use Rattle.ht_search.specs.declared.problem.Point.{Point}
use Rattle.ht_search.specs.Routes.{stops, is_same_point, back_to, Stands}
use Rattle.ht_search.specs.WindowSteps.{Step, Decides, Enters, windows_entered, point_of, route_of, steps_of, steps_above, steps_under}
use Rattle.ht_search.proofs.RouteLaws.{same_point}
use Rattle.ht_search.proofs.LaterLaws.{apart, back_older, later_fresh}
use Rattle.ht_search.proofs.WindowStepLaws.{windows_decided, decisions_decided, entered_above, none_above, entered_under}

-- a point of another level stands above the last window
back_skips : (xs : List Assign3) (t : List Step) (p : Point) → p.level ≢ windows_entered t + 1
    → back_to (stops (route_of (map Decides xs ++ Enters ∷ t))) p ≡ back_to (stops (route_of t)) p
back_skips [] t p ne = rw (apart (point_of (Enters ∷ t)) p (inl (λ e. ne (sym e)))) refl
back_skips (a ∷ xs) t p ne =
    let l = windows_decided xs (Enters ∷ t) in
    rw (apart (point_of (map Decides (a ∷ xs) ++ Enters ∷ t)) p (inl (λ e. ne (sym e ∙ l)))) (back_skips xs t p ne)

-- going back to a point above the last window leads to the same stops as from the window above it
pub window_leaves : (above all : List (List Assign3)) (last ds : List Assign3) (p : Point) → all ≡ above ++ last ∷ []
    → p.level < length all
    → back_to (stops (route_of (steps_under all ds))) p ≡ back_to (stops (route_of (steps_under above last))) p
window_leaves above all last ds p is below =
    let n = ap length is ∙ length_push above last in
    let l = entered_under above last in
    let e : steps_under all ds ≡ steps_of ds ++ Enters ∷ steps_under above last =
    ap (λ (x : List (List Assign3)). steps_of ds ++ steps_above x) (ap reverse is ∙ reverse-append above (last ∷ [])) in
    ap (λ (t : List Step). back_to (stops (route_of t)) p) e
    ∙ back_skips (reverse ds) (steps_under above last) p (λ q. absurd (omega (arith, n, l, q)))

-- what stands in the last window is a count of its decisions
above_stands : (above : List (List Assign3)) (p : Point) → Stands (route_of (steps_above above)) p
    → p.level ≡ length above → p ≡ point_of (steps_above above)
above_stands [] p h e = elim (cases_Bool (is_same_point (point_of []) p)) [
  | inl s ↦ sym (same_point (point_of []) p s)
  | inr s ↦ absurd (h (rw s refl))
]
above_stands (ds ∷ above) p h e = elim (cases_Bool (is_same_point (point_of (steps_above (ds ∷ above))) p)) [
  | inl s ↦ sym (same_point (point_of (steps_above (ds ∷ above))) p s)
  | inr s ↦
      let l = windows_decided (reverse ds) (steps_above above) in
      let k = entered_above above in
      absurd (h (rw s (later_fresh p (steps_of ds ++ steps_above above) (inl (omega (arith, l, k))))))
]

-- A point that stands in the last window, as the count of its first decisions. Decisions stand with the last one first.
record StandsAfter (xs : List Assign3) (above : List (List Assign3)) (p : Point) : Type 0 where
  more : List Assign3
  first : List Assign3
  whole : xs ≡ more ++ first
  point : p ≡ point_of (map Decides first ++ steps_above above)

stands_after : (xs : List Assign3) (above : List (List Assign3)) (p : Point)
    → Stands (route_of (map Decides xs ++ steps_above above)) p → p.level ≡ length above → StandsAfter xs above p
stands_after [] above p h e = record { more = []; first = []; whole = refl; point = above_stands above p h e }
stands_after (a ∷ xs) above p h e =
    elim (cases_Bool (is_same_point (point_of (map Decides (a ∷ xs) ++ steps_above above)) p)) [
      | inl s ↦ record {
        more = [];
        first = a ∷ xs;
        whole = refl;
        point = sym (same_point (point_of (map Decides (a ∷ xs) ++ steps_above above)) p s);
      }
      | inr s ↦
          let r = stands_after xs above p (λ none. h (rw s none)) e in
          record {
            more = a ∷ r.more;
            first = r.first;
            whole = ap (λ (t : List Assign3). a ∷ t) r.whole;
            point = r.point;
          }
    ]

module _ (above : List (List Assign3)) (ds : List Assign3) (p : Point) (h : Stands (route_of (steps_under above ds)) p)
    (e : p.level ≡ length above) where
  found : StandsAfter (reverse ds) (reverse above) p
  found = stands_after (reverse ds) (reverse above) p h (e ∙ sym (length-reverse above))

  mark_is : p.mark ≡ length found.first
  mark_is =
      let a = ap (λ (q : Point). q.mark) found.point in
      let b = decisions_decided found.first (steps_above (reverse above)) in
      let c = none_above (reverse above) in
      omega (arith, a, b, c)

  -- the mark of a point that stands in the last window is at most the number of decisions there
  pub stands_mark : p.mark ≤ length ds
  stands_mark =
      let k = ap length found.whole in
      let l = length-append found.more found.first in
      let n = length-reverse ds in
      let m = mark_is in
      omega (arith, k, l, n, m)

  first_is : take p.mark ds ≡ reverse found.first
  first_is =
      let ys = found.first in
      let whole : ds ≡ reverse ys ++ reverse found.more =
      sym (reverse-reverse ds) ∙ (ap reverse found.whole ∙ reverse-append found.more ys) in
      let n : p.mark ≡ length (reverse ys) = mark_is ∙ sym (length-reverse ys) in
      (λ k. take (n k) (whole k)) ∙ take-append_seam (reverse ys) (reverse found.more)

  -- going back leaves as many decisions as the point counts
  pub window_back : stops (route_of (steps_under above (take p.mark ds)))
      ≡ back_to (stops (route_of (steps_under above ds))) p
  window_back =
      let t = steps_above (reverse above) in
      let ys = found.first in
      let more = found.more in
      let steps : steps_under above (take p.mark ds) ≡ map Decides ys ++ t =
      ap (λ (xs : List Assign3). map Decides xs ++ t) (ap reverse first_is ∙ reverse-reverse ys) in
      let all : steps_under above ds ≡ map Decides more ++ (map Decides ys ++ t) =
      ap (λ (xs : List Assign3). map Decides xs ++ t) found.whole
      ∙ (ap (λ (x : List Step). x ++ t) (map-append Decides more ys)
      ∙ append_assoc (map Decides more) (map Decides ys) t) in
      ap (λ (x : List Step). stops (route_of x)) steps
      ∙ (sym (back_older (map Decides more) (map Decides ys ++ t))
      ∙ (λ k. back_to (stops (route_of (sym all k))) (sym found.point k)))

-- a point that stands is of a window that stands
pub stands_level : (above : List (List Assign3)) (ds : List Assign3) (p : Point)
    → Stands (route_of (steps_under above ds)) p → p.level ≤ length above
stands_level above ds p h =
    let l = entered_under above ds in
    elim (cases_Bool (ltb (length above) p.level)) [
      | inl e ↦
          let below : length above < p.level = grind (arith, nat_tests) in
          absurd (h (later_fresh p (steps_under above ds) (inl (omega (arith, l, below)))))
      | inr e ↦ let most : p.level ≤ length above = grind (arith, nat_tests) in most
    ]
