-- The steps of a problem that keeps the decisions of each window.
use Rattle.std.proofs.Common.{◌≡◌, ◌+◌, ℕ, suc, List, [], ◌∷◌, ◌++◌, length, map, reverse, drop, get_or, refl, sym, ap, ◌∙◌, subst, arith, append_assoc}
use Rattle.std.proofs.lemmas.List.{reverse-append, reverse-reverse, length_push, length-reverse, get_or_push, append-nil}
use Rattle.std.proofs.Math.Seq.{drop-append_seam}
use Rattle.ht_tree.specs.declared.token.Assign3.{Assign3}
use Rattle.ht_tree.specs.Walk.Walks.{Node, decide, under, path_of}
use Rattle.ht_search.specs.Routes.{MovesOn}
use Rattle.ht_search.specs.WindowSteps.{Step, Decides, Enters, node_of, windows_entered, last_decided, point_of, route_of, steps_of, steps_above, steps_under}
use Rattle.ht_search.proofs.RouteLaws.{point_by}
use Rattle.ht_search.proofs.LaterLaws.{decides_moves, enters_moves}

under_push : (above : List (List Assign3)) (ds : List Assign3) (a : Assign3)
    → steps_under above (ds ++ a ∷ []) ≡ Decides a ∷ steps_under above ds
under_push above ds a =
    ap (λ (xs : List Assign3). map Decides xs ++ steps_above (reverse above)) (reverse-append ds (a ∷ []))

under_enter : (above : List (List Assign3)) (ds : List Assign3)
    → steps_under (above ++ ds ∷ []) [] ≡ Enters ∷ steps_under above ds
under_enter above ds = ap steps_above (reverse-append above (ds ∷ []))

-- one more decision, and one more window
pub window_decides : (above : List (List Assign3)) (ds all : List Assign3) (a : Assign3) → all ≡ ds ++ a ∷ []
    → MovesOn (route_of (steps_under above ds)) (route_of (steps_under above all))
    (decide (node_of (steps_under above ds)) a.var a.value)
window_decides above ds all a is =
    let steps = steps_under above ds in
    subst (λ (t : List Step). MovesOn (route_of steps) (route_of t) (decide (node_of steps) a.var a.value))
    (sym (ap (steps_under above) is ∙ under_push above ds a)) (decides_moves steps a)

-- one more window, where nothing is decided yet, moves the route on to the node under the one before
pub window_enters : (above all : List (List Assign3)) (ds now : List Assign3) → all ≡ above ++ ds ∷ [] → now ≡ []
    → MovesOn (route_of (steps_under above ds)) (route_of (steps_under all now))
    (under (node_of (steps_under above ds)))
window_enters above all ds now is none =
    let steps = steps_under above ds in
    let e : steps_under all now ≡ Enters ∷ steps =
    (λ k. steps_under (is k) (none k)) ∙ under_enter above ds in
    subst (λ (t : List Step). MovesOn (route_of steps) (route_of t) (under (node_of steps))) (sym e)
    (enters_moves steps)

-- the point: how many windows stand above, and how many decisions in the last one
pub windows_decided : (xs : List Assign3) (t : List Step) → windows_entered (map Decides xs ++ t) ≡ windows_entered t
windows_decided [] t = refl
windows_decided (a ∷ xs) t = windows_decided xs t

-- n more decisions are n more since the last window was entered
pub decisions_decided : (xs : List Assign3) (t : List Step)
    → last_decided (map Decides xs ++ t) ≡ length xs + last_decided t
decisions_decided [] t = omega arith
decisions_decided (a ∷ xs) t = let h = decisions_decided xs t in omega (arith, h)

-- the steps through the windows above enter as many windows as there are
pub entered_above : (above : List (List Assign3)) → windows_entered (steps_above above) ≡ length above
entered_above [] = refl
entered_above (ds ∷ above) =
    let h = windows_decided (reverse ds) (steps_above above) in
    let k = entered_above above in
    omega (arith, h, k)

-- after the steps through the windows above, nothing is decided in the last window yet
pub none_above : (above : List (List Assign3)) → last_decided (steps_above above) ≡ 0
none_above [] = refl
none_above (ds ∷ above) = refl

-- the steps of a problem enter as many windows as there are above its last one
pub entered_under : (above : List (List Assign3)) (ds : List Assign3)
    → windows_entered (steps_under above ds) ≡ length above
entered_under above ds =
    windows_decided (reverse ds) (steps_above (reverse above))
    ∙ (entered_above (reverse above) ∙ length-reverse above)

decided_under : (above : List (List Assign3)) (ds : List Assign3) → last_decided (steps_under above ds) ≡ length ds
decided_under above ds =
    let a = decisions_decided (reverse ds) (steps_above (reverse above)) in
    let b = none_above (reverse above) in
    let c = length-reverse ds in
    omega (arith, a, b, c)

-- the point after the steps of a problem counts the windows above the last one and the decisions in that one
pub window_point : (above : List (List Assign3)) (ds : List Assign3) (level mark : ℕ) → level ≡ length above
    → mark ≡ length ds → record { level = level; mark = mark } ≡ point_of (steps_under above ds)
window_point above ds level mark e f =
    point_by level (windows_entered (steps_under above ds)) mark (last_decided (steps_under above ds))
    (e ∙ sym (entered_under above ds)) (f ∙ sym (decided_under above ds))

-- a window's own path is its decisions
node_decided : (xs : List Assign3) (t : List Step) → node_of (map Decides xs ++ t)
    ≡ record { decisions = (node_of t).decisions ++ reverse xs; windows = (node_of t).windows }
node_decided [] t =
    ap (λ (ds : List Assign3). let n : Node = record { decisions = ds; windows = (node_of t).windows } in n)
    (sym (append-nil (node_of t).decisions))
node_decided (a ∷ xs) t =
    let ds = (node_of t).decisions in
    ap (λ (n : Node). decide n a.var a.value) (node_decided xs t)
    ∙ ap (λ (ds : List Assign3). let n : Node = record { decisions = ds; windows = (node_of t).windows } in n)
    (append_assoc ds (reverse xs) (a ∷ [])
    ∙ ap (λ (more : List Assign3). ds ++ more) (sym (reverse-append (a ∷ []) xs)))

last_window : (n : Node) (more : List Assign3)
    → path_of (record { decisions = n.decisions ++ more; windows = (under n).windows }) ≡ more
last_window n more =
    let ws = n.windows in
    let k = length n.decisions in
    let all = ws ++ k ∷ [] in
    let l = length_push ws k in
    let at : length all ≡ suc (length ws) = omega (arith, l) in
    let e : get_or (0 ∷ all) (length all) 0 ≡ k =
    ap (λ (i : ℕ). get_or (0 ∷ all) i 0) at ∙ get_or_push ws k 0 (length ws) refl in
    ap (λ (i : ℕ). drop i (n.decisions ++ more)) e ∙ drop-append_seam n.decisions more

path_below : (above : List (List Assign3)) (more : List Assign3)
    → path_of (record {
      decisions = (node_of (steps_above above)).decisions ++ more;
      windows = (node_of (steps_above above)).windows;
    }) ≡ more
path_below [] more = refl
path_below (ds ∷ above) more = last_window (node_of (steps_of ds ++ steps_above above)) more

-- the path within the last window is the decisions of that window
pub window_path : (above : List (List Assign3)) (ds : List Assign3) → path_of (node_of (steps_under above ds)) ≡ ds
window_path above ds =
    ap path_of (node_decided (reverse ds) (steps_above (reverse above)))
    ∙ (path_below (reverse above) (reverse (reverse ds)) ∙ reverse-reverse ds)

-- the node after the decisions of the first window
pub window_node : (ds : List Assign3) → node_of (steps_under [] ds) ≡ record { decisions = ds; windows = [] }
window_node ds =
    node_decided (reverse ds) []
    ∙ ap (λ (xs : List Assign3). let n : Node = record { decisions = xs; windows = [] } in n) (reverse-reverse ds)
