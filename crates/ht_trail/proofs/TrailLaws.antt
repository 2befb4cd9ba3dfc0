-- Undoing a trail.
use Rattle.std.proofs.Common.{◌≡◌, ◌<◌, ◌≤◌, ◌+◌, ℕ, suc, zero, List, [], ◌∷◌, ◌++◌, length, get_or, set, take, drop, refl, sym, ◌∙◌, ap, arith, append_assoc}
use Rattle.std.proofs.lemmas.List.{append-nil, drop-append-le, drop_all, length_push, get_or_append_left, length-set, length-take-le, take-append-drop}
use Rattle.ht_trail.specs.declared.cells.Saved.{Saved}
use Rattle.ht_trail.specs.Trails.{CellsState, restored, IsLater, IsTrailBelow, at_mark}

-- a write is taken back
pub set_back : {V : Type 0} → (xs : List V) (i : ℕ) (v d : V) → i < length xs → set (set xs i v) i (get_or xs i d) ≡ xs
set_back [] i v d h = absurd (omega arith)
set_back (x ∷ xs) zero v d h = refl
set_back (x ∷ xs) (suc i) v d h = ap (λ (t : List _). x ∷ t) (set_back xs i v d (omega arith))

-- the last change is taken back first
pub restored_push : {V : Type 0} → (values : List V) (trail : List (Saved V)) (s : Saved V)
    → restored values (trail ++ s ∷ []) ≡ restored (set values s.index s.value) trail
restored_push values [] s = refl
restored_push {V} values (t ∷ trail) s = ap (λ (v : List V). set v t.index t.value) (restored_push values trail s)

-- some changes and then some more
pub restored_append : {V : Type 0} → (values : List V) (xs ys : List (Saved V)) → restored values (xs ++ ys)
    ≡ restored (restored values ys) xs
restored_append values [] ys = refl
restored_append {V} values (x ∷ xs) ys = ap (λ (v : List V). set v x.index x.value) (restored_append values xs ys)

-- cells are later than themselves by no change
pub later_now : {V : Type 0} → (a : CellsState V) → IsLater a a
later_now a = record { since = []; trail = sym (append-nil a.trail); values = refl }

-- cells that are later than later ones are later than the first
pub later_more : {V : Type 0} → (a b c : CellsState V) → IsLater a b → IsLater b c → IsLater a c
later_more {V} a b c f g = record {
  since = f.since ++ g.since;
  trail = g.trail ∙ (ap (λ (t : List (Saved V)). t ++ g.since) f.trail ∙ append_assoc a.trail f.since g.since);
  values = restored_append c.values f.since g.since ∙ (ap (λ (v : List V). restored v f.since) g.values ∙ f.values);
}

-- all but the last of a first part
pub part_pop : {X : Type 0} → (xs all : List X) (s : X) → xs ++ s ∷ [] ≡ take (length (xs ++ s ∷ [])) all → xs
    ≡ take (length xs) all
part_pop [] all s h = refl
part_pop (x ∷ xs) [] s h = let e = ap length h in absurd (omega (arith, e))
part_pop {X} (x ∷ xs) (t ∷ all) s h =
    let here : x ≡ t = ap (λ (l : List X). get_or l 0 x) h in
    let rest : xs ≡ take (length xs) all = part_pop xs all s (ap (λ (l : List X). drop 1 l) h) in
    (λ i. here i ∷ rest i)

-- a trail without its last change keeps its indices below the same number
pub within_pop : {V : Type 0} → (n m : ℕ) (xs old : List (Saved V)) (s : Saved V) → old ≡ xs ++ s ∷ [] → m ≡ n
    → IsTrailBelow n old → IsTrailBelow m xs
within_pop {V} n m xs old s is same h = λ k d less.
    let long : length old ≡ length xs + 1 = ap length is ∙ length_push xs s in
    let at : get_or xs k d ≡ get_or old k d = sym (get_or_append_left xs (s ∷ []) d k less) ∙ ap
    (λ (l : List (Saved V)). get_or l k d) (sym is) in
    let p = ap (λ (t : Saved V). t.index) at in
    let q : (get_or old k d).index < n = h k d (omega (arith, long, less)) in
    omega (arith, p, q, same)

-- there are as many values before the changes on a trail as after them
pub restored_length : {V : Type 0} → (values : List V) (trail : List (Saved V)) → length (restored values trail)
    ≡ length values
restored_length values [] = refl
restored_length {V} values (s ∷ trail) = length-set (restored values trail) s.index s.value ∙ restored_length values
    trail

-- what stood at an earlier mark is there still
pub later_mark : {V : Type 0} → (a b : CellsState V) → IsLater a b → (m : ℕ) → m ≤ length a.trail → at_mark b m
    ≡ at_mark a m
later_mark {V} a b f m h =
    ap (λ (t : List (Saved V)). restored b.values (drop m t)) f.trail
    ∙ (ap (restored b.values) (drop-append-le m a.trail f.since h)
    ∙ (restored_append b.values (drop m a.trail) f.since
    ∙ ap (λ (v : List V). restored v (drop m a.trail)) f.values))

-- what the cells held at the mark of the whole trail is what they hold now
pub mark_now : {V : Type 0} → (c : CellsState V) → at_mark c (length c.trail) ≡ c.values
mark_now c = ap (restored c.values) (drop_all (length c.trail) c.trail (omega arith))

-- an undo leaves what stood at the marks up to it
pub undone_mark : {V : Type 0} → (c : CellsState V) (values : List V) (trail : List (Saved V)) (m k : ℕ) → k ≤ m
    → m ≤ length c.trail
    → values ≡ restored c.values (drop m c.trail) → trail ≡ take m c.trail → restored values (drop k trail)
    ≡ at_mark c k
undone_mark {V} c values trail m k km ml v t =
    let long : length (take m c.trail) ≡ m = length-take-le m c.trail ml in
    let split : drop k c.trail ≡ drop k (take m c.trail)
    ++ drop m c.trail = ap (drop k) (sym (take-append-drop m c.trail)) ∙ drop-append-le k (take m c.trail)
    (drop m c.trail) (omega (arith, long, km)) in
    (λ i. restored (v i) (drop k (t i))) ∙
    (sym (restored_append c.values (drop k (take m c.trail)) (drop m c.trail)) ∙ ap (restored c.values) (sym split))
