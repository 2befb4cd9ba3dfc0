-- The cells as at the mark before each decision.
use Rattle.std.proofs.Common.{◌≡◌, ◌<◌, ◌≤◌, ◌+◌, inl, inr, ℕ, List, Bool, [], ◌∷◌, ◌++◌, length, get_or, take, drop, refl, sym, ◌∙◌, ap, arith, subst}
use Rattle.std.proofs.lemmas.List.{take_all, take-append-le, take-take, get_or-take, length_push, length-take-le, get_or_append_left, get_or_push}
use Rattle.ht_net.proofs.FrameLaws.{le_or_lt}
use Rattle.ht_pairs.specs.Pairs.{Pair}
use Rattle.ht_trail.specs.Trails.{CellsState, IsLater, at_mark, restored}
use Rattle.ht_trail.proofs.TrailLaws.{later_mark, mark_now, undone_mark}
use Rattle.ht_tree.specs.declared.token.Assign3.{Assign3}
use Rattle.ht_tree.specs.Window.Windows.{SearchWindow}
use Rattle.ht_window.specs.Cells.{IsHistory, decision_mark, AreCells}

-- the mark before each decision, as there are more and fewer of them
pub mark_old : (marks : List ℕ) (cells : CellsState (List Pair)) (k : ℕ) → k < length marks
    → decision_mark marks cells k
    ≡ get_or marks k 0
mark_old marks cells k h = get_or_append_left marks (length cells.trail ∷ []) 0 k h

mark_last : (marks : List ℕ) (cells : CellsState (List Pair)) (k : ℕ) → k ≡ length marks → decision_mark marks cells k
    ≡ length cells.trail
mark_last marks cells k h = get_or_push marks (length cells.trail) 0 k (sym h)

-- after the present mark is added, the mark before each decision so far, and before the next, is as it was
pub mark_before_more : (marks : List ℕ) (a b : CellsState (List Pair)) (k : ℕ) → k ≤ length marks
    → decision_mark (marks ++ length a.trail ∷ []) b k ≡ decision_mark marks a k
mark_before_more marks a b k h = mark_old (marks ++ length a.trail ∷ []) b k
    (let n = length_push marks (length a.trail) in omega (arith, n, h))

-- the mark before a decision is at most the present one
pub mark_small : (w : SearchWindow) (is : ℕ → ℕ → Bool) (path : List Assign3) (marks : List ℕ) (cells : CellsState (List Pair))
    → IsHistory w is path marks cells → (k : ℕ) → k ≤ length marks → decision_mark marks cells k ≤ length cells.trail
mark_small w is path marks cells h k ks = elim (le_or_lt (length marks) k) [
  | inl end ↦ let e = mark_last marks cells k (omega (arith, end, ks)) in omega (arith, e)
  | inr less ↦ let e = mark_last marks cells (length marks) refl in let r = h.rising k (length marks) less (omega arith)
      in omega (arith, e, r)
]

-- the present cells of a history are those of its decisions
pub cells_now : (w : SearchWindow) (is : ℕ → ℕ → Bool) (path : List Assign3) (marks : List ℕ) (cells : CellsState (List Pair))
    → IsHistory w is path marks cells → AreCells w is path cells.values
cells_now w is path marks cells h =
    let n = h.count in
    let at : at_mark cells (decision_mark marks cells (length path))
    ≡ cells.values = ap (at_mark cells) (mark_last marks cells (length path) (sym n)) ∙ mark_now cells in
    subst (λ (p : List Assign3). AreCells w is p cells.values) (take_all (length path) path (omega arith))
    (subst (AreCells w is (take (length path) path)) at (h.at (length path) (omega arith)))

-- a history goes on with one more decision, the mark before it and cells that are those of all decisions
pub history_push : (w : SearchWindow) (is : ℕ → ℕ → Bool) (path after : List Assign3) (d : Assign3) (marks more : List ℕ)
    (a b : CellsState (List Pair))
    → after ≡ path ++ d ∷ [] → more ≡ marks ++ length a.trail ∷ [] → IsLater a b → length a.trail < length b.trail
    → AreCells w is after b.values
    → IsHistory w is path marks a → IsHistory w is after more b
history_push w is path after d marks more a b ps ms later grown are h =
    let n = h.count in
    let pn : length after ≡ length path + 1 = ap length ps ∙ length_push path d in
    let mn : length more ≡ length marks + 1 = ap length ms ∙ length_push marks (length a.trail) in
    let old : (k : ℕ) → k ≤ length marks → decision_mark more b k
    ≡ decision_mark marks a k = λ k ks. ap (λ (m : List ℕ). decision_mark m b k) ms ∙ mark_before_more marks a b k ks in
    record {
      count = omega (arith, n, pn, mn);
      rising = λ j k l ks. elim (le_or_lt k (length marks)) [
        | inl o ↦ let r = h.rising j k l o in let ej = old j (omega (arith, l, o)) in let ek = old k o
            in omega (arith, r, ej, ek)
        | inr new ↦
            let ek = mark_last more b k (omega (arith, new, ks, mn)) in
            let ej = old j (omega (arith, l, ks, mn)) in
            let s = mark_small w is path marks a h j (omega (arith, l, ks, mn)) in
            omega (arith, ek, ej, s, grown)
      ];
      at = λ k ks. elim (le_or_lt k (length path)) [
        | inl o ↦
            let s = mark_small w is path marks a h k (omega (arith, o, n)) in
            let same : at_mark b (decision_mark more b k) ≡ at_mark a (decision_mark marks a k) = ap (at_mark b)
            (old k (omega (arith, o, n))) ∙ later_mark a b later (decision_mark marks a k) s in
            let cut : take k after ≡ take k path = ap (take k) ps ∙ take-append-le k path (d ∷ []) o in
            subst (λ (p : List Assign3). AreCells w is p (at_mark b (decision_mark more b k))) (sym cut)
            (subst (AreCells w is (take k path)) (sym same) (h.at k o))
        | inr new ↦
            let same : at_mark b (decision_mark more b k)
            ≡ b.values = ap (at_mark b) (mark_last more b k (omega (arith, new, ks, pn, mn, n))) ∙ mark_now b in
            let cut : take k after ≡ after = take_all k after (omega (arith, new, pn)) in
            subst (λ (p : List Assign3). AreCells w is p (at_mark b (decision_mark more b k))) (sym cut)
            (subst (AreCells w is after) (sym same) are)
      ];
    }

mark_cut : (marks : List ℕ) (a b : CellsState (List Pair)) (n k : ℕ) → n ≤ length marks → k ≤ n → length b.trail
    ≡ decision_mark marks a n → decision_mark (take n marks) b k ≡ decision_mark marks a k
mark_cut marks a b n k few ks long =
    let tn = length-take-le n marks few in
    elim (le_or_lt n k) [
      | inl end ↦ let e : n ≡ k = omega (arith, end, ks) in mark_last (take n marks) b k (omega (arith, tn, e)) ∙
          (long ∙ ap (decision_mark marks a) e)
      | inr less ↦ mark_old (take n marks) b k (omega (arith, tn, less)) ∙
          (get_or-take n marks k 0 less ∙ sym (mark_old marks a k (omega (arith, less, few))))
    ]

-- back at the mark before decision n, the history is that of the first n decisions
pub history_undo : (w : SearchWindow) (is : ℕ → ℕ → Bool) (path after : List Assign3) (marks fewer : List ℕ) (a b : CellsState (List Pair))
    (n m : ℕ)
    → n ≤ length path → after ≡ take n path → fewer ≡ take n marks → m ≡ decision_mark marks a n
    → b.values ≡ restored a.values (drop m a.trail) → b.trail ≡ take m a.trail
    → IsHistory w is path marks a → IsHistory w is after fewer b
history_undo w is path after marks fewer a b n m few ps ms at v t h =
    let c = h.count in
    let small = mark_small w is path marks a h n (omega (arith, few, c)) in
    let pn : length after ≡ n = ap length ps ∙ length-take-le n path few in
    let mn : length fewer ≡ n = ap length ms ∙ length-take-le n marks (omega (arith, few, c)) in
    let long : length b.trail ≡ m = ap length t ∙ length-take-le m a.trail (omega (arith, small, at)) in
    let old : (k : ℕ) → k ≤ n → decision_mark fewer b k ≡ decision_mark marks a k = λ k ks.
    ap (λ (l : List ℕ). decision_mark l b k) ms ∙
    mark_cut marks a b n k (omega (arith, few, c)) ks (long ∙ at) in
    record {
      count = omega (arith, pn, mn);
      rising = λ j k l ks. let r = h.rising j k l (omega (arith, ks, mn, few, c))
          in let ej = old j (omega (arith, l, ks, mn)) in let ek = old k (omega (arith, ks, mn))
          in omega (arith, r, ej, ek);
      at = λ k ks.
          let kn : k ≤ n = omega (arith, ks, pn) in
          let below : decision_mark marks a k ≤ m = elim (le_or_lt n k) [
            | inl end ↦ let e = ap (decision_mark marks a) (let e : k ≡ n = omega (arith, end, kn) in e)
                in omega (arith, e, at)
            | inr less ↦ let r = h.rising k n less (omega (arith, few, c)) in omega (arith, r, at)
          ] in
          let same : at_mark b (decision_mark fewer b k) ≡ at_mark a (decision_mark marks a k) = ap (at_mark b)
          (old k kn) ∙
          undone_mark a b.values b.trail m (decision_mark marks a k) below (omega (arith, small, at)) v t in
          let cut : take k after ≡ take k path = ap (take k) ps ∙ take-take k n path kn in
          subst (λ (p : List Assign3). AreCells w is p (at_mark b (decision_mark fewer b k))) (sym cut)
          (subst (AreCells w is (take k path)) (sym same) (h.at k (omega (arith, kn, few))));
    }
