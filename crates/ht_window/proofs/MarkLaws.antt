-- Going back to a mark.
use Rattle.std.proofs.Common.{◌≡◌, ◌≢◌, ◌<◌, ◌≤◌, ◌-◌, ◌⊎◌, inl, inr, ℕ, List, Bool, Option, length, get_or, take, sym, ◌∙◌, ap, arith, subst}
use Rattle.std.proofs.lemmas.List.{length-take-le}
use Rattle.std.proofs.lemmas.Bool.Decides.{eqb_tells}
use Rattle.ht_net.proofs.FrameLaws.{le_or_lt}
use Rattle.ht_pairs.specs.Pairs.{Pair}
use Rattle.ht_trail.specs.declared.cells.Saved.{Saved}
use Rattle.ht_trail.specs.Trails.{CellsState}
use Rattle.ht_tree.specs.declared.token.Assign3.{Assign3}
use Rattle.ht_tree.specs.Window.Windows.{SearchWindow}
use Rattle.ht_relevant.specs.Near.{RelevantState}
use Rattle.ht_window.specs.Cells.{IsHistory, decision_mark}
use Rattle.ht_window.specs.States.{WindowState, mark_before, undone}
use Rattle.ht_window.proofs.HistoryLaws.{mark_old, mark_small}

module _ (s : WindowState) (w : SearchWindow) (is : ℕ → ℕ → Bool) (relevant : Option RelevantState) (path : List Assign3)
    (marks : List ℕ) (cells : CellsState (List Pair))
    (h : IsHistory w is path marks cells)
    (state : record { window = w; decisions = path; marks = marks; mark = length cells.trail; relevant = relevant } ≡ s) where
  -- the mark before a decision of the state is that of its marks and cells
  pub mark_is : (k : ℕ) → mark_before s k ≡ decision_mark marks cells k
  mark_is k = sym (ap (λ (t : WindowState). mark_before t k) state)

  -- there is a mark for each decision of the state
  pub few_marks : (k : ℕ) → k ≤ length s.decisions → k ≤ length marks
  few_marks k few = let n = ap (λ (t : WindowState). length t.decisions) state in let c = h.count
      in omega (arith, n, c, few)

  count_is : (m n : ℕ) → n ≤ length marks → ((j : ℕ) → n ≤ j → j < length marks → m ≤ get_or marks j 0) → (n ≡ 0)
      ⊎ (get_or marks (n - 1) 0 < m)
      → (k : ℕ) → k ≤ length s.decisions → m ≡ mark_before s k → n ≡ k
  count_is m n inside later end k few at =
      let ks = few_marks k few in
      let mk = mark_is k in
      elim (le_or_lt n k) [
        | inr less ↦ elim end [
          | inl z ↦ absurd (omega (arith, z, less))
          | inr low ↦
              let o = mark_old marks cells (n - 1) (omega (arith, inside, less)) in
              elim (eqb_tells k (n - 1)) [
                | inl p ↦ let e = ap (decision_mark marks cells) p.1 in absurd (omega (arith, e, o, low, at, mk))
                | inr p ↦ let ne : k ≢ n - 1 = p.1 in let r = h.rising k (n - 1) (omega (arith, less, ne))
                    (omega (arith, inside)) in absurd (omega (arith, r, o, low, at, mk))
              ]
        ]
        | inl le ↦ elim (eqb_tells n k) [
          | inl p ↦ p.1
          | inr p ↦
              let ne : n ≢ k = p.1 in
              let o = mark_old marks cells (k - 1) (omega (arith, ks, le, ne)) in
              let l = later (k - 1) (omega (arith, le, ne)) (omega (arith, ks, le, ne)) in
              let r = h.rising (k - 1) k (omega (arith, le, ne)) ks in
              absurd (omega (arith, o, l, r, at, mk))
        ]
      ]

  -- a loop over the window's marks counts the decisions before a mark
  pub counted : (m n : ℕ) → n ≤ length s.marks → ((j : ℕ) → n ≤ j → j < length s.marks → m ≤ get_or s.marks j 0)
      → (n ≡ 0) ⊎ (get_or marks (n - 1) 0 < m) → (k : ℕ) → k ≤ length s.decisions → m ≡ mark_before s k → n ≡ k
  counted m n = subst (λ (l : List ℕ). n ≤ length l → ((j : ℕ) → n ≤ j → j < length l → m ≤ get_or l j 0)
      → (n ≡ 0) ⊎ (get_or marks (n - 1) 0 < m) → (k : ℕ) → k ≤ length s.decisions → m ≡ mark_before s k → n ≡ k)
      (ap (λ (t : WindowState). t.marks) state) (count_is m n)

  -- fields taken back to the mark before decision k are those of the state with its first k decisions
  pub undone_is : (kept : Option RelevantState) (v : SearchWindow) (after : List Assign3) (fewer : List ℕ)
      (trail : List (Saved (List Pair))) (m n k : ℕ)
      → kept ≡ relevant → v ≡ w → after ≡ take n path → fewer ≡ take n marks → trail ≡ take m cells.trail → n ≡ k → k ≤ length s.decisions
      → m ≡ mark_before s k
      → record { window = v; decisions = after; marks = fewer; mark = length trail; relevant = kept } ≡ undone s k
  undone_is kept v after fewer trail m n k rs vs ps ms ts nk few at =
      let small = mark_small w is path marks cells h k (few_marks k few) in
      let mk = mark_is k in
      let long : length trail
      ≡ mark_before s k = ap length ts ∙ (length-take-le m cells.trail (omega (arith, small, at, mk)) ∙ at) in
      (λ i. record {
        window = vs i;
        decisions = (ps ∙ ap (λ (j : ℕ). take j path) nk) i;
        marks = (ms ∙ ap (λ (j : ℕ). take j marks) nk) i;
        mark = long i;
        relevant = rs i;
      })
      ∙ (λ i. record {
        window = (state i).window;
        decisions = take k (state i).decisions;
        marks = take k (state i).marks;
        mark = mark_before s k;
        relevant = (state i).relevant;
      })
