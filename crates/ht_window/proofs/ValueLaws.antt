-- What the values of variables are as at each mark.
use Rattle.std.proofs.Common.{◌≡◌, ◌<◌, ◌≤◌, ◌+◌, inl, inr, ℕ, List, [], ◌∷◌, ◌++◌, Option, None, Some, length, get_or, take, drop, set, sym, ◌∙◌, ap, arith}
use Rattle.std.proofs.lemmas.List.{take_all, take-append-le, take-take, length_push, length-take-le}
use Rattle.ht_net.proofs.FrameLaws.{le_or_lt}
use Rattle.ht_tern.specs.declared.tern.Tern.{Tern}
use Rattle.ht_trail.specs.Trails.{CellsState, IsLater, at_mark, restored}
use Rattle.ht_trail.proofs.TrailLaws.{later_mark, mark_now, undone_mark}
use Rattle.ht_tree.specs.declared.token.Assign3.{Assign3}
use Rattle.ht_tree.specs.Window.Decisions.{decided_value}
use Rattle.ht_tree.proofs.WrittenLaws.{written_more}
use Rattle.ht_window.specs.Standing.{IsValueHistory}

-- the values that stand
pub value_now : (values : CellsState (Option Tern)) (path : List Assign3) → IsValueHistory values path → (var : ℕ)
    → get_or values.values var None ≡ decided_value path var
value_now values path h var =
    let n = h.count in
    let at : at_mark values (length path) ≡ values.values = ap (at_mark values) (sym n) ∙ mark_now values in
    ap (λ (v : List (Option Tern)). get_or v var None) (sym at) ∙
    (h.at (length path) var (omega arith) ∙ ap (λ (p : List Assign3). decided_value p var)
    (take_all (length path) path (omega arith)))

-- the values of a path go on with one more decision, where its value is written and the old one kept
pub value_push : (a b : CellsState (Option Tern)) (path : List Assign3) (d : Assign3) → d.var < length a.values
    → IsLater a b
    → b.values ≡ set a.values d.var (Some d.value) → length b.trail ≡ length a.trail + 1 → IsValueHistory a path
    → IsValueHistory b (path ++ d ∷ [])
value_push a b path d room later written grown h = record {
  count = (let n = h.count in let m = length_push path d in omega (arith, grown, n, m));
  at = λ k var ks. elim (le_or_lt k (length path)) [
    | inl old ↦
        let n = h.count in
        ap (λ (v : List (Option Tern)). get_or v var None) (later_mark a b later k (omega (arith, old, n)))
        ∙ (h.at k var old ∙ ap (λ (p : List Assign3). decided_value p var) (sym (take-append-le k path (d ∷ []) old)))
    | inr new ↦
        let n = h.count in
        let m = length_push path d in
        let at : k ≡ length b.trail = omega (arith, ks, new, m, n, grown) in
        ap (λ (v : List (Option Tern)). get_or v var None) (ap (at_mark b) at ∙ (mark_now b ∙ written))
        ∙ (written_more a.values path d var room (value_now a path h var)
        ∙ ap (λ (p : List Assign3). decided_value p var) (sym (take_all k (path ++ d ∷ []) (omega (arith, new, m)))))
  ];
}

-- with the values as before decision n, the history is that of the first n decisions
pub value_undo : (a b : CellsState (Option Tern)) (path rest : List Assign3) (n : ℕ) → n ≤ length path → rest
    ≡ take n path
    → b.values ≡ restored a.values (drop n a.trail) → b.trail ≡ take n a.trail → IsValueHistory a path
    → IsValueHistory b rest
value_undo a b path rest n few cut v t h =
    let m = h.count in
    let long : length rest ≡ n = ap length cut ∙ length-take-le n path few in
    record {
      count = ap length t ∙ (length-take-le n a.trail (omega (arith, m, few)) ∙ sym long);
      at = λ k var ks.
          ap (λ (v : List (Option Tern)). get_or v var None)
          (undone_mark a b.values b.trail n k (omega (arith, ks, long)) (omega (arith, m, few)) v t)
          ∙ (h.at k var (omega (arith, ks, long, few)) ∙ ap (λ (p : List Assign3). decided_value p var)
          (sym (ap (take k) cut ∙ take-take k n path (omega (arith, ks, long)))));
    }
