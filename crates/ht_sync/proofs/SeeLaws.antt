-- The latches of a window, one by one.
use Rattle.std.specs.List.{find, list_any, range_with_len}
use Rattle.std.proofs.Common.{◌≡◌, ◌<◌, ◌+◌, ◌-◌, ℕ, suc, List, ◌∷◌, Bool, true, false, not, ◌&&◌, ◌||◌, cond, Some, length, refl, sym, ◌∙◌, ap, arith}
use Rattle.ht_pairs.specs.Pairs.{Pair}
use Rattle.ht_tree.specs.Window.Windows.{SearchWindow, is_undetermined}
use Rattle.ht_tree.specs.declared.token.Assign3.{Assign3}
use Rattle.ht_tree.specs.declared.token.Status3.TheVariants.{Dead, Open, Sure}
use Rattle.ht_sync.specs.SyncWindows.{flip_flops, last_set, may_be_unknown, must_be_unknown, sync_status}

-- numbers from j on
abbrev pub from : ℕ → ℕ → List ℕ
from j n = range_with_len j (n - j)

module _ (n j : ℕ) where
  from_here : j < n → from j n ≡ j ∷ from (j + 1) n
  from_here inside = let e : n - j ≡ suc (n - (j + 1)) = omega (arith, inside) in ap (range_with_len j) e

or_true : (b : Bool) → (b || true) ≡ true
or_true true = refl
or_true false = refl

module _ (w : SearchWindow) (path : List Assign3) where
  abbrev m : ℕ
  m = length w.circuit.dffs

  abbrev must : ℕ → Bool
  must j = must_be_unknown (last_set w path j)

  abbrev may : ℕ → Bool
  may j = may_be_unknown (last_set w path j)

  abbrev undetermined : ℕ → Bool
  undetermined j = is_undetermined (last_set w path j)

  -- The latches below j were seen: none must be unknown, and some may be, or none.
  pub record IsSeen (j : ℕ) (some : Bool) : Type 0 where
    pub must_is : list_any must (flip_flops w.circuit) ≡ list_any must (from j m)
    pub may_is : list_any may (flip_flops w.circuit) ≡ (some || list_any may (from j m))

  module _ (j : ℕ) (some : Bool) (seen : IsSeen j some) where
    module _ (inside : j < m) (set : List Pair) (is : set ≡ last_set w path j) where
      must_here : (b u : Bool) → may_be_unknown set ≡ b → is_undetermined set ≡ u → must j ≡ (b && not u)
      must_here b u e d = ap must_be_unknown (sym is) ∙ (λ i. e i && not (d i))

      may_here : (b : Bool) → may_be_unknown set ≡ b → may j ≡ b
      may_here b e = ap may_be_unknown (sym is) ∙ e

      must_from : (b : Bool) → must j ≡ b
          → list_any must (flip_flops w.circuit) ≡ (b || list_any must (from (j + 1) m))
      must_from b e =
          seen.must_is ∙ (ap (list_any must) (from_here m j inside) ∙ ap (λ (x : Bool). x || list_any must (from (j + 1) m)) e)

      may_from : (b : Bool) → may j ≡ b
          → list_any may (flip_flops w.circuit) ≡ (some || (b || list_any may (from (j + 1) m)))
      may_from b e =
          seen.may_is
          ∙ (ap (λ (js : List ℕ). some || list_any may js) (from_here m j inside)
          ∙ ap (λ (x : Bool). some || (x || list_any may (from (j + 1) m))) e)

      -- where a latch must be unknown after the last frame, the status is dead
      pub see_dead : may_be_unknown set ≡ true → is_undetermined set ≡ false → sync_status w path ≡ Dead
      see_dead e d =
          ap (λ (b : Bool). cond b Dead (cond (list_any may (flip_flops w.circuit)) Open Sure))
          (must_from true (must_here true false e d))

      -- after a latch that may be unknown and is undetermined, the latches up to it are seen, and some may be unknown
      pub see_some : may_be_unknown set ≡ true → is_undetermined set ≡ true → IsSeen (j + 1) true
      see_some e d = record {
        must_is = must_from false (must_here true true e d);
        may_is = may_from true (may_here true e) ∙ or_true some;
      }

      -- after a latch that can't be unknown, the latches up to it are seen, and what may be unknown is as before
      pub see_known : may_be_unknown set ≡ false → IsSeen (j + 1) some
      see_known e = record {
        must_is = must_from false (must_here false (is_undetermined set) e refl);
        may_is = may_from false (may_here false e);
      }

  -- from latch j on: it is undetermined, or what is left is after it
  pub find_from : (j : ℕ) (b : Bool) (set : List Pair) → j < m → set ≡ last_set w path j → is_undetermined set ≡ b
      → find undetermined (from j m) ≡ cond b (Some j) (find undetermined (from (j + 1) m))
  find_from j b set inside is e =
      ap (find undetermined) (from_here m j inside)
      ∙ ap (λ (x : Bool). cond x (Some j) (find undetermined (from (j + 1) m))) (ap is_undetermined (sym is) ∙ e)
