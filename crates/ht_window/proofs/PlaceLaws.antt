-- The places of cells.
use Rattle.std.proofs.Common.{◌≡◌, ◌≢◌, ◌<◌, ◌≤◌, ◌+◌, ◌*◌, ◌/◌, ◌%◌, ◌⊎◌, inl, inr, ℕ, suc, zero, List, length, set, sym, ◌∙◌, ap, arith}
use Rattle.std.proofs.lemmas.Nat.{div-mul-add, mod-mul-add}
use Rattle.std.proofs.Math.Nat.{mul-le-mul_right, div-lt_iff_lt-mul, mod-lt, suc-mul, mul-zero}
use Rattle.std.proofs.lemmas.List.{get_or-set_same, get_or-set_other}
use Rattle.std.proofs.lemmas.Bool.Decides.{eqb_tells}
use Rattle.ht_pairs.specs.Pairs.{Pair}
use Rattle.ht_net.specs.Circuit.Netlist.{net_count}
use Rattle.ht_tree.specs.Window.Windows.{SearchWindow}
use Rattle.ht_window.specs.Cells.{cell_index, cell_count, env_at, blank}

-- rows of n: the place of x in row f is told apart from the others
pub rows_row : (n f g x y : ℕ) → x < n → y < n → f * n + x ≡ g * n + y → f ≡ g
rows_row n f g x y xs ys e = sym (div-mul-add f n x xs) ∙ (ap (λ (p : ℕ). p / n) e ∙ div-mul-add g n y ys)

-- in rows of n, equal indices have equal offsets in their rows
pub rows_in_row : (n f g x y : ℕ) → x < n → y < n → f * n + x ≡ g * n + y → x ≡ y
rows_in_row n f g x y xs ys e = sym (mod-mul-add f n x xs) ∙ (ap (λ (p : ℕ). p % n) e ∙ mod-mul-add g n y ys)

-- in k rows of n, an index in one of the k is below k * n
pub rows_inside : (n k f x : ℕ) → f < k → x < n → f * n + x < k * n
rows_inside n k f x fs xs =
    let m : suc f * n ≤ k * n = mul-le-mul_right n (omega (arith, fs)) in
    let e : suc f * n ≡ f * n + n = suc-mul f n in
    omega (arith, m, e, xs)

-- rows that have an index aren't empty
pub rows_some : (n k p : ℕ) → p < k * n → 0 < n
rows_some zero k p h = let e = mul-zero k in absurd (omega (arith, e, h))
rows_some (suc n) k p h = omega arith

-- in k rows of n, the row of an index is one of the k
pub rows_frame : (n k p : ℕ) → p < k * n → p / n < k
rows_frame n k p h = (div-lt_iff_lt-mul {k = n} {x = p} {y = k} (rows_some n k p h)).1 h

-- in rows of n, the offset of an index in its row is below n
pub rows_local : (n k p : ℕ) → p < k * n → p % n < n
rows_local n k p h = mod-lt p (rows_some n k p h)

module _ (w : SearchWindow) (values : List (List Pair)) (count : length values ≡ cell_count w) (f x : ℕ) (v : List Pair)
    (fs : f < w.frames) (xs : x < net_count w.circuit) where
  -- the cell that is written, and the others
  pub written : env_at w (set values (cell_index w f x) v) f x ≡ v
  written = let h = rows_inside (net_count w.circuit) w.frames f x fs xs in get_or-set_same values (cell_index w f x) v
      blank
      (omega (arith, h, count))

  -- after the write of a cell each other cell is as it was
  pub unwritten : (g y : ℕ) → y < net_count w.circuit → (g ≢ f) ⊎ (y ≢ x) → env_at w (set values (cell_index w f x) v) g
      y
      ≡ env_at w values g y
  unwritten g y ys ne = get_or-set_other values (cell_index w f x) (cell_index w g y) v blank (apart ne) where
    apart : (g ≢ f) ⊎ (y ≢ x) → cell_index w g y ≢ cell_index w f x
    apart (inl h) e = h (rows_row (net_count w.circuit) g f y x ys xs e)
    apart (inr h) e = h (rows_in_row (net_count w.circuit) g f y x ys xs e)

  -- it is this one, or another
  pub this_or_other : (g y : ℕ) → ((g ≡ f) × (y ≡ x)) ⊎ ((g ≢ f) ⊎ (y ≢ x))
  this_or_other g y = elim (eqb_tells g f) [
    | inl p ↦ elim (eqb_tells y x) [
      | inl q ↦ inl (p.1, q.1)
      | inr q ↦ inr (inr q.1)
    ]
    | inr p ↦ inr (inl p.1)
  ]
