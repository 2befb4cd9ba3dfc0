-- The sets of a window, as one frame after the other is added.
use Rattle.std.proofs.Common.{◌≡◌, ◌<◌, ◌≤◌, ◌+◌, ◌*◌, ◌++◌, inl, inr, ℕ, suc, List, [], length, get_or, length-append, refl, sym, ◌∙◌, ap, arith}
use Rattle.std.proofs.Math.Nat.{suc-mul, mul-le-mul_right}
use Rattle.std.proofs.lemmas.Bool.Decides.{eqb_tells}
use Rattle.std.proofs.lemmas.List.{get_or_append_left, get_or-append-add}
use Rattle.ht_pairs.specs.Pairs.{Pair}
use Rattle.ht_net.specs.Circuit.Netlist.{net_count, no_net}
use Rattle.ht_net.specs.Frames.Frame.{data_values, next_state}
use Rattle.ht_net.proofs.ValueLaws.{taken_same}
use Rattle.ht_frame.specs.Values.{env_of}
use Rattle.ht_tree.specs.declared.token.Assign3.{Assign3}
use Rattle.ht_tree.specs.Window.Windows.{SearchWindow, IsWindow, cell_at, first_latches, latches_at, pair_set_rules}
use Rattle.ht_window.specs.Cells.{blank, env_at}

-- the sets of the first n frames of a window
pub record HasFrames (w : SearchWindow) (path : List Assign3) (n : ℕ) (sets : List (List Pair)) : Type 0 where
  pub count : length sets ≡ n * net_count w.circuit
  pub frames : (f x : ℕ) → f < n → x < net_count w.circuit → env_at w sets f x ≡ cell_at w path f x

module _ (w : SearchWindow) (path : List Assign3) where
  -- the latches of frame 0 are those of the start
  pub first_frame : first_latches w path ≡ latches_at w path 0
  unfolding latches_at
  first_frame = refl

  -- an empty list has the sets of no frame
  pub no_frame : (sets : List (List Pair)) → sets ≡ [] → HasFrames w path 0 sets
  no_frame sets none = record {
    count = (let e = ap length none in omega (arith, e));
    frames = λ f x fs xs. absurd (omega (arith, fs));
  }

  -- what the latches take from a frame
  pub latches_taken : IsWindow w → (f : ℕ) (row : List (List Pair))
      → ((x : ℕ) → x < net_count w.circuit → env_of blank row x ≡ cell_at w path f x)
      → data_values (pair_set_rules w.fault) (env_of blank row) 0 w.circuit.dffs ≡ latches_at w path (f + 1)
  unfolding latches_at next_state
  latches_taken valid f row sets =
      let next : suc f ≡ f + 1 = omega arith in
      let taken : data_values (pair_set_rules w.fault) (env_of blank row) 0 w.circuit.dffs ≡ latches_at w path (suc f) =
      taken_same (pair_set_rules w.fault) (env_of blank row) (cell_at w path f) 0 w.circuit.dffs
      (λ j l. sets (get_or w.circuit.dffs j no_net).0 (valid.circuit.data_known j l)) in
      taken ∙ ap (latches_at w path) next

  -- with the row of the next frame's cells at the end, the sets are those of one more frame
  pub one_more_frame : (n : ℕ) (sets row more : List (List Pair)) → more ≡ sets ++ row
      → length row ≡ net_count w.circuit
      → ((x : ℕ) → x < net_count w.circuit → get_or row x blank ≡ cell_at w path n x)
      → HasFrames w path n sets → HasFrames w path (n + 1) more
  one_more_frame n sets row more is wide here h =
      let nets = net_count w.circuit in
      let long = h.count in
      let next : suc n * nets ≡ n * nets + nets = suc-mul n nets in
      let at : suc n * nets ≡ (n + 1) * nets = (let e : suc n ≡ n + 1 = omega arith in ap (λ (k : ℕ). k * nets) e) in
      record {
        count = (let e = ap length is in let a = length-append sets row in omega (arith, e, a, long, wide, next, at));
        frames = λ f x fs xs. ap (λ (l : List (List Pair)). env_at w l f x) is ∙ (elim (eqb_tells f n) [
          | inl p ↦
              let same : f * nets + x ≡ length sets + x = (let e = ap (λ (k : ℕ). k * nets) p.1 in
              omega (arith, e, long)) in
              ap (λ (k : ℕ). get_or (sets ++ row) k blank) same
              ∙ (get_or-append-add sets row x blank ∙ (here x xs ∙ ap (λ (k : ℕ). cell_at w path k x) (sym p.1)))
          | inr p ↦
              let ne = p.1 in
              let up : suc f * nets ≤ n * nets = mul-le-mul_right nets (omega (arith, fs, ne)) in
              let e : suc f * nets ≡ f * nets + nets = suc-mul f nets in
              get_or_append_left sets row blank (f * nets + x) (omega (arith, up, e, xs, long))
              ∙ h.frames f x (omega (arith, fs, ne)) xs
        ]);
      }
