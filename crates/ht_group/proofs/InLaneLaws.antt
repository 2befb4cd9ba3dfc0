-- What stands in one lane of words that are read and written.
use Rattle.std.specs.Prelude.{set}
use Rattle.std.proofs.Common.{◌≡◌, ◌≢◌, ◌<◌, ◌∙◌, ℕ, List, length, get_or, ap, sym, arith, ◌&&◌, cond, eqb, inl, inr}
use Rattle.std.proofs.lemmas.Bool.Decides.{eqb_tells}
use Rattle.std.proofs.lemmas.List.{get_or-map, map-set, length-map, get_or-set_same, get_or-set_other, ext_get_or}
use Rattle.std.proofs.Math.ListN.{get_or-map as mapped_get_or}
use Rattle.ht_tern.specs.declared.tern.Tern.{Tern}
use Rattle.ht_tern.specs.declared.tern.Tern.TheVariants.{Unk}
use Rattle.ht_lanes.specs.Lanes.{Lanes, lane, with_lane, every_lane, word_at}
use Rattle.ht_lanes.specs.Inverse.{lane_of_each}
use Rattle.ht_group.specs.LaneRules.{in_lane, lane_env}

-- a word that was read
pub lane_read : (words : List Lanes) (x : ℕ) (w : Lanes) → x < length words → w ≡ get_or words x w
    → (k : ℕ) → lane w k ≡ lane_env k words x
lane_read words x w inside is k =
    ap (λ (v : Lanes). lane v k) is ∙ sym (get_or-map (λ (v : Lanes). lane v k) words x w Unk inside)

-- a net's value in a lane is that lane of the net's word
pub lane_get : (k : ℕ) → k < 64 → (words : List Lanes) (x : ℕ) → lane_env k words x ≡ lane (word_at words x) k
lane_get k below words x =
    ap (get_or (in_lane k words) x) (sym (lane_of_each (λ i. Unk) k below))
    ∙ mapped_get_or (λ (v : Lanes). lane v k) words x (every_lane Unk)

-- a word that was written, and the others
pub lane_written : (words : List Lanes) (x : ℕ) (w : Lanes) → x < length words
    → (k : ℕ) → lane_env k (set words x w) x ≡ lane w k
lane_written words x w inside k =
    let f = λ (v : Lanes). lane v k in
    ap (λ (l : List Tern). get_or l x Unk) (map-set f words x w)
    ∙ get_or-set_same (in_lane k words) x (lane w k) Unk (let e = length-map words f in omega (arith, e, inside))

-- after a word is written, every other net has the same value in each lane as before
pub lane_unwritten : (words : List Lanes) (x : ℕ) (w : Lanes) (k y : ℕ) → y ≢ x
    → lane_env k (set words x w) y ≡ lane_env k words y
lane_unwritten words x w k y ne =
    ap (λ (l : List Tern). get_or l y Unk) (map-set (λ (v : Lanes). lane v k) words x w)
    ∙ get_or-set_other (in_lane k words) x y (lane w k) Unk ne

-- One lane of one word is written.
pub one_lane_written : (words : List Lanes) (x : ℕ) (old w : Lanes) (k : ℕ) (v : Tern) → x < length words
    → old ≡ get_or words x old → w ≡ with_lane old k v → (y n : ℕ) → n < 64
    → lane_env n (set words x w) y ≡ cond (eqb y x && eqb n k) v (lane_env n words y)
one_lane_written words x old w k v inside read is y n below = elim (eqb_tells y x) [
  | inl p ↦
      rw p.0 (ap (lane_env n (set words x w)) p.1
      ∙ (lane_written words x w inside n
      ∙ (ap (λ (u : Lanes). lane u n) is
      ∙ (lane_of_each (λ m. cond (eqb m k) v (lane old m)) n below
      ∙ ap (cond (eqb n k) v) (lane_read words x old inside read n ∙ ap (lane_env n words) (sym p.1))))))
  | inr p ↦ rw p.0 (lane_unwritten words x w n y p.1)
]

-- Two lists of words have the same lane where they have it word by word.
pub same_lane : (k : ℕ) (s t : List Lanes) → length s ≡ length t
    → ((x : ℕ) → x < length s → lane_env k s x ≡ lane_env k t x) → in_lane k s ≡ in_lane k t
same_lane k s t count same =
    let f = λ (w : Lanes). lane w k in
    let a = length-map s f in
    let b = length-map t f in
    ext_get_or Unk (in_lane k s) (in_lane k t) (omega (arith, a, b, count))
    (λ x inside. same x (omega (arith, inside, a)))
