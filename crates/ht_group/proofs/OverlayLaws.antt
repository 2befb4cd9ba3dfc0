-- Words that have their good value in every lane.
use Rattle.std.specs.Prelude.{set}
use Rattle.std.proofs.Common.{◌≡◌, ◌≢◌, ◌<◌, ◌≤◌, ◌+◌, ◌∙◌, ℕ, List, Bool, false, length, get_or, ap, sym, arith, inl, inr}
use Rattle.std.proofs.lemmas.Bool.Decides.{eqb_tells}
use Rattle.std.proofs.lemmas.Bool.{cases_lt}
use Rattle.std.proofs.lemmas.List.{ext_get_or, length-map}
use Rattle.ht_tern.specs.declared.tern.Tern.{Tern}
use Rattle.ht_tern.specs.declared.tern.Tern.TheVariants.{Unk}
use Rattle.ht_lanes.specs.Lanes.{Lanes, lane, every_lane}
use Rattle.ht_lanes.specs.Inverse.{lane_of_each}
use Rattle.ht_group.specs.LaneRules.{in_lane, lane_env}
use Rattle.ht_group.specs.Overlays.{IsGoodWord}
use Rattle.ht_group.proofs.InLaneLaws.{lane_written, lane_unwritten}

-- where each word has its good value in every lane, every lane has the good values
pub good_words : (good : List Tern) (words : List Lanes) → length words ≡ length good
    → ((i : ℕ) → i < length good → IsGoodWord good words i) → (k : ℕ) → k < 64 → in_lane k words ≡ good
good_words good words count each k below =
    let long = length-map words (λ (w : Lanes). lane w k) in
    ext_get_or Unk (in_lane k words) good (long ∙ count)
    (λ i inside. each i (omega (arith, inside, long, count)) k below)

-- a word gets its good value
pub good_written : (good : List Tern) (words : List Lanes) (x : ℕ) (word : Lanes) → x < length words
    → word ≡ every_lane (get_or good x Unk) → (i : ℕ) → (i ≢ x → IsGoodWord good words i)
    → IsGoodWord good (set words x word) i
good_written good words x word inside is i other k below = elim (eqb_tells i x) [
  | inl p ↦
      ap (lane_env k (set words x word)) p.1
      ∙ (lane_written words x word inside k
      ∙ (ap (λ (w : Lanes). lane w k) is
      ∙ (lane_of_each (λ n. get_or good x Unk) k below ∙ ap (λ n. get_or good n Unk) (sym p.1))))
  | inr p ↦ lane_unwritten words x word k i p.1 ∙ other p.1 k below
]

-- the same where x is the first from `from` on that may have another word
pub good_up_to : (good : List Tern) (words : List Lanes) (written : List Bool) (from x : ℕ) (word : Lanes)
    → x < length words → word ≡ every_lane (get_or good x Unk)
    → ((i : ℕ) → i < from → i < length good → IsGoodWord good words i)
    → ((i : ℕ) → i < length good → get_or written i false ≡ false → IsGoodWord good words i)
    → ((q : ℕ) → from ≤ q → q < x → get_or written q false ≡ false)
    → (i : ℕ) → i < x + 1 → i < length good → IsGoodWord good (set words x word) i
good_up_to good words written from x word inside is done rest least i below at =
    good_written good words x word inside is i
    (λ ne. elim (cases_lt i from) [
      | inl before ↦ done i before at
      | inr after ↦ rest i at (least i after (omega (arith, below, ne)))
    ])
