-- What is kept of the machines in the lanes of a word, while those of a set of lanes are still to be changed.
use Rattle.std.proofs.Common.{◌≡◌, ◌≢◌, ◌<◌, ◌≤◌, ◌+◌, ℕ, List, false, inl, inr, length, get_or, set, cond, refl, sym, ◌∙◌, ap, subst, arith}
use Rattle.std.proofs.lemmas.Bool.{cases_eq}
use Rattle.std.proofs.lemmas.List.{get_or-set_same, get_or-set_other, get_or_read, length-set}
use Rattle.ht_items.specs.Bits.{is_set}
use Rattle.ht_tern.specs.declared.tern.Tern.{Tern}
use Rattle.ht_tern.specs.declared.tern.Tern.TheVariants.{Zero, One, Unk}
use Rattle.ht_proofs.proofs.LaneLaws.{IsFirstSet, without, without_other, without_same}
use Rattle.ht_causes.specs.declared.track.Track.{Track}
use Rattle.ht_causes.specs.Compared.{are_unlike}
use Rattle.ht_causes.specs.Tracks.{HaveNoted, no_track, track_at}

-- ---- a set of lanes

-- the tracks have changed, but in the lanes of the set `rest`
abbrev pub AreNotedBut : ℕ → ℕ → ℕ → (ℕ → Track → Track) → List Track → List Track → Type 0
AreNotedBut from count rest change old new =
    HaveNoted from count (λ k t. cond (is_set rest k) t (change k t)) old new

-- a lane goes out of the set that has no machine
pub noted_past : (from count rest : ℕ) (change : ℕ → Track → Track) (old new : List Track) (k : ℕ) → count ≤ 64
    → IsFirstSet rest k → count ≤ k → AreNotedBut from count rest change old new
    → AreNotedBut from count (without rest k) change old new
noted_past from count rest change old new k few first past so_far = record {
  same_length = so_far.same_length;
  each = λ j less.
      let t = track_at old (from + j) in
      so_far.each j less
      ∙ sym (ap (λ b. cond b t (change j t)) (without_other rest k j first.small (omega (arith, less, few))
      (omega (arith, less, past))));
  before = so_far.before;
  after = so_far.after;
}

-- and one once its track has changed
pub noted_more : (from count rest : ℕ) (change : ℕ → Track → Track) (old mid new : List Track) (k i : ℕ)
    (here changed : Track) → count ≤ 64 → IsFirstSet rest k → k < count → from + count ≤ length mid → i ≡ from + k
    → here ≡ get_or mid i here → changed ≡ change k here → new ≡ set mid i changed
    → AreNotedBut from count rest change old mid → AreNotedBut from count (without rest k) change old new
noted_more from count rest change old mid new k i here changed few first inside room is read sets written so_far =
    record {
      same_length = ap (λ (l : List Track). length l) written ∙ (length-set mid i changed ∙ so_far.same_length);
      each = λ j less. elim (cases_eq j k) [
        | inl same ↦ subst at_lane (sym same) written_lane
        | inr other ↦
            let t = track_at old (from + j) in
            unwritten (from + j) (omega (arith, is, other))
            ∙ (so_far.each j less
            ∙ sym (ap (λ b. cond b t (change j t))
            (without_other rest k j first.small (omega (arith, less, few)) other)))
      ];
      before = λ x less. unwritten x (omega (arith, less, is)) ∙ so_far.before x less;
      after = λ x past. unwritten x (omega (arith, past, is, inside)) ∙ so_far.after x past;
    }
  where
    known : i < length mid
    known = omega (arith, inside, is, room)

    unwritten : (x : ℕ) → x ≢ i → track_at new x ≡ track_at mid x
    unwritten x ne = ap (λ (l : List Track). track_at l x) written ∙ get_or-set_other mid i x changed no_track ne

    at_lane : ℕ → Type 0
    at_lane j = track_at new (from + j)
        ≡ cond (is_set (without rest k) j) (track_at old (from + j)) (change j (track_at old (from + j)))

    before : here ≡ track_at old (from + k)
    before =
        get_or_read mid i here known read no_track
        ∙ (ap (track_at mid) is
        ∙ (so_far.each k inside
        ∙ ap (λ b. cond b (track_at old (from + k)) (change k (track_at old (from + k)))) first.bit))

    written_lane : at_lane k
    written_lane =
        ap (track_at new) (sym is)
        ∙ (ap (λ (l : List Track). track_at l i) written
        ∙ (get_or-set_same mid i changed no_track known
        ∙ (sets
        ∙ (ap (change k) before
        ∙ sym (ap (λ b. cond b (track_at old (from + k)) (change k (track_at old (from + k))))
        (without_same rest k first.small))))))

-- no value is unlike itself
pub unlike_itself : (v : Tern) → are_unlike v v ≡ false
unlike_itself Zero = refl
unlike_itself One = refl
unlike_itself Unk = refl
