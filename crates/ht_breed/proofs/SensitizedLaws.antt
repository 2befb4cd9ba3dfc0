-- The paths of pins.
use Rattle.std.specs.Prelude.{set}
use Rattle.std.proofs.Common.{◌≡◌, ◌≢◌, ◌<◌, ◌≤◌, ◌+◌, ◌^◌, ◌-◌, ◌∙◌, ◌++◌, ◌∷◌, ◌&&◌, [], ℕ, List, Bool, true, false, inl, inr, eqb, length, get_or, map, take, drop, ap, sym, subst, refl, arith, bit_and}
use Rattle.std.proofs.Math.Bool.{and_assoc, and-true}
use Rattle.std.proofs.lemmas.Bool.{cases_lt}
use Rattle.std.proofs.lemmas.Nat.Bits.{bit_at-zero, bit_at_ones}
use Rattle.std.proofs.lemmas.List.{take_more, drop_more, drop_all, get_or-map, get_or-set_other, get_or_default, length-map, length-set}
use Rattle.std.proofs.lemmas.Grind.{get_or-set_at}
use Rattle.ht_tern.specs.declared.tern.Tern.{Tern}
use Rattle.ht_tern.specs.declared.tern.Tern.TheVariants.{Unk}
use Rattle.ht_tern.specs.declared.gate.Kind.{Kind}
use Rattle.ht_items.specs.Bits.{is_set}
use Rattle.ht_lanes.specs.Lanes.{Lanes, lane, every_lane, word_at}
use Rattle.ht_lanes.proofs.OperationLaws.{set_and}
use Rattle.ht_breed.specs.declared.paths.Paths.{Paths}
use Rattle.ht_breed.specs.Sensitized.{AreTraced, HasPaths, all_through, is_sensitized, lets_through, no_paths, values_in}

-- what all pins of two lists let through
pub all_through-append : (kind : Kind) (vs ws : List Tern)
    → all_through kind (vs ++ ws) ≡ (all_through kind vs && all_through kind ws)
all_through-append kind [] ws = refl
all_through-append kind (v ∷ vs) ws =
    ap (λ b. lets_through kind v && b) (all_through-append kind vs ws)
    ∙ sym (and_assoc (lets_through kind v) (all_through kind vs) (all_through kind ws))

-- the value of a pin in a lane
pub value_at : (words : List Lanes) (k i : ℕ) (w : Lanes) (d : Tern) → i < length words
    → get_or words i (every_lane Unk) ≡ w → get_or (values_in k words) i d ≡ lane w k
value_at words k i w d inside is =
    get_or-map (λ (x : Lanes). lane x k) words i (every_lane Unk) d inside ∙ ap (λ (x : Lanes). lane x k) is

count_of_values : (words : List Lanes) (k : ℕ) → length (values_in k words) ≡ length words
count_of_values words k = length-map words (λ (x : Lanes). lane x k)

-- one more pin from the front
pub earlier_more : (kind : Kind) (words : List Lanes) (k i : ℕ) (w : Lanes) → i < length words
    → get_or words i (every_lane Unk) ≡ w
    → all_through kind (take (i + 1) (values_in k words))
    ≡ (all_through kind (take i (values_in k words)) && lets_through kind (lane w k))
earlier_more kind words k i w inside is =
    let vs : List Tern = values_in k words in
    let count = count_of_values words k in
    ap (all_through kind) (take_more vs i Unk (omega (arith, inside, count)))
    ∙ all_through-append kind (take i vs) (get_or vs i Unk ∷ [])
    ∙ ap (λ b. all_through kind (take i vs) && b)
    (and-true (lets_through kind (get_or vs i Unk)) ∙ ap (lets_through kind) (value_at words k i w Unk inside is))

-- one more pin from the back
pub later_more : (kind : Kind) (words : List Lanes) (k i : ℕ) (w : Lanes) → i < length words
    → get_or words i (every_lane Unk) ≡ w
    → all_through kind (drop i (values_in k words))
    ≡ (lets_through kind (lane w k) && all_through kind (drop (i + 1) (values_in k words)))
later_more kind words k i w inside is =
    let vs : List Tern = values_in k words in
    let count = count_of_values words k in
    ap (all_through kind) (drop_more vs i Unk (omega (arith, inside, count)))
    ∙ ap (λ v. lets_through kind v && all_through kind (drop (i + 1) vs)) (value_at words k i w Unk inside is)

-- a set of lanes cuts paths to those in which a test holds
pub within_has : (paths pin : Paths) (lanes : ℕ) (test : ℕ → Bool)
    → pin ≡ record { output = bit_and paths.output lanes; end = bit_and paths.end lanes }
    → ((k : ℕ) → k < 64 → is_set lanes k ≡ test k) → HasPaths paths test pin
within_has paths pin lanes test is exact = record {
  shows = λ k below. ap (λ (p : Paths). is_set p.output k) is ∙ set_and paths.output lanes k
      ∙ ap (λ b. is_set paths.output k && b) (exact k below);
  stored = λ k below. ap (λ (p : Paths). is_set p.end k) is ∙ set_and paths.end lanes k
      ∙ ap (λ b. is_set paths.end k && b) (exact k below);
}

-- the paths of a pin by two tests, one after the other
pub has_twice : (paths mid pin : Paths) (test more both : ℕ → Bool) → HasPaths paths test mid → HasPaths mid more pin
    → ((k : ℕ) → k < 64 → (test k && more k) ≡ both k) → HasPaths paths both pin
has_twice paths mid pin test more both first second same = record {
  shows = λ k below. second.shows k below ∙ ap (λ b. b && more k) (first.shows k below)
      ∙ and_assoc (is_set paths.output k) (test k) (more k) ∙ ap (λ b. is_set paths.output k && b) (same k below);
  stored = λ k below. second.stored k below ∙ ap (λ b. b && more k) (first.stored k below)
      ∙ and_assoc (is_set paths.end k) (test k) (more k) ∙ ap (λ b. is_set paths.end k && b) (same k below);
}

-- the paths of a line that has none
pub none_has : (paths : Paths) (test : ℕ → Bool) → paths.output ≡ 0 → paths.end ≡ 0 → HasPaths paths test no_paths
none_has paths test output end_is = record {
  shows = λ k below. ap (λ n. eqb n 1) (bit_at-zero k)
      ∙ ap (λ b. b && test k) (sym (ap (λ n. is_set n k) output ∙ ap (λ n. eqb n 1) (bit_at-zero k)));
  stored = λ k below. ap (λ n. eqb n 1) (bit_at-zero k)
      ∙ ap (λ b. b && test k) (sym (ap (λ n. is_set n k) end_is ∙ ap (λ n. eqb n 1) (bit_at-zero k)));
}

-- the word of the net at a pin
pub word_of_pin : (values : List Lanes) (nets : List ℕ) (i : ℕ) (w : Lanes) (d : ℕ) → i < length nets
    → w ≡ word_at values (get_or nets i d)
    → get_or (map (λ net. word_at values net) nets) i (every_lane Unk) ≡ w
word_of_pin values nets i w d inside is =
    get_or-map (λ (net : ℕ). word_at values net) nets i d (every_lane Unk) inside ∙ sym is

-- paths in a set of lanes
abbrev pub IsWithin : Paths → ℕ → Paths → Type 0
IsWithin paths lanes pin = pin ≡ record { output = bit_and paths.output lanes; end = bit_and paths.end lanes }

-- a set of lanes is that of a pin that lets an effect through
abbrev pub AreSideLanes : Kind → Lanes → ℕ → Type 0
AreSideLanes kind w lanes = (k : ℕ) → k < 64 → is_set lanes k ≡ lets_through kind (lane w k)

-- the order of two tests is free
swapped : (a b : Bool) → (a && b) ≡ (b && a)
swapped true true = refl
swapped true false = refl
swapped false true = refl
swapped false false = refl

-- The pins before one have their paths by the pins before each, and the lanes are those in which all of them let an
-- effect through.
pub record AreEarlier (kind : Kind) (words : List Lanes) (output : Paths) (pins : List Paths) (lanes i : ℕ)
    : Type 0 where
  pub each : (j : ℕ) → j < i
      → HasPaths output (λ k. all_through kind (take j (values_in k words))) (get_or pins j no_paths)
  pub exact : (k : ℕ) → k < 64 → is_set lanes k ≡ all_through kind (take i (values_in k words))

pub earlier_starts : (kind : Kind) (words : List Lanes) (output : Paths) (pins : List Paths)
    → AreEarlier kind words output pins (2 ^ 64 - 1) 0
earlier_starts kind words output pins = record {
  each = λ j none. absurd (omega (arith, none));
  exact = λ k below. ap (λ n. eqb n 1) (bit_at_ones 64 k below);
}

pub earlier_steps : (kind : Kind) (words : List Lanes) (output : Paths) (pins : List Paths) (lanes side i : ℕ)
    (pin : Paths) (w : Lanes) → i < length words → i < length pins → IsWithin output lanes pin
    → get_or words i (every_lane Unk) ≡ w → AreSideLanes kind w side → AreEarlier kind words output pins lanes i
    → AreEarlier kind words output (set pins i pin) (bit_and lanes side) (i + 1)
earlier_steps kind words output pins lanes side i pin w inside room is read sides done = record {
  each = λ j below. elim (cases_lt j i) [
    | inl before ↦
        let other : j ≢ i = λ e. absurd (omega (arith, before, e)) in
        subst (HasPaths output (λ k. all_through kind (take j (values_in k words))))
        (sym (get_or-set_other pins i j pin no_paths other)) (done.each j before)
    | inr from ↦
        let here : j ≡ i = omega (arith, below, from) in
        subst (HasPaths output (λ k. all_through kind (take j (values_in k words))))
        (sym (get_or-set_at pins i j pin no_paths here room))
        (within_has output pin lanes (λ k. all_through kind (take j (values_in k words))) is
        (λ k small. done.exact k small ∙ ap (λ n. all_through kind (take n (values_in k words))) (sym here)))
  ];
  exact = λ k small. set_and lanes side k ∙ (λ t. done.exact k small t && sides k small t)
      ∙ sym (earlier_more kind words k i w inside read);
}

-- The pins from one on have what they had, in the lanes in which all pins after each let an effect through; those
-- before are as they were; and the lanes are those in which all from it on do.
pub record AreLater (kind : Kind) (words : List Lanes) (old pins : List Paths) (lanes i : ℕ) : Type 0 where
  pub each : (j : ℕ) → i ≤ j → j < length words → HasPaths (get_or old j no_paths)
      (λ k. all_through kind (drop (j + 1) (values_in k words))) (get_or pins j no_paths)
  pub same : (j : ℕ) → j < i → get_or pins j no_paths ≡ get_or old j no_paths
  pub exact : (k : ℕ) → k < 64 → is_set lanes k ≡ all_through kind (drop i (values_in k words))

-- after the last pin there is none
pub none_later : (kind : Kind) (words : List Lanes) (k n : ℕ) → n ≡ length words
    → all_through kind (drop n (values_in k words)) ≡ true
none_later kind words k n is =
    let count = count_of_values words k in
    ap (all_through kind) (drop_all n (values_in k words) (omega (arith, is, count)))

pub later_starts : (kind : Kind) (words : List Lanes) (pins : List Paths) (n : ℕ) → n ≡ length words
    → AreLater kind words pins pins (2 ^ 64 - 1) n
later_starts kind words pins n is = record {
  each = λ j from below. absurd (omega (arith, from, below, is));
  same = λ j below. refl;
  exact = λ k below. ap (λ n. eqb n 1) (bit_at_ones 64 k below) ∙ sym (none_later kind words k n is);
}

pub later_steps : (kind : Kind) (words : List Lanes) (old pins : List Paths) (lanes side i n : ℕ) (pin d : Paths)
    (w : Lanes) → i ≡ n + 1 → n < length words → n < length pins → IsWithin (get_or pins n d) lanes pin
    → get_or words n (every_lane Unk) ≡ w → AreSideLanes kind w side → AreLater kind words old pins lanes i
    → AreLater kind words old (set pins n pin) (bit_and lanes side) n
later_steps kind words old pins lanes side i n pin d w next inside room is read sides done = record {
  each = λ j from below. elim (cases_lt n j) [
    | inl after ↦
        let other : j ≢ n = λ e. absurd (omega (arith, after, e)) in
        subst (HasPaths (get_or old j no_paths) (λ k. all_through kind (drop (j + 1) (values_in k words))))
        (sym (get_or-set_other pins n j pin no_paths other)) (done.each j (omega (arith, next, after)) below)
    | inr to ↦
        let here : j ≡ n = omega (arith, from, to) in
        let was : get_or pins n d ≡ get_or old j no_paths = get_or_default pins n d no_paths room
        ∙ ap (λ (m : ℕ). get_or pins m no_paths) (sym here) ∙ done.same j (omega (arith, next, here)) in
        subst (HasPaths (get_or old j no_paths) (λ k. all_through kind (drop (j + 1) (values_in k words))))
        (sym (get_or-set_at pins n j pin no_paths here room))
        (within_has (get_or old j no_paths) pin lanes (λ k. all_through kind (drop (j + 1) (values_in k words)))
        (subst (λ (p : Paths). IsWithin p lanes pin) was is)
        (λ k small. done.exact k small
        ∙ ap (λ m. all_through kind (drop m (values_in k words))) (let e : i ≡ j + 1 = omega (arith, next, here) in e)))
  ];
  same = λ j below.
      let other : j ≢ n = λ e. absurd (omega (arith, below, e)) in
      get_or-set_other pins n j pin no_paths other ∙ done.same j (omega (arith, next, below));
  exact = λ k small. set_and lanes side k ∙ (λ t. done.exact k small t && sides k small t)
      ∙ swapped (all_through kind (drop i (values_in k words))) (lets_through kind (lane w k))
      ∙ ap (λ m. lets_through kind (lane w k) && all_through kind (drop m (values_in k words))) next
      ∙ sym (later_more kind words k n w inside read);
}

-- The two pins of a gate.
pub two_traced : (kind : Kind) (words : List Lanes) (output first second : Paths) (pins : List Paths)
    (beside_first beside_second : ℕ) (v w : Lanes) → length words ≡ 2 → length pins ≡ 2
    → get_or words 0 (every_lane Unk) ≡ v → get_or words 1 (every_lane Unk) ≡ w
    → AreSideLanes kind w beside_first → AreSideLanes kind v beside_second → IsWithin output beside_first first
    → IsWithin output beside_second second → AreTraced kind words output (set (set pins 0 first) 1 second)
two_traced kind words output first second pins beside_first beside_second v w two room v_is w_is by_w by_v a b
    i inside =
    elim (cases_lt i 1) [
      | inl low ↦
          let here : i ≡ 0 = omega (arith, low) in
          let other : i ≢ 1 = λ e. absurd (omega (arith, low, e)) in
          subst (HasPaths output (λ k. is_sensitized kind (values_in k words) i))
          (sym (get_or-set_other (set pins 0 first) 1 i second no_paths other
          ∙ get_or-set_at pins 0 i first no_paths here (omega (arith, room))))
          (within_has output first beside_first (λ k. is_sensitized kind (values_in k words) i) a (λ k small.
          by_w k small ∙ sym (first_of_two k) ∙ ap (λ n. is_sensitized kind (values_in k words) n) (sym here)))
      | inr high ↦
          let here : i ≡ 1 = omega (arith, high, inside, two) in
          let count = length-set pins 0 first in
          subst (HasPaths output (λ k. is_sensitized kind (values_in k words) i))
          (sym (get_or-set_at (set pins 0 first) 1 i second no_paths here (omega (arith, room, count))))
          (within_has output second beside_second (λ k. is_sensitized kind (values_in k words) i) b (λ k small.
          by_v k small ∙ sym (second_of_two k) ∙ ap (λ n. is_sensitized kind (values_in k words) n) (sym here)))
    ] where
      first_of_two : (k : ℕ) → is_sensitized kind (values_in k words) 0 ≡ lets_through kind (lane w k)
      first_of_two k = later_more kind words k 1 w (omega (arith, two)) w_is
          ∙ ap (λ b. lets_through kind (lane w k) && b) (none_later kind words k 2 (sym two))
          ∙ and-true (lets_through kind (lane w k))

      second_of_two : (k : ℕ) → is_sensitized kind (values_in k words) 1 ≡ lets_through kind (lane v k)
      second_of_two k = ap (λ b. all_through kind (take 1 (values_in k words)) && b)
          (none_later kind words k 2 (sym two)) ∙ and-true (all_through kind (take 1 (values_in k words)))
          ∙ earlier_more kind words k 0 v (omega (arith, two)) v_is
