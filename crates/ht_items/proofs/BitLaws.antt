-- Marks in words of 64 bits.
use Rattle.std.specs.Prelude.{set, IfNone}
use Rattle.std.specs.Int.{trailing_zeros, w64}
use Rattle.std.proofs.Common.{◌≡◌, ◌≢◌, ◌<◌, ◌≤◌, ◌+◌, ◌-◌, ◌*◌, ◌/◌, ◌%◌, ◌^◌, ◌∙◌, ℕ, List, Bool, true, false, length, get_or, replicate, eqb, ap, sym, subst, arith, Option, Some, None, inl, inr}
use Rattle.std.proofs.Math.Nat.{div-div-eq-div-mul}
use Rattle.std.proofs.lemmas.Nat.{pow-add}
use Rattle.std.proofs.lemmas.Nat.Bits.{bit_at_set_same, bit_at_set_other, bit_at_clear_same, bit_at_clear_other, bit_at-zero, bit_at-trailing_zeros, bit_at_above}
use Rattle.std.proofs.lemmas.Bool.{cases_eq, cases_lt}
use Rattle.std.proofs.lemmas.List.{ext_get_or, get_or-set_same, get_or-set_other, get_or-replicate, get_or_past, get_or_read, length-set, length-replicate}
use Rattle.std.proofs.lemmas.List.FromFn.{get_or-map-range_with_len, length-map-range_with_len}
use Rattle.ht_items.specs.Bits.{is_set, with_bit}
use Rattle.ht_items.specs.BitSets.{IsBitSet, IsFirstMark, is_marked, marks_of}
use Rattle.ht_items.specs.declared.bit_set.BitSet.TheInside.{Inside}

-- One bit is written.
pub bit_here : (bits m : ℕ) (bit : Bool) → m < 64 → is_set (with_bit bits m bit) m ≡ bit
bit_here bits m true below = ap (λ b. eqb b 1) (bit_at_set_same w64 bits m below)
bit_here bits m false below = ap (λ b. eqb b 1) (bit_at_clear_same w64 bits m below)

-- a bit that is written leaves the other bits of its word as they were
pub bit_there : (bits m : ℕ) (bit : Bool) (k : ℕ) → m < 64 → k < 64 → k ≢ m
    → is_set (with_bit bits m bit) k ≡ is_set bits k
bit_there bits m true k below small ne = ap (λ b. eqb b 1) (bit_at_set_other w64 bits m below k ne)
bit_there bits m false k below small ne = ap (λ b. eqb b 1) (bit_at_clear_other w64 bits m below k small ne)

-- The marks of numbers.
pub marks_length : (bound : ℕ) (words : List ℕ) → length (marks_of bound words) ≡ bound
unfolding marks_of
marks_length bound words = length-map-range_with_len (is_marked words) 0 bound

mark_below : (bound : ℕ) (words : List ℕ) (i : ℕ) → i < bound
    → get_or (marks_of bound words) i false ≡ is_marked words i
unfolding marks_of
mark_below bound words i below = get_or-map-range_with_len (is_marked words) 0 bound i i false below (omega arith)

-- where no number from the bound on is marked, the marks say of any number whether it is marked
pub mark_at : (bound : ℕ) (words : List ℕ) → ((i : ℕ) → bound ≤ i → is_marked words i ≡ false) → (i : ℕ)
    → get_or (marks_of bound words) i false ≡ is_marked words i
mark_at bound words past i = elim (cases_lt i bound) [
  | inl below ↦ mark_below bound words i below
  | inr from ↦ get_or_past (marks_of bound words) i false (let e = marks_length bound words in omega (arith, from, e))
      ∙ sym (past i from)
]

-- A number of a set has a bit in one of its words.
pub record HasBit (a : Inside) (i : ℕ) : Type 0 where
  pub below : i < a.bound
  pub inside : i / 64 < length a.words.items

-- a number that the marks of a set cover is below its bound, and has its bit in one of its words
pub bit_of : (a : Inside) → IsBitSet a → (marks : List Bool) → marks_of a.bound a.words.items ≡ marks → (i : ℕ)
    → i < length marks → HasBit a i
bit_of a is marks view i within =
    let count = marks_length a.bound a.words.items in
    let same = ap (λ (l : List Bool). length l) view in
    record {
      below = omega (arith, count, same, within);
      inside = omega (arith, count, same, within, is.room);
    }

-- no bit is set in zeros
pub zeros_unmarked : (n i : ℕ) → is_marked (replicate n 0) i ≡ false
zeros_unmarked n i = ap (λ w. is_set w (i % 64)) (elim (cases_lt (i / 64) n) [
  | inl inside ↦ get_or-replicate n (i / 64) 0 0 inside
  | inr past ↦ get_or_past (replicate n 0) (i / 64) 0 (let zero : ℕ = 0 in let e = length-replicate n zero
      in omega (arith, past, e))
]) ∙ ap (λ b. eqb b 1) (bit_at-zero (i % 64))

-- words of zeros mark no number
pub no_marks : (bound n : ℕ) → marks_of bound (replicate n 0) ≡ replicate bound false
no_marks bound n =
    let a = marks_length bound (replicate n 0) in
    ext_get_or false (marks_of bound (replicate n 0)) (replicate bound false) (a ∙ sym (length-replicate bound false))
    (λ i inside.
    let below : i < bound = omega (arith, inside, a) in
    mark_below bound (replicate n 0) i below ∙ (zeros_unmarked n i ∙ sym (get_or-replicate bound i false false below)))

-- One mark is written.
abbrev pub written : List ℕ → ℕ → Bool → List ℕ
written words i bit = set words (i / 64) (with_bit (get_or words (i / 64) 0) (i % 64) bit)

-- the word that was read, with the mark, stands in its place
pub word_written : (words : List ℕ) (i old new : ℕ) (bit : Bool) → i / 64 < length words
    → old ≡ get_or words (i / 64) old → new ≡ with_bit old (i % 64) bit → set words (i / 64) new ≡ written words i bit
word_written words i old new bit inside read is =
    ap (set words (i / 64))
    (is ∙ ap (λ (n : ℕ). with_bit n (i % 64) bit) (get_or_read words (i / 64) old inside read 0))

-- a number has the mark that is written for it
pub mark_here : (words : List ℕ) (i : ℕ) (bit : Bool) → i / 64 < length words
    → is_marked (written words i bit) i ≡ bit
mark_here words i bit inside =
    ap (λ w. is_set w (i % 64)) (get_or-set_same words (i / 64) (with_bit (get_or words (i / 64) 0) (i % 64) bit) 0
    inside)
    ∙ bit_here (get_or words (i / 64) 0) (i % 64) bit (omega arith)

-- a mark that is written leaves the marks of other numbers as they were
pub mark_there : (words : List ℕ) (i j : ℕ) (bit : Bool) → i / 64 < length words → j ≢ i
    → is_marked (written words i bit) j ≡ is_marked words j
mark_there words i j bit inside ne = elim (cases_eq (j / 64) (i / 64)) [
  | inl e ↦
      let other : j % 64 ≢ i % 64 = λ same. ne (omega (arith, e, same)) in
      ap (λ w. is_set (get_or (written words i bit) w 0) (j % 64)) e
      ∙ (ap (λ w. is_set w (j % 64))
      (get_or-set_same words (i / 64) (with_bit (get_or words (i / 64) 0) (i % 64) bit) 0 inside)
      ∙ (bit_there (get_or words (i / 64) 0) (i % 64) bit (j % 64) (omega arith) (omega arith) other
      ∙ ap (λ w. is_set (get_or words w 0) (j % 64)) (sym e)))
  | inr apart ↦ ap (λ w. is_set w (j % 64))
      (get_or-set_other words (i / 64) (j / 64) (with_bit (get_or words (i / 64) 0) (i % 64) bit) 0 apart)
]

-- a mark that is written for a number sets the mark at its index
pub mark_written : (bound : ℕ) (words : List ℕ) (i : ℕ) (bit : Bool) → i < bound → i / 64 < length words
    → marks_of bound (written words i bit) ≡ set (marks_of bound words) i bit
mark_written bound words i bit below inside =
    let new = written words i bit in
    let old = marks_of bound words in
    let a = marks_length bound new in
    let b = marks_length bound words in
    ext_get_or false (marks_of bound new) (set old i bit) (a ∙ sym (length-set old i bit ∙ b))
    (λ j at.
    let small : j < bound = omega (arith, at, a) in
    mark_below bound new j small ∙ elim (cases_eq j i) [
      | inl e ↦
          ap (is_marked new) e ∙ (mark_here words i bit inside
          ∙ (sym (get_or-set_same old i bit false (omega (arith, below, b)))
          ∙ ap (λ (n : ℕ). get_or (set old i bit) n false) (sym e)))
      | inr ne ↦
          mark_there words i j bit inside ne
          ∙ (sym (mark_below bound words j small) ∙ sym (get_or-set_other old i j bit false ne))
    ])

-- The bits of a word from bit s on.
shifted : (n s k : ℕ) → is_set (n / 2 ^ s) k ≡ is_set n (s + k)
shifted n s k = ap (λ m. eqb (m % 2) 1)
    (div-div-eq-div-mul n (2 ^ s) (2 ^ k) ∙ ap (λ (p : ℕ). n / p) (sym (pow-add 2 s k)))

-- number q, from 64 * w + s on, is bit q - (64 * w + s) of word w without the first s bits
mark_shifted : (words : List ℕ) (w s q : ℕ) → 64 * w + s ≤ q → q < 64 * w + 64
    → is_marked words q ≡ is_set (get_or words w 0 / 2 ^ s) (q - (64 * w + s))
mark_shifted words w s q from below =
    let word : q / 64 ≡ w = omega (arith, from, below) in
    let bit : q % 64 ≡ s + (q - (64 * w + s)) = omega (arith, from, below) in
    (λ i. is_set (get_or words (word i) 0) (bit i)) ∙ sym (shifted (get_or words w 0) s (q - (64 * w + s)))

false_true : false ≡ true → ⊥
false_true h = cc

-- What stands first in the rest of a word.
pub first_mark : (words : List ℕ) (w s rest : ℕ) → s < 64 → rest ≡ get_or words w 0 / 2 ^ s → 0 < rest → rest < 2 ^ 64
    → get_or words w 0 < 2 ^ 64 → IsFirstMark words (64 * w + s) (64 * w + s + trailing_zeros w64 rest)
first_mark words w s rest small is some fits whole =
    let k = trailing_zeros w64 rest in
    let low = bit_at-trailing_zeros w64 rest some fits in
    let word = get_or words w 0 in
    let set_k : is_set (get_or words w 0 / 2 ^ s) (trailing_zeros w64 rest) ≡ true =
    ap (λ n. is_set n (trailing_zeros w64 rest)) (sym is) ∙ ap (λ b. eqb b 1) low.1 in
    let short : s + trailing_zeros w64 rest < 64 = elim (cases_lt (s + trailing_zeros w64 rest) 64) [
      | inl below ↦ below
      | inr past ↦
          let bad : false ≡ true = sym (ap (λ b. eqb b 1) (bit_at_above word 64 (s + k) whole past))
          ∙ (sym (shifted word s k) ∙ set_k) in
          absurd (false_true bad)
    ] in
    record {
      from_on = omega arith;
      marked =
          let at : 64 * w + s + trailing_zeros w64 rest - (64 * w + s) ≡ trailing_zeros w64 rest = omega arith in
          mark_shifted words w s (64 * w + s + k) (omega arith) (omega (arith, short))
          ∙ (ap (is_set (get_or words w 0 / 2 ^ s)) at ∙ set_k);
      least = λ q from below.
          mark_shifted words w s q from (omega (arith, below, short))
          ∙ (ap (λ n. is_set n (q - (64 * w + s))) (sym is)
          ∙ ap (λ b. eqb b 1) (low.2 (q - (64 * w + s)) (omega (arith, from, below))));
    }

-- where a word without its first s bits is 0, none of its numbers from bit s on is marked
pub none_in_word : (words : List ℕ) (w s : ℕ) → get_or words w 0 / 2 ^ s ≡ 0 → (q : ℕ) → 64 * w + s ≤ q
    → q < 64 * w + 64 → is_marked words q ≡ false
none_in_word words w s none q from below =
    mark_shifted words w s q from below
    ∙ (ap (λ n. is_set n (q - (64 * w + s))) none ∙ ap (λ b. eqb b 1) (bit_at-zero (q - (64 * w + s))))

whole : (n : ℕ) → n ≡ n / 2 ^ 0
whole n = omega arith

-- the same of a whole word
pub first_in_word : (words : List ℕ) (w word : ℕ) → word ≡ get_or words w 0 → 0 < word → word < 2 ^ 64
    → IsFirstMark words (64 * w) (64 * w + trailing_zeros w64 word)
first_in_word words w word is some fits =
    let start : 64 * w + 0 ≡ 64 * w = omega arith in
    let rest : word ≡ get_or words w 0 / 2 ^ 0 = is ∙ whole (get_or words w 0) in
    subst (λ (n : ℕ). IsFirstMark words n (n + trailing_zeros w64 word)) start
    (first_mark words w 0 word (omega arith) rest some fits (subst (λ (n : ℕ). n < 2 ^ 64) is fits))

-- no number is marked before it
pub first_after : (words : List ℕ) (from middle i : ℕ) → from ≤ middle
    → ((q : ℕ) → from ≤ q → q < middle → is_marked words q ≡ false)
    → IsFirstMark words middle i → IsFirstMark words from i
first_after words from middle i le none h = record {
  from_on = let on = h.from_on in omega (arith, le, on);
  marked = h.marked;
  least = λ q at below. elim (cases_lt q middle) [
    | inl before ↦ none q at before
    | inr after ↦ h.least q after below
  ];
}

-- where a word is 0, none of its numbers is marked
pub zero_word : (words : List ℕ) (w : ℕ) → get_or words w 0 ≡ 0 → (q : ℕ) → 64 * w ≤ q → q < 64 * w + 64
    → is_marked words q ≡ false
zero_word words w none q from below =
    none_in_word words w 0 (sym (whole (get_or words w 0)) ∙ none) q (omega (arith, from)) below

-- what follows where there is no value
pub none_then : {P Q : Type 0} → (r : Option ℕ) → IfNone r P → (P → Q) → IfNone r Q
none_then None h f = f h
none_then (Some i) h f = tt

-- The first mark, as a set shows it.
pub record ShowsFirstMark (marks : List Bool) (from i : ℕ) : Type 0 where
  pub within : i < length marks
  pub marked : get_or marks i false ≡ true
  pub least : (q : ℕ) → from ≤ q → q < i → get_or marks q false ≡ false

-- the first number that the words of a set mark is the first that its marks show
pub first_seen : (a : Inside) → IsBitSet a → (marks : List Bool) → marks_of a.bound a.words.items ≡ marks
    → (from i : ℕ) → IsFirstMark a.words.items from i → ShowsFirstMark marks from i
first_seen a is marks view from i h =
    let seen : (q : ℕ) → get_or marks q false ≡ is_marked a.words.items q =
    λ q. ap (λ (l : List Bool). get_or l q false) (sym view) ∙ mark_at a.bound a.words.items is.past q in
    record {
      within = elim (cases_lt i a.bound) [
        | inl below ↦ let n = ap (λ (l : List Bool). length l) view in
            let count = marks_length a.bound a.words.items in omega (arith, below, n, count)
        | inr past ↦ absurd (false_true (sym (is.past i past) ∙ h.marked))
      ];
      marked = seen i ∙ h.marked;
      least = λ q at below. seen q ∙ h.least q at below;
    }
