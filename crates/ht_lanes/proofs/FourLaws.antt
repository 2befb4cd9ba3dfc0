-- What the operations on registers of four rows of bits give of each word.
use Rattle.std.specs.Prelude.{bit_and, bit_or}
use Rattle.std.proofs.Common.{◌≡◌, ◌<◌, ◌∙◌, sym, arith, length, get_or, ℕ, List}
use Rattle.std.specs.Simd.Lanes.{zip2}
use Rattle.std.proofs.lemmas.Simd.{get_or-zip2, length-zip2}
use Rattle.ht_lanes.specs.Lanes.{Lanes, lane_operations, word_at}
use Rattle.ht_lanes.specs.Rows.{AreApart, lanes_of}
use Rattle.ht_lanes.specs.Four.{AreFourRows}
use Rattle.ht_lanes.proofs.OperationLaws.{not_lanes, not_apart, and_lanes, and_apart, or_lanes, or_apart, xor_lanes, xor_apart}

-- bits i of two rows stand for a word
abbrev pub AreBitsOf : Lanes → List ℕ → List ℕ → ℕ → Type 0
AreBitsOf w zeros ones i =
    AreApart (get_or zeros i 0) (get_or ones i 0) × (lanes_of (get_or zeros i 0) (get_or ones i 0) ≡ w)

at_both : (op : ℕ → ℕ → ℕ) (xs ys : List ℕ) (i : ℕ) → length xs ≡ 4 → length ys ≡ 4 → i < 4
    → get_or (zip2 op xs ys) i 0 ≡ op (get_or xs i 0) (get_or ys i 0)
at_both op xs ys i m n h = get_or-zip2 op xs ys i 0 0 0 (omega arith) (omega arith)

-- an operation on the results of two
at_four : (op inner : ℕ → ℕ → ℕ) (a b c d : List ℕ) (i : ℕ)
    → length a ≡ 4 → length b ≡ 4 → length c ≡ 4 → length d ≡ 4 → i < 4
    → get_or (zip2 op (zip2 inner a b) (zip2 inner c d)) i 0
    ≡ op (inner (get_or a i 0) (get_or b i 0)) (inner (get_or c i 0) (get_or d i 0))
at_four op inner a b c d i p q r s h =
    at_both op (zip2 inner a b) (zip2 inner c d) i (length-zip2 inner a b (p ∙ sym q) ∙ p)
    (length-zip2 inner c d (r ∙ sym s) ∙ r) h
    ∙ (λ j. op (at_both inner a b i p q h j) (at_both inner c d i r s h j))

-- the rows of each of four words, exchanged, are those of its complement
pub not_rows : (v : List Lanes) (a b : List ℕ) (i : ℕ) → i < 4 → AreFourRows v a b
    → AreBitsOf (lane_operations.complement (word_at v i)) b a i
not_rows v a b i h p = rw (p.each i h) (not_apart _ _ (p.apart i h), not_lanes _ _ (p.apart i h))

-- an operation of two words whose rows each come from one row of either word
rows_of_two : (op : Lanes → Lanes → Lanes) (f g : ℕ → ℕ → ℕ)
    → ((a b c d : ℕ) → AreApart a b → AreApart c d → AreApart (f a c) (g b d))
    → ((a b c d : ℕ) → AreApart a b → AreApart c d → lanes_of (f a c) (g b d) ≡ op (lanes_of a b) (lanes_of c d))
    → (v w : List Lanes) (a b c d : List ℕ) (i : ℕ) → i < 4 → AreFourRows v a b → AreFourRows w c d
    → AreBitsOf (op (word_at v i) (word_at w i)) (zip2 f a c) (zip2 g b d) i
rows_of_two op f g apart lanes v w a b c d i h p q =
    rw (
      at_both f a c i p.zero_count q.zero_count h,
      at_both g b d i p.one_count q.one_count h,
      p.each i h,
      q.each i h,
    )
    (apart _ _ _ _ (p.apart i h) (q.apart i h), lanes _ _ _ _ (p.apart i h) (q.apart i h))

-- OR of the zero rows and AND of the one rows give the rows of AND of each two words
pub and_rows : (v w : List Lanes) (a b c d : List ℕ) (i : ℕ) → i < 4 → AreFourRows v a b → AreFourRows w c d
    → AreBitsOf (lane_operations.conjunction (word_at v i) (word_at w i)) (zip2 bit_or a c) (zip2 bit_and b d) i
and_rows = rows_of_two lane_operations.conjunction bit_or bit_and and_apart and_lanes

-- AND of the zero rows and OR of the one rows give the rows of OR of each two words
pub or_rows : (v w : List Lanes) (a b c d : List ℕ) (i : ℕ) → i < 4 → AreFourRows v a b → AreFourRows w c d
    → AreBitsOf (lane_operations.disjunction (word_at v i) (word_at w i)) (zip2 bit_and a c) (zip2 bit_or b d) i
or_rows = rows_of_two lane_operations.disjunction bit_and bit_or or_apart or_lanes

-- the lanes where definite values are the same, and where they are opposite, are the rows of XOR of each two words
pub xor_rows : (v w : List Lanes) (a b c d : List ℕ) (i : ℕ) → i < 4 → AreFourRows v a b → AreFourRows w c d
    → AreBitsOf (lane_operations.parity (word_at v i) (word_at w i))
    (zip2 bit_or (zip2 bit_and a c) (zip2 bit_and b d)) (zip2 bit_or (zip2 bit_and a d) (zip2 bit_and b c)) i
xor_rows v w a b c d i h p q =
    rw (
      at_four bit_or bit_and a c b d i p.zero_count q.zero_count p.one_count q.one_count h,
      at_four bit_or bit_and a d b c i p.zero_count q.one_count p.one_count q.zero_count h,
      p.each i h,
      q.each i h,
    )
    (xor_apart _ _ _ _ (p.apart i h) (q.apart i h), xor_lanes _ _ _ _ (p.apart i h) (q.apart i h))
