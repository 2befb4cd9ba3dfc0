-- The parts of words.
use Rattle.std.proofs.Common.{◌≡◌, ◌*◌, ◌/◌, ◌%◌, ◌^◌, ◌∙◌, ℕ, ap, sym, bit_and, bit_or}
use Rattle.std.proofs.Math.Nat.{div-one}
use Rattle.std.proofs.Math.Pow.{shr-shr}
use Rattle.std.proofs.lemmas.Nat.{and_mask, and_mod, and_shr, or_mod, or_shr}
use Rattle.ht_pairs.specs.Words.{part_of, union_of}

-- a part of what two words have in common is what their parts have in common
pub part_of-and : (i a b : ℕ) → part_of i (bit_and a b) ≡ bit_and (part_of i a) (part_of i b)
part_of-and i a b =
    ap (λ n. n % 2 ^ 16) (and_shr a b (16 * i)) ∙ and_mod (a / 2 ^ (16 * i)) (b / 2 ^ (16 * i)) 16

-- the low parts of both halves together
low_parts : (word : ℕ) → bit_or word (word / 2 ^ 32) % 2 ^ 16 ≡ bit_or (part_of 0 word) (part_of 2 word)
low_parts word =
    or_mod word (word / 2 ^ 32) 16 ∙ ap (λ n. bit_or (n % 2 ^ 16) (part_of 2 word)) (sym (div-one word))

-- the high parts of both halves together
high_parts : (word : ℕ) → bit_or word (word / 2 ^ 32) / 2 ^ 16 % 2 ^ 16 ≡ bit_or (part_of 1 word) (part_of 3 word)
high_parts word =
    ap (λ n. n % 2 ^ 16) (or_shr word (word / 2 ^ 32) 16) ∙ or_mod (word / 2 ^ 16) (word / 2 ^ 32 / 2 ^ 16) 16
    ∙ ap (λ n. bit_or (part_of 1 word) (n % 2 ^ 16)) (shr-shr word 32 16)

-- where both halves are joined, and then their halves, the low part has the union of all four
pub union_of_halves : (word : ℕ)
    → bit_and (bit_or (bit_or word (word / 4294967296)) (bit_or word (word / 4294967296) / 65536)) 65535
    ≡ union_of word
union_of_halves word =
    let halves = bit_or word (word / 4294967296) in
    and_mask (bit_or halves (halves / 65536)) 16 ∙ or_mod halves (halves / 65536) 16
    ∙ ap (λ n. bit_or n (halves / 65536 % 2 ^ 16)) (low_parts word)
    ∙ ap (λ n. bit_or (bit_or (part_of 0 word) (part_of 2 word)) n) (high_parts word)
