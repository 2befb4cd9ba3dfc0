-- What the tables of the operations and of the polarities hold, tried at all 512 numbers.
use Rattle.std.proofs.Common.{◌≡◌, ◌<◌, ℕ, Bool, true, false, ◌&&◌, List, [], get_or, refl, bit_and}
use Rattle.ht_tern.specs.declared.tern.Tern.{Tern}
use Rattle.ht_pairs.specs.Pairs.{Pair, same_pair, pair_operations}
use Rattle.ht_tern.specs.Gate.{operation_of, polarity_of}
use Rattle.ht_tern.specs.declared.gate.Kind.{Kind}
use Rattle.ht_tern.specs.declared.gate.Kind.TheVariants.{And, Nand, Or, Nor, Xor, Xnor, Not, Buf}
use Rattle.ht_pairs.specs.Places.{place_of, polarity_place}
use Rattle.ht_pairs.specs.Words.{part_of, union_of}
use Rattle.ht_pairs.specs.Moves.{along, becomes, lowers, raises, blurs, complements, passes, flips}
use Rattle.ht_pairs.specs.declared.moves.Half.TheVariants.{Good, Faulty}
use Rattle.ht_pairs.specs.declared.tables.TheConstants.{FIRST, SECOND, POLARITIES}
use Rattle.ht_pairs.proofs.MetLaws.{AreMoved, IsValid, IsMet-union_of, by_any}
use Rattle.ht_pairs.proofs.MoveLaws.{IsTried, tried}
use Rattle.ht_pairs.proofs.OperationLaws.{IsResultOfOne, IsResultOfTwo, by_move, by_table, table}

-- the row of an operation
abbrev row_of : List (List ℕ) → ℕ → List ℕ
row_of rows place = get_or rows place []

-- what two words have in common, in any of their parts
abbrev met : ℕ → ℕ → ℕ
met first second = union_of (bit_and first second)

-- what an operation makes of two sets is in the rows at a place
abbrev HasResults : (Pair → Pair → Pair) → ℕ → Type 0
HasResults op place = (s t : ℕ) → IsValid s → IsValid t
    → IsResultOfTwo op s t (met (get_or (row_of FIRST place) s 0) (get_or (row_of SECOND place) t 0))

-- a part of each set's word
abbrev part : List ℕ → ℕ → ℕ → ℕ
part words i n = part_of i (get_or words n 0)

-- each of the four parts of a row's words is where a move leads
abbrev AreTried : List ℕ → (a b c d : Pair → Pair → Bool) → Type 0
AreTried words a b c d =
    IsTried (part words 0) a × IsTried (part words 1) b × IsTried (part words 2) c × IsTried (part words 3) d

are_moved : (words : List ℕ) (a b c d : Pair → Pair → Bool) → AreTried words a b c d → (n : ℕ) → n < 512
    → AreMoved a b c d n (get_or words n 0)
are_moved words a b c d passed n h = (
  tried (part words 0) a passed.0 n h,
  tried (part words 1) b passed.1 n h,
  tried (part words 2) c passed.2 n h,
  tried (part words 3) d passed.3 n h,
)

by_parts : (place : ℕ) (op : Pair → Pair → Pair) (a b c d a' b' c' d' : Pair → Pair → Bool)
    → table op (by_any a b c d a' b' c' d') ≡ true
    → AreTried (row_of FIRST place) a b c d → AreTried (row_of SECOND place) a' b' c' d' → HasResults op place
by_parts place op a b c d a' b' c' d' tabled one two s t hs ht =
    by_table op (by_any a b c d a' b' c' d') tabled s t _ hs ht
    (IsMet-union_of _ _ (are_moved (row_of FIRST place) a b c d one s hs.1)
    (are_moved (row_of SECOND place) a' b' c' d' two t ht.1))

-- one move of the faulty half, and one of the good half
abbrev both : (Tern → Tern → Bool) → (Tern → Tern → Bool) → Pair → Pair → Bool
both f g p q = f p.faulty q.faulty && g p.good q.good

-- each half of a result comes from either member, and the other member's is moved to it
by_halves : (place : ℕ) (op : Pair → Pair → Pair) (f : Tern → Tern → Bool)
    → table op (by_any same_pair (both f f) (along Faulty f) (along Good f)
    (both f f) same_pair (along Good f) (along Faulty f)) ≡ true
    → AreTried (row_of FIRST place) same_pair (both f f) (along Faulty f) (along Good f)
    → AreTried (row_of SECOND place) (both f f) same_pair (along Good f) (along Faulty f) → HasResults op place
by_halves place op f tabled one two =
    by_parts place op same_pair (both f f) (along Faulty f) (along Good f)
    (both f f) same_pair (along Good f) (along Faulty f) tabled one two

and_results : HasResults pair_operations.conjunction 0
and_results = by_halves 0 _ lowers refl (refl, refl, refl, refl) (refl, refl, refl, refl)

or_results : HasResults pair_operations.disjunction 1
or_results = by_halves 1 _ raises refl (refl, refl, refl, refl) (refl, refl, refl, refl)

-- each half of the first member passes or flips the second's
xor_results : HasResults pair_operations.parity 2
xor_results =
    by_parts 2 _ (both passes passes) (both flips passes) (both passes flips) (both flips flips)
    (both blurs blurs) (both complements blurs) (both blurs complements) (both complements complements)
    refl (refl, refl, refl, refl) (refl, refl, refl, refl)

-- of an operation that is its first argument the second may be any
abbrev none : Pair → Pair → Bool
none p q = false

first_results : HasResults (λ p q. p) 3
first_results =
    by_parts 3 _ same_pair none none none (λ q r. true) none none none refl
    (refl, refl, refl, refl) (refl, refl, refl, refl)

operated_results : (kind : Kind) (s t : ℕ) → IsValid s → IsValid t
    → IsResultOfTwo (operation_of pair_operations kind) s t
    (met (get_or (row_of FIRST (place_of kind)) s 0) (get_or (row_of SECOND (place_of kind)) t 0))
operated_results And s t hs ht = and_results s t hs ht
operated_results Nand s t hs ht = and_results s t hs ht
operated_results Or s t hs ht = or_results s t hs ht
operated_results Nor s t hs ht = or_results s t hs ht
operated_results Xor s t hs ht = xor_results s t hs ht
operated_results Xnor s t hs ht = xor_results s t hs ht
operated_results Not s t hs ht = first_results s t hs ht
operated_results Buf s t hs ht = first_results s t hs ht

-- two sets' words in the tables give, where they meet, the results of the operation that the kind folds
pub parts_results : (kind : Kind) {s t : ℕ} → IsValid s → IsValid t → {place first second n : ℕ}
    → place ≡ place_of kind → first ≡ get_or (get_or FIRST place []) s 0
    → second ≡ get_or (get_or SECOND place []) t 0 → n ≡ met first second
    → IsResultOfTwo (operation_of pair_operations kind) s t n
parts_results kind {s} {t} hs ht e f g h = rw (h, f, g, e) (operated_results kind s t hs ht)

abbrev polarity_row : ℕ → ℕ → ℕ
polarity_row place n = get_or (get_or POLARITIES place []) n 0

same_results : (s : ℕ) → IsValid s → IsResultOfOne (λ p. p) s (polarity_row 0 s)
same_results s h = by_move (λ p. p) s _ h (tried (polarity_row 0) (becomes (λ p. p)) refl s h.1)

complement_results : (s : ℕ) → IsValid s → IsResultOfOne pair_operations.complement s (polarity_row 1 s)
complement_results s h =
    by_move pair_operations.complement s _ h
    (tried (polarity_row 1) (becomes pair_operations.complement) refl s h.1)

polarity_at : (kind : Kind) (s : ℕ) → IsValid s
    → IsResultOfOne (polarity_of pair_operations kind) s (polarity_row (polarity_place kind) s)
polarity_at And s h = same_results s h
polarity_at Nand s h = complement_results s h
polarity_at Or s h = same_results s h
polarity_at Nor s h = complement_results s h
polarity_at Xor s h = same_results s h
polarity_at Xnor s h = complement_results s h
polarity_at Not s h = complement_results s h
polarity_at Buf s h = same_results s h

-- a set's entry in the table of polarities is what the kind makes of the folded set
pub polarity_results : (kind : Kind) {s : ℕ} → IsValid s → {place n : ℕ} → place ≡ polarity_place kind
    → n ≡ get_or (get_or POLARITIES place []) s 0 → IsResultOfOne (polarity_of pair_operations kind) s n
polarity_results kind {s} h e f = rw (f, e) (polarity_at kind s h)
