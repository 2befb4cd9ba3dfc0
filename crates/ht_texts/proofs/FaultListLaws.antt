-- A text is that of one list of faults, or malformed at one line.
use Rattle.std.proofs.Common.{◌≡◌, ◌⊎◌, inl, inr, ℕ, zero, suc, ◌+◌, ◌-◌, ◌^◌, ◌<◌, ◌≤◌, List, [], ◌∷◌, ◌++◌, length, get_or, map, take, refl, sym, ap, ◌∙◌, subst, arith}
use Rattle.std.specs.Fmt.{decimal}
use Rattle.std.specs.List.{All}
use Rattle.std.proofs.lemmas.Bool.{cases_lt}
use Rattle.std.proofs.lemmas.Fmt.{decimal_injective, length-decimal-le}
use Rattle.std.proofs.lemmas.List.{get_or_append_left, length-append, length-map, map-append, same_from_push, take-map, take_all, take_more, length-take-le}
use Rattle.std.proofs.lemmas.List.Elements.{All-append, All-cons, All-map, All-nil, All-take}
use Rattle.std.proofs.Math.Seq.{get_or-append_seam, get_or-take, take-length}
use Rattle.ht_ports.specs.LineRule.{lines_of}
use Rattle.ht_tree.specs.Record.Rising.{Rises}
use Rattle.ht_texts.specs.FaultListTexts.{AreFaultLines, AreSomeFaults, IsFaultListText, IsNoFaultLine, IsWrongFaultLine, IsMalformedFaultList, IsFaultListOrMalformed}
use Rattle.ht_texts.specs.LineLengths.{IsShortLine}
use Rattle.ht_texts.specs.Numbers.{IsNumberText}
use Rattle.ht_texts.specs.Tests.{IsTooLong}
use Rattle.ht_texts.proofs.ReportChoiceLaws.{same_or_not, some_below}
use Rattle.ht_texts.proofs.WrongLineLaws.{RightOrFirst, one_first, first_of_both, short_or_long, short_is_right, all_is_right, begun_or_first}

-- ---- numbers that rise

-- the last number, or 0 where there is none
abbrev pub last_in : List ℕ → ℕ
last_in numbers = get_or numbers (length numbers - 1) 0

rises_push : (numbers : List ℕ) (number : ℕ) → Rises numbers → last_in numbers < number
    → Rises (numbers ++ number ∷ [])
rises_push numbers number rises above = record {
  next = λ i below. elim (cases_lt (i + 1) (length numbers)) [
    | inl inside ↦
        subst (λ x. x < get_or (numbers ++ number ∷ []) (i + 1) 0)
        (sym (get_or_append_left numbers (number ∷ []) 0 i (omega (arith, inside))))
        (subst (λ x. get_or numbers i 0 < x)
        (sym (get_or_append_left numbers (number ∷ []) 0 (i + 1) inside)) (rises.next i inside))
    | inr past ↦
        let size = length-append numbers (number ∷ []) in
        let at : length numbers ≡ i + 1 = omega (arith, past, below, size) in
        let before : length numbers - 1 ≡ i = omega (arith, at) in
        subst (λ x. x < get_or (numbers ++ number ∷ []) (i + 1) 0)
        (sym (get_or_append_left numbers (number ∷ []) 0 i (omega (arith, at))))
        (subst (λ k. get_or numbers i 0 < get_or (numbers ++ number ∷ []) k 0) at
        (subst (λ x. get_or numbers i 0 < x) (sym (get_or-append_seam numbers number [] 0))
        (subst (λ k. get_or numbers k 0 < number) before above)))
  ];
}

rises_take : (numbers : List ℕ) (n : ℕ) → n ≤ length numbers → Rises numbers → Rises (take n numbers)
rises_take numbers n within rises = record {
  next = λ i below.
      let size = length-take-le n numbers within in
      let inside : i + 1 < n = omega (arith, below, size) in
      subst (λ x. x < get_or (take n numbers) (i + 1) 0) (sym (get_or-take n numbers i 0 (omega (arith, inside))))
      (subst (λ x. get_or numbers i 0 < x) (sym (get_or-take n numbers (i + 1) 0 inside))
      (rises.next i (omega (arith, inside, within))));
}

-- ---- one list

one_number : (count m n : ℕ) → count < 2 ^ 64 → m ≤ count → n ≤ count → decimal m ≡ decimal n → m ≡ n
one_number count m n few of_m of_n e =
    decimal_injective m n (omega (arith, few, of_m)) (omega (arith, few, of_n)) e

abbrev UpTo : ℕ → List ℕ → Type 0
UpTo count numbers = (k : ℕ) → k < length numbers → get_or numbers k 0 ≤ count

-- no number in the lines of a list of faults is above the count of faults
pub up_to : (count : ℕ) (lines : List (List ℕ)) (numbers : List ℕ) → AreFaultLines count lines numbers
    → UpTo count numbers
up_to count lines numbers are k below = (are.listed k 0 below).1

-- lists of numbers that 64 bits hold are the same if their decimal texts are
pub same_numbers : (count : ℕ) (a b : List ℕ) → count < 2 ^ 64 → UpTo count a → UpTo count b
    → map decimal a ≡ map decimal b → a ≡ b
same_numbers count [] [] few of_a of_b e = refl
same_numbers count [] (y ∷ b) few of_a of_b e = absurd (omega (arith, ap (λ (l : List (List ℕ)). length l) e))
same_numbers count (x ∷ a) [] few of_a of_b e = absurd (omega (arith, ap (λ (l : List (List ℕ)). length l) e))
same_numbers count (x ∷ a) (y ∷ b) few of_a of_b e =
    let here : decimal x ≡ decimal y = cc in
    let more : map decimal a ≡ map decimal b = cc in
    let first : x ≡ y = one_number count x y few (of_a 0 (omega arith)) (of_b 0 (omega arith)) here in
    let rest : a ≡ b = same_numbers count a b few (λ k below. of_a (suc k) (omega (arith, below)))
    (λ k below. of_b (suc k) (omega (arith, below))) more in
    ap (λ l. x ∷ l) rest ∙ ap (λ n. n ∷ b) first

-- lines are those of at most one list of faults
pub one_list : (count : ℕ) (lines : List (List ℕ)) (a b : List ℕ) → count < 2 ^ 64 → AreFaultLines count lines a
    → AreFaultLines count lines b → a ≡ b
one_list count lines a b few of_a of_b =
    same_numbers count a b few (up_to count lines a of_a) (up_to count lines b of_b) (sym of_a.texts ∙ of_b.texts)

-- ---- one line more

-- the line is the number of a fault after those before
pub record IsNextFault (count : ℕ) (numbers line : List ℕ) (number : ℕ) : Type 0 where
  pub text : IsNumberText count line number
  pub above : last_in numbers < number

abbrev IsListed : ℕ → ℕ → Type 0
IsListed count number = (0 < number) × (number ≤ count)

-- the lines of a list of faults and that of a next fault are the lines of the longer list
pub next_is_taken : (count : ℕ) (lines : List (List ℕ)) (numbers line : List ℕ) (number : ℕ)
    → AreFaultLines count lines numbers → IsNextFault count numbers line number
    → AreFaultLines count (lines ++ line ∷ []) (numbers ++ number ∷ [])
next_is_taken count lines numbers line number are next = record {
  texts = ap (λ l. l ++ line ∷ []) are.texts ∙ ap (λ l. map decimal numbers ++ l ∷ []) next.text.digits
      ∙ sym (map-append decimal numbers (number ∷ []));
  listed = All-append (IsListed count) numbers (number ∷ []) are.listed
      (All-cons (IsListed count) number [] (omega (arith, next.above), next.text.bound) (All-nil (IsListed count)));
  rises = rises_push numbers number are.rises next.above;
}

-- the first lines of a list of faults are one
pub first_fault_lines : (count : ℕ) (lines : List (List ℕ)) (numbers : List ℕ) (n : ℕ) → n ≤ length numbers
    → AreFaultLines count lines numbers → AreFaultLines count (take n lines) (take n numbers)
first_fault_lines count lines numbers n within are = record {
  texts = ap (take n) are.texts ∙ take-map decimal n numbers;
  listed = All-take (IsListed count) n numbers are.listed;
  rises = rises_take numbers n within are.rises;
}

-- a list of faults that goes on with this line has its number
pub taken_is_next : (count : ℕ) (lines : List (List ℕ)) (numbers line all : List ℕ) → count < 2 ^ 64
    → AreFaultLines count lines numbers → AreFaultLines count (lines ++ line ∷ []) all
    → (number : ℕ) × IsNextFault count numbers line number
taken_is_next count lines numbers line all few are more =
    let n = length numbers in
    let lines_size : length lines ≡ n = ap (λ (l : List (List ℕ)). length l) are.texts ∙ length-map numbers decimal in
    let size : length all ≡ n + 1 = omega (
      arith,
      lines_size,
      length-append lines (line ∷ []),
      ap (λ (l : List (List ℕ)). length l) more.texts,
      length-map all decimal,
    ) in
    let number = get_or all n 0 in
    let split : all ≡ take n all ++ number ∷ [] =
    sym (take-length all) ∙ ap (λ k. take k all) size ∙ take_more all n 0 (omega (arith, size)) in
    let texts : lines ++ line ∷ [] ≡ map decimal (take n all) ++ decimal number ∷ [] =
    more.texts ∙ ap (map decimal) split ∙ map-append decimal (take n all) (number ∷ []) in
    let parts = same_from_push lines (map decimal (take n all)) line (decimal number) texts in
    let listed : UpTo count (take n all) = λ k below.
    let inside : k < n = omega (arith, below, length-take-le n all (omega (arith, size))) in
    subst (λ x. x ≤ count) (sym (get_or-take n all k 0 inside))
    (up_to count (lines ++ line ∷ []) all more k (omega (arith, inside, size))) in
    let same : numbers ≡ take n all = same_numbers count numbers (take n all) few (up_to count lines numbers are) listed
    (sym are.texts ∙ parts.0) in (
      number,
      record {
        text = record {
          digits = parts.1;
          bound = up_to count (lines ++ line ∷ []) all more n (omega (arith, size));
        };
        above = subst (λ l. get_or l (n - 1) 0 < number) (sym same) (last_is_below count (lines ++ line ∷ []) all n
            size more);
      },
    )
  where
    last_is_below : (count : ℕ) (lines : List (List ℕ)) (all : List ℕ) (n : ℕ) → length all ≡ n + 1
        → AreFaultLines count lines all → get_or (take n all) (n - 1) 0 < get_or all n 0
    last_is_below count lines all zero size more = (more.listed 0 0 (omega (arith, size))).0
    last_is_below count lines all (suc n) size more =
        let before : suc n - 1 ≡ n = omega arith in
        let next : n + 1 ≡ suc n = omega arith in
        subst (λ k. get_or (take (suc n) all) k 0 < get_or all (suc n) 0) (sym before)
        (subst (λ x. x < get_or all (suc n) 0) (sym (get_or-take (suc n) all n 0 (omega arith)))
        (subst (λ k. get_or all n 0 < get_or all k 0) next (more.rises.next n (omega (arith, size)))))

-- ---- each text is one or malformed

next_or_none : (count : ℕ) (numbers line : List ℕ) → count < 2 ^ 64
    → ((number : ℕ) × IsNextFault count numbers line number)
    ⊎ ((number : ℕ) → ¬ IsNextFault count numbers line number)
next_or_none count numbers line few =
    elim (some_below (λ k. line ≡ decimal k) (λ k. same_or_not line (decimal k)) (count + 1)) [
      | inr none ↦ inr (λ number next. none number (omega (arith, next.text.bound)) next.text.digits)
      | inl found ↦ elim (cases_lt (last_in numbers) found.0) [
        | inl above ↦ inl (
          found.0,
          record { text = record { digits = found.2; bound = omega (arith, found.1) }; above = above },
        )
        | inr upto ↦ inr (λ number next.
            let same : number ≡ found.0 = one_number count number found.0 few next.text.bound
            (omega (arith, found.1)) (sym next.text.digits ∙ found.2) in
            omega (arith, same, upto, next.above))
      ]
    ]

some_or_not : (count : ℕ) (lines : List (List ℕ)) (line : List ℕ) → count < 2 ^ 64 → AreSomeFaults count lines
    → AreSomeFaults count (lines ++ line ∷ []) ⊎ ¬ AreSomeFaults count (lines ++ line ∷ [])
some_or_not count lines line few are = elim (next_or_none count are.0 line few) [
  | inl next ↦ inl (are.0 ++ next.0 ∷ [], next_is_taken count lines are.0 line next.0 are.1 next.1)
  | inr none ↦ inr (λ more.
      let next = taken_is_next count lines are.0 line more.0 few are.1 more.1 in
      none next.0 next.1)
]

-- what begins the lines of some faults are those of some
pub front_of_faults : (count : ℕ) (lines : List (List ℕ)) (n : ℕ) → AreSomeFaults count lines
    → AreSomeFaults count (take n lines)
front_of_faults count lines n are = elim (cases_lt (length are.0) n) [
  | inr within ↦ (take n are.0, first_fault_lines count lines are.0 n within are.1)
  | inl past ↦
      let size : length lines ≤ n = omega (
        arith,
        past,
        ap (λ (l : List (List ℕ)). length l) are.1.texts,
        length-map are.0 decimal,
      ) in
      (are.0, subst (λ l. AreFaultLines count l are.0) (sym (take_all n lines size)) are.1)
]

faults_or_first : (count : ℕ) (text : List ℕ) → count < 2 ^ 64
    → RightOrFirst (AreSomeFaults count (lines_of text)) (IsNoFaultLine count text)
faults_or_first count text few =
    let none : AreFaultLines count [] [] = record {
      texts = refl;
      listed = All-nil (IsListed count);
      rises = record { next = λ i below. absurd (omega (arith, below)) };
    } in
    begun_or_first (AreSomeFaults count) (front_of_faults count) ([], none)
    (λ lines line are. some_or_not count lines line few are) text

list_or_line : (count : ℕ) (text : List ℕ) → count < 2 ^ 64
    → ((numbers : List ℕ) × IsFaultListText count text numbers) ⊎ ((n : ℕ) × IsMalformedFaultList count text n)
list_or_line count text few = elim (first_of_both (IsNoFaultLine count text) (IsTooLong text)
    (all_is_right (AreSomeFaults count) (front_of_faults count) text) (short_is_right text)
    (faults_or_first count text few) (short_or_long text)) [
      | inl right ↦ inl (right.0.0, record { lines = right.0.1; short = right.1 })
      | inr first ↦ inr first
    ]

never_both : (count : ℕ) (text numbers : List ℕ) (n : ℕ) → IsFaultListText count text numbers
    → ¬ IsMalformedFaultList count text n
never_both count text numbers n is malformed = elim malformed.wrong [
  | inl wrong ↦ all_is_right (AreSomeFaults count) (front_of_faults count) text (numbers, is.lines) n wrong
  | inr long ↦ short_is_right text is.short n long
]

-- each text is that of one list of faults or malformed at one line, where 64 bits count the faults
pub fault_list_or_malformed : (count : ℕ) (text : List ℕ) → count < 2 ^ 64 → IsFaultListOrMalformed count text
fault_list_or_malformed count text few = record {
  either = list_or_line count text few;
  never_both = never_both count text;
  one_value = λ a b is other. one_list count (lines_of text) a b few is.lines other.lines;
  one_line = one_first (IsWrongFaultLine count text);
}

-- ---- what a reader needs

-- the lines of a list of faults are short
pub fault_lines_are_short : (count : ℕ) (lines : List (List ℕ)) (numbers : List ℕ) → count < 2 ^ 64
    → AreFaultLines count lines numbers → All IsShortLine lines
fault_lines_are_short count lines numbers few are =
    subst (All IsShortLine) (sym are.texts) (All-map IsShortLine decimal numbers (λ k d below.
    let number = are.listed k d below in
    let size = length-decimal-le 20 (get_or numbers k d) (omega arith) (omega (arith, few, number.1))
    (omega (arith, few, number.1)) in
    omega (arith, size)))
