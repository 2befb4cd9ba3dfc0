-- Texts that are told apart at a space.
use Rattle.std.proofs.Common.{◌≡◌, ◌≢◌, ◌==◌, inl, inr, ℕ, suc, ◌+◌, ◌-◌, ◌<◌, ◌≤◌, Bool, List, [], ◌∷◌, ◌++◌, Some, None, length, get_or, take, drop, length-append, length-take, length-drop, append_assoc, add-one, drop-cons, refl, sym, ap, ◌∙◌, subst, arith}
use Rattle.std.specs.Prelude.{codes}
use Rattle.std.specs.Fmt.{decimal}
use Rattle.std.specs.List.{All, position, position_or_len}
use Rattle.std.specs.Str.Parse.{AllDigits}
use Rattle.std.proofs.lemmas.Bool.{cases_lt, cond_below, eqb-true, eq-eqb, true≢false}
use Rattle.std.proofs.lemmas.Fmt.{decimal_is_IsNumeral, decimal_injective}
use Rattle.std.proofs.lemmas.List.{get_or-take, take-append-drop}
use Rattle.std.proofs.lemmas.List.Elements.{All-nil, All-cons, All-head, All-tail, All-from_get_or}
use Rattle.std.proofs.lemmas.List.Quantifiers.{position-Some}
use Rattle.std.proofs.lemmas.List.Sums.{fails_before_first}
use Rattle.std.proofs.lemmas.Option.{none-some}
use Rattle.std.proofs.lemmas.Str.Parse.{digit_from_value}
use Rattle.std.proofs.Math.Seq.{get_or-append_seam, take-length}
use Rattle.ht_entries.specs.ProofLines.{max_number, IsNumber}
use Rattle.ht_entries.specs.ParsedLines.{IsSplitAt}

-- ---- the first space

abbrev pub IsNoSpace : ℕ → Type 0
IsNoSpace byte = byte ≢ 32

abbrev is_space : ℕ → Bool
is_space byte = byte == 32

abbrev first_of : List ℕ → ℕ
first_of text = get_or text 0 0

abbrev rest_of : List ℕ → List ℕ
rest_of [] = []
rest_of (x ∷ xs) = xs

-- a text without a space has none in it
pub has_no_space : (text : List ℕ) → position is_space text ≡ None → (front rest : List ℕ)
    → text ≢ front ++ 32 ∷ rest
has_no_space text none front rest e =
    let whole : List ℕ = front ++ 32 ∷ rest in
    let nowhere : position is_space whole ≡ None = subst (λ t. position is_space t ≡ None) e none in
    let k = position_or_len is_space whole in
    let inside : length front < length whole = omega (arith, length-append front (32 ∷ rest)) in
    elim (cases_lt k (length whole)) [
      | inl below ↦ none-some k (sym nowhere ∙ sym (cond_below k (length whole) (Some k) None below))
      | inr upto ↦ true≢false (sym (ap is_space (get_or-append_seam front 32 rest 0))
          ∙ fails_before_first is_space whole (length front) 0 (omega (arith, upto, inside)))
    ]

-- what stands before the first space, and what stands after it
pub record SplitsAt (text : List ℕ) (k : ℕ) : Type 0 where
  pub parts : text ≡ take k text ++ 32 ∷ drop (k + 1) text
  pub before : All IsNoSpace (take k text)

-- a text is what comes before its first space, without any, and what comes after it
pub first_space : (text : List ℕ) (k : ℕ) → position is_space text ≡ Some k → SplitsAt text k
first_space text k at =
    let found = position-Some is_space text k 0 at in
    let space : get_or text k 0 ≡ 32 = eqb-true (get_or text k 0) 32 found.1 in record {
      parts = sym (take-append-drop k text)
          ∙ ap (λ t. take k text ++ t) (drop-cons text k 0 found.0)
          ∙ ap (λ x. take k text ++ x ∷ drop (suc k) text) space
          ∙ ap (λ i. take k text ++ 32 ∷ drop i text) (sym (add-one k));
      before = All-from_get_or IsNoSpace (take k text) 0 (λ i below same.
          let size : i < k = omega (arith, below, length-take k text) in
          let not_here = found.2 i size in
          true≢false (sym (eq-eqb (get_or text i 0) 32 (sym (get_or-take k text i 0 size) ∙ same)) ∙ not_here));
    }

-- a number before the first space
pub number_at_space : (text : List ℕ) (k n : ℕ) → position is_space text ≡ Some k → take k text ≡ decimal n
    → IsSplitAt text (decimal n) (take (length text - k) (drop k text))
number_at_space text k n at number =
    let found = position-Some is_space text k 0 at in
    let rest : take (length text - k) (drop k text) ≡ drop k text =
    ap (λ m. take m (drop k text)) (sym (length-drop k text)) ∙ take-length (drop k text) in
    record {
      parts = sym (take-append-drop k text) ∙ ap (λ t. t ++ drop k text) number ∙ ap (λ t. decimal n ++ t) (sym rest);
      space = (
        drop (suc k) text,
        rest ∙ drop-cons text k 0 found.0 ∙ ap (λ x. x ∷ drop (suc k) text) (eqb-true (get_or text k 0) 32 found.1),
      );
    }

-- ---- two texts with one first space

pub record SameParts (xs ys rest more : List ℕ) : Type 0 where
  pub fronts : xs ≡ ys
  pub rests : rest ≡ more

space_first : (y : ℕ) (ys rest more : List ℕ) → IsNoSpace y → 32 ∷ rest ≡ (y ∷ ys) ++ 32 ∷ more → ⊥
space_first y ys rest more h e = h (sym (ap first_of e))

-- equal texts have the same part before their first space and the same part after it
pub parts_same : (xs ys rest more : List ℕ) → All IsNoSpace xs → All IsNoSpace ys
    → xs ++ 32 ∷ rest ≡ ys ++ 32 ∷ more → SameParts xs ys rest more
parts_same [] [] rest more h k e = record { fronts = refl; rests = ap rest_of e }
parts_same [] (y ∷ ys) rest more h k e = absurd (space_first y ys rest more (All-head IsNoSpace y ys k) e)
parts_same (x ∷ xs) [] rest more h k e = absurd (space_first x xs more rest (All-head IsNoSpace x xs h) (sym e))
parts_same (x ∷ xs) (y ∷ ys) rest more h k e =
    let inner = parts_same xs ys rest more (All-tail IsNoSpace x xs h) (All-tail IsNoSpace y ys k) (ap rest_of e) in
    record {
      fronts = ap (λ z. z ∷ xs) (ap first_of e) ∙ ap (λ z. y ∷ z) inner.fronts;
      rests = inner.rests;
    }

digits_have_no_space : (ds : List ℕ) → AllDigits 10 ds → All IsNoSpace ds
digits_have_no_space [] h = All-nil IsNoSpace
digits_have_no_space (d ∷ ds) h =
    let low = (digit_from_value d (h.0)).0 in
    All-cons IsNoSpace d ds (λ e. omega (arith, low, e)) (digits_have_no_space ds (h.1))

-- the digits of a number have no space
pub number_has_no_space : (n : ℕ) → n ≤ max_number → All IsNoSpace (decimal n)
number_has_no_space n h = digits_have_no_space (decimal n) (decimal_is_IsNumeral n (omega (arith, h))).0.1

-- ---- a number before a space

pub record SameNumber (m n : ℕ) (rest more : List ℕ) : Type 0 where
  pub numbers : m ≡ n
  pub rests : rest ≡ more

-- equal texts that begin with a number and a space have the same number and the same rest
pub number_front_same : (m n : ℕ) (rest more : List ℕ) → m ≤ max_number → n ≤ max_number
    → decimal m ++ codes " " ++ rest ≡ decimal n ++ codes " " ++ more → SameNumber m n rest more
number_front_same m n rest more h k e =
    let same = parts_same (decimal m) (decimal n) rest more (number_has_no_space m h) (number_has_no_space n k)
    (sym (append_assoc (decimal m) (codes " ") rest) ∙ e ∙ append_assoc (decimal n) (codes " ") more) in
    record {
      numbers = decimal_injective m n (omega (arith, h)) (omega (arith, k)) same.fronts;
      rests = same.rests;
    }

-- what is no number isn't one before a space
pub no_number_then : (text digits after : List ℕ) → text ≡ digits ++ 32 ∷ after → All IsNoSpace digits
    → ((number : ℕ) → IsNumber number → digits ≢ decimal number) → (number : ℕ) (rest : List ℕ) → IsNumber number
    → text ≢ decimal number ++ 32 ∷ rest
no_number_then text digits after is no_space none number rest counts e = none number counts
    (parts_same digits (decimal number) after rest no_space (number_has_no_space number counts.1) (sym is ∙ e)).fronts
