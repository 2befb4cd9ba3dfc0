-- The first wrong line of a text.
use Rattle.std.proofs.Common.{◌≡◌, ◌⊎◌, inl, inr, ℕ, zero, suc, ◌+◌, ◌-◌, ◌<◌, ◌≤◌, List, [], ◌∷◌, ◌++◌, length, get_or, take, drop, refl, sym, ap, ◌∙◌, subst, arith}
use Rattle.std.proofs.lemmas.Bool.{cases_lt}
use Rattle.std.proofs.lemmas.List.{take-append-drop, take-append-le, take_more, length-take-le}
use Rattle.std.proofs.Math.Seq.{take-length}
use Rattle.ht_ports.specs.LineRule.{lines_of, max_text_bytes}
use Rattle.ht_texts.specs.Tests.{IsTooLong, line_at, line_of_byte}
use Rattle.ht_texts.specs.WrongLines.{IsFirst, IsNoNextLine}

-- at most one line is the first that is wrong
pub one_first : (IsWrong : ℕ → Type 0) (m n : ℕ) → IsFirst IsWrong m → IsFirst IsWrong n → m ≡ n
one_first IsWrong m n at_m at_n = elim (cases_lt m n) [
  | inl below ↦ absurd (at_n.first m below at_m.wrong)
  | inr upto ↦ elim (cases_lt n m) [
    | inl below ↦ absurd (at_m.first n below at_n.wrong)
    | inr same ↦ omega arith
  ]
]

-- a text is right in some way, or a line is the first that isn't
abbrev pub RightOrFirst : Type 0 → (ℕ → Type 0) → Type 0
RightOrFirst IsRight IsWrong = IsRight ⊎ ((n : ℕ) × IsFirst IsWrong n)

-- right in two ways, or the first line that is wrong in one of them
pub first_of_both : {A B : Type 0} (P Q : ℕ → Type 0) → (A → (n : ℕ) → ¬ P n) → (B → (n : ℕ) → ¬ Q n)
    → RightOrFirst A P → RightOrFirst B Q → RightOrFirst (A × B) (λ n. P n ⊎ Q n)
first_of_both P Q no_p no_q (inl a) (inl b) = inl (a, b)
first_of_both P Q no_p no_q (inr (m, p)) (inl b) = inr (
  m,
  record {
    wrong = inl p.wrong;
    first = λ k below wrong. elim wrong [ inl here ↦ p.first k below here | inr here ↦ no_q b k here ];
  },
)
first_of_both P Q no_p no_q (inl a) (inr (n, q)) = inr (
  n,
  record {
    wrong = inr q.wrong;
    first = λ k below wrong. elim wrong [ inl here ↦ no_p a k here | inr here ↦ q.first k below here ];
  },
)
first_of_both P Q no_p no_q (inr (m, p)) (inr (n, q)) = elim (cases_lt m n) [
  | inl sooner ↦ inr (
    m,
    record {
      wrong = inl p.wrong;
      first = λ k below wrong. elim wrong
          [ inl here ↦ p.first k below here | inr here ↦ q.first k (omega (arith, below, sooner)) here ];
    },
  )
  | inr upto ↦ inr (
    n,
    record {
      wrong = inr q.wrong;
      first = λ k below wrong. elim wrong
          [ inl here ↦ p.first k (omega (arith, below, upto)) here | inr here ↦ q.first k below here ];
    },
  )
]

-- ---- too long

-- a text is no longer than a text may be, or there is a first line in which it gets too long
pub short_or_long : (text : List ℕ) → RightOrFirst (length text ≤ max_text_bytes) (IsTooLong text)
short_or_long text = elim (cases_lt max_text_bytes (length text)) [
  | inr short ↦ inl short
  | inl long ↦ inr (
    line_of_byte text max_text_bytes,
    record {
      wrong = record { long = long; line = refl };
      first = λ m below other. omega (arith, below, other.line);
    },
  )
]

-- a text that is no longer than a text may be gets too long in no line
pub short_is_right : (text : List ℕ) → length text ≤ max_text_bytes → (n : ℕ) → ¬ IsTooLong text n
short_is_right text short n wrong = omega (arith, short, wrong.long)

-- ---- lines that begin a text of a kind

-- the first m of the first k lines are the first m lines, where m is at most k
pub take_again : (m k : ℕ) (lines : List (List ℕ)) → m ≤ k → k ≤ length lines → take m (take k lines) ≡ take m lines
take_again m k lines within inside =
    sym (take-append-le m (take k lines) (drop k lines) (omega (arith, within, length-take-le k lines inside)))
    ∙ ap (take m) (take-append-drop k lines)

module _ (BeginsSo : List (List ℕ) → Type 0)
    (front_begins : (lines : List (List ℕ)) (n : ℕ) → BeginsSo lines → BeginsSo (take n lines)) where
  -- none of them is wrong
  pub begun_is_right : (text : List ℕ) (n m : ℕ) → BeginsSo (take n (lines_of text)) → n ≤ length (lines_of text)
      → m ≤ n → ¬ IsNoNextLine BeginsSo text m
  begun_is_right text n m begins inside within wrong =
      wrong.none (subst BeginsSo (take_again m n (lines_of text) within inside)
      (front_begins (take n (lines_of text)) m begins))

  -- where the lines of a text begin one of the kind, none of them is wrong
  pub all_is_right : (text : List ℕ) → BeginsSo (lines_of text) → (n : ℕ) → ¬ IsNoNextLine BeginsSo text n
  all_is_right text begins n wrong =
      begun_is_right text (length (lines_of text)) n (subst BeginsSo (sym (take-length (lines_of text))) begins)
      (omega arith) wrong.counted.1 wrong

  -- the line after them that no text has there
  pub none_is_next : (text : List ℕ) (n : ℕ) → n < length (lines_of text)
      → ¬ BeginsSo (take n (lines_of text) ++ line_at text (n + 1) ∷ []) → IsNoNextLine BeginsSo text (n + 1)
  none_is_next text n inside none =
      let same : line_at text (n + 1) ≡ get_or (lines_of text) n [] =
      ap (λ k. get_or (lines_of text) k []) {x = n + 1 - 1} (omega arith) in
      let longer : take (n + 1) (lines_of text) ≡ take n (lines_of text) ++ line_at text (n + 1) ∷ [] =
      take_more (lines_of text) n [] inside ∙ ap (λ l. take n (lines_of text) ++ l ∷ []) (sym same) in
      record { counted = (omega arith, omega (arith, inside)); none = λ front. none (subst BeginsSo longer front) }

  -- where each line goes on so or doesn't, all lines begin so, or a first one doesn't
  module _ (none_begins : BeginsSo [])
      (next_or_not : (lines : List (List ℕ)) (line : List ℕ) → BeginsSo lines
      → BeginsSo (lines ++ line ∷ []) ⊎ ¬ BeginsSo (lines ++ line ∷ [])) where
    begun_to : (text : List ℕ) (n : ℕ) → n ≤ length (lines_of text)
        → RightOrFirst (BeginsSo (take n (lines_of text))) (IsNoNextLine BeginsSo text)
    begun_to text zero inside = inl none_begins
    begun_to text (suc n) inside =
        let lines = lines_of text in
        let more : n + 1 ≡ suc n = omega arith in
        let next : take n lines ++ get_or lines n [] ∷ [] ≡ take (suc n) lines =
        sym (take_more lines n [] (omega (arith, inside))) ∙ ap (λ k. take k lines) more in
        elim (begun_to text n (omega (arith, inside))) [
          | inr first ↦ inr first
          | inl begins ↦ elim (next_or_not (take n lines) (get_or lines n []) begins) [
            | inl more ↦ inl (subst BeginsSo next more)
            | inr none ↦ inr (
              suc n,
              record {
                wrong = record {
                  counted = (omega arith, inside);
                  none = subst (λ l. ¬ BeginsSo l) next none;
                };
                first = λ m below. begun_is_right text n m begins (omega (arith, inside)) (omega (arith, below));
              },
            )
          ]
        ]

    -- the lines of a text begin one of the kind, or there is a first line that none of the kind has there
    pub begun_or_first : (text : List ℕ) → RightOrFirst (BeginsSo (lines_of text)) (IsNoNextLine BeginsSo text)
    begun_or_first text = subst (λ l. RightOrFirst (BeginsSo l) (IsNoNextLine BeginsSo text)) (take-length (lines_of text))
        (begun_to text (length (lines_of text)) (omega arith))
