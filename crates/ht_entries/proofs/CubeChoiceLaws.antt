-- Whether bytes are the line of a cube or of a step.
use Rattle.std.proofs.Common.{◌≡◌, ◌≢◌, ◌⊎◌, inl, inr, ℕ, ◌+◌, ◌-◌, ◌<◌, ◌≤◌, Bool, true, false, List, [], ◌∷◌, ◌++◌, length, drop, refl, sym, ap, ◌∙◌, subst, arith}
use Rattle.std.specs.Prelude.{codes, flat_map}
use Rattle.std.specs.Fmt.{decimal}
use Rattle.std.specs.List.{All}
use Rattle.std.proofs.lemmas.Bool.{cases_lt}
use Rattle.std.proofs.Math.Seq.{drop-append_seam}
use Rattle.ht_texts.proofs.ReportChoiceLaws.{same_or_not, some_below}
use Rattle.ht_cubes.specs.declared.rail.Rail.{Rail}
use Rattle.ht_cubes.specs.declared.signed_var.SignedVar.{SignedVar}
use Rattle.ht_cubes.specs.declared.clause_step.ClauseStep.{ClauseStep}
use Rattle.ht_entries.specs.declared.limits.TheConstants.{MAX_PROOF_LINE_BYTES}
use Rattle.ht_entries.specs.LineWords.{max_number, IsNumber}
use Rattle.ht_entries.specs.ItemTexts.{spaced, AreItems, AreSome, HasNoItem, IsNextItem}
use Rattle.ht_entries.specs.ByCubes.{bit_word, machine_word, rail_text, signed_word, cube_text, hints_text, step_text, AreHints, IsAnyBit, IsCubeText, IsRailText, IsSignedText, IsStepText}
use Rattle.ht_entries.proofs.SpaceLaws.{IsNoSpace}
use Rattle.ht_entries.proofs.ItemLaws.{SomeItem, TakesAll, items_after_are_read, no_items_after, no_space_no_item, no_word_no_item, take_all, word_is_item, word_or_not}
use Rattle.ht_entries.proofs.ParsedLaws.{not_none}
use Rattle.ht_entries.proofs.CubesTextLaws.{bit_plain, bits_are_items, machine_plain, machines_are_items, no_bit_no_rail, no_machine_no_rail, no_number_no_rail, number_plain, numbers_are_items, rail_is_next, rail_of, rails_are_items, signed_are_items, signed_of, signed_plain}
use Rattle.ht_entries.proofs.CubeLineLaws.{cube_has_text, no_step, no_step_word, rails_of_cube, step_has_text, step_is_read}

-- ---- words

-- a value whose word this is
record SomeValue {A : Type 0} (word_of : A → List ℕ) (HasText : A → Type 0) (word : List ℕ) : Type 0 where
  value : A
  has_text : HasText value
  same : word ≡ word_of value

-- this is the word of none
abbrev HasNoValue : {A : Type 0} → (A → List ℕ) → (A → Type 0) → List ℕ → Type 0
HasNoValue word_of HasText word = (x : _) → HasText x → word ≢ word_of x

abbrev value_is : {A : Type 0} (word_of : A → List ℕ) (HasText : A → Type 0) (word : List ℕ) (x : A) → HasText x
    → word ≡ word_of x → SomeValue word_of HasText word
value_is word_of HasText word x h same = record { value = x; has_text = h; same = same }

number_or_not : (word : List ℕ) → SomeValue decimal IsNumber word ⊎ HasNoValue decimal IsNumber word
number_or_not word = elim (some_below (λ j. word ≡ decimal (j + 1)) (λ j. same_or_not word (decimal (j + 1))) max_number) [
  | inl found ↦ inl (value_is decimal IsNumber word (found.0 + 1) (omega arith, omega (arith, found.1)) found.2)
  | inr none ↦ inr (λ n counts e.
      let before : n ≡ n - 1 + 1 = omega (arith, counts.0) in
      none (n - 1) (omega (arith, counts.0, counts.1)) (e ∙ ap decimal before))
]

by_bit : (word_of : Bool → List ℕ) (word : List ℕ) → word ≢ word_of false → word ≢ word_of true → (bit : Bool)
    → IsAnyBit bit → word ≢ word_of bit
by_bit word_of word not_false not_true false h = not_false
by_bit word_of word not_false not_true true h = not_true

bit_or_not : (word_of : Bool → List ℕ) (word : List ℕ)
    → SomeValue word_of IsAnyBit word ⊎ HasNoValue word_of IsAnyBit word
bit_or_not word_of word = elim (same_or_not word (word_of false)) [
  | inl same ↦ inl (value_is word_of IsAnyBit word false tt same)
  | inr not_false ↦ elim (same_or_not word (word_of true)) [
    | inl same ↦ inl (value_is word_of IsAnyBit word true tt same)
    | inr not_true ↦ inr (λ bit. by_bit word_of word not_false not_true bit)
  ]
]

by_sign : (word : List ℕ) → ((n : ℕ) → IsNumber n → word ≢ decimal n)
    → ((j : ℕ) → j < max_number → word ≡ signed_word (signed_of (j + 1) false) → ⊥) → (n : ℕ) (value : Bool)
    → IsNumber n → word ≢ signed_word (signed_of n value)
by_sign word no_plus no_minus n true counts e = no_plus n counts e
by_sign word no_plus no_minus n false counts e =
    let before : n ≡ n - 1 + 1 = omega (arith, counts.0) in
    no_minus (n - 1) (omega (arith, counts.0, counts.1)) (e ∙ ap (λ k. signed_word (signed_of k false)) before)

signed_or_not : (word : List ℕ) → SomeValue signed_word IsSignedText word ⊎ HasNoValue signed_word IsSignedText word
signed_or_not word = elim (number_or_not word) [
  | inl found ↦
      inl (value_is signed_word IsSignedText word (signed_of found.value true) found.has_text found.same)
  | inr no_plus ↦ elim (some_below (λ j. word ≡ signed_word (signed_of (j + 1) false))
      (λ j. same_or_not word (signed_word (signed_of (j + 1) false))) max_number) [
        | inl found ↦ inl (value_is signed_word IsSignedText word (signed_of (found.0 + 1) false)
            (omega arith, omega (arith, found.1)) found.2)
        | inr no_minus ↦ inr (λ x. by_sign word no_plus no_minus x.variable x.value)
      ]
]

-- ---- items

word_item_or_not : {A : Type 0} (word_of : A → List ℕ) (HasText : A → Type 0)
    → ((x : A) → HasText x → All IsNoSpace (word_of x))
    → ((word : List ℕ) → SomeValue word_of HasText word ⊎ HasNoValue word_of HasText word)
    → (text : List ℕ) → SomeItem (spaced word_of) HasText text ⊎ HasNoItem (spaced word_of) HasText text
word_item_or_not word_of HasText plain decide text = elim (word_or_not text) [
  | inr none ↦ inr (no_space_no_item word_of HasText plain text none)
  | inl w ↦ elim (decide w.word) [
    | inl found ↦ inl (record {
      item = found.value;
      after = w.rest;
      is = word_is_item word_of HasText plain text w.word w.rest found.value w.is found.same found.has_text;
    })
    | inr none ↦ inr (no_word_no_item word_of HasText plain text w.word w.rest w.is none)
  ]
]

number_item_or_not : (text : List ℕ) → SomeItem (spaced decimal) IsNumber text ⊎ HasNoItem (spaced decimal) IsNumber text
number_item_or_not = word_item_or_not decimal IsNumber number_plain number_or_not

signed_item_or_not : (text : List ℕ)
    → SomeItem (spaced signed_word) IsSignedText text ⊎ HasNoItem (spaced signed_word) IsSignedText text
signed_item_or_not = word_item_or_not signed_word IsSignedText signed_plain signed_or_not

machine_or_not : (text : List ℕ)
    → SomeItem (spaced machine_word) IsAnyBit text ⊎ HasNoItem (spaced machine_word) IsAnyBit text
machine_or_not = word_item_or_not machine_word IsAnyBit machine_plain (bit_or_not machine_word)

bit_item_or_not : (text : List ℕ) → SomeItem (spaced bit_word) IsAnyBit text ⊎ HasNoItem (spaced bit_word) IsAnyBit text
bit_item_or_not = word_item_or_not bit_word IsAnyBit bit_plain (bit_or_not bit_word)

rail_or_not : (text : List ℕ) → SomeItem rail_text IsRailText text ⊎ HasNoItem rail_text IsRailText text
rail_or_not text = elim (machine_or_not text) [
  | inr none ↦ inr (no_machine_no_rail text none)
  | inl machine ↦ elim (number_item_or_not machine.after) [
    | inr none ↦ inr (no_number_no_rail text machine.after machine.item machine.is none)
    | inl number ↦ elim (bit_item_or_not number.after) [
      | inr none ↦ inr (no_bit_no_rail text machine.after number.after machine.item number.item machine.is number.is none)
      | inl bit ↦ inl (record {
        item = rail_of machine.item (number.item - 1) bit.item;
        after = bit.after;
        is = rail_is_next text machine.after number.after bit.after machine.item number.item bit.item machine.is
            number.is bit.is;
      })
    ]
  ]
]

-- ---- lines

-- what follows a word that bytes begin with
after_or_not : (word bytes : List ℕ) → ((rest : List ℕ) × (bytes ≡ word ++ rest)) ⊎ ((rest : List ℕ) → bytes ≢ word ++ rest)
after_or_not word bytes = elim (same_or_not bytes (word ++ drop (length word) bytes)) [
  | inl same ↦ inl (drop (length word) bytes, same)
  | inr differs ↦ inr (λ rest e.
      differs (e ∙ ap (λ t. word ++ t) (sym (ap (drop (length word)) e ∙ drop-append_seam word rest))))
]

-- a list is empty, or isn't
empty_or_not : {A : Type 0} (xs : List A) → (xs ≡ []) ⊎ (xs ≢ [])
empty_or_not [] = inl refl
empty_or_not (x ∷ xs) = inr (λ e. omega (arith, ap length e))

-- items after a word, to the end of a text
abbrev AreAfter : {A : Type 0} → (A → List ℕ) → (A → Type 0) → List ℕ → List ℕ → Type 0
AreAfter text_of HasText word bytes =
    ((xs : _) × (AreSome HasText xs × (bytes ≡ word ++ flat_map text_of xs)))
    ⊎ ((xs : _) → AreSome HasText xs → bytes ≢ word ++ flat_map text_of xs)

module _ {A : Type 0} (text_of : A → List ℕ) (HasText : A → Type 0) (are : AreItems text_of HasText) where
  items_by : (word bytes text : List ℕ) → bytes ≡ word ++ text → TakesAll text_of HasText text
      → AreAfter text_of HasText word bytes
  items_by word bytes text is all = elim (empty_or_not all.xs) [
    | inl none ↦
        inr (no_items_after text_of HasText are word bytes text all.rest all.xs is all.taken all.none (inl none))
    | inr some ↦ elim (empty_or_not all.rest) [
      | inr more ↦
          inr (no_items_after text_of HasText are word bytes text all.rest all.xs is all.taken all.none (inr more))
      | inl end ↦ inl (
        all.xs,
        (
          record { some = not_none all.xs some; each = all.taken.each },
          items_after_are_read text_of HasText are word bytes text all.rest all.xs is all.taken end,
        ),
      )
    ]
  ]

  items_or_not : ((text : List ℕ) → SomeItem text_of HasText text ⊎ HasNoItem text_of HasText text)
      → (word bytes : List ℕ) → AreAfter text_of HasText word bytes
  items_or_not decide word bytes = elim (after_or_not word bytes) [
    | inr none ↦ inr (λ xs h e. none (flat_map text_of xs) e)
    | inl after ↦ items_by word bytes after.0 after.1 (take_all text_of HasText are decide after.0)
  ]

-- bytes are the line of some cube, or of none
pub cube_or_not : (bytes : List ℕ) → ((cube : List Rail) × (IsCubeText cube × (bytes ≡ cube_text cube)))
    ⊎ ((cube : List Rail) → IsCubeText cube → bytes ≢ cube_text cube)
cube_or_not bytes = elim (cases_lt MAX_PROOF_LINE_BYTES (length bytes)) [
  | inl long ↦ inr (λ cube h e. omega (arith, long, h.short, ap length e))
  | inr short ↦ elim (items_or_not rail_text IsRailText rails_are_items rail_or_not (codes "never") bytes) [
    | inr none ↦ inr (λ cube h. none cube (rails_of_cube cube h))
    | inl found ↦ inl (found.0, (cube_has_text bytes found.0 short found.1.1 found.1.0, found.1.1))
  ]
]

hints_or_not : (text : List ℕ) → AreAfter (spaced decimal) IsNumber (codes " by") text
hints_or_not = items_or_not (spaced decimal) IsNumber numbers_are_items number_item_or_not (codes " by")

abbrev step_of : List SignedVar → List ℕ → ClauseStep
step_of literals hints = record { literals = literals; hints = hints }

step_by : (bytes text : List ℕ) → bytes ≡ codes "step" ++ text → length bytes ≤ MAX_PROOF_LINE_BYTES
    → TakesAll (spaced signed_word) IsSignedText text
    → ((step : ClauseStep) × (IsStepText step × (bytes ≡ step_text step)))
    ⊎ ((step : ClauseStep) → IsStepText step → bytes ≢ step_text step)
step_by bytes text is short all = elim (hints_or_not all.rest) [
  | inr none ↦ inr (no_step bytes text all.rest all.xs is all.taken all.none none)
  | inl found ↦
      let read = step_is_read bytes text all.rest all.xs found.0 is all.taken found.1.1 in
      inl (
        step_of all.xs found.0,
        (step_has_text bytes all.xs found.0 short read all.taken.each found.1.0, read),
      )
]

-- bytes are the line of some step, or of none
pub step_or_not : (bytes : List ℕ) → ((step : ClauseStep) × (IsStepText step × (bytes ≡ step_text step)))
    ⊎ ((step : ClauseStep) → IsStepText step → bytes ≢ step_text step)
step_or_not bytes = elim (cases_lt MAX_PROOF_LINE_BYTES (length bytes)) [
  | inl long ↦ inr (λ step h e. omega (arith, long, h.short, ap length e))
  | inr short ↦ elim (after_or_not (codes "step") bytes) [
    | inr none ↦ inr (no_step_word bytes none)
    | inl after ↦ step_by bytes after.0 after.1 short
        (take_all (spaced signed_word) IsSignedText signed_are_items signed_item_or_not after.0)
  ]
]
