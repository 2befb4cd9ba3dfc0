-- Items that stand in a text one after the other, each after a space: the text shows which they are.
use Rattle.std.proofs.Common.{◌≡◌, ◌≢◌, ◌==◌, ◌⊎◌, inl, inr, ℕ, suc, zero, ◌+◌, ◌-◌, ◌<◌, ◌≤◌, Bool, Option, Some, None, List, [], ◌∷◌, ◌++◌, length, get_or, take, drop, length-drop, drop-cons, append_assoc, refl, sym, ap, ◌∙◌, subst, arith}
use Rattle.std.specs.Prelude.{flat_map}
use Rattle.std.specs.List.{All, position}
use Rattle.std.specs.Option.{unwrap_or}
use Rattle.std.proofs.lemmas.Bool.{cases_eq, eqb-true}
use Rattle.std.proofs.lemmas.List.{append-nil, append_cancel_left, length-append, take-append-drop}
use Rattle.std.proofs.lemmas.List.Quantifiers.{position-Some}
use Rattle.std.proofs.Math.Seq.{take-length}
use Rattle.std.proofs.Math.ListN.{drop_of_length-le}
use Rattle.std.proofs.lemmas.List.Concat.{flat_map-cons}
use Rattle.std.proofs.lemmas.Grind.{flat_map-append}
use Rattle.std.proofs.lemmas.List.Elements.{All-nil, All-cons, All-from_get_or, All-head, All-push, All-tail, All-take}
use Rattle.ht_entries.specs.ItemTexts.{spaced, AreItems, AreSome, AreTaken, HasNoItem, IsDelimited, IsNextItem, IsNextWord, SameItem}
use Rattle.ht_entries.proofs.SpaceLaws.{IsNoSpace, SameParts, first_space, has_no_space}

abbrev first_of : List ℕ → ℕ
first_of [] = 0
first_of (x ∷ xs) = x

abbrev rest_of : List ℕ → List ℕ
rest_of [] = []
rest_of (x ∷ xs) = xs

-- ---- words

-- what ends or goes on with a space doesn't begin with another byte
no_other_byte : (y : ℕ) (w rest more : List ℕ) → IsNoSpace y → IsDelimited rest → rest ≡ y ∷ w ++ more → ⊥
no_other_byte y w rest more h (inl none) f = omega (arith, ap length (sym none ∙ f))
no_other_byte y w rest more h (inr d) f = h (sym (ap first_of (sym d.1 ∙ f)))

-- two words that end at a space or with the text
pub words_same : (v w rest more : List ℕ) → All IsNoSpace v → All IsNoSpace w → IsDelimited rest → IsDelimited more
    → v ++ rest ≡ w ++ more → SameParts v w rest more
words_same [] [] rest more h k d e f = record { fronts = refl; rests = f }
words_same [] (y ∷ w) rest more h k d e f = absurd (no_other_byte y w rest more (All-head IsNoSpace y w k) d f)
words_same (x ∷ v) [] rest more h k d e f = absurd (no_other_byte x v more rest (All-head IsNoSpace x v h) e (sym f))
words_same (x ∷ v) (y ∷ w) rest more h k d e f =
    let inner = words_same v w rest more (All-tail IsNoSpace x v h) (All-tail IsNoSpace y w k) d e (ap rest_of f) in
    record {
      fronts = ap (λ z. z ∷ v) (ap first_of f) ∙ ap (λ z. y ∷ z) inner.fronts;
      rests = inner.rests;
    }

-- ---- items

-- a text begins with some item
pub record SomeItem {A : Type 0} (text_of : A → List ℕ) (HasText : A → Type 0) (text : List ℕ) : Type 0 where
  pub item : A
  pub after : List ℕ
  pub is : IsNextItem text_of HasText text item after

-- Items of a text, with nothing left that is one.
pub record TakesAll {A : Type 0} (text_of : A → List ℕ) (HasText : A → Type 0) (text : List ℕ) : Type 0 where
  pub xs : List A
  pub rest : List ℕ
  pub taken : AreTaken text_of HasText text xs rest
  pub none : HasNoItem text_of HasText rest

module _ {A : Type 0} (text_of : A → List ℕ) (HasText : A → Type 0) (are : AreItems text_of HasText) where
  -- a word may end where an item begins
  pub item_delimits : (x : A) (rest : List ℕ) → IsDelimited (text_of x ++ rest)
  item_delimits x rest =
      let b = are.begins x in inr (b.0 ++ rest, ap (λ t. t ++ rest) b.1)

  cons_parts : (x : A) (xs : List A) (rest : List ℕ)
      → flat_map text_of (x ∷ xs) ++ rest ≡ text_of x ++ (flat_map text_of xs ++ rest)
  cons_parts x xs rest =
      ap (λ t. t ++ rest) (flat_map-cons text_of x xs) ∙ append_assoc (text_of x) (flat_map text_of xs) rest

  items_delimited : (xs : List A) (rest : List ℕ) → IsDelimited rest → IsDelimited (flat_map text_of xs ++ rest)
  items_delimited [] rest h = h
  items_delimited (x ∷ xs) rest h =
      subst IsDelimited (sym (cons_parts x xs rest)) (item_delimits x (flat_map text_of xs ++ rest))

  is_delimited : (x : A) (xs : List A) (rest : List ℕ) → (x ∷ xs ≡ []) ⊎ IsDelimited rest → IsDelimited rest
  is_delimited x xs rest (inl e) = absurd (omega (arith, ap length e))
  is_delimited x xs rest (inr d) = d

  -- equal texts of items, each up to a rest that begins with none, have the same items and the same rest
  pub lists_same : (xs ys : List A) (rest more : List ℕ) → All HasText xs → All HasText ys
      → (xs ≡ []) ⊎ IsDelimited rest → (ys ≡ []) ⊎ IsDelimited more → HasNoItem text_of HasText rest
      → HasNoItem text_of HasText more → flat_map text_of xs ++ rest ≡ flat_map text_of ys ++ more
      → SameItem xs ys rest more
  lists_same [] [] rest more h k a b n m e = record { items = refl; rests = e }
  lists_same [] (y ∷ ys) rest more h k a b n m e =
      absurd (n y (flat_map text_of ys ++ more) (All-head HasText y ys k)
      (items_delimited ys more (is_delimited y ys more b)) (e ∙ cons_parts y ys more))
  lists_same (x ∷ xs) [] rest more h k a b n m e =
      absurd (m x (flat_map text_of xs ++ rest) (All-head HasText x xs h)
      (items_delimited xs rest (is_delimited x xs rest a)) (sym e ∙ cons_parts x xs rest))
  lists_same (x ∷ xs) (y ∷ ys) rest more h k a b n m e =
      let c = is_delimited x xs rest a in
      let d = is_delimited y ys more b in
      let one = are.same x y (flat_map text_of xs ++ rest) (flat_map text_of ys ++ more) (All-head HasText x xs h)
      (All-head HasText y ys k) (items_delimited xs rest c) (items_delimited ys more d)
      (sym (cons_parts x xs rest) ∙ e ∙ cons_parts y ys more) in
      let others = lists_same xs ys rest more (All-tail HasText x xs h) (All-tail HasText y ys k) (inr c) (inr d) n m
      one.rests in
      record {
        items = ap (λ z. z ∷ xs) one.items ∙ ap (λ zs. y ∷ zs) others.items;
        rests = others.rests;
      }

  -- no item at the end
  pub none_at_end : HasNoItem text_of HasText []
  none_at_end x rest h d e =
      let b = are.begins x in omega (arith, ap length (e ∙ ap (λ t. t ++ rest) b.1))

  -- ---- taken one after the other

  -- before any item is taken from a text, the whole text is left
  pub none_taken : (text : List ℕ) → AreTaken text_of HasText text [] text
  none_taken text = record { parts = refl; each = All-nil HasText; ends = inl refl }

  -- with the next item of what is left, one item more is taken
  pub one_taken : (text rest after : List ℕ) (xs : List A) (x : A) → AreTaken text_of HasText text xs rest
      → IsNextItem text_of HasText rest x after → AreTaken text_of HasText text (xs ++ x ∷ []) after
  one_taken text rest after xs x h next = record {
    parts = h.parts ∙ ap (λ t. flat_map text_of xs ++ t) next.parts
        ∙ sym (append_assoc (flat_map text_of xs) (text_of x) after)
        ∙ ap (λ t. (flat_map text_of xs ++ t) ++ after) (sym (flat_map-cons text_of x [] ∙ append-nil (text_of x)))
        ∙ ap (λ t. t ++ after) (sym (flat_map-append text_of xs (x ∷ [])));
    each = All-push HasText xs x h.each next.has_text;
    ends = inr next.ends;
  }

  -- less is left after an item than before it
  pub taking_is_shorter : (rest after : List ℕ) (x : A) → IsNextItem text_of HasText rest x after
      → length after < length rest
  taking_is_shorter rest after x next =
      let b = are.begins x in
      let size = ap length (next.parts ∙ ap (λ t. t ++ after) b.1) in
      omega (arith, size, length-append b.0 after)

  -- what was taken is all that there is
  pub taken_are : (text rest more : List ℕ) (xs ys : List A) → AreTaken text_of HasText text xs rest
      → HasNoItem text_of HasText rest → All HasText ys → IsDelimited more → HasNoItem text_of HasText more
      → text ≡ flat_map text_of ys ++ more → SameItem xs ys rest more
  taken_are text rest more xs ys h none each d at_end e =
      lists_same xs ys rest more h.each each h.ends (inr d) none at_end (sym h.parts ∙ e)

  -- if all items are taken from the text of a list of items, they are that list, and nothing is left
  pub all_taken : (text rest : List ℕ) (xs ys : List A) → AreTaken text_of HasText text xs rest
      → HasNoItem text_of HasText rest → All HasText ys → text ≡ flat_map text_of ys → SameItem xs ys rest []
  all_taken text rest xs ys h none each e =
      taken_are text rest [] xs ys h none each (inl refl) none_at_end (e ∙ sym (append-nil (flat_map text_of ys)))

  -- ---- items after a word, to the end of a text

  -- a text that begins with no item after the word, or that goes on after its items, is none of items
  pub no_items_after : (word line text rest : List ℕ) (xs : List A) → line ≡ word ++ text
      → AreTaken text_of HasText text xs rest → HasNoItem text_of HasText rest → (xs ≡ []) ⊎ (rest ≢ [])
      → (other : List A) → AreSome HasText other → line ≢ word ++ flat_map text_of other
  no_items_after word line text rest xs is taken none wrong other h e =
      let same = all_taken text rest xs other taken none h.each
      (append_cancel_left word text (flat_map text_of other) (sym is ∙ e)) in
      elim wrong [
        | inl empty ↦ omega (arith, h.some, ap length (sym same.items ∙ empty))
        | inr more ↦ more same.rests
      ]

  -- a line with nothing left after a word and items is the text of the word and these items
  pub items_after_are_read : (word line text rest : List ℕ) (xs : List A) → line ≡ word ++ text
      → AreTaken text_of HasText text xs rest → rest ≡ [] → line ≡ word ++ flat_map text_of xs
  items_after_are_read word line text rest xs is taken end =
      is ∙ ap (λ t. word ++ t)
      (taken.parts ∙ ap (λ t. flat_map text_of xs ++ t) end ∙ append-nil (flat_map text_of xs))

  -- lines of one word and items with the same text have the same items
  pub items_after_same : (word : List ℕ) (xs ys : List A) → All HasText xs → All HasText ys
      → word ++ flat_map text_of xs ≡ word ++ flat_map text_of ys → xs ≡ ys
  items_after_same word xs ys h k e =
      (lists_same xs ys [] [] h k (inr (inl refl)) (inr (inl refl)) none_at_end none_at_end
      (append-nil (flat_map text_of xs) ∙ append_cancel_left word (flat_map text_of xs) (flat_map text_of ys) e
      ∙ sym (append-nil (flat_map text_of ys)))).items

  -- ---- whether bytes are items

  take_on : ((text : List ℕ) → SomeItem text_of HasText text ⊎ HasNoItem text_of HasText text) → (fuel : ℕ) (text rest : List ℕ)
      (xs : List A) → length rest < fuel → AreTaken text_of HasText text xs rest → TakesAll text_of HasText text
  take_on decide zero text rest xs enough taken = absurd (omega (arith, enough))
  take_on decide (suc fuel) text rest xs enough taken = elim (decide rest) [
    | inr none ↦ record { xs = xs; rest = rest; taken = taken; none = none }
    | inl found ↦ take_on decide fuel text found.after (xs ++ found.item ∷ [])
        (omega (arith, enough, taking_is_shorter rest found.after found.item found.is))
        (one_taken text rest found.after xs found.item taken found.is)
  ]

  -- if each text begins with an item or with none, all items in front of a text can be taken
  pub take_all : ((text : List ℕ) → SomeItem text_of HasText text ⊎ HasNoItem text_of HasText text) → (text : List ℕ)
      → TakesAll text_of HasText text
  take_all decide text = take_on decide (suc (length text)) text text [] (omega arith) (none_taken text)

-- ---- an item that is a word

module _ {A : Type 0} (word_of : A → List ℕ) (HasText : A → Type 0)
    (plain : (x : A) → HasText x → All IsNoSpace (word_of x)) where
  -- words without a space are items when each is put after one, if no two values have the same word
  pub words_are_items : ((x y : A) → HasText x → HasText y → word_of x ≡ word_of y → x ≡ y)
      → AreItems (spaced word_of) HasText
  words_are_items same = record {
    begins = λ x. (word_of x, refl);
    same = λ x y rest more h k d e f.
        let s = words_same (word_of x) (word_of y) rest more (plain x h) (plain y k) d e (ap rest_of f) in
        record { items = same x y h k s.fronts; rests = s.rests };
  }

  -- a text that doesn't begin with a space begins with no item
  pub no_space_no_item : (text : List ℕ) → ((rest : List ℕ) → text ≢ 32 ∷ rest)
      → HasNoItem (spaced word_of) HasText text
  no_space_no_item text none = λ x rest h d e. none (word_of x ++ rest) e

  -- a text whose next word is no value's begins with no item
  pub no_word_no_item : (text word rest : List ℕ) → IsNextWord text word rest
      → ((x : A) → HasText x → word ≢ word_of x) → HasNoItem (spaced word_of) HasText text
  no_word_no_item text word rest w none = λ x more h d e.
      none x h (words_same word (word_of x) rest more w.no_space (plain x h) w.ends d
      (ap rest_of (sym w.parts ∙ e))).fronts

  -- a text whose next word is that of a value begins with its item
  pub word_is_item : (text word rest : List ℕ) (x : A) → IsNextWord text word rest → word ≡ word_of x → HasText x
      → IsNextItem (spaced word_of) HasText text x rest
  word_is_item text word rest x w same h = record {
    parts = w.parts ∙ ap (λ t. 32 ∷ t ++ rest) same;
    has_text = h;
    ends = w.ends;
  }

-- ---- the words of a text

record SplitsWord (text : List ℕ) : Type 0 where
  word : List ℕ
  rest : List ℕ
  parts : text ≡ word ++ rest
  no_space : All IsNoSpace word
  ends : IsDelimited rest

split_word : (text : List ℕ) → SplitsWord text
split_word [] = record { word = []; rest = []; parts = refl; no_space = All-nil IsNoSpace; ends = inl refl }
split_word (x ∷ text) = elim (cases_eq x 32) [
  | inl space ↦ record {
    word = [];
    rest = x ∷ text;
    parts = refl;
    no_space = All-nil IsNoSpace;
    ends = inr (text, ap (λ y. y ∷ text) space);
  }
  | inr other ↦
      let more = split_word text in
      record {
        word = x ∷ more.word;
        rest = more.rest;
        parts = ap (λ t. x ∷ t) more.parts;
        no_space = All-cons IsNoSpace x more.word other more.no_space;
        ends = more.ends;
      }
]

-- a text begins with a space and a word, or with no space
pub record SomeWord (text : List ℕ) : Type 0 where
  pub word : List ℕ
  pub rest : List ℕ
  pub is : IsNextWord text word rest

-- each text has a next word, or doesn't begin with a space
pub word_or_not : (text : List ℕ) → SomeWord text ⊎ ((rest : List ℕ) → text ≢ 32 ∷ rest)
word_or_not [] = inr (λ rest e. omega (arith, ap length e))
word_or_not (x ∷ text) = elim (cases_eq x 32) [
  | inr other ↦ inr (λ rest e. other (ap first_of e))
  | inl space ↦
      let more = split_word text in
      inl (record {
        word = more.word;
        rest = more.rest;
        is = record {
          parts = ap (λ y. y ∷ text) space ∙ ap (λ t. 32 ∷ t) more.parts;
          no_space = more.no_space;
          ends = more.ends;
        };
      })
]

-- ---- the first word by the place of the first space

abbrev is_space : ℕ → Bool
is_space byte = byte == 32

rest_is : (text : List ℕ) (k : ℕ) → take (length text - k) (drop k text) ≡ drop k text
rest_is text k = ap (λ n. take n (drop k text)) (sym (length-drop k text)) ∙ take-length (drop k text)

-- a text without a space
all_plain : (text : List ℕ) → position is_space text ≡ None → All IsNoSpace text
all_plain text none = All-from_get_or IsNoSpace text 0 (λ i below space.
    has_no_space text none (take i text) (drop (suc i) text)
    (sym (take-append-drop i text) ∙ ap (λ t. take i text ++ t) (drop-cons text i 0 below)
    ∙ ap (λ x. take i text ++ x ∷ drop (suc i) text) space))

word_before : (rest : List ℕ) (found : Option ℕ) → position is_space rest ≡ found
    → All IsNoSpace (take (unwrap_or found (length rest)) rest)
word_before rest None at = All-take IsNoSpace (length rest) rest (all_plain rest at)
word_before rest (Some k) at = (first_space rest k at).before

rest_delimits : (rest : List ℕ) (found : Option ℕ) → position is_space rest ≡ found
    → IsDelimited (drop (unwrap_or found (length rest)) rest)
rest_delimits rest None at = inl (drop_of_length-le rest (omega arith))
rest_delimits rest (Some k) at =
    let here = position-Some is_space rest k 0 at in
    inr (
      drop (suc k) rest,
      drop-cons rest k 0 here.0 ∙ ap (λ x. x ∷ drop (suc k) rest) (eqb-true (get_or rest k 0) 32 here.1),
    )

-- after a space, what comes up to the next space or the end is the next word
pub first_word : (text rest : List ℕ) (end : ℕ) → text ≡ 32 ∷ rest
    → end ≡ unwrap_or (position is_space rest) (length rest)
    → IsNextWord text (take end rest) (take (length rest - end) (drop end rest))
first_word text rest end is at =
    subst (λ k. IsNextWord text (take k rest) (take (length rest - k) (drop k rest))) (sym at)
    (let k = unwrap_or (position is_space rest) (length rest) in record {
      parts = is ∙ ap (λ t. 32 ∷ t)
          (sym (take-append-drop k rest) ∙ ap (λ t. take k rest ++ t) (sym (rest_is rest k)));
      no_space = word_before rest (position is_space rest) refl;
      ends = subst IsDelimited (sym (rest_is rest k)) (rest_delimits rest (position is_space rest) refl);
    })
