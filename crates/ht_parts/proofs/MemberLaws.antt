-- The members of a part, and what is said of them.
use Rattle.std.proofs.Common.{◌≡◌, ◌≢◌, ◌∙◌, ◌<◌, ◌≤◌, ◌+◌, ◌%◌, ℕ, Bool, true, false, List, [], ◌∷◌, ◌++◌, inl, inr, length, length-append, map, get_or, refl, sym, ap, arith}
use Rattle.std.specs.Prelude.{◌&&◌, ◌==◌, if◌then◌else◌}
use Rattle.std.specs.List.{range_with_len}
use Rattle.std.proofs.lemmas.Bool.{cases_lt, eqb-false, eqb-true, false≢true}
use Rattle.std.proofs.lemmas.List.{get_or_past}
use Rattle.std.proofs.lemmas.List.FromFn.{get_or-map-range_with_len, length-map-range_with_len, map-range_with_len_more}
use Rattle.ht_faults.specs.Classes.{is_representative}
use Rattle.ht_faults.proofs.OwnLaws.{own_more, own_same}
use Rattle.ht_texts.specs.declared.said.Said.{Said}
use Rattle.ht_texts.specs.declared.said.Said.TheVariants.{Undetected}
use Rattle.ht_texts.specs.Counts.{one_if}
use Rattle.ht_texts.specs.Verdicts.{said_at}
use Rattle.ht_parts.specs.declared.part.Part.{Part}
use Rattle.ht_parts.specs.Parts.{is_in_part, part_members, part_saids, set_aside, turn_in}

-- ---- tests

first_true : (a b : Bool) → (a && b) ≡ true → a ≡ true
first_true true b both = refl
first_true false b both = both

pub second_true : (a b : Bool) → (a && b) ≡ true → b ≡ true
second_true true b both = both
second_true false b both = absurd (false≢true both)

-- ---- turns

-- the turn after that of a representative is one more
pub turn_more : (representatives : List ℕ) (i : ℕ) → get_or representatives i 0 ≡ i
    → turn_in representatives (i + 1) ≡ turn_in representatives i + 1
turn_more representatives i own =
    ap length (own_more representatives i own)
    ∙ omega (arith, length-append {A = ℕ})

-- that after another fault is the same
pub turn_same : (representatives : List ℕ) (i : ℕ) → get_or representatives i 0 ≢ i
    → turn_in representatives (i + 1) ≡ turn_in representatives i
turn_same representatives i other = ap length (own_same representatives i other)

module _ (representatives : List ℕ) (part : Part) where
  -- a fault of the part is a representative
  pub member_is_own : (i : ℕ) → is_in_part representatives part i ≡ true → is_representative representatives i ≡ true
  member_is_own i is = first_true (is_representative representatives i) _ is

  -- ---- the list of members

  pub members_more : (i : ℕ) → map (is_in_part representatives part) (range_with_len 0 (i + 1))
      ≡ map (is_in_part representatives part) (range_with_len 0 i) ++ is_in_part representatives part i ∷ []
  members_more i = map-range_with_len_more (is_in_part representatives part) 0 i i (omega arith)

  pub member_flag : (i : ℕ) → i < length representatives
      → get_or (part_members representatives part) i false ≡ is_in_part representatives part i
  member_flag i inside =
      get_or-map-range_with_len (is_in_part representatives part) 0 (length representatives) i i false inside
      (omega arith)

  -- ---- dealt out so far

  -- It is said of the first i faults whether they are members, and how many representatives they have.
  pub record AreDealt (members : List Bool) (turn i : ℕ) : Type 0 where
    pub members_are : members ≡ map (is_in_part representatives part) (range_with_len 0 i)
    pub turn_is : turn ≡ turn_in representatives i
    pub few : turn ≤ i

  next_turn : (turn i : ℕ) (own : Bool) → own ≡ is_representative representatives i → turn ≡ turn_in representatives i
      → turn + one_if own ≡ turn_in representatives (i + 1)
  next_turn turn i true own is =
      ap (λ n. n + 1) is ∙ sym (turn_more representatives i (eqb-true (get_or representatives i 0) i (sym own)))
  next_turn turn i false own is =
      omega (arith, is, turn_same representatives i (eqb-false (get_or representatives i 0) i (sym own)))

  one_few : (own : Bool) → one_if own ≤ 1
  one_few true = omega arith
  one_few false = omega arith

  -- one fault more
  pub one_dealt : (members new : List Bool) (turn next i : ℕ) (own : Bool) → AreDealt members turn i
      → own ≡ is_representative representatives i
      → new ≡ members ++ (own && (turn % part.count == part.index)) ∷ [] → next ≡ turn + one_if own
      → AreDealt new next (i + 1)
  one_dealt members new turn next i own dealt own_is new_is next_is =
      let few = dealt.few in
      let little = one_few own in record {
        members_are = new_is
            ∙ (ap (λ l. l ++ (own && (turn % part.count == part.index)) ∷ []) dealt.members_are
            ∙ (ap (λ b. map (is_in_part representatives part) (range_with_len 0 i)
            ++ (b && (turn % part.count == part.index)) ∷ []) own_is
            ∙ (ap (λ t. map (is_in_part representatives part) (range_with_len 0 i)
            ++ (is_representative representatives i && (t % part.count == part.index)) ∷ []) dealt.turn_is
            ∙ sym (members_more i))));
        turn_is = next_is ∙ next_turn turn i own own_is dealt.turn_is;
        few = omega (arith, few, little, next_is);
      }

  -- who is a member is of the part
  pub flag_is_member : (i : ℕ) → get_or (part_members representatives part) i false ≡ true
      → is_in_part representatives part i ≡ true
  flag_is_member i flag = elim (cases_lt i (length representatives)) [
    | inl inside ↦ sym (member_flag i inside) ∙ flag
    | inr past ↦ absurd (false≢true (sym (get_or_past (part_members representatives part) i false
        (omega (arith, past, length-map-range_with_len (is_in_part representatives part) 0 (length representatives))))
        ∙ flag))
  ]

  -- ---- what is said of the part

  pub length-part_saids : (saids : List Said) → length (part_saids representatives part saids) ≡ length saids
  length-part_saids saids = length-map-range_with_len
      (λ i. if is_in_part representatives part i then said_at saids i else set_aside) 0 (length saids)

  pub said_in_part : (saids : List Said) (i : ℕ) → i < length saids
      → said_at (part_saids representatives part saids) i
      ≡ (if is_in_part representatives part i then said_at saids i else set_aside)
  said_in_part saids i inside = get_or-map-range_with_len
      (λ i. if is_in_part representatives part i then said_at saids i else set_aside) 0 (length saids) i i Undetected
      inside (omega arith)

  -- what is said of a member stays
  pub said_of_member : (saids : List Said) (i : ℕ) → i < length saids → is_in_part representatives part i ≡ true
      → said_at (part_saids representatives part saids) i ≡ said_at saids i
  said_of_member saids i inside is =
      said_in_part saids i inside ∙ ap (λ b. if b then said_at saids i else set_aside) is

  -- and what is said of others is set aside
  pub said_of_other : (saids : List Said) (i : ℕ) → i < length saids → is_in_part representatives part i ≡ false
      → said_at (part_saids representatives part saids) i ≡ set_aside
  said_of_other saids i inside is =
      said_in_part saids i inside ∙ ap (λ b. if b then said_at saids i else set_aside) is
