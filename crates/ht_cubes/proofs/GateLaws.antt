-- The clauses of a gate are true of its values.
use Rattle.std.proofs.Common.{◌≡◌, ℕ, suc, zero, List, [], ◌∷◌, ◌++◌, map, Bool, true, false, not, length, refl, sym, ◌∙◌, ap, arith, inl, inr, ◌⊎◌}
use Rattle.std.specs.Prelude.{nat_le}
use Rattle.std.specs.List.{All, filter, list_any}
use Rattle.std.proofs.lemmas.Bool.{cases_Bool, or_left, or_right, not_from_false, cond_both}
use Rattle.std.proofs.lemmas.List.Elements.{All-nil, All-cons, All-append, All-map, All-filter, filter_passes}
use Rattle.ht_tern.specs.declared.tern.Tern.{Tern}
use Rattle.ht_tern.specs.declared.tern.Tern.TheVariants.{Zero, One, Unk}
use Rattle.ht_tern.specs.declared.gate.Kind.{Kind}
use Rattle.ht_tern.specs.declared.gate.Kind.TheVariants.{And, Nand, Or, Nor, Xor, Xnor, Not, Buf}
use Rattle.ht_tern.specs.Gate.{tern_of, complement_of, and_of, or_of, xor_of, bool_xor, folded, gate_value, operation_of, polarity_of, tern_operations, AllRelated}
use Rattle.ht_cubes.specs.declared.signed_var.SignedVar.{SignedVar}
use Rattle.ht_cubes.specs.declared.signal.Signal.{Signal}
use Rattle.ht_cubes.specs.Formula.{complement, rail_of, stuck_signal, turned, needs, either_clauses, single_clauses, controlled_clauses, choices, parity_of, excluded, max_parity_pins, exclusions, parity_clauses, kind_clauses, uninverted, gate_clauses}
use Rattle.ht_cubes.proofs.MeaningLaws.{truth_of, IsTrueClause, AreTrueClauses, complement_truth, needs_some, just_one, denied_fails}

-- the value is definitely the bit
abbrev pub is_definitely : Bool → Tern → Bool
is_definitely false Zero = true
is_definitely true One = true
is_definitely bit value = false

-- the rails of a signal say what the value is
abbrev pub Tells : (ℕ → Bool) → Signal → Tern → Type 0
Tells values s t = (bit : Bool) → truth_of values (rail_of s bit) ≡ is_definitely bit t

-- what is definitely a bit is that bit, and the other way round
pub definite_is : (bit : Bool) (t : Tern) → is_definitely bit t ≡ true → t ≡ tern_of bit
definite_is bit t e = grind arith

-- the value of a bit is definitely that bit
pub is_definite : (bit : Bool) → is_definitely bit (tern_of bit) ≡ true
is_definite true = refl
is_definite false = refl

definitely_turned : (bit : Bool) (t : Tern) → is_definitely (not bit) t ≡ is_definitely bit (complement_of t)
definitely_turned bit t = grind arith

rail_turned : (s : Signal) (bit : Bool) → rail_of (turned s) bit ≡ rail_of s (not bit)
rail_turned s true = refl
rail_turned s false = refl

tells_turned : (values : ℕ → Bool) (s : Signal) (t : Tern) → Tells values s t
    → Tells values (turned s) (complement_of t)
tells_turned values s t h bit = ap (truth_of values) (rail_turned s bit) ∙ (h (not bit) ∙ definitely_turned bit t)

-- the signal of a stuck line tells the bit at which it is stuck
pub tells_stuck : (values : ℕ → Bool) → values 0 ≡ true → (stuck : Bool)
    → Tells values (stuck_signal stuck) (tern_of stuck)
tells_stuck values h true true = h
tells_stuck values h true false = ap not h
tells_stuck values h false true = ap not h
tells_stuck values h false false = h

-- values that are all v, and of which some is
abbrev AllAre : Tern → List Tern → Type 0
AllAre v [] = Unit {0}
AllAre v (t ∷ ts) = (t ≡ v) × AllAre v ts

abbrev SomeIs : Tern → List Tern → Type 0
SomeIs v [] = ⊥
SomeIs v (t ∷ ts) = (t ≡ v) ⊎ SomeIs v ts

and_both : (a b : Tern) → and_of a b ≡ One → (a ≡ One) × (b ≡ One)
and_both a b e = (grind arith, grind arith)

and_either : (a b : Tern) → and_of a b ≡ Zero → (a ≡ Zero) ⊎ (b ≡ Zero)
and_either a b e = grind arith

or_both : (a b : Tern) → or_of a b ≡ Zero → (a ≡ Zero) × (b ≡ Zero)
or_both a b e = (grind arith, grind arith)

or_either : (a b : Tern) → or_of a b ≡ One → (a ≡ One) ⊎ (b ≡ One)
or_either a b e = grind arith

-- a fold that is v only where both parts are
all_from_fold : (op : Tern → Tern → Tern) (v : Tern) → ((a b : Tern) → op a b ≡ v → (a ≡ v) × (b ≡ v))
    → (t : Tern) (ts : List Tern) → folded op t ts ≡ v → (t ≡ v) × AllAre v ts
all_from_fold op v parts t [] h = (h, tt)
all_from_fold op v parts t (b ∷ ts) h =
    let rest = all_from_fold op v parts (op t b) ts h in
    let two = parts t b rest.0 in
    (two.0, (two.1, rest.1))

-- a fold that is v only where one part is
some_from_fold : (op : Tern → Tern → Tern) (v : Tern) → ((a b : Tern) → op a b ≡ v → (a ≡ v) ⊎ (b ≡ v))
    → (t : Tern) (ts : List Tern) → folded op t ts ≡ v → (t ≡ v) ⊎ SomeIs v ts
some_from_fold op v parts t [] h = inl h
some_from_fold op v parts t (b ∷ ts) h = elim (some_from_fold op v parts (op t b) ts h) [
  | inl first ↦ elim (parts t b first) [ inl left ↦ inl left | inr right ↦ inr (inl right) ]
  | inr more ↦ inr (inr more)
]

-- parities
abbrev AllDefinite : List Tern → Type 0
AllDefinite [] = Unit {0}
AllDefinite (t ∷ ts) = ¬ (t ≡ Unk) × AllDefinite ts

xor_both : (a b : Tern) → ¬ (xor_of a b ≡ Unk) → ¬ (a ≡ Unk) × ¬ (b ≡ Unk)
xor_both Unk b h = absurd (h refl)
xor_both Zero Zero h = ((λ e. cc), (λ e. cc))
xor_both Zero One h = ((λ e. cc), (λ e. cc))
xor_both Zero Unk h = absurd (h refl)
xor_both One Zero h = ((λ e. cc), (λ e. cc))
xor_both One One h = ((λ e. cc), (λ e. cc))
xor_both One Unk h = absurd (h refl)

xor_definite : (t : Tern) (ts : List Tern) → ¬ (folded xor_of t ts ≡ Unk) → ¬ (t ≡ Unk) × AllDefinite ts
xor_definite t [] h = (h, tt)
xor_definite t (b ∷ ts) h =
    let rest = xor_definite (xor_of t b) ts h in
    let two = xor_both t b rest.0 in
    (two.0, (two.1, rest.1))

bit_known : (bit : Bool) → tern_of bit ≡ Unk → ⊥
bit_known true e = cc
bit_known false e = cc

not_unknown : (bit : Bool) (t : Tern) → is_definitely bit t ≡ true → ¬ (t ≡ Unk)
not_unknown bit t h e = bit_known bit (sym (definite_is bit t h) ∙ e)

xor_bits : (a b : Bool) → xor_of (tern_of a) (tern_of b) ≡ tern_of (bool_xor a b)
xor_bits true true = refl
xor_bits true false = refl
xor_bits false true = refl
xor_bits false false = refl

xor_assoc : (a b p : Bool) → bool_xor (bool_xor a b) p ≡ bool_xor a (bool_xor b p)
xor_assoc true true true = refl
xor_assoc true true false = refl
xor_assoc true false p = refl
xor_assoc false b p = refl

xor_right : (a : Bool) → bool_xor a false ≡ a
xor_right true = refl
xor_right false = refl

-- the fold of bits is their parity
xor_folded : (a : Bool) (bits : List Bool)
    → folded xor_of (tern_of a) (map tern_of bits) ≡ tern_of (bool_xor a (parity_of bits))
xor_folded a [] = ap tern_of (sym (xor_right a))
xor_folded a (b ∷ bits) = ap (λ (v : Tern). folded xor_of v (map tern_of bits)) (xor_bits a b)
    ∙ (xor_folded (bool_xor a b) bits ∙ ap tern_of (xor_assoc a b (parity_of bits)))

-- a bit isn't that of another parity
unlike_bit : (a b : Bool) → bool_xor a b ≡ true → is_definitely a (tern_of b) ≡ false
unlike_bit true true e = cc
unlike_bit true false e = refl
unlike_bit false true e = refl
unlike_bit false false e = cc

-- each choice of n bits has n bits
pub choices_long : (n : ℕ) → All (λ (bits : List Bool). length bits ≡ n) (choices n)
choices_long zero = All-cons (λ (bits : List Bool). length bits ≡ 0) [] [] refl
    (All-nil (λ (bits : List Bool). length bits ≡ 0))
choices_long (suc n) =
    let one : (b : Bool) → All (λ (bits : List Bool). length bits ≡ suc n) (map (λ bits. b ∷ bits) (choices n)) =
    λ b. All-map (λ (bits : List Bool). length bits ≡ suc n) (λ bits. b ∷ bits) (choices n)
    (λ k d inside. ap suc (choices_long n k d inside)) in
    All-append (λ (bits : List Bool). length bits ≡ suc n) (map (λ bits. false ∷ bits) (choices n))
    (map (λ bits. true ∷ bits) (choices n)) (one false) (one true)

twice : (t : Tern) → complement_of (complement_of t) ≡ t
twice Zero = refl
twice One = refl
twice Unk = refl

module _ (values : ℕ → Bool) where
  -- a line isn't both
  pub either_true : (s : Signal) (t : Tern) → Tells values s t → AreTrueClauses values (either_clauses s)
  either_true s t h = All-cons (IsTrueClause values) _ [] (needs_some values s.zero (complement s.one ∷ [])
      (λ zero. just_one values (complement s.one) (complement_truth values s.one
      ∙ not_from_false (truth_of values s.one) (h true ∙ only t (sym (h false) ∙ zero)))))
      (All-nil (IsTrueClause values))
    where
      only : (t : Tern) → is_definitely false t ≡ true → is_definitely true t ≡ false
      only Zero e = refl
      only One e = cc
      only Unk e = refl

  all_need : (bit : Bool) (out : Signal) (pins : List Signal) (ts : List Tern) → AllRelated (Tells values) pins ts
      → (truth_of values (rail_of out bit) ≡ true → AllAre (tern_of bit) ts)
      → AreTrueClauses values (map (λ (p : Signal). needs (rail_of out bit) (rail_of p bit ∷ [])) pins)
  all_need bit out [] ts are h = All-nil (IsTrueClause values)
  all_need bit out (p ∷ pins) [] are h = absurd are
  all_need bit out (p ∷ pins) (t ∷ ts) are h =
      All-cons (IsTrueClause values) _ (map (λ (q : Signal). needs (rail_of out bit) (rail_of q bit ∷ [])) pins)
      (needs_some values (rail_of out bit) (rail_of p bit ∷ [])
      (λ so. just_one values (rail_of p bit) (are.0 bit ∙ (ap (is_definitely bit) (h so).0 ∙ is_definite bit))))
      (all_need bit out pins ts are.1 (λ so. (h so).1))

  some_rail : (bit : Bool) (pins : List Signal) (ts : List Tern) → AllRelated (Tells values) pins ts
      → SomeIs (tern_of bit) ts → list_any (truth_of values) (map (λ (p : Signal). rail_of p bit) pins) ≡ true
  some_rail bit [] [] are h = absurd h
  some_rail bit [] (t ∷ ts) are h = absurd are
  some_rail bit (p ∷ pins) [] are h = absurd are
  some_rail bit (p ∷ pins) (t ∷ ts) are h = elim h [
    | inl at ↦ or_left (truth_of values (rail_of p bit)) _
        (are.0 bit ∙ (ap (is_definitely bit) at ∙ is_definite bit))
    | inr more ↦ or_right (truth_of values (rail_of p bit)) _ (some_rail bit pins ts are.1 more)
  ]

  -- the value that a true rail tells
  told : (out : Signal) (value : Tern) (bit : Bool) → Tells values out value → truth_of values (rail_of out bit) ≡ true
      → value ≡ tern_of bit
  told out value bit tells so = definite_is bit value (sym (tells bit) ∙ so)

  controlled_true : (bit : Bool) (out : Signal) (pins : List Signal) (value : Tern) (ts : List Tern)
      → AllRelated (Tells values) pins ts → Tells values out value
      → (value ≡ tern_of (not bit) → AllAre (tern_of (not bit)) ts) → (value ≡ tern_of bit → SomeIs (tern_of bit) ts)
      → AreTrueClauses values (controlled_clauses bit out pins)
  controlled_true bit out pins value ts are tells all some =
      All-append (IsTrueClause values)
      (map (λ (p : Signal). needs (rail_of out (not bit)) (rail_of p (not bit) ∷ [])) pins)
      (needs (rail_of out bit) (map (λ (p : Signal). rail_of p bit) pins) ∷ [])
      (all_need (not bit) out pins ts are (λ so. all (told out value (not bit) tells so)))
      (All-cons (IsTrueClause values) (needs (rail_of out bit) (map (λ (p : Signal). rail_of p bit) pins)) []
      (needs_some values (rail_of out bit) (map (λ (p : Signal). rail_of p bit) pins)
      (λ so. some_rail bit pins ts are (some (told out value bit tells so))))
      (All-nil (IsTrueClause values)))

  one_of_both : (p : Signal) (t : Tern) → Tells values p t → ¬ (t ≡ Unk)
      → list_any (truth_of values) (p.zero ∷ p.one ∷ []) ≡ true
  one_of_both p Zero tells known = or_left (truth_of values p.zero) _ (tells false)
  one_of_both p One tells known = or_right (truth_of values p.zero) _ (just_one values p.one (tells true))
  one_of_both p Unk tells known = absurd (known refl)

  definite_true : (rail : SignedVar) (pins : List Signal) (ts : List Tern) → AllRelated (Tells values) pins ts
      → (truth_of values rail ≡ true → AllDefinite ts)
      → AreTrueClauses values (map (λ (p : Signal). needs rail (p.zero ∷ p.one ∷ [])) pins)
  definite_true rail [] ts are h = All-nil (IsTrueClause values)
  definite_true rail (p ∷ pins) [] are h = absurd are
  definite_true rail (p ∷ pins) (t ∷ ts) are h =
      All-cons (IsTrueClause values) _ (map (λ (q : Signal). needs rail (q.zero ∷ q.one ∷ [])) pins)
      (needs_some values rail (p.zero ∷ p.one ∷ []) (λ so. one_of_both p t are.0 (h so).0))
      (definite_true rail pins ts are.1 (λ so. (h so).1))

  -- what excludes a choice fails only where the pins are at its bits
  chosen : (pins : List Signal) (ts : List Tern) (bits : List Bool) → length bits ≡ length pins
      → AllRelated (Tells values) pins ts → list_any (truth_of values) (excluded pins bits) ≡ false
      → ts ≡ map tern_of bits
  chosen [] [] [] long are h = refl
  chosen [] [] (b ∷ bits) long are h = absurd (omega arith)
  chosen [] (t ∷ ts) bits long are h = absurd are
  chosen (p ∷ pins) ts [] long are h = absurd (omega arith)
  chosen (p ∷ pins) [] (b ∷ bits) long are h = absurd are
  chosen (p ∷ pins) (t ∷ ts) (b ∷ bits) long are h =
      let parts = denied_fails values (rail_of p b) (excluded pins bits) h in
      let here : t ≡ tern_of b = definite_is b t (sym (are.0 b) ∙ parts.0) in
      let rest = chosen pins ts bits (omega arith) are.1 parts.1 in
      (λ k. here k ∷ rest k)

  fold_chosen : (t : Tern) (ts : List Tern) (bits : List Bool) → t ∷ ts ≡ map tern_of bits
      → folded xor_of t ts ≡ tern_of (parity_of bits)
  fold_chosen t ts [] e = cc
  fold_chosen t ts (b ∷ bits) e =
      let head : t ≡ tern_of b = cc in
      let tail : ts ≡ map tern_of bits = cc in
      (λ k. folded xor_of (head k) (tail k)) ∙ xor_folded b bits

  exclusion_true : (bit : Bool) (out : Signal) (pins : List Signal) (t : Tern) (ts : List Tern) (bits : List Bool)
      → AllRelated (Tells values) pins (t ∷ ts) → Tells values out (folded xor_of t ts) → length bits ≡ length pins
      → bool_xor bit (parity_of bits) ≡ true
      → IsTrueClause values (needs (rail_of out bit) (excluded pins bits))
  exclusion_true bit out pins t ts bits are tells long other =
      elim (cases_Bool (list_any (truth_of values) (excluded pins bits))) [
        | inl holds ↦ or_right (truth_of values (complement (rail_of out bit))) _ holds
        | inr fails ↦ or_left (truth_of values (complement (rail_of out bit))) _
            (complement_truth values (rail_of out bit) ∙ not_from_false (truth_of values (rail_of out bit))
            (tells bit ∙ (ap (is_definitely bit) (fold_chosen t ts bits (chosen pins (t ∷ ts) bits long are fails))
            ∙ unlike_bit bit (parity_of bits) other)))
      ]

  exclusions_true : (bit : Bool) (out : Signal) (pins : List Signal) (t : Tern) (ts : List Tern)
      → AllRelated (Tells values) pins (t ∷ ts) → Tells values out (folded xor_of t ts)
      → AreTrueClauses values (exclusions bit out pins)
  exclusions_true bit out pins t ts are tells =
      let test : List Bool → Bool = λ bits. bool_xor bit (parity_of bits) in
      let few = filter test (choices (length pins)) in
      let long : All (λ (bits : List Bool). length bits ≡ length pins) few =
      All-filter test (λ (bits : List Bool). length bits ≡ length pins) (choices (length pins))
      (choices_long (length pins)) in
      let other : All (λ (bits : List Bool). test bits ≡ true) few = filter_passes test (choices (length pins)) in
      All-map (IsTrueClause values) (λ bits. needs (rail_of out bit) (excluded pins bits)) few
      (λ k d inside. exclusion_true bit out pins t ts _ are tells (long k d inside) (other k d inside))

  parity_true : (bit : Bool) (out : Signal) (pins : List Signal) (t : Tern) (ts : List Tern)
      → AllRelated (Tells values) pins (t ∷ ts) → Tells values out (folded xor_of t ts)
      → AreTrueClauses values (parity_clauses bit out pins)
  parity_true bit out pins t ts are tells =
      All-append (IsTrueClause values) (map (λ (p : Signal). needs (rail_of out bit) (p.zero ∷ p.one ∷ [])) pins) _
      (definite_true (rail_of out bit) pins (t ∷ ts) are
      (λ so. xor_definite t ts (not_unknown bit (folded xor_of t ts) (sym (tells bit) ∙ so))))
      (cond_both (nat_le (length pins) max_parity_pins) (exclusions bit out pins) [] (AreTrueClauses values)
      (λ few. exclusions_true bit out pins t ts are tells) (λ many. All-nil (IsTrueClause values)))

  single_true : (out p : Signal) (t : Tern) → Tells values p t → Tells values out t
      → AreTrueClauses values (single_clauses out p)
  single_true out p t tells h =
      let one : (bit : Bool) → IsTrueClause values (needs (rail_of out bit) (rail_of p bit ∷ [])) =
      λ bit. needs_some values (rail_of out bit) (rail_of p bit ∷ [])
      (λ so. just_one values (rail_of p bit) (tells bit ∙ (sym (h bit) ∙ so))) in
      All-cons (IsTrueClause values) (needs out.zero (p.zero ∷ [])) (needs out.one (p.one ∷ []) ∷ []) (one false)
      (All-cons (IsTrueClause values) (needs out.one (p.one ∷ [])) [] (one true) (All-nil (IsTrueClause values)))

  back : (out : Signal) (t : Tern) → Tells values out (complement_of t) → Tells values (turned out) t
  back out t h bit = tells_turned values out (complement_of t) h bit ∙ ap (is_definitely bit) (twice t)

  tells_uninverted : (kind : Kind) (out : Signal) (value : Tern)
      → Tells values out (polarity_of tern_operations kind value) → Tells values (uninverted kind out) value
  tells_uninverted And out value h = h
  tells_uninverted Nand out value h = back out value h
  tells_uninverted Or out value h = h
  tells_uninverted Nor out value h = back out value h
  tells_uninverted Xor out value h = h
  tells_uninverted Xnor out value h = back out value h
  tells_uninverted Not out value h = back out value h
  tells_uninverted Buf out value h = h

  and_true : (out : Signal) (pins : List Signal) (t : Tern) (ts : List Tern)
      → AllRelated (Tells values) pins (t ∷ ts) → Tells values out (folded and_of t ts)
      → AreTrueClauses values (controlled_clauses false out pins)
  and_true out pins t ts are tells = controlled_true false out pins (folded and_of t ts) (t ∷ ts) are tells
      (all_from_fold and_of One and_both t ts) (some_from_fold and_of Zero and_either t ts)

  or_true : (out : Signal) (pins : List Signal) (t : Tern) (ts : List Tern)
      → AllRelated (Tells values) pins (t ∷ ts) → Tells values out (folded or_of t ts)
      → AreTrueClauses values (controlled_clauses true out pins)
  or_true out pins t ts are tells = controlled_true true out pins (folded or_of t ts) (t ∷ ts) are tells
      (all_from_fold or_of Zero or_both t ts) (some_from_fold or_of One or_either t ts)

  xor_true : (out : Signal) (pins : List Signal) (t : Tern) (ts : List Tern)
      → AllRelated (Tells values) pins (t ∷ ts) → Tells values out (folded xor_of t ts)
      → AreTrueClauses values (parity_clauses false out pins ++ parity_clauses true out pins)
  xor_true out pins t ts are tells = All-append (IsTrueClause values) (parity_clauses false out pins)
      (parity_clauses true out pins) (parity_true false out pins t ts are tells)
      (parity_true true out pins t ts are tells)

  kind_true : (kind : Kind) (out : Signal) (pins : List Signal) (t : Tern) (ts : List Tern)
      → AllRelated (Tells values) pins (t ∷ ts)
      → Tells values out (folded (operation_of tern_operations kind) t ts)
      → AreTrueClauses values (kind_clauses kind out pins)
  kind_true And out pins t ts are tells = and_true out pins t ts are tells
  kind_true Nand out pins t ts are tells = and_true out pins t ts are tells
  kind_true Or out pins t ts are tells = or_true out pins t ts are tells
  kind_true Nor out pins t ts are tells = or_true out pins t ts are tells
  kind_true Xor out pins t ts are tells = xor_true out pins t ts are tells
  kind_true Xnor out pins t ts are tells = xor_true out pins t ts are tells
  kind_true Not out pins t ts are tells = All-nil (IsTrueClause values)
  kind_true Buf out pins t ts are tells = All-nil (IsTrueClause values)

  -- the clauses of a gate are true of its values
  pub gate_true : (kind : Kind) (out : Signal) (pins : List Signal) (ts : List Tern)
      → AllRelated (Tells values) pins ts → Tells values out (gate_value kind ts)
      → AreTrueClauses values (gate_clauses kind out pins)
  gate_true kind out [] ts are tells = All-nil (IsTrueClause values)
  gate_true kind out (p ∷ []) [] are tells = absurd are
  gate_true kind out (p ∷ []) (t ∷ []) are tells =
      single_true (uninverted kind out) p t are.0 (tells_uninverted kind out t tells)
  gate_true kind out (p ∷ []) (t ∷ u ∷ ts) are tells = absurd are.1
  gate_true kind out (p ∷ q ∷ pins) [] are tells = absurd are
  gate_true kind out (p ∷ q ∷ pins) (t ∷ ts) are tells =
      kind_true kind (uninverted kind out) (p ∷ q ∷ pins) t ts are (tells_uninverted kind out _ tells)
