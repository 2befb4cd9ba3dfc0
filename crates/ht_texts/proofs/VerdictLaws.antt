-- A verdict has one text: it tells the kind, and the place of a detection.
use Rattle.std.proofs.Common.{◌≡◌, ◌≢◌, ◌==◌, ◌⊎◌, inl, inr, ℕ, suc, ◌+◌, ◌-◌, ◌^◌, ◌<◌, Bool, cond, List, [], ◌∷◌, ◌++◌, Some, None, length, get_or, take, drop, append_assoc, length-append, length-drop, add-one, drop-cons, refl, sym, ap, ◌∙◌, subst, arith}
use Rattle.std.specs.Prelude.{codes, if◌then◌else◌, nat_lt}
use Rattle.std.specs.Fmt.{decimal}
use Rattle.std.specs.List.{position, position_or_len}
use Rattle.std.proofs.lemmas.Bool.{cases_order, cond_below, eqb-true, ne_eqb}
use Rattle.std.proofs.lemmas.Fmt.{decimal_is_IsNumeral, decimal_injective}
use Rattle.std.proofs.lemmas.List.{append_cancel_left, get_or_append_left, take-append-drop}
use Rattle.std.proofs.lemmas.List.Quantifiers.{position-Some}
use Rattle.std.proofs.lemmas.List.Sums.{position_or_len_is}
use Rattle.std.proofs.lemmas.Option.{none-some, same_Some}
use Rattle.std.proofs.lemmas.Str.Parse.{digit_at}
use Rattle.std.proofs.Math.Seq.{get_or-append_seam, take-append_seam, take-length, drop-append-add}
use Rattle.ht_net.specs.declared.net.NetId.{NetId}
use Rattle.ht_net.specs.declared.place.Place.{Place}
use Rattle.ht_net.specs.Circuit.Lists.{AllDiffer}
use Rattle.ht_net.specs.Circuit.Netlist.{Netlist, IsCircuit, no_net}
use Rattle.ht_net.specs.Detect.Detection.{IsPlace}
use Rattle.ht_texts.specs.declared.said.Said.{Said}
use Rattle.ht_texts.specs.declared.said.Said.TheVariants.{Detected, Untestable, Undetectable, Aborted, Undetected}
use Rattle.ht_texts.specs.Sites.{output_text}
use Rattle.ht_texts.specs.Verdicts.{IsSayable, kind_number, place_pieces, place_text, verdict_text}
use Rattle.ht_texts.proofs.PieceLaws.{added}

-- ---- the kind

-- both are a detection, at places with one text
abbrev BothDetected : Netlist → Said → Said → Type 0
BothDetected c a b = (p : Place) × (q : Place) × (a ≡ Detected p) × (b ≡ Detected q)
    × (place_text c p ≡ place_text c q)

-- the kind of a verdict is told by three letters of its text
told_kind : List ℕ → ℕ
told_kind text = if get_or text 0 0 == 100 then 0 else if get_or text 0 0 == 97 then 3
    else if get_or text 2 0 == 116 then 1 else if get_or text 8 0 == 97 then 2 else 4

kind_is_told : (c : Netlist) (a : Said) → told_kind (verdict_text c a) ≡ kind_number a
unfolding told_kind
kind_is_told c (Detected place) = refl
kind_is_told c Untestable = refl
kind_is_told c Undetectable = refl
kind_is_told c Aborted = refl
kind_is_told c Undetected = refl

-- verdicts with one text are of one kind, and count alike
abbrev pub SameKind : Said → Said → Type 0
SameKind a b = kind_number a ≡ kind_number b

-- verdicts with the same text are of the same kind
pub same_kind : (c : Netlist) (a b : Said) → verdict_text c a ≡ verdict_text c b → SameKind a b
same_kind c a b e = sym (kind_is_told c a) ∙ ap told_kind e ∙ kind_is_told c b

-- the verdict of a kind that isn't a detection
of_kind : ℕ → Said
of_kind kind = if kind == 1 then Untestable else if kind == 2 then Undetectable else if kind == 3 then Aborted
    else Undetected

kind_or_place : (a : Said) → (a ≡ of_kind (kind_number a)) ⊎ ((p : Place) × (a ≡ Detected p))
unfolding of_kind
kind_or_place (Detected place) = inr (place, refl)
kind_or_place Untestable = inl refl
kind_or_place Undetectable = inl refl
kind_or_place Aborted = inl refl
kind_or_place Undetected = inl refl

-- a detection is of no other verdict's kind
no_place_kind : (a b : Said) (p : Place) → a ≡ Detected p → b ≡ of_kind (kind_number b) → SameKind a b → ⊥
unfolding of_kind
no_place_kind a b p at is kinds =
    let here : kind_number b ≡ 0 = sym kinds ∙ ap kind_number at in
    let other : kind_number b ≡ 4 = ap kind_number (is ∙ ap of_kind here) in
    omega (arith, here, other)

-- a detection is a word and its place
pub detection_parts : (c : Netlist) (place : Place)
    → verdict_text c (Detected place) ≡ codes "detected " ++ place_text c place
detection_parts c place = added (codes "detected ") (place_pieces c place)

-- the same verdict, or both are a detection
same_text : (c : Netlist) (a b : Said) → verdict_text c a ≡ verdict_text c b → (a ≡ b) ⊎ BothDetected c a b
same_text c a b e = elim (kind_or_place a) [
  | inl of_a ↦ elim (kind_or_place b) [
    | inl of_b ↦ inl (of_a ∙ ap of_kind (same_kind c a b e) ∙ sym of_b)
    | inr at_b ↦ absurd (no_place_kind b a at_b.0 at_b.1 of_a (sym (same_kind c a b e)))
  ]
  | inr at_a ↦ elim (kind_or_place b) [
    | inl of_b ↦ absurd (no_place_kind a b at_a.0 at_a.1 of_b (same_kind c a b e))
    | inr at_b ↦ inr (
      at_a.0,
      at_b.0,
      at_a.1,
      at_b.1,
      append_cancel_left (codes "detected ") (place_text c at_a.0) (place_text c at_b.0)
          (sym (detection_parts c at_a.0) ∙ sym (ap (verdict_text c) at_a.1) ∙ e ∙ ap (verdict_text c) at_b.1
          ∙ detection_parts c at_b.0),
    )
  ]
]

-- ---- the place

-- no digit is a space
no_space : (n k : ℕ) → n < 2 ^ 64 → k < length (decimal n) → get_or (decimal n) k 0 ≢ 32
no_space n k small below e =
    let digit = digit_at (decimal n) k (decimal_is_IsNumeral n small).0.1 below in
    omega (arith, digit, e)

abbrev is_space : ℕ → Bool
is_space byte = byte == 32

first_space : (n : ℕ) (name : List ℕ) → n < 2 ^ 64
    → position_or_len is_space (decimal n ++ 32 ∷ name) ≡ length (decimal n)
first_space n name small =
    let size = length-append (decimal n) (32 ∷ name) in
    position_or_len_is is_space (decimal n ++ 32 ∷ name) (length (decimal n)) 0 (omega (arith, size))
    (λ k below. ne_eqb (get_or (decimal n ++ 32 ∷ name) k 0) 32
    (λ e. no_space n k small below (sym (get_or_append_left (decimal n) (32 ∷ name) 0 k below) ∙ e)))
    (λ _. ap is_space (get_or-append_seam (decimal n) 32 name 0))

-- a number, a space and a name are told apart at the first space
pub record NumberAndName (text : List ℕ) (n : ℕ) (name : List ℕ) : Type 0 where
  pub space : position is_space text ≡ Some (length (decimal n))
  pub number : take (length (decimal n)) text ≡ decimal n
  pub name_is : drop (length (decimal n) + 1) text ≡ name

number_and_name : (n : ℕ) (name : List ℕ) → n < 2 ^ 64 → NumberAndName (decimal n ++ 32 ∷ name) n name
number_and_name n name small =
    let text : List ℕ = decimal n ++ 32 ∷ name in
    let at = first_space n name small in
    let inside : length (decimal n) < length text = omega (arith, length-append (decimal n) (32 ∷ name)) in record {
      space = ap (λ k. cond (nat_lt k (length text)) (Some k) None) at
          ∙ sym (cond_below (length (decimal n)) (length text) (Some (length (decimal n))) None inside);
      number = take-append_seam (decimal n) (32 ∷ name);
      name_is = drop-append-add (decimal n) (32 ∷ name) 1;
    }

-- the first space in the text of a place parts the number of its vector from the name of its output
pub place_parts : (c : Netlist) (text : List ℕ) (place : Place) → IsPlace c place → text ≡ place_text c place
    → NumberAndName text (place.vector + 1) (output_text c place.output)
place_parts c text place is_place is =
    let name = output_text c place.output in
    let n = place.vector + 1 in
    subst (λ t. NumberAndName t n name) (sym (is ∙ append_assoc (decimal n) (codes " ") name))
    (number_and_name n name (omega (arith, is_place.vector)))

-- a text without a space is that of no place
pub no_place_without_space : (c : Netlist) (text : List ℕ) → position is_space text ≡ None → (place : Place)
    → IsPlace c place → text ≢ place_text c place
no_place_without_space c text none place is_place e =
    none-some (length (decimal (place.vector + 1))) (sym none ∙ (place_parts c text place is_place e).space)

-- the parts of a place's text, before and after its first space
pub record SplitPlace (c : Netlist) (text : List ℕ) (k : ℕ) (place : Place) : Type 0 where
  pub number : take k text ≡ decimal (place.vector + 1)
  pub name : drop (k + 1) text ≡ output_text c place.output

-- the text of a place has the number of its vector before its first space, and the name of its output after it
pub split_place : (c : Netlist) (text : List ℕ) (k : ℕ) (place : Place) → position is_space text ≡ Some k
    → IsPlace c place → text ≡ place_text c place → SplitPlace c text k place
split_place c text k place at is_place e =
    let parts = place_parts c text place is_place e in
    let same : length (decimal (place.vector + 1)) ≡ k =
    same_Some (length (decimal (place.vector + 1))) k (sym parts.space ∙ at) in record {
      number = subst (λ i. take i text ≡ decimal (place.vector + 1)) same parts.number;
      name = subst (λ i. drop (i + 1) text ≡ output_text c place.output) same parts.name_is;
    }

-- a text whose first space parts the number of a vector from the name of an output is that of their place
pub join_place : (c : Netlist) (text : List ℕ) (k : ℕ) (place : Place) → position is_space text ≡ Some k
    → SplitPlace c text k place → text ≡ place_text c place
join_place c text k place at split =
    let found = position-Some is_space text k 0 at in
    let space : get_or text k 0 ≡ 32 = eqb-true (get_or text k 0) 32 found.1 in
    sym (take-append-drop k text)
    ∙ ap (λ t. take k text ++ t) (drop-cons text k 0 found.0)
    ∙ ap (λ x. take k text ++ x ∷ drop (suc k) text) space
    ∙ ap (λ i. take k text ++ 32 ∷ drop i text) (sym (add-one k))
    ∙ ap (λ t. take k text ++ 32 ∷ t) split.name
    ∙ ap (λ t. t ++ 32 ∷ output_text c place.output) split.number
    ∙ sym (append_assoc (decimal (place.vector + 1)) (codes " ") (output_text c place.output))

-- what follows a space
pub after_space : (text : List ℕ) (k : ℕ) → take (length text - (k + 1)) (drop (k + 1) text) ≡ drop (k + 1) text
after_space text k =
    ap (λ n. take n (drop (k + 1) text)) (sym (length-drop (k + 1) text)) ∙ take-length (drop (k + 1) text)

-- ---- the output

differ_at_once : {X : Type 0} (xs : List X) (i j : ℕ) (d : X) → AllDiffer xs → i < length xs → j < length xs
    → get_or xs i d ≡ get_or xs j d → i ≡ j
differ_at_once xs i j d differ i_in j_in e = elim (cases_order i j) [
  | inl same ↦ same
  | inr (inl below) ↦ absurd (differ i j d below j_in e)
  | inr (inr above) ↦ absurd (differ j i d above i_in (sym e))
]

-- outputs of a circuit with the same name are the same
pub one_output : (c : Netlist) (o p : ℕ) → IsCircuit c → o < length c.outputs → p < length c.outputs
    → output_text c o ≡ output_text c p → o ≡ p
one_output c o p is o_in p_in e =
    let net : ℕ → NetId = λ k. get_or c.outputs k no_net in
    let numbers : (net o).0 ≡ (net p).0 = differ_at_once c.names (net o).0 (net p).0 [] is.names_differ
    (omega (arith, is.named, is.outputs_known o o_in)) (omega (arith, is.named, is.outputs_known p p_in)) e in
    let numbered : ℕ → NetId = λ number. record { 0 = number } in
    differ_at_once c.outputs o p no_net is.outputs_differ o_in p_in (ap numbered numbers)

one_place : (c : Netlist) (p q : Place) → IsCircuit c → IsPlace c p → IsPlace c q → place_text c p ≡ place_text c q
    → p ≡ q
one_place c p q is is_p is_q e =
    let of_p = place_parts c (place_text c p) p is_p refl in
    let of_q = place_parts c (place_text c p) q is_q e in
    let same_length : length (decimal (p.vector + 1)) ≡ length (decimal (q.vector + 1)) = cc in
    let same_digits : decimal (p.vector + 1) ≡ decimal (q.vector + 1) =
    sym of_p.number ∙ ap (λ k. take k (place_text c p)) same_length ∙ of_q.number in
    let same_number : p.vector + 1 ≡ q.vector + 1 = decimal_injective (p.vector + 1) (q.vector + 1)
    (omega (arith, is_p.vector)) (omega (arith, is_q.vector)) same_digits in
    let vectors : p.vector ≡ q.vector = omega arith in
    let names : output_text c p.output ≡ output_text c q.output =
    sym of_p.name_is ∙ ap (λ k. drop (k + 1) (place_text c p)) same_length ∙ of_q.name_is in
    let outputs : p.output ≡ q.output = one_output c p.output q.output is is_p.output is_q.output names in
    let at : ℕ → ℕ → Place = λ vector output. record { vector = vector; output = output } in
    ap (λ v. at v p.output) vectors ∙ ap (at q.vector) outputs

-- two verdicts of a circuit with one text are the same
pub one_verdict : (c : Netlist) (a b : Said) → IsCircuit c → IsSayable c a → IsSayable c b
    → verdict_text c a ≡ verdict_text c b → a ≡ b
one_verdict c a b is is_a is_b e = elim (same_text c a b e) [
  | inl same ↦ same
  | inr both ↦
      let places = one_place c both.0 both.1 is (subst (IsSayable c) both.2 is_a) (subst (IsSayable c) both.3 is_b)
      both.4 in
      both.2 ∙ ap (λ (place : Place). Detected place) places ∙ sym both.3
]
