-- The names of nets differ, and are names of the format.
use Rattle.std.proofs.Common.{◌≡◌, ◌≢◌, ℕ, zero, suc, ◌+◌, ◌-◌, ◌%◌, ◌<◌, ◌≤◌, ◌^◌, ◌⊎◌, inl, inr, [], ◌∷◌, true, false, ◌&&◌, leb, length, get_or, drop, refl, sym, ap, ◌∙◌, arith, nat_lt, decimal}
use Rattle.std.specs.List.{list_all}
use Rattle.std.proofs.lemmas.Nat.{mod_below}
use Rattle.std.proofs.lemmas.Fmt.{decimal_injective, decimal_by_steps, length-decimal-le}
use Rattle.std.proofs.lemmas.List.Folds.{list_all-append}
use Rattle.std.proofs.lemmas.Bool.{le-leb}
use Rattle.std.proofs.lemmas.Bool.Decides.{leb_tells}
use Rattle.ht_statement.specs.Name.{is_name_byte, is_name, max_name_bytes}
use Rattle.ht_demo.proofs.RangeLaws.{ap2}
use Rattle.ht_demo.specs.Counts.{input_count, first_gate, demo_name}

-- a digit is a byte of a name
digit_is_name_byte : (n : ℕ) → n < 10 → is_name_byte (48 + n) ≡ true
digit_is_name_byte zero below = refl
digit_is_name_byte (suc zero) below = refl
digit_is_name_byte (suc (suc zero)) below = refl
digit_is_name_byte (suc (suc (suc zero))) below = refl
digit_is_name_byte (suc (suc (suc (suc zero)))) below = refl
digit_is_name_byte (suc (suc (suc (suc (suc zero))))) below = refl
digit_is_name_byte (suc (suc (suc (suc (suc (suc zero)))))) below = refl
digit_is_name_byte (suc (suc (suc (suc (suc (suc (suc zero))))))) below = refl
digit_is_name_byte (suc (suc (suc (suc (suc (suc (suc (suc zero)))))))) below = refl
digit_is_name_byte (suc (suc (suc (suc (suc (suc (suc (suc (suc zero))))))))) below = refl
digit_is_name_byte (suc (suc (suc (suc (suc (suc (suc (suc (suc (suc n)))))))))) below = absurd (omega arith)

-- the decimal digits of a number are bytes of a name
pub digits_are_name_bytes : (n : ℕ) → n < 2 ^ 64 → list_all is_name_byte (decimal n) ≡ true
digits_are_name_bytes n small =
    decimal_by_steps (λ m ds. list_all is_name_byte ds ≡ true)
    (λ m below. ap (λ b. b && true) (digit_is_name_byte m below))
    (λ m ds above before.
    list_all-append is_name_byte ds ((48 + m % 10) ∷ [])
    ∙ ap2 (λ u v. u && (v && true)) before (digit_is_name_byte (m % 10) (mod_below m 10 (omega arith))))
    n small

-- ---- the three forms of a name

-- a letter and the number from a start on
pub record IsForm (size net letter from : ℕ) : Type 0 where
  pub name : demo_name size net ≡ letter ∷ decimal (net - from)
  pub above : from ≤ net

abbrev pub HasForm : ℕ → ℕ → Type 0
HasForm size net =
    IsForm size net 105 0 ⊎ (IsForm size net 102 input_count ⊎ IsForm size net 103 (first_gate size))

-- what the tests of a name say
form_of_tests : (size net : ℕ)
    → ((nat_lt net input_count ≡ true) × (suc net ≤ input_count))
    ⊎ ((nat_lt net input_count ≡ false) × (input_count < suc net))
    → ((nat_lt net (first_gate size) ≡ true) × (suc net ≤ first_gate size))
    ⊎ ((nat_lt net (first_gate size) ≡ false) × (first_gate size < suc net))
    → HasForm size net
form_of_tests size net (inl (test, below)) second = inl (record {
  name = rw test (ap (λ n. 105 ∷ decimal n) (omega arith));
  above = omega arith;
})
form_of_tests size net (inr (test, above)) (inl (second, below)) = inr (inl (record {
  name = rw (test, second) refl;
  above = omega arith;
}))
form_of_tests size net (inr (test, above)) (inr (second, beyond)) = inr (inr (record {
  name = rw (test, second) refl;
  above = omega arith;
}))

has_form : (size net : ℕ) → HasForm size net
has_form size net = form_of_tests size net (leb_tells (suc net) input_count) (leb_tells (suc net) (first_gate size))

-- ---- names differ

same_form : (size x y letter from : ℕ) → x < 2 ^ 64 → y < 2 ^ 64 → demo_name size x ≡ demo_name size y
    → IsForm size x letter from → IsForm size y letter from → x ≡ y
same_form size x y letter from small_x small_y same is_x is_y =
    let texts : decimal (x - from) ≡ decimal (y - from) = ap (drop 1) (sym is_x.name ∙ (same ∙ is_y.name)) in
    let above_x = is_x.above in
    let above_y = is_y.above in
    let numbers : x - from ≡ y - from = decimal_injective (x - from) (y - from) (omega arith) (omega arith) texts in
    omega arith

-- two nets whose names begin with different letters
other_form : (size x y a b from start : ℕ) → a ≢ b → demo_name size x ≡ demo_name size y
    → IsForm size x a from → IsForm size y b start → x ≡ y
other_form size x y a b from start differ same is_x is_y =
    absurd (differ (ap (λ text. get_or text 0 0) (sym is_x.name ∙ (same ∙ is_y.name))))

one_net : (size x y : ℕ) → x < 2 ^ 64 → y < 2 ^ 64 → demo_name size x ≡ demo_name size y
    → HasForm size x → HasForm size y → x ≡ y
one_net size x y p q same (inl a) (inl b) = same_form size x y 105 0 p q same a b
one_net size x y p q same (inl a) (inr (inl b)) =
    other_form size x y 105 102 0 input_count (λ e. omega arith) same a b
one_net size x y p q same (inl a) (inr (inr b)) =
    other_form size x y 105 103 0 (first_gate size) (λ e. omega arith) same a b
one_net size x y p q same (inr (inl a)) (inl b) =
    other_form size x y 102 105 input_count 0 (λ e. omega arith) same a b
one_net size x y p q same (inr (inl a)) (inr (inl b)) = same_form size x y 102 input_count p q same a b
one_net size x y p q same (inr (inl a)) (inr (inr b)) =
    other_form size x y 102 103 input_count (first_gate size) (λ e. omega arith) same a b
one_net size x y p q same (inr (inr a)) (inl b) =
    other_form size x y 103 105 (first_gate size) 0 (λ e. omega arith) same a b
one_net size x y p q same (inr (inr a)) (inr (inl b)) =
    other_form size x y 103 102 (first_gate size) input_count (λ e. omega arith) same a b
one_net size x y p q same (inr (inr a)) (inr (inr b)) = same_form size x y 103 (first_gate size) p q same a b

-- nets with the same name are the same
pub one_net_per_name : (size x y : ℕ) → x < 2 ^ 64 → y < 2 ^ 64 → demo_name size x ≡ demo_name size y → x ≡ y
one_net_per_name size x y p q same = one_net size x y p q same (has_form size x) (has_form size y)

-- ---- names are short, and names of the format

name_of_form : (size net letter from : ℕ) → is_name_byte letter ≡ true → net < 100000 → IsForm size net letter from
    → (is_name (demo_name size net) ≡ true) × (length (demo_name size net) ≤ 6)
name_of_form size net letter from good small is =
    let short : length (decimal (net - from)) ≤ 5 = length-decimal-le 5 (net - from) (omega arith) (omega arith)
    (omega arith) in
    let bytes = digits_are_name_bytes (net - from) (omega arith) in
    let some : leb 1 (length (letter ∷ decimal (net - from))) ≡ true = le-leb _ _ (omega arith) in
    let few : leb (length (letter ∷ decimal (net - from))) max_name_bytes ≡ true = le-leb _ _ (omega arith) in
    rw is.name (rw (some, few, good, bytes) refl, omega arith)

name_of_forms : (size net : ℕ) → net < 100000 → HasForm size net
    → (is_name (demo_name size net) ≡ true) × (length (demo_name size net) ≤ 6)
name_of_forms size net small (inl is) = name_of_form size net 105 0 refl small is
name_of_forms size net small (inr (inl is)) = name_of_form size net 102 input_count refl small is
name_of_forms size net small (inr (inr is)) = name_of_form size net 103 (first_gate size) refl small is

-- the name of a net is a name of the format, and has at most six bytes
pub demo_name_is_name : (size net : ℕ) → net < 100000
    → (is_name (demo_name size net) ≡ true) × (length (demo_name size net) ≤ 6)
demo_name_is_name size net small = name_of_forms size net small (has_form size net)
