-- The names of a line's three nets are no other line's, and no name without the mark `~`.
use Rattle.std.proofs.Common.{◌≡◌, ◌≢◌, ◌<◌, ◌≤◌, ◌+◌, ◌%◌, ◌^◌, ℕ, suc, zero, List, [], ◌∷◌, ◌++◌, length, get_or, refl, sym, ◌∙◌, ap, arith, inl, inr}
use Rattle.std.specs.Fmt.{decimal}
use Rattle.std.proofs.lemmas.Fmt.{decimal_by_steps, decimal_injective, decimal_nonempty}
use Rattle.std.proofs.lemmas.Bool.Decides.{eqb_tells}
use Rattle.ht_net.specs.declared.fault.Site.{Site}
use Rattle.ht_net.specs.declared.fault.Site.TheVariants.{Stem, DffPin, GatePin}
use Rattle.ht_net.specs.Build.Named.{Name}
use Rattle.ht_net.specs.Circuit.Lists.{AllDiffer}
use Rattle.ht_net.specs.Circuit.Netlist.{Netlist, net_count, first_gate_net, gate_at, max_arguments, IsCircuit}
use Rattle.ht_net.proofs.FrameLaws.{le_or_lt}
use Rattle.ht_slow.specs.Slow.{IsLine}
use Rattle.ht_slow.specs.ExpandedLine.{net}
use Rattle.ht_slow.specs.LineNames.{line_stump, HasNoMark}

-- no byte is `~`
abbrev pub IsPlain : List ℕ → Type 0
IsPlain [] = Unit {0}
IsPlain (b ∷ bs) = (b ≢ 126) × IsPlain bs

pub plain_name : (name : Name) → HasNoMark name → IsPlain name
plain_name [] h = tt
plain_name (b ∷ bs) h = (h 0 0 (omega arith), plain_name bs (λ k d l. h (suc k) d (omega arith)))

abbrev head_of : List ℕ → ℕ
head_of [] = 0
head_of (x ∷ xs) = x

abbrev rest_of : List ℕ → List ℕ
rest_of [] = []
rest_of (x ∷ xs) = xs

pub append_append : (xs ys zs : List ℕ) → (xs ++ ys) ++ zs ≡ xs ++ (ys ++ zs)
append_append [] ys zs = refl
append_append (x ∷ xs) ys zs = ap (λ us. x ∷ us) (append_append xs ys zs)

pub append_nothing : (xs : List ℕ) → xs ++ [] ≡ xs
append_nothing [] = refl
append_nothing (x ∷ xs) = ap (λ us. x ∷ us) (append_nothing xs)

-- what stands before the first mark, and what after it
split_once : (a b s t : List ℕ) → IsPlain a → IsPlain b → a ++ 126 ∷ s ≡ b ++ 126 ∷ t → (a ≡ b) × (s ≡ t)
split_once [] [] s t p q is = (refl, ap rest_of is)
split_once [] (y ∷ b) s t p q is = let e : 126 ≡ y = ap head_of is in absurd (q.0 (sym e))
split_once (x ∷ a) [] s t p q is = let e : x ≡ 126 = ap head_of is in absurd (p.0 e)
split_once (x ∷ a) (y ∷ b) s t p q is =
    let e : x ≡ y = ap head_of is in
    let r = split_once a b s t p.1 q.1 (ap rest_of is) in
    (ap (λ (n : ℕ). n ∷ a) e ∙ ap (λ (ns : List ℕ). y ∷ ns) r.0, r.1)

-- a plain name has no mark
no_mark : (a b s : List ℕ) → IsPlain a → a ≡ b ++ 126 ∷ s → ⊥
no_mark [] [] s p is = absurd cc
no_mark [] (y ∷ b) s p is = absurd cc
no_mark (x ∷ a) [] s p is = let e : x ≡ 126 = ap head_of is in p.0 e
no_mark (x ∷ a) (y ∷ b) s p is = no_mark a b s p.1 (ap rest_of is)

-- how the names of a line end: L or the driver, P and B
abbrev pub ending : ℕ → List ℕ
ending zero = []
ending (suc zero) = 112 ∷ []
ending (suc (suc n)) = 98 ∷ []

endings_once : (i j : ℕ) → i < 3 → j < 3 → ending i ≡ ending j → i ≡ j
endings_once zero zero h k is = refl
endings_once zero (suc zero) h k is = absurd cc
endings_once zero (suc (suc j)) h k is = absurd cc
endings_once (suc zero) zero h k is = absurd cc
endings_once (suc zero) (suc zero) h k is = refl
endings_once (suc zero) (suc (suc j)) h k is = let e : 112 ≡ 98 = ap head_of is in absurd (omega (arith, e))
endings_once (suc (suc i)) zero h k is = absurd cc
endings_once (suc (suc i)) (suc zero) h k is = let e : 98 ≡ 112 = ap head_of is in absurd (omega (arith, e))
endings_once (suc (suc i)) (suc (suc j)) h k is = omega arith

abbrev AreDigits : List ℕ → Type 0
AreDigits [] = Unit {0}
AreDigits (b ∷ bs) = (b < 58) × AreDigits bs

-- an ending is no digit
no_digit : (i y : ℕ) (ys : List ℕ) → y < 58 → ending i ≡ y ∷ ys → ⊥
no_digit zero y ys h is = absurd cc
no_digit (suc zero) y ys h is = let e : 112 ≡ y = ap head_of is in omega (arith, e, h)
no_digit (suc (suc i)) y ys h is = let e : 98 ≡ y = ap head_of is in omega (arith, e, h)

digits_once : (a b : List ℕ) (i j : ℕ) → i < 3 → j < 3 → AreDigits a → AreDigits b
    → a ++ ending i ≡ b ++ ending j → (a ≡ b) × (i ≡ j)
digits_once [] [] i j h k p q is = (refl, endings_once i j h k is)
digits_once [] (y ∷ b) i j h k p q is = absurd (no_digit i y (b ++ ending j) q.0 is)
digits_once (x ∷ a) [] i j h k p q is = absurd (no_digit j x (a ++ ending i) p.0 (sym is))
digits_once (x ∷ a) (y ∷ b) i j h k p q is =
    let e : x ≡ y = ap head_of is in
    let r = digits_once a b i j h k p.1 q.1 (ap rest_of is) in
    (ap (λ (n : ℕ). n ∷ a) e ∙ ap (λ (ns : List ℕ). y ∷ ns) r.0, r.1)

one_more_digit : (ds : List ℕ) (d : ℕ) → AreDigits ds → d < 58 → AreDigits (ds ++ d ∷ [])
one_more_digit [] d p h = (h, tt)
one_more_digit (b ∷ ds) d p h = (p.0, one_more_digit ds d p.1 h)

decimal_digits : (n : ℕ) → n < 2 ^ 64 → AreDigits (decimal n)
decimal_digits n h = decimal_by_steps (λ m ds. AreDigits ds) (λ m l. (omega arith, tt))
    (λ m ds l p. one_more_digit ds (48 + m % 10) p (omega arith)) n h

-- what stands after the mark in the names of a line, before how they end
abbrev suffix : Site → List ℕ
suffix (Stem x) = []
suffix (DffPin j) = 49 ∷ []
suffix (GatePin g i) = decimal (i + 1)

-- the net whose name stands before the mark
abbrev pub owner : Netlist → Site → ℕ
owner c (Stem x) = x.0
owner c (DffPin j) = c.inputs + j
owner c (GatePin g i) = first_gate_net c + g

abbrev pub line_name : Netlist → Site → ℕ → Name
line_name c site k = line_stump c site ++ ending k

line_name_is : (c : Netlist) (site : Site) (k : ℕ)
    → line_name c site k ≡ get_or c.names (owner c site) [] ++ 126 ∷ (suffix site ++ ending k)
line_name_is c (Stem x) k = append_append (get_or c.names x.0 []) (126 ∷ []) (ending k)
line_name_is c (DffPin j) k = append_append (get_or c.names (c.inputs + j) []) (126 ∷ 49 ∷ []) (ending k)
line_name_is c (GatePin g i) k =
    append_append (get_or c.names (first_gate_net c + g) []) (126 ∷ decimal (i + 1)) (ending k)

pub owner_inside : (c : Netlist) (site : Site) → IsLine c site → owner c site < net_count c
owner_inside c (Stem x) h = h
owner_inside c (DffPin j) h = omega (arith, h)
owner_inside c (GatePin g i) h = let l = h.0 in omega (arith, l)

-- one net of a name
pub named_once : (names : List Name) → AllDiffer names → (x y : ℕ) → x < length names → y < length names
    → get_or names x [] ≡ get_or names y [] → x ≡ y
named_once names differ x y h k same = elim (eqb_tells x y) [
  | inl p ↦ p.1
  | inr p ↦ let ne = p.1 in absurd (elim (le_or_lt x y) [
    | inl l ↦ differ x y [] (omega (arith, ne, l)) k same
    | inr l ↦ differ y x [] l h (sym same)
  ])
]

nonempty : (n : ℕ) → n < 2 ^ 64 → [] ≡ decimal n → ⊥
nonempty n h is =
    let some = decimal_nonempty n h in
    let none : 0 ≡ length (decimal n) = ap length is in
    omega (arith, some, none)

-- lines whose names agree after the mark and have one net before it are one line
same_line : (c : Netlist) (s t : Site) (i j : ℕ) → i < 3 → j < 3 → IsLine c s → IsLine c t
    → ((g : ℕ) → g < length c.gates → length (gate_at c g).args ≤ max_arguments)
    → owner c s ≡ owner c t → suffix s ++ ending i ≡ suffix t ++ ending j → (s ≡ t) × (i ≡ j)
same_line c (Stem x) (Stem y) i j h k l m few own is =
    (ap (λ (n : ℕ). Stem (net n)) own, endings_once i j h k is)
same_line c (Stem x) (DffPin b) i j h k l m few own is =
    absurd (no_digit i 49 (ending j) (omega arith) is)
same_line c (Stem x) (GatePin g b) i j h k l m few own is =
    let args = few g m.0 in let inside = m.1 in
    let r = digits_once [] (decimal (b + 1)) i j h k tt (decimal_digits (b + 1) (omega (arith, args, inside))) is in
    absurd (nonempty (b + 1) (omega (arith, args, inside)) r.0)
same_line c (DffPin a) (Stem y) i j h k l m few own is =
    absurd (no_digit j 49 (ending i) (omega arith) (sym is))
same_line c (DffPin a) (DffPin b) i j h k l m few own is =
    let r = digits_once (49 ∷ []) (49 ∷ []) i j h k (omega arith, tt) (omega arith, tt) is in
    let e : a ≡ b = omega (arith, own) in
    (ap (λ (n : ℕ). DffPin n) e, r.1)
same_line c (DffPin a) (GatePin g b) i j h k l m few own is = absurd (omega (arith, own, l))
same_line c (GatePin f a) (Stem y) i j h k l m few own is =
    let args = few f l.0 in let inside = l.1 in
    let r = digits_once (decimal (a + 1)) [] i j h k (decimal_digits (a + 1) (omega (arith, args, inside))) tt is in
    absurd (nonempty (a + 1) (omega (arith, args, inside)) (sym r.0))
same_line c (GatePin f a) (DffPin b) i j h k l m few own is = absurd (omega (arith, own, m))
same_line c (GatePin f a) (GatePin g b) i j h k l m few own is =
    let one = few f l.0 in let two = few g m.0 in
    let p = l.1 in let q = m.1 in
    let r = digits_once (decimal (a + 1)) (decimal (b + 1)) i j h k (decimal_digits (a + 1) (omega (arith, one, p)))
    (decimal_digits (b + 1) (omega (arith, two, q))) is in
    let n : a + 1 ≡ b + 1 = decimal_injective (a + 1) (b + 1) (omega (arith, one, p)) (omega (arith, two, q)) r.0 in
    let e : f ≡ g = omega (arith, own) in
    let d : a ≡ b = omega (arith, n) in
    (ap (λ (u : ℕ). GatePin u a) e ∙ ap (λ (u : ℕ). GatePin g u) d, r.1)

module _ (c : Netlist) (circuit : IsCircuit c) (plain : (x : ℕ) → x < net_count c → IsPlain (get_or c.names x [])) where
  -- names of lines differ where the lines or the endings do
  pub line_names_once : (s t : Site) (i j : ℕ) → i < 3 → j < 3 → IsLine c s → IsLine c t
      → line_name c s i ≡ line_name c t j → (s ≡ t) × (i ≡ j)
  line_names_once s t i j h k l m is =
      let x : ℕ = owner c s in
      let y : ℕ = owner c t in
      let a = owner_inside c s l in
      let b = owner_inside c t m in
      let n = circuit.named in
      let r = split_once (get_or c.names x []) (get_or c.names y []) (suffix s ++ ending i) (suffix t ++ ending j)
      (plain x a) (plain y b) (sym (line_name_is c s i) ∙ (is ∙ line_name_is c t j)) in
      same_line c s t i j h k l m circuit.few_args
      (named_once c.names circuit.names_differ x y (omega (arith, a, n)) (omega (arith, b, n)) r.0) r.1

  -- no net of the circuit has a line's name
  pub line_name_is_new : (s : Site) (i x : ℕ) → x < net_count c → get_or c.names x [] ≢ line_name c s i
  line_name_is_new s i x h is =
      no_mark (get_or c.names x []) (get_or c.names (owner c s) []) (suffix s ++ ending i) (plain x h)
      (is ∙ line_name_is c s i)
