-- The first number and the first place at which a test holds.
use Rattle.std.proofs.Common.{◌≡◌, ◌<◌, ◌+◌, ◌⊎◌, ◌∙◌, inl, inr, ℕ, suc, zero, Bool, true, false, Option, Some, None, refl, sym, ap, arith}
use Rattle.std.specs.Prelude.{if◌then◌else◌}
use Rattle.std.specs.Option.{option_map, option_or}
use Rattle.std.proofs.lemmas.Bool.{cases_eq}
use Rattle.ht_causes.specs.Firsts.{least_below, least_place}

-- ---- options

or_none : {X : Type 0} → (a b : Option X) → option_or a b ≡ None → (a ≡ None) × (b ≡ None)
or_none None b h = (refl, h)
or_none (Some x) b h = cc

or_some : {X : Type 0} → (a b : Option X) (y : X) → option_or a b ≡ Some y
    → (a ≡ Some y) ⊎ ((a ≡ None) × (b ≡ Some y))
or_some None b y h = inr (refl, h)
or_some (Some x) b y h = inl h

-- two that are none give none, and the first that is there decides
pub both_none : {X : Type 0} → (a b : Option X) → a ≡ None → b ≡ None → option_or a b ≡ None
both_none None b h k = k
both_none (Some x) b h k = cc

left_some : {X : Type 0} → (a b : Option X) (y : X) → a ≡ Some y → option_or a b ≡ Some y
left_some None b y h = cc
left_some (Some x) b y h = h

right_some : {X : Type 0} → (a b : Option X) (y : X) → a ≡ None → b ≡ Some y → option_or a b ≡ Some y
right_some None b y h k = k
right_some (Some x) b y h k = cc

-- of three that come one after the other the first two may be joined first
pub or_assoc : {X : Type 0} → (a b c : Option X) → option_or (option_or a b) c ≡ option_or a (option_or b c)
or_assoc None b c = refl
or_assoc (Some x) b c = refl

-- a function of the first that is there
pub map_or : {X Y : Type 0} → (f : X → Y) (a b : Option X)
    → option_map f (option_or a b) ≡ option_or (option_map f a) (option_map f b)
map_or f None b = refl
map_or f (Some x) b = refl

map_none : {X Y : Type 0} → (f : X → Y) (a : Option X) → option_map f a ≡ None → a ≡ None
map_none f None h = refl
map_none f (Some x) h = cc

map_some : {X Y : Type 0} → (f : X → Y) (a : Option X) (y : Y) → option_map f a ≡ Some y
    → (x : X) × (a ≡ Some x) × (f x ≡ y)
map_some f None y h = cc
map_some f (Some x) y h = let e : f x ≡ y = cc in (x, refl, e)

if_none : {X : Type 0} → (b : Bool) (x : X) → (if b then Some x else None) ≡ None → b ≡ false
if_none true x h = cc
if_none false x h = refl

if_some : {X : Type 0} → (b : Bool) (x y : X) → (if b then Some x else None) ≡ Some y → (b ≡ true) × (x ≡ y)
if_some true x y h = let e : x ≡ y = cc in (refl, e)
if_some false x y h = cc

if_false : {X : Type 0} → (b : Bool) (x : X) → b ≡ false → (if b then Some x else None) ≡ None
if_false b x h = rw h refl

if_true : {X : Type 0} → (b : Bool) (x : X) → b ≡ true → (if b then Some x else None) ≡ Some x
if_true b x h = rw h refl

-- an option is none or holds something
pub cases_option : {X : Type 0} → (a : Option X) → (a ≡ None) ⊎ ((x : X) × (a ≡ Some x))
cases_option None = inl refl
cases_option (Some x) = inr (x, refl)

-- ---- the least number

-- m is the least number below n at which the test holds
pub record IsLeast (holds : ℕ → Bool) (n m : ℕ) : Type 0 where
  pub below : m < n
  pub here : holds m ≡ true
  pub before : (k : ℕ) → k < m → holds k ≡ false

-- where there is none, the test holds at no number
pub least_none : (holds : ℕ → Bool) (n : ℕ) → least_below holds n ≡ None → (k : ℕ) → k < n → holds k ≡ false
least_none holds zero h k less = absurd (omega arith)
least_none holds (suc n) h k less =
    let parts = or_none (least_below holds n) _ h in
    elim (cases_eq k n) [
      | inl same ↦ ap holds same ∙ if_none (holds n) n parts.1
      | inr other ↦ least_none holds n parts.0 k (omega arith)
    ]

-- where the test holds at no number, there is none
pub none_least : (holds : ℕ → Bool) (n : ℕ) → ((k : ℕ) → k < n → holds k ≡ false) → least_below holds n ≡ None
none_least holds zero h = refl
none_least holds (suc n) h =
    both_none (least_below holds n) _ (none_least holds n (λ k less. h k (omega arith)))
    (if_false (holds n) n (h n (omega arith)))

-- what is found is the least
pub least_some : (holds : ℕ → Bool) (n m : ℕ) → least_below holds n ≡ Some m → IsLeast holds n m
least_some holds zero m h = cc
least_some holds (suc n) m h = elim (or_some (least_below holds n) _ m h) [
  | inl left ↦
      let is = least_some holds n m left in
      record { below = omega (arith, is.below); here = is.here; before = is.before }
  | inr right ↦
      let last = if_some (holds n) n m right.1 in
      record {
        below = omega (arith, last.1);
        here = ap holds (sym last.1) ∙ last.0;
        before = λ k less. least_none holds n right.0 k (omega (arith, last.1, less));
      }
]

-- the least is found
pub some_least : (holds : ℕ → Bool) (n m : ℕ) → IsLeast holds n m → least_below holds n ≡ Some m
some_least holds zero m is = absurd (omega (arith, is.below))
some_least holds (suc n) m is = elim (cases_eq m n) [
  | inl same ↦
      right_some (least_below holds n) _ m
      (none_least holds n (λ k less. is.before k (omega (arith, same, less))))
      (if_true (holds n) n (ap holds (sym same) ∙ is.here) ∙ ap (λ (k : ℕ). Some k) (sym same))
  | inr other ↦
      left_some (least_below holds n) _ m
      (some_least holds n m (record { below = omega (arith, is.below); here = is.here; before = is.before }))
]

-- tests that agree below n find the same
pub least_same : (f g : ℕ → Bool) (n : ℕ) → ((k : ℕ) → k < n → f k ≡ g k) → least_below f n ≡ least_below g n
least_same f g zero h = refl
least_same f g (suc n) h =
    let before : least_below f n ≡ least_below g n = least_same f g n (λ k less. h k (omega arith)) in
    let here : f n ≡ g n = h n (omega arith) in
    rw (before, here) refl

-- what is found is found below a higher bound
pub least_longer : (holds : ℕ → Bool) (n d m : ℕ) → least_below holds n ≡ Some m → least_below holds (n + d) ≡ Some m
least_longer holds n zero m h = let e : n + zero ≡ n = omega arith in ap (least_below holds) e ∙ h
least_longer holds n (suc d) m h =
    let e : n + suc d ≡ suc (n + d) = omega arith in
    ap (least_below holds) e ∙ left_some (least_below holds (n + d)) _ m (least_longer holds n d m h)

-- ---- the first place

module _ {X : Type 0} (place : ℕ → ℕ → X) where
  -- p is the first place of the first n vectors at which the test holds
  pub record IsFirstPlace (holds : ℕ → ℕ → Bool) (width n : ℕ) (p : X) : Type 0 where
    pub vector : ℕ
    pub number : ℕ
    pub is : p ≡ place vector number
    pub below : vector < n
    pub inside : number < width
    pub here : holds vector number ≡ true
    pub earlier : (t o : ℕ) → t < vector → o < width → holds t o ≡ false
    pub lower : (o : ℕ) → o < number → holds vector o ≡ false

  -- where there is none, the test holds at no place
  pub place_none : (holds : ℕ → ℕ → Bool) (width n : ℕ) → least_place place holds width n ≡ None
      → (t o : ℕ) → t < n → o < width → holds t o ≡ false
  place_none holds width zero h t o less inside = absurd (omega arith)
  place_none holds width (suc n) h t o less inside =
      let parts = or_none (least_place place holds width n) _ h in
      elim (cases_eq t n) [
        | inl same ↦
            ap (λ (s : ℕ). holds s o) same
            ∙ least_none (holds n) width (map_none (place n) (least_below (holds n) width) parts.1) o inside
        | inr other ↦ place_none holds width n parts.0 t o (omega arith) inside
      ]

  -- where the test holds at no place, there is none
  pub none_place : (holds : ℕ → ℕ → Bool) (width n : ℕ)
      → ((t o : ℕ) → t < n → o < width → holds t o ≡ false) → least_place place holds width n ≡ None
  none_place holds width zero h = refl
  none_place holds width (suc n) h =
      both_none (least_place place holds width n) _
      (none_place holds width n (λ t o less inside. h t o (omega arith) inside))
      (ap (option_map (place n)) (none_least (holds n) width (λ o inside. h n o (omega arith) inside)))

  -- what is found is the first place
  pub place_some : (holds : ℕ → ℕ → Bool) (width n : ℕ) (p : X) → least_place place holds width n ≡ Some p
      → IsFirstPlace holds width n p
  place_some holds width zero p h = cc
  place_some holds width (suc n) p h = elim (or_some (least_place place holds width n) _ p h) [
    | inl left ↦
        let is = place_some holds width n p left in
        record {
          vector = is.vector;
          number = is.number;
          is = is.is;
          below = omega (arith, is.below);
          inside = is.inside;
          here = is.here;
          earlier = is.earlier;
          lower = is.lower;
        }
    | inr right ↦
        let last = map_some (place n) (least_below (holds n) width) p right.1 in
        let least = least_some (holds n) width last.0 last.1 in
        record {
          vector = n;
          number = last.0;
          is = sym last.2;
          below = omega arith;
          inside = least.below;
          here = least.here;
          earlier = λ t o less inside. place_none holds width n right.0 t o less inside;
          lower = least.before;
        }
  ]

  -- tests that agree below n find the same
  pub place_same : (f g : ℕ → ℕ → Bool) (width n : ℕ) → ((t o : ℕ) → t < n → o < width → f t o ≡ g t o)
      → least_place place f width n ≡ least_place place g width n
  place_same f g width zero h = refl
  place_same f g width (suc n) h =
      let before : least_place place f width n ≡ least_place place g width n =
      place_same f g width n (λ t o less inside. h t o (omega arith) inside) in
      let here : least_below (f n) width ≡ least_below (g n) width =
      least_same (f n) (g n) width (λ o inside. h n o (omega arith) inside) in
      rw (before, here) refl

  -- what is found is found over more vectors
  pub place_longer : (holds : ℕ → ℕ → Bool) (width n d : ℕ) (p : X) → least_place place holds width n ≡ Some p
      → least_place place holds width (n + d) ≡ Some p
  place_longer holds width n zero p h =
      let e : n + zero ≡ n = omega arith in ap (least_place place holds width) e ∙ h
  place_longer holds width n (suc d) p h =
      let e : n + suc d ≡ suc (n + d) = omega arith in
      ap (least_place place holds width) e
      ∙ left_some (least_place place holds width (n + d)) _ p (place_longer holds width n d p h)
