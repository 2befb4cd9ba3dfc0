-- Rounds that leave out runs: what they keep, and that the last one has tried each run.
use Rattle.std.proofs.Common.{◌≡◌, ◌≤◌, ◌+◌, ◌-◌, [], ◌∷◌, inl, inr, ℕ, zero, suc, List, Bool, true, false, cond, eqb, length, max, min, refl, sym, ◌∙◌, ap, subst, arith}
use Rattle.std.proofs.lemmas.Bool.{cases_eq, eqb-true, eqb-false, eq-eqb, ne_eqb}
use Rattle.ht_compact.specs.Kept.{LeavesOut, without_run}
use Rattle.ht_compact.specs.Rounds.{longest_run, round_from, round_of, rounds_of, rounds_within}
use Rattle.ht_compact.proofs.WithoutLaws.{without_none, length_without}
use Rattle.ht_compact.proofs.KeptLaws.{leaves_out_none, leaves_out_run, leaves_out_more, kept_within}

-- ---- the longest run

-- it has at most n items
pub longest_within : {A : Type 0} → (passes : List A → Bool) (list : List A) (e n : ℕ)
    → longest_run passes list e n ≤ n
unfolding longest_run
longest_within passes list e zero = omega arith
longest_within passes list e (suc n) =
    elim (passes (without_run list (e - suc n) e)) as (λ b. cond b (suc n) (longest_run passes list e n) ≤ suc n) [
      | true ↦ omega arith
      | false ↦ let rest = longest_within passes list e n in omega (arith, rest)
    ]

-- without it the list passes
longest_fits : {A : Type 0} → (passes : List A → Bool) (list : List A) (e n : ℕ)
    → 1 ≤ longest_run passes list e n → passes (without_run list (e - longest_run passes list e n) e) ≡ true
unfolding longest_run
longest_fits passes list e zero some = absurd (omega (arith, some))
longest_fits passes list e (suc n) some =
    let Fits : Bool → Type 0 = λ b. 1 ≤ cond b (suc n) (longest_run passes list e n)
    → passes (without_run list (e - cond b (suc n) (longest_run passes list e n)) e) ≡ true in
    let cases : (b : Bool) → passes (without_run list (e - suc n) e) ≡ b → Fits b =
    λ b. elim b as (λ (v : Bool). passes (without_run list (e - suc n) e) ≡ v → Fits v) [
      | true ↦ λ is some. is
      | false ↦ λ is some. longest_fits passes list e n some
    ] in
    cases (passes (without_run list (e - suc n) e)) refl some

-- a list that passes does so without it, be it empty
pub longest_passes : {A : Type 0} → (passes : List A → Bool) (list : List A) (e n k : ℕ) → passes list ≡ true
    → k ≡ longest_run passes list e n → passes (without_run list (e - k) e) ≡ true
longest_passes passes list e n k is same =
    elim k as (λ (j : ℕ). j ≡ longest_run passes list e n → passes (without_run list (e - j) e) ≡ true) [
      | zero ↦ λ same.
          subst (λ l. passes l ≡ true) (sym (without_none list (e - 0) e (omega arith))) is
      | suc j ↦ λ same.
          subst (λ (i : ℕ). passes (without_run list (e - i) e) ≡ true) (sym same)
          (longest_fits passes list e n (omega (arith, same)))
    ] same

-- where it is empty, the list passes without no run
none_fits : {A : Type 0} → (passes : List A → Bool) (list : List A) (e n : ℕ) → longest_run passes list e n ≡ 0
    → (m : ℕ) → 1 ≤ m → m ≤ n → passes (without_run list (e - m) e) ≡ false
unfolding longest_run
none_fits passes list e zero none m some few = absurd (omega (arith, some, few))
none_fits passes list e (suc n) none m some few =
    let Fails : Bool → Type 0 = λ b. cond b (suc n) (longest_run passes list e n) ≡ 0
    → passes (without_run list (e - m) e) ≡ false in
    let cases : (b : Bool) → passes (without_run list (e - suc n) e) ≡ b → Fails b =
    λ b. elim b as (λ (v : Bool). passes (without_run list (e - suc n) e) ≡ v → Fails v) [
      | true ↦ λ is none. absurd (omega (arith, none))
      | false ↦ λ is none. elim (cases_eq m (suc n)) [
        | inl same ↦
            subst (λ (i : ℕ). passes (without_run list (e - i) e) ≡ false) (sym same) is
        | inr other ↦ none_fits passes list e n none m some (omega (arith, few, other))
      ]
    ] in
    cases (passes (without_run list (e - suc n) e)) refl none

-- one try more, of a run that has to stay
pub longest_less : {A : Type 0} → (passes : List A → Bool) (list : List A) (e n : ℕ) → 1 ≤ n
    → passes (without_run list (e - n) e) ≡ false
    → longest_run passes list e n ≡ longest_run passes list e (n - 1)
unfolding longest_run
longest_less passes list e zero some fails = absurd (omega (arith, some))
longest_less passes list e (suc n) some fails =
    ap (λ b. cond b (suc n) (longest_run passes list e n)) fails
    ∙ ap (longest_run passes list e) (omega arith)

-- the first one that can be left out is the longest
pub longest_here : {A : Type 0} → (passes : List A → Bool) (list : List A) (e n : ℕ) → 1 ≤ n
    → passes (without_run list (e - n) e) ≡ true → longest_run passes list e n ≡ n
unfolding longest_run
longest_here passes list e zero some fits = absurd (omega (arith, some))
longest_here passes list e (suc n) some fits = ap (λ b. cond b (suc n) (longest_run passes list e n)) fits

-- no run of no items
pub longest_none : {A : Type 0} → (passes : List A → Bool) (list : List A) (e : ℕ) → longest_run passes list e 0 ≡ 0
unfolding longest_run
longest_none passes list e = refl

-- ---- a round

-- it leaves out items, and the others stay in their order
pub round_leaves_out : {A : Type 0} → (passes : List A → Bool) (most : ℕ) (list : List A) (e s : ℕ)
    → LeavesOut list (round_from passes most list e s)
unfolding round_from
round_leaves_out passes most list zero s = leaves_out_none list
round_leaves_out passes most list (suc e) (suc s) = round_leaves_out passes most list e s
round_leaves_out passes most list (suc e) zero =
    let n = longest_run passes list (suc e) (min most (suc e)) in
    let rest = without_run list (suc e - n) (suc e) in
    leaves_out_more list rest (round_from passes most rest e (n - 1))
    (leaves_out_run list (suc e - n) (suc e) (omega arith)) (round_leaves_out passes most rest e (n - 1))

-- a list that passes does so after it
pub round_passes : {A : Type 0} → (passes : List A → Bool) (most : ℕ) (list : List A) (e s : ℕ)
    → passes list ≡ true → passes (round_from passes most list e s) ≡ true
unfolding round_from
round_passes passes most list zero s is = is
round_passes passes most list (suc e) (suc s) is = round_passes passes most list e s is
round_passes passes most list (suc e) zero is =
    let n = longest_run passes list (suc e) (min most (suc e)) in
    round_passes passes most (without_run list (suc e - n) (suc e)) e (n - 1)
    (longest_passes passes list (suc e) (min most (suc e)) n is refl)

-- A round from place e on that left out nothing: the list is as it was, and each run before a place was tried.
record HasTried {A : Type 0} (passes : List A → Bool) (most : ℕ) (list after : List A) (e : ℕ) : Type 0 where
  pub same : after ≡ list
  pub tried : (k m : ℕ) → 1 ≤ m → m ≤ most → m ≤ k → k ≤ e → passes (without_run list (k - m) k) ≡ false

has_tried : {A : Type 0} → (passes : List A → Bool) (most : ℕ) (list : List A) (e : ℕ) → e ≤ length list
    → length (round_from passes most list e 0) ≡ length list
    → HasTried passes most list (round_from passes most list e 0) e
unfolding round_from
has_tried passes most list zero inside same =
    record { same = refl; tried = λ k m some few ends below. absurd (omega (arith, some, ends, below)) }
has_tried passes most list (suc e) inside same =
    let n = longest_run passes list (suc e) (min most (suc e)) in
    let rest = without_run list (suc e - n) (suc e) in
    let after = round_from passes most rest e (n - 1) in
    let none : n ≡ 0 = omega (
      arith,
      inside,
      same,
      longest_within passes list (suc e) (min most (suc e)),
      kept_within rest after (round_leaves_out passes most rest e (n - 1)),
      length_without list (suc e - n) (suc e) (omega arith) inside,
    ) in
    let rest_is : rest ≡ list = without_none list (suc e - n) (suc e) (omega (arith, none)) in
    let after_is : after ≡ round_from passes most list e 0 =
    ap (λ l. round_from passes most l e (n - 1)) rest_is
    ∙ ap (λ (k : ℕ). round_from passes most list e (k - 1)) none in
    let before = has_tried passes most list e (omega (arith, inside))
    (ap (λ l. length l) (sym after_is) ∙ same) in
    record {
      same = after_is ∙ before.same;
      tried = λ k m some few ends below. elim (cases_eq k (suc e)) [
        | inl at ↦
            subst (λ (j : ℕ). passes (without_run list (j - m) j) ≡ false) (sym at)
            (none_fits passes list (suc e) (min most (suc e)) none m some (omega (arith, few, ends, at)))
        | inr other ↦ before.tried k m some few ends (omega (arith, below, other))
      ];
    }

-- where items were left out, the next places are passed
round_skips : {A : Type 0} → (passes : List A → Bool) (most : ℕ) (list : List A) (s e d : ℕ) → e ≡ d + s
    → round_from passes most list e s ≡ round_from passes most list d 0
unfolding round_from
round_skips passes most list zero e d is = ap (λ (k : ℕ). round_from passes most list k 0) (omega (arith, is))
round_skips passes most list (suc s) zero d is = absurd (omega (arith, is))
round_skips passes most list (suc s) (suc e) d is = round_skips passes most list s e d (omega (arith, is))

-- one step of a round
pub round_step : {A : Type 0} → (passes : List A → Bool) (most : ℕ) (list : List A) (e n d : ℕ) → 1 ≤ e
    → n ≡ longest_run passes list e (min most e) → d ≡ e - max n 1
    → round_from passes most list e 0 ≡ round_from passes most (without_run list (e - n) e) d 0
unfolding round_from
round_step passes most list zero n d some is next = absurd (omega (arith, some))
round_step passes most list (suc e) n d some is next =
    ap (λ (k : ℕ). round_from passes most (without_run list (suc e - k) (suc e)) e (k - 1)) (sym is)
    ∙ round_skips passes most (without_run list (suc e - n) (suc e)) (n - 1) e d
    (omega (arith, next, is, longest_within passes list (suc e) (min most (suc e))))

-- a round that has come to the first place
pub round_ends : {A : Type 0} → (passes : List A → Bool) (most : ℕ) (list : List A)
    → round_from passes most list 0 0 ≡ list
unfolding round_from
round_ends passes most list = refl

-- ---- the rounds

-- a round makes no list longer
pub round_within : {A : Type 0} → (passes : List A → Bool) (most : ℕ) (list : List A)
    → length (round_of passes most list) ≤ length list
round_within passes most list =
    kept_within list (round_of passes most list) (round_leaves_out passes most list (length list) 0)

-- A list that passes, is another one without some items, and passes without none of its runs.
pub record IsTriedThrough {A : Type 0} (passes : List A → Bool) (most : ℕ) (list kept : List A) : Type 0 where
  pub in_order : LeavesOut list kept
  pub passes_too : passes kept ≡ true
  pub tried : (t n : ℕ) → 1 ≤ n → n ≤ most → t + n ≤ length kept → passes (without_run kept t (t + n)) ≡ false

last_round : {A : Type 0} → (passes : List A → Bool) (most : ℕ) (list : List A) → passes list ≡ true
    → length (round_of passes most list) ≡ length list
    → IsTriedThrough passes most list (round_of passes most list)
last_round passes most list is same =
    let last = has_tried passes most list (length list) (omega arith) same in
    subst (IsTriedThrough passes most list) (sym last.same) (record {
      in_order = leaves_out_none list;
      passes_too = is;
      tried = λ t n some few inside.
          subst (λ (a : ℕ). passes (without_run list a (t + n)) ≡ false) (omega arith)
          (last.tried (t + n) n some few (omega arith) inside);
    })

pub rounds_tried : {A : Type 0} → (passes : List A → Bool) (most k : ℕ) (list : List A) → passes list ≡ true
    → length list ≤ k → IsTriedThrough passes most list (rounds_within passes most k list)
unfolding rounds_within
rounds_tried passes most zero list is inside = record {
  in_order = leaves_out_none list;
  passes_too = is;
  tried = λ t n some few within. absurd (omega (arith, some, within, inside));
}
rounds_tried passes most (suc k) list is inside =
    let after = round_of passes most list in
    let Tried : Bool → Type 0 = λ b.
    IsTriedThrough passes most list (cond b after (rounds_within passes most k after)) in
    let cases : (b : Bool) → eqb (length after) (length list) ≡ b → Tried b =
    λ b. elim b as (λ (v : Bool). eqb (length after) (length list) ≡ v → Tried v) [
      | true ↦ λ same. last_round passes most list is (eqb-true (length after) (length list) same)
      | false ↦ λ other.
          let less = eqb-false (length after) (length list) other in
          let more = rounds_tried passes most k after (round_passes passes most list (length list) 0 is)
          (omega (arith, inside, less, round_within passes most list)) in
          record {
            in_order = leaves_out_more list after (rounds_within passes most k after)
                (round_leaves_out passes most list (length list) 0) more.in_order;
            passes_too = more.passes_too;
            tried = more.tried;
          }
    ] in
    cases (eqb (length after) (length list)) refl

-- more rounds than there are items change nothing
rounds_enough : {A : Type 0} → (passes : List A → Bool) (most k m : ℕ) (list : List A) → length list ≤ k
    → length list ≤ m → rounds_within passes most k list ≡ rounds_within passes most m list
unfolding rounds_within round_from
rounds_enough passes most zero zero list few fewer = refl
rounds_enough passes most zero (suc m) [] few fewer = refl
rounds_enough passes most zero (suc m) (x ∷ list) few fewer = absurd (omega (arith, few))
rounds_enough passes most (suc k) zero [] few fewer = refl
rounds_enough passes most (suc k) zero (x ∷ list) few fewer = absurd (omega (arith, fewer))
rounds_enough passes most (suc k) (suc m) list few fewer =
    let after = round_of passes most list in
    let Same : Bool → Type 0 = λ b. cond b after (rounds_within passes most k after)
    ≡ cond b after (rounds_within passes most m after) in
    let cases : (b : Bool) → eqb (length after) (length list) ≡ b → Same b =
    λ b. elim b as (λ (v : Bool). eqb (length after) (length list) ≡ v → Same v) [
      | true ↦ λ same. refl
      | false ↦ λ other.
          let less = eqb-false (length after) (length list) other in
          rounds_enough passes most k m after (omega (arith, few, less, round_within passes most list))
          (omega (arith, fewer, less, round_within passes most list))
    ] in
    cases (eqb (length after) (length list)) refl

-- the round that leaves out nothing is the last
pub rounds_end : {A : Type 0} → (passes : List A → Bool) (most : ℕ) (list after : List A)
    → after ≡ round_of passes most list → length after ≡ length list → rounds_of passes most list ≡ after
unfolding rounds_within round_from
rounds_end passes most [] after is same = sym is
rounds_end passes most (x ∷ list) after is same =
    let round = round_of passes most (x ∷ list) in
    ap (λ b. cond b round (rounds_within passes most (length list) round))
    (eq-eqb (length round) (length (x ∷ list)) (ap (λ l. length l) (sym is) ∙ same))
    ∙ sym is

-- each other one is followed by the rounds over what it left
pub rounds_go_on : {A : Type 0} → (passes : List A → Bool) (most : ℕ) (list after : List A)
    → after ≡ round_of passes most list → (length after ≡ length list → ⊥)
    → rounds_of passes most list ≡ rounds_of passes most after
unfolding rounds_within round_from
rounds_go_on passes most [] after is other = absurd (other (ap (λ l. length l) is))
rounds_go_on passes most (x ∷ list) after is other =
    let round = round_of passes most (x ∷ list) in
    let less : length round ≡ length (x ∷ list) → ⊥ = λ same. other (ap (λ l. length l) is ∙ same) in
    ap (λ b. cond b round (rounds_within passes most (length list) round))
    (ne_eqb (length round) (length (x ∷ list)) less)
    ∙ (rounds_enough passes most (length list) (length round) round
    (omega (arith, less, round_within passes most (x ∷ list))) (omega arith)
    ∙ ap (rounds_of passes most) (sym is))
