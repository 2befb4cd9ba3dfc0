-- The entries that verdicts keep, as numbered entries and as steps.
use Rattle.std.proofs.Common.{zero, suc, ◌≡◌, ◌<◌, ◌+◌, ◌++◌, ◌∙◌, ℕ, List, [], ◌∷◌, Bool, get_or, length, refl, sym, ap, subst, arith}
use Rattle.std.specs.Prelude.{Option, Some, None}
use Rattle.std.specs.List.{All, Contains}
use Rattle.std.proofs.lemmas.List.Elements.{All-cons, All-head, All-nil, All-weaker}
use Rattle.ht_tree.specs.declared.entry.Entry as recorded
use Rattle.ht_tree.specs.Record.Rising.{Rises}
use Rattle.ht_entries.specs.declared.numbered.Numbered.{Numbered}
use Rattle.ht_entries.specs.EntryTexts.{numbers_of}
use Rattle.ht_entries.proofs.RisesLaws.{rises_cons, rises_none, rises_one}
use Rattle.ht_engine.specs.declared.step.Step.{Step}
use Rattle.ht_engine.specs.declared.step.Step.TheVariants.{Entry}
use Rattle.ht_engine.specs.Steps.{entries_of, vectors_of_steps}
use Rattle.ht_verdicts.specs.Kept.{entries_from}
use Rattle.ht_files.specs.Searched.{entry_steps}

-- ---- as steps

-- the steps of entries have these entries
pub steps_have_entries : (k : ℕ) (kept : List (Option recorded.Entry))
    → entries_of (entry_steps k kept) ≡ entries_from k kept
steps_have_entries k [] = refl
steps_have_entries k (None ∷ rest) = steps_have_entries (k + 1) rest
steps_have_entries k (Some made ∷ rest) =
    ap (λ (l : List Numbered). record { number = k + 1; entry = made } ∷ l) (steps_have_entries (k + 1) rest)

-- they have no vectors
pub steps_have_no_vectors : (k : ℕ) (kept : List (Option recorded.Entry)) → vectors_of_steps (entry_steps k kept) ≡ []
steps_have_no_vectors k [] = refl
steps_have_no_vectors k (None ∷ rest) = steps_have_no_vectors (k + 1) rest
steps_have_no_vectors k (Some made ∷ rest) = steps_have_no_vectors (k + 1) rest

-- the entries of the first faults and then those of the next ones are the entries of all
pub steps_in_parts : (k : ℕ) (first next : List (Option recorded.Entry))
    → entry_steps k (first ++ next) ≡ entry_steps k first ++ entry_steps (k + length first) next
steps_in_parts k [] next =
    let same : k ≡ k + 0 = omega arith in ap (λ (n : ℕ). entry_steps n next) same
steps_in_parts k (None ∷ rest) next =
    let same : k + 1 + length rest ≡ k + suc (length rest) = omega arith in
    steps_in_parts (k + 1) rest next ∙ ap (λ (n : ℕ). entry_steps (k + 1) rest ++ entry_steps n next) same
steps_in_parts k (Some made ∷ rest) next =
    let same : k + 1 + length rest ≡ k + suc (length rest) = omega arith in
    ap (λ (l : List Step). Entry k made ∷ l)
    (steps_in_parts (k + 1) rest next ∙ ap (λ (n : ℕ). entry_steps (k + 1) rest ++ entry_steps n next) same)

-- ---- as numbered entries

-- The entry is kept at the place of its number.
pub record IsKeptFrom (k : ℕ) (kept : List (Option recorded.Entry)) (e : Numbered) : Type 0 where
  pub index : ℕ
  pub number : e.number ≡ k + index + 1
  pub there : get_or kept index None ≡ Some e.entry

one_later : (k : ℕ) (x : Option recorded.Entry) (rest : List (Option recorded.Entry)) (e : Numbered)
    → IsKeptFrom (k + 1) rest e → IsKeptFrom k (x ∷ rest) e
one_later k x rest e is =
    let counts = is.number in
    record { index = suc is.index; number = omega (arith, counts); there = is.there }

-- each is kept
pub all_are_kept : (k : ℕ) (kept : List (Option recorded.Entry)) → All (IsKeptFrom k kept) (entries_from k kept)
all_are_kept k [] = All-nil (IsKeptFrom k [])
all_are_kept k (None ∷ rest) = All-weaker (IsKeptFrom (k + 1) rest) (IsKeptFrom k (None ∷ rest))
    (one_later k None rest) (entries_from (k + 1) rest) (all_are_kept (k + 1) rest)
all_are_kept k (Some made ∷ rest) = All-cons (IsKeptFrom k (Some made ∷ rest))
    (record { number = k + 1; entry = made }) (entries_from (k + 1) rest)
    (record { index = 0; number = omega arith; there = refl })
    (All-weaker (IsKeptFrom (k + 1) rest) (IsKeptFrom k (Some made ∷ rest)) (one_later k (Some made) rest)
    (entries_from (k + 1) rest) (all_are_kept (k + 1) rest))

contains_later : {A : Type 0} (x : A) (xs : List A) (y : A) → Contains xs y → Contains (x ∷ xs) y
contains_later x xs y (k, lt, is) = (suc k, omega (arith, lt), is)

some_same : (a b : recorded.Entry) → Some a ≡ Some b → a ≡ b
some_same a b is = cc

-- and each that is kept is there
pub kept_is_there : (k : ℕ) (kept : List (Option recorded.Entry)) (i : ℕ) (made : recorded.Entry)
    → get_or kept i None ≡ Some made → Contains (entries_from k kept) (record { number = k + i + 1; entry = made })
kept_is_there k [] i made is = let none : None ≡ Some made = is in absurd (cc)
kept_is_there k (None ∷ rest) zero made is = let none : None ≡ Some made = is in absurd (cc)
kept_is_there k (Some first ∷ rest) zero made is =
    let same : k + 1 ≡ k + 0 + 1 = omega arith in (
      0,
      omega arith,
      ap (λ (n : ℕ). record { number = n; entry = first }) same
          ∙ ap (λ (e : recorded.Entry). record { number = k + 0 + 1; entry = e }) (some_same first made is),
    )
kept_is_there k (None ∷ rest) (suc i) made is =
    let same : k + 1 + i + 1 ≡ k + suc i + 1 = omega arith in
    subst (λ (n : ℕ). Contains (entries_from (k + 1) rest) (record { number = n; entry = made })) same
    (kept_is_there (k + 1) rest i made is)
kept_is_there k (Some first ∷ rest) (suc i) made is =
    let same : k + 1 + i + 1 ≡ k + suc i + 1 = omega arith in
    contains_later _ (entries_from (k + 1) rest) _
    (subst (λ (n : ℕ). Contains (entries_from (k + 1) rest) (record { number = n; entry = made })) same
    (kept_is_there (k + 1) rest i made is))

-- ---- their numbers rise

rises_above : (x : ℕ) (entries : List Numbered) → All (λ (e : Numbered). x < e.number) entries
    → Rises (numbers_of entries) → Rises (x ∷ numbers_of entries)
rises_above x [] above rises = rises_one x
rises_above x (e ∷ entries) above rises =
    rises_cons x e.number (numbers_of entries) (All-head (λ (e : Numbered). x < e.number) e entries above) rises

pub kept_rise : (k : ℕ) (kept : List (Option recorded.Entry)) → Rises (numbers_of (entries_from k kept))
kept_rise k [] = rises_none
kept_rise k (None ∷ rest) = kept_rise (k + 1) rest
kept_rise k (Some made ∷ rest) = rises_above (k + 1) (entries_from (k + 1) rest)
    (All-weaker (IsKeptFrom (k + 1) rest) (λ (e : Numbered). k + 1 < e.number)
    (λ e is. let counts = is.number in omega (arith, counts)) (entries_from (k + 1) rest)
    (all_are_kept (k + 1) rest))
    (kept_rise (k + 1) rest)
