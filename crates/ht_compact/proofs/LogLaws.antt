-- What is noted of the faults of a run, one after the other.
use Rattle.std.proofs.Common.{◌≡◌, ◌≢◌, ◌<◌, ◌≤◌, ◌+◌, ◌++◌, ◌∷◌, [], inl, inr, ℕ, List, Some, None, length, get_or, set, refl, sym, ◌∙◌, ap, subst, arith, length-set}
use Rattle.std.proofs.lemmas.Bool.{cases_eq}
use Rattle.std.proofs.lemmas.Grind.{get_or-set_at}
use Rattle.std.proofs.lemmas.List.{get_or-set_other, length-map}
use Rattle.ht_group.specs.declared.diffs.Diff.{Diff}
use Rattle.ht_proofs.specs.declared.grade.Grade.{Grade}
use Rattle.ht_proofs.specs.LaneGrades.{grade_at, no_grade}
use Rattle.ht_proofs.specs.Undetected.{undetected_of, verdicts_of}
use Rattle.ht_proofs.proofs.UndetectedLaws.{listed_none, listed_rises, undetected_listed, verdict_of}
use Rattle.ht_compact.specs.declared.runners.Runner.{Runner}
use Rattle.ht_compact.specs.Runs.{HasJoined, HaveLogged, MayHaveJoined, SomeJoined, runner_at}

-- ---- differences that are noted

-- a runner with the differences of its grade noted
abbrev pub logged_by : Grade → Runner → Runner
logged_by grade runner = record runner { log = runner.log ++ grade.diffs ∷ [] }

-- The first n of these runners have their differences noted, and no other has changed.
pub record AreLoggedTo (numbers : List ℕ) (grades : List Grade) (n : ℕ) (old new : List Runner) : Type 0 where
  pub within : n ≤ length numbers
  pub every : length new ≡ length old
  pub done : (i : ℕ) → i < n → runner_at new (get_or numbers i 0)
      ≡ logged_by (grade_at grades (get_or numbers i 0)) (runner_at old (get_or numbers i 0))
  pub others : (k : ℕ) → ((i : ℕ) → i < n → get_or numbers i 0 ≢ k) → runner_at new k ≡ runner_at old k

-- none of them yet
pub none_logged : (numbers : List ℕ) (grades : List Grade) (old : List Runner) → AreLoggedTo numbers grades 0 old old
none_logged numbers grades old = record {
  within = omega arith;
  every = refl;
  done = λ i less. absurd (omega (arith, less));
  others = λ k none. refl;
}

-- one more
pub logged_more : (numbers : List ℕ) (grades : List Grade) (n : ℕ) (old now new : List Runner)
    → numbers ≡ undetected_of (verdicts_of grades) → n < length numbers → get_or numbers n 0 < length now
    → AreLoggedTo numbers grades n old now
    → new ≡ set now (get_or numbers n 0) (logged_by (grade_at grades (get_or numbers n 0))
    (runner_at now (get_or numbers n 0)))
    → AreLoggedTo numbers grades (n + 1) old new
logged_more numbers grades n old now new listed inside known are written =
    let x = get_or numbers n 0 in
    let none : Runner = record { place = 0; log = []; rest = 0 } in
    let more = logged_by (grade_at grades x) (runner_at now x) in
    let rises : (i : ℕ) → i < n → get_or numbers i 0 < x =
    λ i less. listed_rises (verdicts_of grades) numbers i n listed less inside in
    let was : runner_at now x ≡ runner_at old x =
    are.others x (λ i less same. omega (arith, rises i less, same)) in
    record {
      within = omega (arith, inside);
      every = ap (λ (l : List Runner). length l) written ∙ (length-set now x more ∙ are.every);
      done = λ i less. elim (cases_eq i n) [
        | inl last ↦
            subst (λ (k : ℕ). runner_at new (get_or numbers k 0)
            ≡ logged_by (grade_at grades (get_or numbers k 0)) (runner_at old (get_or numbers k 0))) (sym last)
            (ap (λ (l : List Runner). runner_at l x) written
            ∙ (get_or-set_at now x x more none refl known ∙ ap (logged_by (grade_at grades x)) was))
        | inr before ↦
            let less_then : i < n = omega (arith, less, before) in
            ap (λ (l : List Runner). runner_at l (get_or numbers i 0)) written
            ∙ (get_or-set_other now x (get_or numbers i 0) more none
            (λ same. omega (arith, rises i less_then, same)) ∙ are.done i less_then)
      ];
      others = λ k none_of.
          ap (λ (l : List Runner). runner_at l k) written
          ∙ (get_or-set_other now x k more none (λ same. none_of n (omega arith) (sym same))
          ∙ are.others k (λ i less. none_of i (omega (arith, less))));
    }

-- all of them
pub logged_all : (numbers : List ℕ) (grades : List Grade) (n : ℕ) (old new : List Runner)
    → numbers ≡ undetected_of (verdicts_of grades) → length grades ≡ length old → length numbers ≤ n
    → AreLoggedTo numbers grades n old new → HaveLogged grades old new
logged_all numbers grades n old new listed every done are = record {
  every = are.every;
  each = λ j less. record {
    running = λ none.
        let there = undetected_listed (verdicts_of grades) numbers j listed
        (omega (arith, less, every, length-map grades (λ (g : Grade). g.verdict))) (verdict_of grades j ∙ none) in
        subst (λ (k : ℕ). runner_at new k ≡ logged_by (grade_at grades k) (runner_at old k)) there.2
        (are.done there.0 (omega (arith, there.1, done)));
    ended = λ p found. are.others j (λ i before same.
        let none = listed_none (verdicts_of grades) numbers i listed (omega (arith, before, are.within)) in
        let bad : None ≡ Some p =
        sym none ∙ (verdict_of grades (get_or numbers i 0)
        ∙ (ap (λ (k : ℕ). (grade_at grades k).verdict) same ∙ found)) in
        cc);
  };
}

-- ---- faults that join, one after the other

-- none has joined yet
pub none_joined : (histories : List (List (List Diff))) (t : ℕ) (grades : List Grade) (runners : List Runner)
    → SomeJoined histories t grades grades runners runners
none_joined histories t grades runners =
    record { grades = refl; runners = refl; each = λ j less. inl (refl, refl) }

-- the place of a runner that may have joined
pub joined_place : (history : List (List Diff)) (t : ℕ) (was is : Grade) (old new : Runner)
    → MayHaveJoined history t was is old new → new.place ≡ old.place
joined_place history t was is old new (inl same) = ap (λ (r : Runner). r.place) same.1
joined_place history t was is old new (inr joins) = ap (λ (r : Runner). r.place) joins.runner

-- what may have joined in two steps
both_steps : (history : List (List Diff)) (t : ℕ) (was now is : Grade) (old mid new : Runner)
    → MayHaveJoined history t was now old mid → MayHaveJoined history t now is mid new
    → MayHaveJoined history t was is old new
both_steps history t was now is old mid new (inl one) (inl two) = inl (two.0 ∙ one.0, two.1 ∙ one.1)
both_steps history t was now is old mid new (inl one) (inr two) =
    inr (subst (λ (g : Grade). HasJoined history t g is old new) one.0
    (subst (λ (r : Runner). HasJoined history t now is r new) one.1 two))
both_steps history t was now is old mid new (inr one) (inl two) =
    inr (subst (λ (g : Grade). HasJoined history t was g old new) (sym two.0)
    (subst (HasJoined history t was now old) (sym two.1) one))
both_steps history t was now is old mid new (inr one) (inr two) =
    let bad : Some (record { vector = t; output = 0 }) ≡ None =
    sym (ap (λ (g : Grade). g.verdict) one.grade) ∙ two.none in
    cc

-- one fault more may have
pub joined_more : (histories : List (List (List Diff))) (t x : ℕ) (was now is : List Grade) (old mid new : List Runner)
    (grade : Grade) (runner : Runner) → SomeJoined histories t was now old mid → length was ≡ length old
    → x < length old → MayHaveJoined (get_or histories (runner_at mid x).place []) t (grade_at now x) grade
    (runner_at mid x) runner
    → is ≡ set now x grade → new ≡ set mid x runner → SomeJoined histories t was is old new
joined_more histories t x was now is old mid new grade runner some every known here grades runners = record {
  grades = ap (λ (l : List Grade). length l) grades ∙ (length-set now x grade ∙ some.grades);
  runners = ap (λ (l : List Runner). length l) runners ∙ (length-set mid x runner ∙ some.runners);
  each = λ j less. elim (cases_eq j x) [
    | inl same ↦
        subst (λ (i : ℕ). MayHaveJoined (get_or histories (runner_at old i).place []) t (grade_at was i)
        (grade_at is i) (runner_at old i) (runner_at new i)) (sym same) at_x
    | inr other ↦
        subst (λ (g : Grade). MayHaveJoined (get_or histories (runner_at old j).place []) t (grade_at was j) g
        (runner_at old j) (runner_at new j))
        (sym (ap (λ (l : List Grade). grade_at l j) grades ∙ get_or-set_other now x j grade no_grade other))
        (subst (MayHaveJoined (get_or histories (runner_at old j).place []) t (grade_at was j) (grade_at now j)
        (runner_at old j))
        (sym (ap (λ (l : List Runner). runner_at l j) runners ∙ get_or-set_other mid x j runner none other))
        (some.each j less))
  ];
}
  where
    none : Runner
    none = record { place = 0; log = []; rest = 0 }

    place : (runner_at mid x).place ≡ (runner_at old x).place
    place = joined_place (get_or histories (runner_at old x).place []) t (grade_at was x) (grade_at now x)
        (runner_at old x) (runner_at mid x) (some.each x known)

    at_x : MayHaveJoined (get_or histories (runner_at old x).place []) t (grade_at was x) (grade_at is x)
        (runner_at old x) (runner_at new x)
    at_x =
        subst (λ (g : Grade). MayHaveJoined (get_or histories (runner_at old x).place []) t (grade_at was x) g
        (runner_at old x) (runner_at new x))
        (sym (ap (λ (l : List Grade). grade_at l x) grades
        ∙ get_or-set_at now x x grade no_grade refl (omega (arith, known, every, some.grades))))
        (subst (MayHaveJoined (get_or histories (runner_at old x).place []) t (grade_at was x) grade
        (runner_at old x))
        (sym (ap (λ (l : List Runner). runner_at l x) runners
        ∙ get_or-set_at mid x x runner none refl (omega (arith, known, some.runners))))
        (both_steps (get_or histories (runner_at old x).place []) t (grade_at was x) (grade_at now x) grade
        (runner_at old x) (runner_at mid x) runner (some.each x known)
        (subst (λ (k : ℕ). MayHaveJoined (get_or histories k []) t (grade_at now x) grade (runner_at mid x) runner)
        place here)))
