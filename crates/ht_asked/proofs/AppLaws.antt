-- Where the arguments of a form are found.
use Rattle.std.proofs.Common.{◌≡◌, ◌∙◌, ◌+◌, ◌≤◌, ◌<◌, ◌∷◌, ◌++◌, ◌&&◌, ◌||◌, ◌==◌, ℕ, Bool, true, false, not, cond, List, [], map, length, zero, suc, Option, Some, None, refl, sym, ap, arith, inl, inr, ne_eqb, option_map, is_some}
use Rattle.std.specs.Prelude.{find, slice_get}
use Rattle.std.specs.Option.{option_map_or}
use Rattle.std.specs.Str.{bytes_eq}
use Rattle.std.proofs.lemmas.Slice.Eq.{bytes_eq-Decides}
use Rattle.std.proofs.Math.Bool.{and-false}
use Rattle.std.proofs.lemmas.Bool.Decides.{Decides-eqb}
use Rattle.std.proofs.lemmas.Option.{slice_get_within}
use Rattle.std.proofs.lemmas.List.Folds.{list_any-append}
use Rattle.clap.specs.Lexer.{usize_max}
use Rattle.clap.specs.Walk.{Rule, Text, arg_by_index, arg_by_long, arg_by_short, has_long, has_short}
use Rattle.ht_asked.specs.Forms.{Form, all_differ, is_among, named}
use Rattle.ht_asked.proofs.Uses.{arguments, place_in}
use Rattle.ht_asked.proofs.NameLaws.{apart, found, later_differ, same_name}
use Rattle.ht_asked.proofs.Looks.{true_is_false}
use Rattle.ht_asked.proofs.Positional.{or_false}
use Rattle.ht_asked.proofs.Rows.{Param, toggle, word}
use Rattle.ht_asked.proofs.States.{Finds, FindsLong, IsKnown, IsModel, no_long, an_option, a_flag}
use Rattle.ht_asked.proofs.BuiltLaws.{need, choice, needs_from, params_of, rules_of}

-- ---- where the arguments are found

found_word : (test : Rule → Bool) (ps : List Param)
    → find test (map word ps) ≡ option_map word (find (λ p. test (word p)) ps)
found_word test [] = refl
found_word test (p ∷ ps) = go (test (word p)) (found_word test ps)
  where
    go : (b : Bool) → find test (map word ps) ≡ option_map word (find (λ q. test (word q)) ps)
        → cond b (Some (word p)) (find test (map word ps))
        ≡ option_map word (cond b (Some p) (find (λ q. test (word q)) ps))
    go true e = refl
    go false e = e

-- what is found by any test is found by its name, or another of that name is
known_in : (test : Param → Bool) (ps : List Param) (a : Param) → find test ps ≡ Some a
    → (b : Param) × (find (λ p. bytes_eq p.id a.id) ps ≡ Some b) × (b.id ≡ a.id)
known_in test [] a is = cc
known_in test (p ∷ ps) a is = go (bytes_eq p.id a.id) refl (test p) refl (known_in test ps a)
  where
    go : (b : Bool) → bytes_eq p.id a.id ≡ b → (t : Bool) → test p ≡ t
        → (find test ps ≡ Some a → (b : Param) × (find (λ q. bytes_eq q.id a.id) ps ≡ Some b) × (b.id ≡ a.id))
        → (b : Param) × (find (λ q. bytes_eq q.id a.id) (p ∷ ps) ≡ Some b) × (b.id ≡ a.id)
    go true e t f later = (
      p,
      ap (λ b. cond b (Some p) (find (λ q. bytes_eq q.id a.id) ps)) e,
      (bytes_eq-Decides p.id a.id).0 e,
    )
    go false e true f later =
        let same : Some p ≡ Some a = sym (ap (λ b. cond b (Some p) (find test ps)) f) ∙ is in
        let one : p ≡ a = cc in
        absurd (true_is_false (sym (same_name a.id) ∙ ap (λ (q : Param). bytes_eq q.id a.id) (sym one) ∙ e))
    go false e false f later =
        let rest = later (sym (ap (λ b. cond b (Some p) (find test ps)) f) ∙ is) in
        (rest.0, ap (λ b. cond b (Some p) (find (λ q. bytes_eq q.id a.id) ps)) e ∙ rest.1, rest.2)

-- what is found among the first is found among all
found_first : (test : Rule → Bool) (xs ys : List Rule) (r : Rule) → find test xs ≡ Some r
    → find test (xs ++ ys) ≡ Some r
found_first test [] ys r is = cc
found_first test (x ∷ xs) ys r is = go (test x) is (found_first test xs ys r)
  where
    go : (b : Bool) → cond b (Some x) (find test xs) ≡ Some r → (find test xs ≡ Some r → find test (xs ++ ys) ≡ Some r)
        → cond b (Some x) (find test (xs ++ ys)) ≡ Some r
    go true e later = e
    go false e later = later e

-- where none is found among the first, the others tell
found_later : (test : Rule → Bool) (xs ys : List Rule) → find test xs ≡ None → find test (xs ++ ys) ≡ find test ys
found_later test [] ys none = refl
found_later test (x ∷ xs) ys none = go (test x) none (found_later test xs ys)
  where
    go : (b : Bool) → cond b (Some x) (find test xs) ≡ None
        → (find test xs ≡ None → find test (xs ++ ys) ≡ find test ys)
        → cond b (Some x) (find test (xs ++ ys)) ≡ find test ys
    go true e later = cc
    go false e later = later e

-- an argument that is found by a test, before other rules
module _ (test : Rule → Bool) (ps : List Param) (others : List Rule) where
  abbrev all : List Rule
  all = map word ps ++ others

  found_param : (a : Param) → find (λ p. test (word p)) ps ≡ Some a → find test all ≡ Some (word a)
  found_param a e = found_first test (map word ps) others (word a) (found_word test ps ∙ ap (option_map word) e)

  found_other : find (λ p. test (word p)) ps ≡ None → find test all ≡ find test others
  found_other e = found_later test (map word ps) others (found_word test ps ∙ ap (option_map word) e)

  is_known : (a : Param) → find (λ p. test (word p)) ps ≡ Some a → IsKnown all a.id
  is_known a e =
      let known = known_in (λ p. test (word p)) ps a e in (
        known.0,
        found_first (λ r. bytes_eq r.id a.id) (map word ps) others (word known.0)
            (found_word (λ r. bytes_eq r.id a.id) ps ∙ ap (option_map word) known.1),
        known.2,
      )

  finds : (id : Option Text) → find test others ≡ None
      → option_map (λ (p : Param). p.id) (find (λ p. test (word p)) ps) ≡ id → Finds all (find test all) id
  finds id none is = go (find (λ p. test (word p)) ps) refl
    where
      go : (o : Option Param) → find (λ p. test (word p)) ps ≡ o → Finds all (find test all) id
      go None e = inl (found_other e ∙ none, sym is ∙ ap (option_map (λ (p : Param). p.id)) e)
      go (Some a) e = inr (a, found_param a e, sym is ∙ ap (option_map (λ (p : Param). p.id)) e, is_known a e)

abbrev at_index : ℕ → Param → Bool
at_index k p = option_map_or (λ j. j == k) p.index false

abbrev id_at : ℕ → List Param → Option Text
id_at k ps = option_map (λ (p : Param). p.id) (find (at_index k) ps)

no_option_at : (k : ℕ) (ns : List Text) → id_at k (map choice ns) ≡ None
no_option_at k [] = refl
no_option_at k (n ∷ ns) = no_option_at k ns

abbrev or_later : Bool → Param → Option Param → Option Text
or_later b p later = option_map (λ (q : Param). q.id) (cond b (Some p) later)

before : (i k : ℕ) (ids ns : List Text) → k < i → id_at k (needs_from i ids ++ map choice ns) ≡ None
before i k [] ns less = no_option_at k ns
before i k (id ∷ ids) ns less =
    ap (λ b. or_later b (need id i) (find (at_index k) (needs_from (suc i) ids ++ map choice ns)))
    (ne_eqb i k (λ e. omega (arith, e, less)))
    ∙ before (suc i) k ids ns (omega (arith, less))

id_from : (i j : ℕ) (ids ns : List Text) → id_at (j + i) (needs_from i ids ++ map choice ns) ≡ slice_get ids j
id_from i j [] ns = no_option_at (j + i) ns
id_from i zero (id ∷ ids) ns =
    ap (λ b. or_later b (need id i) (find (at_index (0 + i)) (needs_from (suc i) ids ++ map choice ns)))
    ((Decides-eqb i (0 + i)).1 (omega arith))
id_from i (suc j) (id ∷ ids) ns =
    ap (λ b. or_later b (need id i) (find (at_index (suc j + i)) (needs_from (suc i) ids ++ map choice ns)))
    (ne_eqb i (suc j + i) (λ e. omega (arith, e)))
    ∙ ap (λ k. id_at k (needs_from (suc i) ids ++ map choice ns)) {y = j + suc i} (omega arith)
    ∙ id_from (suc i) j ids ns

id_place : (k : ℕ) (ids ns : List Text) → id_at k (needs_from 1 ids ++ map choice ns) ≡ place_in ids k
id_place zero ids ns = before 1 0 ids ns (omega arith)
id_place (suc j) ids ns =
    ap (λ k. id_at k (needs_from 1 ids ++ map choice ns)) {y = j + 1} (omega arith) ∙ id_from 1 j ids ns

abbrev by_long : Text → Param → Bool
by_long n p = not (is_some p.index) && has_long (word p) n

abbrev id_of_long : Text → List Param → Option Text
id_of_long n ps = option_map (λ (p : Param). p.id) (find (by_long n) ps)

long_option : (n : Text) (ns : List Text) → id_of_long n (map choice ns) ≡ find (λ m. bytes_eq m n) ns
long_option n [] = refl
long_option n (m ∷ ms) = go (bytes_eq m n) (long_option n ms)
  where
    go : (b : Bool) → id_of_long n (map choice ms) ≡ find (λ o. bytes_eq o n) ms
        → or_later (b || false) (choice m) (find (by_long n) (map choice ms))
        ≡ cond b (Some m) (find (λ o. bytes_eq o n) ms)
    go true e = refl
    go false e = e

long_place : (n : Text) (i : ℕ) (ids ns : List Text)
    → id_of_long n (needs_from i ids ++ map choice ns) ≡ find (λ m. bytes_eq m n) ns
long_place n i [] ns = long_option n ns
long_place n i (id ∷ ids) ns = long_place n (suc i) ids ns

no_short : (y : ℕ) (ps : List Param) → arg_by_short (map word ps) y ≡ None
no_short y [] = refl
no_short y (p ∷ ps) = ap
    (λ b. cond b (Some (word p)) (find (λ a. not (is_some a.index) && has_short a y) (map word ps)))
    (and-false (not (is_some p.index))) ∙ no_short y ps

-- ---- flags

no_flag_at : (k : ℕ) (fs : List Text) → arg_by_index (map toggle fs) k ≡ None
no_flag_at k [] = refl
no_flag_at k (f ∷ fs) = no_flag_at k fs

no_short_flag : (y : ℕ) (fs : List Text) → arg_by_short (map toggle fs) y ≡ None
no_short_flag y [] = refl
no_short_flag y (f ∷ fs) = no_short_flag y fs

long_flag : (n : Text) (fs : List Text) → arg_by_long (map toggle fs) n ≡ cond (is_among n fs) (Some (toggle n)) None
long_flag n [] = refl
long_flag n (f ∷ fs) = go (bytes_eq f n) refl (long_flag n fs)
  where
    go : (b : Bool) → bytes_eq f n ≡ b
        → arg_by_long (map toggle fs) n ≡ cond (is_among n fs) (Some (toggle n)) None
        → cond (b || false) (Some (toggle f)) (arg_by_long (map toggle fs) n)
        ≡ cond (b || is_among n fs) (Some (toggle n)) None
    go true e later = ap (λ m. Some (toggle m)) ((bytes_eq-Decides f n).0 e)
    go false e later = later

module _ (form : Form) (differ : all_differ (form.positionals ++ named form) ≡ true) (n : Text) where
  abbrev flags : List Rule
  flags = map toggle form.flags

  abbrev is_long : Rule → Bool
  is_long a = not (is_some a.index) && has_long a n

  named_is : find (λ m. bytes_eq m n) (named form)
      ≡ cond (is_among n form.options || is_among n form.flags) (Some n) None
  named_is = found n (named form)
      ∙ ap (λ b. cond b (Some n) None) (list_any-append (λ o. bytes_eq o n) form.options form.flags)

  option_is : id_of_long n (params_of form) ≡ cond (is_among n form.options) (Some n) None
  option_is = long_place n 1 form.positionals form.options ∙ found n form.options

  none_found : (o : Option Param) → find (λ p. is_long (word p)) (params_of form) ≡ o
      → is_among n form.options ≡ false → find (λ p. is_long (word p)) (params_of form) ≡ None
  none_found None e other = e
  none_found (Some a) e other =
      let bad : Some a.id ≡ None = sym (ap (option_map (λ (p : Param). p.id)) e) ∙ option_is
      ∙ ap (λ b. cond b (Some n) None) other in cc

  abbrev LongIs : Type 0
  LongIs = FindsLong (rules_of form) (arg_by_long (rules_of form) n) (find (λ m. bytes_eq m n) (named form))
      (is_among n form.flags)

  of_flag : is_among n form.flags ≡ true → LongIs
  of_flag e =
      let other = apart form.options form.flags n (later_differ form.positionals (named form) differ) e in
      let none = none_found (find (λ p. is_long (word p)) (params_of form)) refl other in
      a_flag n
      (found_other is_long (params_of form) flags none ∙ long_flag n form.flags
      ∙ ap (λ b. cond b (Some (toggle n)) None) e)
      (named_is ∙ (λ i. cond (other i || e i) (Some n) None)) e

  of_option : is_among n form.flags ≡ false → (o : Option Param)
      → find (λ p. is_long (word p)) (params_of form) ≡ o → LongIs
  of_option e None f = no_long
      (found_other is_long (params_of form) flags f ∙ long_flag n form.flags
      ∙ ap (λ b. cond b (Some (toggle n)) None) e)
      (named_is ∙ ap (λ b. cond (is_among n form.options || b) (Some n) None) e
      ∙ ap (λ b. cond b (Some n) None) (or_false (is_among n form.options))
      ∙ sym option_is ∙ ap (option_map (λ (p : Param). p.id)) f)
  of_option e (Some a) f = an_option a (found_param is_long (params_of form) flags a f)
      (named_is ∙ ap (λ b. cond (is_among n form.options || b) (Some n) None) e
      ∙ ap (λ b. cond b (Some n) None) (or_false (is_among n form.options))
      ∙ sym option_is ∙ ap (option_map (λ (p : Param). p.id)) f)
      (is_known is_long (params_of form) flags a f) e

  long_is : (b : Bool) → is_among n form.flags ≡ b → LongIs
  long_is true e = of_flag e
  long_is false e = of_option e (find (λ p. is_long (word p)) (params_of form)) refl

-- the rules of a form whose positionals can be numbered have these by index, options and flags by name, and no short
-- names
pub is_model : (form : Form) → length form.positionals < usize_max
    → all_differ (form.positionals ++ named form) ≡ true
    → IsModel (rules_of form) (arguments form.positionals (named form) form.flags)
is_model form few differ = record {
  at = λ k. finds (λ a. option_map_or (λ j. j == k) a.index false) (params_of form) (map toggle form.flags)
      (place_in form.positionals k) (no_flag_at k form.flags) (id_place k form.positionals form.options);
  fits = λ k id is. fits k id is;
  option = λ n. long_is form differ n (is_among n form.flags) refl;
  short = λ y. found_later (λ a. not (is_some a.index) && has_short a y) (map word (params_of form))
      (map toggle form.flags) (no_short y (params_of form)) ∙ no_short_flag y form.flags;
}
  where
    fits : (k : ℕ) (id : Text) → place_in form.positionals k ≡ Some id → k + 1 ≤ usize_max
    fits zero id is = omega arith
    fits (suc j) id is = let less = slice_get_within form.positionals j id is in omega (arith, few, less)
