-- What the rows give to the arguments of a form: no argument has a default, and each positional is wanted.
use Rattle.std.proofs.Common.{◌≡◌, ◌∙◌, ◌∷◌, ◌++◌, ◌&&◌, ◌||◌, ℕ, suc, Bool, true, false, not, cond, List, [], map, Option, Some, None, refl, ap, option_map, is_some, codes}
use Rattle.std.specs.Prelude.{find, fold, option_and_then, slice_get}
use Rattle.std.specs.List.{list_any}
use Rattle.std.specs.Option.{option_map_or}
use Rattle.std.specs.Str.{bytes_eq}
use Rattle.clap.specs.Facts.{explicit_source}
use Rattle.clap.specs.Kinds.{check_kinds, or_else}
use Rattle.clap.specs.Walk.{Row, Rule, Text, first_of, has_row, is_empty, more_values, with_default, with_values}
use Rattle.clap.specs.Takes.{is_given}
use Rattle.clap.specs.Faults.{check_fault, defaults_fault, given_default_fault}
use Rattle.clap.specs.declared.builder.value_parser.Reading.TheVariants as reading
use Rattle.clap.specs.declared.parser.matches.ValueSource.TheVariants.{DefaultValue}
use Rattle.ht_asked.specs.Forms.{Form, Given, Part, all_differ, given_by, is_among, named, option_texts, set_text, text_of}
use Rattle.ht_asked.specs.ByClap.{all_of, all_with, given_values}
use Rattle.ht_asked.proofs.Uses.{Use, arguments}
use Rattle.ht_asked.proofs.NameLaws.{AreOther, differs, first_are_other, later_differ, same_name, turned}
use Rattle.ht_asked.proofs.Rows.{Param, no_row, row, rows, shape, toggle, word}
use Rattle.ht_asked.proofs.Settle.{finish}
use Rattle.ht_asked.proofs.PlaceLaws.{place}
use Rattle.ht_asked.proofs.GivenLaws.{given_is, or_true}
use Rattle.ht_asked.proofs.BuiltLaws.{choice, needs_from, params_of, rules_of}

-- ---- what is found among the rows

first_of-rows : (id : Text) (us : List Use) → first_of id (rows us) ≡ text_of id us
first_of-rows id [] = refl
first_of-rows id (u ∷ us) = go (bytes_eq u.0 id) (first_of-rows id us)
  where
    go : (b : Bool) → first_of id (rows us) ≡ text_of id us
        → option_and_then (λ (r : Row). slice_get r.values 0)
        (cond b (Some (row u)) (find (λ r. bytes_eq r.id id) (rows us)))
        ≡ option_map (λ (v : Use). v.1) (cond b (Some u) (find (λ v. bytes_eq v.0 id) us))
    go true e = refl
    go false e = e

is_given-rows : (id : Text) (us : List Use) → is_given id (rows us) ≡ is_some (text_of id us)
is_given-rows id [] = refl
is_given-rows id (u ∷ us) = go (bytes_eq u.0 id) (is_given-rows id us)
  where
    go : (b : Bool) → is_given id (rows us) ≡ is_some (text_of id us)
        → option_map_or (λ (r : Row). explicit_source r.source)
        (cond b (Some (row u)) (find (λ r. bytes_eq r.id id) (rows us))) false
        ≡ is_some (option_map (λ (v : Use). v.1) (cond b (Some u) (find (λ v. bytes_eq v.0 id) us)))
    go true e = refl
    go false e = e

-- ---- the end of the words: a flag that isn't set has a row with `false`, and no other argument has a default

-- the row of a flag that isn't set
abbrev unset : Text → Row
unset id = record {
  id = id;
  values = codes "false" ∷ [];
  count = None;
  source = Some DefaultValue;
  reading = reading.AsWritten;
}

-- the rows with those of flags that have none
abbrev with_unset : List Row → List Text → List Row
with_unset rs fs = fold with_default rs (map toggle fs)

-- what holds of rows, and of rows with one more of a flag, holds where the flag has its row
module _ (f : Text) (rs : List Row) where
  one_default : (b : Bool) → has_row f rs ≡ b → with_default rs (toggle f) ≡ cond b rs (rs ++ unset f ∷ [])
  one_default true e =
      ap (λ b. cond b rs (with_values f reading.AsWritten DefaultValue (codes "false" ∷ []) rs)) e
  one_default false e =
      ap (λ b. cond b rs (with_values f reading.AsWritten DefaultValue (codes "false" ∷ []) rs)) e
      ∙ no_row f (more_values DefaultValue (codes "false" ∷ [])) (unset f ∷ []) rs e

  kept : {X : Type 0} (look : List Row → X) → look (rs ++ unset f ∷ []) ≡ look rs
      → look (with_default rs (toggle f)) ≡ look rs
  kept look same = ap look (one_default (has_row f rs) refl) ∙ go (has_row f rs)
    where
      go : (b : Bool) → look (cond b rs (rs ++ unset f ∷ [])) ≡ look rs
      go true = refl
      go false = same

-- each flag in turn
all_kept : {X : Type 0} (look : List Row → X) (fs : List Text)
    → ((f : Text) (rs : List Row) → is_among f fs ≡ true → look (rs ++ unset f ∷ []) ≡ look rs)
    → (rs : List Row) → look (with_unset rs fs) ≡ look rs
all_kept look [] same rs = refl
all_kept look (f ∷ fs) same rs =
    all_kept look fs (λ g qs e. same g qs (ap (λ b. bytes_eq f g || b) e ∙ or_true (bytes_eq f g)))
    (with_default rs (toggle f))
    ∙ kept f rs look (same f rs (ap (λ b. b || is_among f fs) (same_name f)))

set_kept : (id f : Text) (rs : List Row) → set_text (first_of id (rs ++ unset f ∷ [])) ≡ set_text (first_of id rs)
set_kept id f [] = go (bytes_eq f id)
  where
    go : (b : Bool) → set_text (option_and_then (λ (r : Row). slice_get r.values 0) (cond b (Some (unset f)) None))
        ≡ None
    go true = refl
    go false = refl
set_kept id f (r ∷ rs) = go (bytes_eq r.id id) (set_kept id f rs)
  where
    go : (b : Bool) → set_text (first_of id (rs ++ unset f ∷ [])) ≡ set_text (first_of id rs)
        → set_text (option_and_then (λ (r : Row). slice_get r.values 0)
        (cond b (Some r) (find (λ q. bytes_eq q.id id) (rs ++ unset f ∷ []))))
        ≡ set_text (option_and_then (λ (r : Row). slice_get r.values 0)
        (cond b (Some r) (find (λ q. bytes_eq q.id id) rs)))
    go true e = refl
    go false e = e

first_kept : (id f : Text) (rs : List Row) → bytes_eq f id ≡ false → first_of id (rs ++ unset f ∷ []) ≡ first_of id rs
first_kept id f [] other =
    ap (λ b. option_and_then (λ (r : Row). slice_get r.values 0) (cond b (Some (unset f)) None)) other
first_kept id f (r ∷ rs) other = go (bytes_eq r.id id) (first_kept id f rs other)
  where
    go : (b : Bool) → first_of id (rs ++ unset f ∷ []) ≡ first_of id rs
        → option_and_then (λ (r : Row). slice_get r.values 0)
        (cond b (Some r) (find (λ q. bytes_eq q.id id) (rs ++ unset f ∷ [])))
        ≡ option_and_then (λ (r : Row). slice_get r.values 0)
        (cond b (Some r) (find (λ q. bytes_eq q.id id) rs))
    go true e = refl
    go false e = e

given_kept : (id f : Text) (rs : List Row) → is_given id (rs ++ unset f ∷ []) ≡ is_given id rs
given_kept id f [] = go (bytes_eq f id)
  where
    go : (b : Bool) → option_map_or (λ (r : Row). explicit_source r.source) (cond b (Some (unset f)) None) false ≡ false
    go true = refl
    go false = refl
given_kept id f (r ∷ rs) = go (bytes_eq r.id id) (given_kept id f rs)
  where
    go : (b : Bool) → is_given id (rs ++ unset f ∷ []) ≡ is_given id rs
        → option_map_or (λ (r : Row). explicit_source r.source)
        (cond b (Some r) (find (λ q. bytes_eq q.id id) (rs ++ unset f ∷ []))) false
        ≡ option_map_or (λ (r : Row). explicit_source r.source)
        (cond b (Some r) (find (λ q. bytes_eq q.id id) rs)) false
    go true e = refl
    go false e = e

-- the first values of names that are no flags are the texts of the uses
firsts_are : (fs : List Text) (us : List Use) (ids : List Text) → AreOther ids fs
    → map (λ id. first_of id (with_unset (rows us) fs)) ids ≡ map (λ id. text_of id us) ids
firsts_are fs us [] other = refl
firsts_are fs us (id ∷ ids) other = λ i.
    (all_kept (first_of id) fs (λ f rs e. first_kept id f rs (differs_from f e)) (rows us) ∙ first_of-rows id us) i
    ∷ firsts_are fs us ids other.1 i
  where
    differs_from : (f : Text) → is_among f fs ≡ true → bytes_eq f id ≡ false
    differs_from f e = turned id f (differs id f fs other.0 e)

-- a flag is set by the rows where it is set by the uses
sets_are : (fs : List Text) (us : List Use) (ns : List Text)
    → map (λ n. set_text (first_of n (with_unset (rows us) fs))) ns ≡ map (λ n. set_text (text_of n us)) ns
sets_are fs us [] = refl
sets_are fs us (n ∷ ns) = λ i.
    (all_kept (λ rs. set_text (first_of n rs)) fs (λ f rs e. set_kept n f rs) (rows us)
    ∙ ap set_text (first_of-rows n us)) i
    ∷ sets_are fs us ns i

all_rows : (ps : List Param) (fs : List Text) (rs : List Row)
    → fold with_default rs (map word ps ++ map toggle fs) ≡ with_unset rs fs
all_rows [] fs rs = refl
all_rows (p ∷ ps) fs rs =
    ap (λ r. fold with_default r (map word ps ++ map toggle fs)) (go (has_row p.id rs)) ∙ all_rows ps fs rs
  where
    go : (b : Bool) → cond b rs rs ≡ rs
    go true = refl
    go false = refl

no_flag_faults : (fs : List Text) (rs : List Row) → defaults_fault rs (map toggle fs) ≡ []
unfolding defaults_fault
no_flag_faults [] rs = refl
no_flag_faults (f ∷ fs) rs =
    ap (λ k. or_else k (defaults_fault (with_default rs (toggle f)) (map toggle fs))) (go (has_row f rs))
    ∙ no_flag_faults fs (with_default rs (toggle f))
  where
    go : (b : Bool) → cond (b || false) [] (given_default_fault (toggle f) (codes "false" ∷ [])) ≡ []
    go true = refl
    go false = refl

no_faults : (ps : List Param) (fs : List Text) (rs : List Row)
    → defaults_fault rs (map word ps ++ map toggle fs) ≡ []
unfolding defaults_fault
no_faults [] fs rs = no_flag_faults fs rs
no_faults (p ∷ ps) fs rs =
    ap (λ k. or_else k (defaults_fault (with_default rs (word p)) (map word ps ++ map toggle fs)))
    (go (has_row p.id rs))
    ∙ no_faults ps fs (with_default rs (word p))
  where
    go : (b : Bool) → cond (b || true) [] (given_default_fault (word p) []) ≡ []
    go true = refl
    go false = refl

abbrev is_missing : List Use → Text → Bool
is_missing us id = not (is_some (text_of id us))

abbrev missing_in : List Row → List Rule → Bool
missing_in rs rules = list_any (λ a. a.required && not (is_given a.id rs)) rules

no_flag_missing : (rs : List Row) (fs : List Text) → missing_in rs (map toggle fs) ≡ false
no_flag_missing rs [] = refl
no_flag_missing rs (f ∷ fs) = no_flag_missing rs fs

none_missing : (rs : List Row) (ns fs : List Text)
    → missing_in rs (map word (map choice ns) ++ map toggle fs) ≡ false
none_missing rs [] fs = no_flag_missing rs fs
none_missing rs (n ∷ ns) fs = none_missing rs ns fs

missing_is : (us : List Use) (fs : List Text) (i : ℕ) (ids ns : List Text)
    → missing_in (with_unset (rows us) fs) (map word (needs_from i ids ++ map choice ns) ++ map toggle fs)
    ≡ list_any (is_missing us) ids
missing_is us fs i [] ns = none_missing (with_unset (rows us) fs) ns fs
missing_is us fs i (id ∷ ids) ns = λ j.
    not ((all_kept (is_given id) fs (λ f rs e. given_kept id f rs) (rows us) ∙ is_given-rows id us) j)
    || missing_is us fs (suc i) ids ns j

abbrev if_whole : {X : Type 0} → Bool → Option X → Option X
if_whole missing values = cond (is_empty (or_else [] (check_kinds false false missing))) values None

-- where a text is missing there are not all texts
whole : (f : Text → Option Text) (ids : List Text) → if_whole (list_any (λ id. not (is_some (f id))) ids)
    (all_of (map f ids)) ≡ all_of (map f ids)
whole f [] = refl
whole f (id ∷ ids) = go (f id) (list_any (λ i. not (is_some (f i))) ids) (all_of (map f ids)) (whole f ids)
  where
    go : (o : Option Text) (missing : Bool) (values : Option (List Text)) → if_whole missing values ≡ values
        → if_whole (not (is_some o) || missing) (all_with o values) ≡ all_with o values
    go None missing values e = refl
    go (Some v) false values e = refl
    go (Some v) true values e = ap (option_map (λ vs. v ∷ vs)) e

whole_map : {X Y : Type 0} (f : X → Y) (missing : Bool) (o : Option X)
    → if_whole missing (option_map f o) ≡ option_map f (if_whole missing o)
whole_map f true o = refl
whole_map f false o = refl

-- a step after a value that depends on a test is taken where the test holds
pub pushed_in : {X Y : Type 0} (f : X → Option Y) (b : Bool) (x : X)
    → option_and_then f (cond b (Some x) None) ≡ cond b (f x) None
pushed_in f true x = refl
pushed_in f false x = refl

module _ (form : Form) where
  abbrev pub given_rows : List Row → Option Given
  given_rows rs = given_values form (λ id. first_of id rs)

  abbrev pub given_uses : List Use → Option Given
  given_uses us = given_values form (λ id. text_of id us)

  abbrev told : List Use → List Text → Given
  told us texts = record { positionals = texts; options = option_texts form (λ id. text_of id us) }

  abbrev IsSound : Type 0
  IsSound = all_differ (form.positionals ++ named form) ≡ true

  -- the rows at the end of the words
  abbrev ended : List Use → List Row
  ended us = with_unset (rows us) form.flags

  first_positionals : IsSound → (us : List Use)
      → map (λ id. first_of id (ended us)) form.positionals ≡ map (λ id. text_of id us) form.positionals
  first_positionals sound us = firsts_are form.flags us form.positionals
      (first_are_other form.positionals form.options form.flags sound)

  first_options : IsSound → (us : List Use)
      → option_texts form (λ id. first_of id (ended us)) ≡ option_texts form (λ id. text_of id us)
  first_options sound us = λ i.
      firsts_are form.flags us form.options
      (first_are_other form.options [] form.flags (later_differ form.positionals (named form) sound)) i
      ++ sets_are form.flags us form.flags i

  ends : IsSound → (command : Text) (us : List Use)
      → option_and_then given_rows (finish command (rules_of form) us) ≡ given_uses us
  unfolding finish
  ends sound command us =
      (λ j. option_and_then given_rows
      (cond (is_empty (or_else (no_faults (params_of form) form.flags (rows us) j)
      (check_fault (shape command (rules_of form)) (all_rows (params_of form) form.flags (rows us) j) false)))
      (Some (all_rows (params_of form) form.flags (rows us) j)) None))
      ∙ pushed_in given_rows (is_empty (or_else [] (check_fault (shape command (rules_of form)) (ended us) false)))
      (ended us)
      ∙ (λ j. if_whole (missing_is us form.flags 1 form.positionals form.options j)
      (option_map (λ texts. record { positionals = texts; options = first_options sound us j })
      (all_of (first_positionals sound us j))))
      ∙ whole_map (told us) (list_any (is_missing us) form.positionals)
      (all_of (map (λ id. text_of id us) form.positionals))
      ∙ ap (option_map (told us)) (whole (λ id. text_of id us) form.positionals)

  -- the rows at the end of the words give to the form what the uses give
  pub all_ends : IsSound → (command : Text) (o : Option (List Use))
      → option_and_then given_rows (option_and_then (finish command (rules_of form)) o) ≡ option_and_then given_uses o
  all_ends sound command None = refl
  all_ends sound command (Some us) = ends sound command us

  -- the uses of the parts give to a form of different names what the parts give, if there are parts
  pub all_given : IsSound → (o : Option (List Part))
      → option_and_then given_uses (option_and_then (place (arguments form.positionals (named form) form.flags) 1 []) o)
      ≡ option_and_then (given_by form) o
  all_given differ None = refl
  all_given differ (Some ps) = given_is form.positionals form.options form.flags ps differ
