-- The rows that `clap` makes of uses, each with one value.
use Rattle.std.proofs.Common.{◌≡◌, ◌∙◌, ◌&&◌, ◌||◌, ◌++◌, append-nil, ◌∷◌, ℕ, Bool, true, false, cond, List, [], map, Option, Some, None, refl, sym, ap, codes}
use Rattle.std.specs.Str.{bytes_eq}
use Rattle.std.proofs.lemmas.List.{map-append}
use Rattle.clap.specs.Kinds.{Kinds, or_else}
use Rattle.clap.specs.Walk.{Row, Rule, Text, has_row, is_empty, used, with_values, at_row, more_values, without}
use Rattle.clap.specs.Simple.{Shape, new_rule, new_shape}
use Rattle.clap.specs.Faults.{use_fault}
use Rattle.clap.specs.declared.builder.action.ArgAction.TheVariants.{Set, SetTrue}
use Rattle.clap.specs.declared.builder.value_parser.ValueParser.TheVariants as vp
use Rattle.clap.specs.declared.builder.value_parser.Reading.TheVariants as reading
use Rattle.clap.specs.declared.parser.matches.ValueSource.TheVariants.{CommandLine}
use Rattle.clap.specs.declared.error.kind.ErrorKind.TheVariants as kind
use Rattle.ht_asked.specs.Forms.{set}
use Rattle.ht_asked.proofs.Uses.{Use, has_use}
use Rattle.ht_asked.proofs.Looks.{true_is_false}
use Rattle.ht_asked.proofs.NameLaws.{left_false, right_false}

-- what is free in an argument of ours
pub record Param : Type 0 where
  pub id : Text
  pub long : Option Text
  pub index : Option ℕ
  pub required : Bool

abbrev pub word : Param → Rule
word a = record (new_rule a.id) {
  long = a.long;
  index = a.index;
  action = Some Set;
  range = Some (record { start_inclusive = 1; end_inclusive = 1 });
  parser = Some vp.String;
  required = a.required;
}

-- a flag of ours
abbrev pub toggle : Text → Rule
toggle id = record (new_rule id) {
  long = Some id;
  action = Some SetTrue;
  range = Some (record { start_inclusive = 0; end_inclusive = 0 });
  parser = Some vp.Bool;
  defaults = codes "false" ∷ [];
  missing = codes "true" ∷ [];
}

abbrev pub shape : Text → List Rule → Shape
shape name rules = record (new_shape name) {
  rules = rules;
  disable_help_flag = true;
  disable_help_subcommand = true;
  disable_version_flag = true;
  is_built = true;
}

abbrev pub row : Use → Row
row u = record { id = u.0; values = u.1 ∷ []; count = None; source = Some CommandLine; reading = reading.AsWritten }

abbrev pub rows : List Use → List Row
rows = map row

-- the rows of uses have one of a name if there is a use of it
pub has_row-rows : (id : Text) (us : List Use) → has_row id (rows us) ≡ has_use id us
has_row-rows id [] = refl
has_row-rows id (u ∷ us) = ap (λ b. bytes_eq u.0 id || b) (has_row-rows id us)

-- what is refused stays so, whatever comes after
pub still_refused : (k later : Kinds) → is_empty k ≡ false → is_empty (or_else k later) ≡ false
still_refused [] later e = absurd (true_is_false e)
still_refused (k ∷ ks) later e = e

at_row_step : (b : Bool) (r : Row) (rest : List Row) (change : Row → List Row) (after missing : List Row) → b ≡ false
    → after ≡ rest ++ missing
    → cond b (change r ++ rest) (r ∷ after) ≡ r ∷ (rest ++ missing)
at_row_step true r rest change after missing e is = absurd (true_is_false e)
at_row_step false r rest change after missing e is = ap (λ rs. r ∷ rs) is

-- where no row has the name, the missing ones come after all
pub no_row : (id : Text) (change : Row → List Row) (missing rs : List Row) → has_row id rs ≡ false
    → at_row id change missing rs ≡ rs ++ missing
no_row id change missing [] none = refl
no_row id change missing (r ∷ rs) none =
    at_row_step (bytes_eq r.id id) r rs change (at_row id change missing rs) missing
    (left_false _ (has_row id rs) none)
    (no_row id change missing rs (right_false (bytes_eq r.id id) _ none))

-- the first use of an argument adds one row at the end
pub new_row : (id v : Text) (us : List Use) → has_use id us ≡ false
    → with_values id reading.AsWritten CommandLine (v ∷ []) (without id (rows us)) ≡ rows (us ++ (id, v) ∷ [])
new_row id v us none =
    let free = has_row-rows id us ∙ none in
    ap (with_values id reading.AsWritten CommandLine (v ∷ []))
    (no_row id (λ _. []) [] (rows us) free ∙ append-nil (rows us))
    ∙ no_row id (more_values CommandLine (v ∷ [])) (row (id, v) ∷ []) (rows us) free
    ∙ sym (map-append row us ((id, v) ∷ []))

-- a test, and false, is false
pub and_false : (b : Bool) → (b && false) ≡ false
and_false true = refl
and_false false = refl

-- one use with one value
abbrev pub fault_by : Bool → Kinds
fault_by used = or_else (cond (used && true) (kind.ArgumentConflict ∷ []) []) []

-- a use with one value is refused if its argument has a row already
pub use_is : (a : Param) (v : Text) (rs : List Row) → use_fault false (word a) (v ∷ []) rs ≡ fault_by (has_row a.id rs)
use_is a v rs = refl

-- the first use of an argument gives the rows of the uses with this one
pub used_is : (a : Param) (v : Text) (us : List Use) → has_use a.id us ≡ false → used (word a) (v ∷ []) (rows us)
    ≡ rows (us ++ (a.id, v) ∷ [])
used_is a v us none = new_row a.id v us none

-- a use of a flag is refused if it has a row already
pub flag_use_is : (id : Text) (rs : List Row) → use_fault false (toggle id) [] rs ≡ fault_by (has_row id rs)
flag_use_is id rs = refl

-- the first use of a flag gives the rows of the uses with this one, whose value is `true`
pub flag_used_is : (id : Text) (us : List Use) → has_use id us ≡ false
    → used (toggle id) [] (rows us) ≡ rows (us ++ (id, set) ∷ [])
flag_used_is id us none = new_row id set us none
