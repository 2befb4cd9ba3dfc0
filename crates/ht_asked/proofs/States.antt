-- Where the walk stands between two words, and the arguments that it finds.
use Rattle.std.proofs.Common.{◌≡◌, ◌+◌, ◌≤◌, ◌∷◌, ℕ, Bool, true, false, List, [], ◌⊎◌, Option, Some, None, option_map}
use Rattle.std.specs.Prelude.{slice_get}
use Rattle.std.specs.Str.{chars}
use Rattle.clap.specs.Lexer.{short_of, usize_max}
use Rattle.clap.specs.Walk.{Held, Row, Rule, Step, Text, Waiting, Walk, arg_by_id, arg_by_index, arg_by_long, arg_by_short, finished, has_row, is_empty, is_pending, settled, pushed, to_positional, used, walked, with_default, with_values, at_row, more_values, without, word_met}
use Rattle.clap.specs.Walk as walk
use Rattle.ht_asked.proofs.Uses.{Arguments, Use, add_use}
use Rattle.ht_asked.proofs.Rows.{Param, toggle, word, rows}

-- the pending use, with its value
abbrev pub held_by : Option Use → Option (Text × List Text)
held_by = option_map (λ u. (u.0, u.1 ∷ []))

abbrev pub idle_at : List Use → Option Use → ℕ → Bool → Walk
idle_at us p k ended = record {
  held = record { rows = rows us; pending = held_by p; skip = 0 };
  waiting = walk.idle;
  position = k;
  is_trailing = ended;
  stopped = None;
}

-- the option of this name waits for its value
abbrev pub waits_at : Text → List Use → ℕ → Bool → Walk
waits_at id us k ended = record {
  held = record { rows = rows us; pending = Some (id, []); skip = 0 };
  waiting = walk.option id;
  position = k;
  is_trailing = ended;
  stopped = None;
}

-- the uses with the pending one, where it is the first of its name
abbrev pub settle : Option Use → List Use → Option (List Use)
settle None us = Some us
settle (Some u) us = add_use u.0 u.1 us

-- the command has the argument
abbrev pub IsKnown : List Rule → Text → Type 0
IsKnown c id = (a : Param) × (arg_by_id c id ≡ Some (word a)) × (a.id ≡ id)

abbrev pub IsKnownUse : List Rule → Option Use → Type 0
IsKnownUse c None = Unit {0}
IsKnownUse c (Some u) = IsKnown c u.0

-- what the command finds is the argument of this name
abbrev pub Finds : List Rule → Option Rule → Option Text → Type 0
Finds c found id = ((found ≡ None) × (id ≡ None))
    ⊎ ((a : Param) × (found ≡ Some (word a)) × (id ≡ Some a.id) × IsKnown c a.id)

-- what the command finds by a long name is the option or the flag of this name
pub data FindsLong (c : List Rule) (found : Option Rule) (id : Option Text) (flag : Bool) : Type 0 where
  no_long : found ≡ None → id ≡ None → FindsLong c found id flag
  an_option : (a : Param) → found ≡ Some (word a) → id ≡ Some a.id → IsKnown c a.id → flag ≡ false
      → FindsLong c found id flag
  a_flag : (name : Text) → found ≡ Some (toggle name) → id ≡ Some name → flag ≡ true → FindsLong c found id flag

-- the command's arguments are these, and none has a short name
pub record IsModel (c : List Rule) (args : Arguments) : Type 0 where
  pub at : (k : ℕ) → Finds c (arg_by_index c k) (args.at k)
  pub fits : (k : ℕ) (id : Text) → args.at k ≡ Some id → k + 1 ≤ usize_max
  pub option : (n : Text) → FindsLong c (arg_by_long c n) (args.option n) (args.flag n)
  pub short : (y : ℕ) → arg_by_short c y ≡ None

-- a word such as `-x` has a first character after its hyphen, as each text in UTF-8
abbrev pub IsReadable : Text → Type 0
IsReadable x = (f : Text) → short_of x ≡ Some f → (y : ℕ) × (slice_get (chars f) 0 ≡ Some y)

abbrev pub AreReadable : List Text → Type 0
AreReadable [] = Unit {0}
AreReadable (x ∷ xs) = IsReadable x × AreReadable xs
