-- Sensitized paths: where a gate lets an effect at one of its pins through.
use Rattle.std.specs.Prelude.{◌≡◌, ◌<◌, ◌+◌, ◌&&◌, ◌||◌, ℕ, List, [], ◌∷◌, Bool, true, get_or, length, map, take, drop}
use Rattle.ht_tern.specs.declared.tern.Tern.{Tern}
use Rattle.ht_tern.specs.declared.tern.Tern.TheVariants.{Zero, One}
use Rattle.ht_tern.specs.declared.gate.Kind.{Kind}
use Rattle.ht_tern.specs.declared.gate.Kind.TheVariants.{And, Nand, Or, Nor}
use Rattle.ht_tern.specs.Opposite.{are_opposite}
use Rattle.ht_items.specs.Bits.{is_set}
use Rattle.ht_lanes.specs.Lanes.{Lanes, lane}
use Rattle.ht_breed.specs.declared.paths.Paths.{Paths}

-- A pin with this value lets an effect at another pin of its gate through: 1 at AND and NAND, 0 at OR and NOR, any
-- definite value at the others.
abbrev pub lets_through : Kind → Tern → Bool
lets_through And value = are_opposite Zero value
lets_through Nand value = are_opposite Zero value
lets_through Or value = are_opposite One value
lets_through Nor value = are_opposite One value
lets_through kind value = are_opposite One value || are_opposite Zero value

-- each pin with these values does
abbrev pub all_through : Kind → List Tern → Bool
all_through kind [] = true
all_through kind (value ∷ values) = lets_through kind value && all_through kind values

-- The gate lets an effect at pin i through: each pin before it and each after it does.
abbrev pub is_sensitized : Kind → List Tern → ℕ → Bool
is_sensitized kind values i =
    all_through kind (take i values) && all_through kind (drop (i + 1) values)

-- the values of words in lane k
abbrev pub values_in : ℕ → List Lanes → List Tern
values_in k words = map (λ word. lane word k) words

-- A line has the paths of another, in the lanes in which a test holds.
pub record HasPaths (paths : Paths) (test : ℕ → Bool) (line : Paths) : Type 0 where
  pub shows : (k : ℕ) → k < 64 → is_set line.output k ≡ (is_set paths.output k && test k)
  pub stored : (k : ℕ) → k < 64 → is_set line.end k ≡ (is_set paths.end k && test k)

-- no path
abbrev pub no_paths : Paths
no_paths = record { output = 0; end = 0 }

-- the paths of pin i
abbrev pub pin_paths : List Paths → ℕ → Paths
pin_paths pins i = get_or pins i no_paths

-- Each pin of a gate has the paths of its output, in the lanes in which all pins before it let an effect through.
abbrev pub AreTracedByEarlier : Kind → List Lanes → Paths → List Paths → Type 0
AreTracedByEarlier kind words output pins = (i : ℕ) → i < length words
    → HasPaths output (λ k. all_through kind (take i (values_in k words))) (pin_paths pins i)

-- Each pin has the paths that it had, in the lanes in which all pins after it let an effect through.
abbrev pub AreTracedByLater : Kind → List Lanes → List Paths → List Paths → Type 0
AreTracedByLater kind words old pins = (i : ℕ) → i < length words
    → HasPaths (pin_paths old i)
    (λ k. all_through kind (drop (i + 1) (values_in k words))) (pin_paths pins i)

-- Each pin of a gate has the paths of its output, in the lanes in which the gate lets an effect at the pin through, by
-- the words at its pins.
abbrev pub AreTraced : Kind → List Lanes → Paths → List Paths → Type 0
AreTraced kind words output pins = (i : ℕ) → i < length words
    → HasPaths output (λ k. is_sensitized kind (values_in k words) i) (pin_paths pins i)
