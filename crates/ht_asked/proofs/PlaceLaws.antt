-- Parts at their places: what one more part adds to the uses.
use Rattle.std.proofs.Common.{◌≡◌, ◌+◌, ◌∷◌, ℕ, List, [], Option, Some, None, refl}
use Rattle.std.specs.Prelude.{option_and_then}
use Rattle.clap.specs.Walk.{Text}
use Rattle.ht_asked.specs.Forms.{Part, option, positional, with_part}
use Rattle.ht_asked.proofs.Uses.{Arguments, Use, add_use}
use Rattle.ht_asked.proofs.Positional.{and_then_none}

-- one more use, of the argument that is found, where there is one
abbrev pub add_at : Option Text → Text → List Use → Option (List Use)
add_at None value uses = None
add_at (Some id) value uses = add_use id value uses

module _ (args : Arguments) where
  -- the uses with those of these parts, from this place on
  unfoldable pub place : ℕ → List Use → List Part → Option (List Use)
  place k uses [] = Some uses
  place k uses (positional word ∷ rest) =
      option_and_then (λ u. place (k + 1) u rest) (add_at (args.at k) word uses)
  place k uses (option name value ∷ rest) =
      option_and_then (λ u. place k u rest) (add_at (args.option name) value uses)

  abbrev pub placed : ℕ → List Use → Option (List Part) → Option (List Use)
  placed k uses = option_and_then (place k uses)

  -- a positional is used before the parts after it, which go on at the next index
  pub placed_positional : (k : ℕ) (uses : List Use) (word : Text) (o : Option (List Part))
      → option_and_then (λ u. placed (k + 1) u o) (add_at (args.at k) word uses)
      ≡ placed k uses (with_part (positional word) o)
  unfolding place
  placed_positional k uses word None = and_then_none (add_at (args.at k) word uses)
  placed_positional k uses word (Some ps) = refl

  -- an option is used before the parts after it, which go on at the same index
  pub placed_option : (k : ℕ) (uses : List Use) (name value : Text) (o : Option (List Part))
      → option_and_then (λ u. placed k u o) (add_at (args.option name) value uses)
      ≡ placed k uses (with_part (option name value) o)
  unfolding place
  placed_option k uses name value None = and_then_none (add_at (args.option name) value uses)
  placed_option k uses name value (Some ps) = refl
