-- The first number and the first place at which a test holds.
use Rattle.std.specs.Prelude.{ℕ, suc, zero, Bool, Option, Some, None, if◌then◌else◌}
use Rattle.std.specs.Option.{option_map, option_or}

-- the least number below n at which a test holds, or none
abbrev pub least_below : (ℕ → Bool) → ℕ → Option ℕ
least_below holds zero = None
least_below holds (suc n) = option_or (least_below holds n) (if holds n then Some n else None)

-- the place at the least vector below n at which a test holds, and there at the least number below a width
abbrev pub least_place : {X : Type 0} → (ℕ → ℕ → X) → (ℕ → ℕ → Bool) → ℕ → ℕ → Option X
least_place place holds width zero = None
least_place place holds width (suc n) =
    option_or (least_place place holds width n) (option_map (place n) (least_below (holds n) width))
