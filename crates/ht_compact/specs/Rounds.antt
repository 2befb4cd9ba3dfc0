-- Rounds that leave out runs of items of a list, as long as the list passes a test.
use Rattle.std.specs.Prelude.{◌-◌, ◌==◌, ℕ, zero, suc, List, Bool, length, min, if◌then◌else◌}
use Rattle.ht_compact.specs.Kept.{without_run}

-- How many items before place e are left out, of at most n: the most without which the list passes, or 0 where there is
-- no such run.
unfoldable pub longest_run : {A : Type 0} → (List A → Bool) → List A → ℕ → ℕ → ℕ
longest_run passes list e zero = 0
longest_run passes list e (suc n) =
    if passes (without_run list (e - suc n) e) then suc n else longest_run passes list e n

-- One round from place e down to the first, where the next places, so many, are those of items that were left out. At
-- each other place the longest run of at most `most` items before it is left out.
unfoldable pub round_from : {A : Type 0} → (List A → Bool) → ℕ → List A → ℕ → ℕ → List A
round_from passes most list zero passed = list
round_from passes most list (suc e) (suc passed) = round_from passes most list e passed
round_from passes most list (suc e) zero =
    let n = longest_run passes list (suc e) (min most (suc e)) in
    round_from passes most (without_run list (suc e - n) (suc e)) e (n - 1)

-- a round from the end of the list
abbrev pub round_of : {A : Type 0} → (List A → Bool) → ℕ → List A → List A
round_of passes most list = round_from passes most list (length list) 0

-- Rounds until one leaves out nothing, at most k.
unfoldable pub rounds_within : {A : Type 0} → (List A → Bool) → ℕ → ℕ → List A → List A
rounds_within passes most zero list = list
rounds_within passes most (suc k) list =
    let after = round_of passes most list in
    if length after == length list then after else rounds_within passes most k after

-- Rounds until one leaves out nothing. Each other one makes the list shorter, so there are no more than it has items.
abbrev pub rounds_of : {A : Type 0} → (List A → Bool) → ℕ → List A → List A
rounds_of passes most list = rounds_within passes most (length list) list
