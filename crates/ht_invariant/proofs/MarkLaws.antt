-- Marks of which none is set.
use Rattle.std.proofs.Common.{◌≡◌, ◌+◌, ℕ, suc, zero, [], false, get_or, refl}
use Rattle.std.specs.Prelude.{replicate}
use Rattle.ht_window.specs.Starts.{marked}

-- marks of which none is set mark no number
pub none_marked : (j n : ℕ) → marked j (replicate n false) ≡ []
none_marked j zero = refl
none_marked j (suc n) = none_marked (j + 1) n

-- among marks of which none is set there is none at any index
pub none_set : (n j : ℕ) → get_or (replicate n false) j false ≡ false
none_set zero j = refl
none_set (suc n) zero = refl
none_set (suc n) (suc j) = none_set n j
