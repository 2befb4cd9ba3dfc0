-- States that a start allows, latch by latch.
use Rattle.std.proofs.Common.{◌≡◌, ◌+◌, ◌<◌, ℕ, zero, suc, List, [], ◌∷◌, Bool, false, length, get_or, take, refl, ap, subst, arith}
use Rattle.ht_tern.specs.declared.tern.Tern.{Tern}
use Rattle.ht_tern.specs.declared.tern.Tern.TheVariants.{Unk}
use Rattle.ht_tern.specs.Gate.{StandsFor}
use Rattle.ht_net.specs.Detect.Detection.{Allows}

-- one latch more
more_by_suc : (start : List Tern) (state : List Bool) (k : ℕ) → k < length start → k < length state
    → Allows (take k start) (take k state) → StandsFor (get_or start k Unk) (get_or state k false)
    → Allows (take (suc k) start) (take (suc k) state)
more_by_suc [] state k inside there before here = absurd (omega arith)
more_by_suc (v ∷ start) [] k inside there before here = absurd (omega arith)
more_by_suc (v ∷ start) (b ∷ state) zero inside there before here = (here, tt)
more_by_suc (v ∷ start) (b ∷ state) (suc k) inside there before here =
    (before.0, more_by_suc start state k (omega arith) (omega arith) before.1 here)

-- a start that allows the first k latches of a state allows one more where its value stands for that latch's bit
pub allows_more : (start : List Tern) (state : List Bool) (k : ℕ) → k < length start → k < length state
    → Allows (take k start) (take k state) → StandsFor (get_or start k Unk) (get_or state k false)
    → Allows (take (k + 1) start) (take (k + 1) state)
allows_more start state k inside there before here =
    let same : suc k ≡ k + 1 = omega arith in
    subst (λ (n : ℕ). Allows (take n start) (take n state)) same (more_by_suc start state k inside there before here)

-- a latch that differs
pub allows_at : (start : List Tern) (state : List Bool) (k : ℕ) → k < length start → Allows start state
    → StandsFor (get_or start k Unk) (get_or state k false)
allows_at [] state k inside h = absurd (omega arith)
allows_at (v ∷ start) [] k inside h = absurd h
allows_at (v ∷ start) (b ∷ state) zero inside h = h.0
allows_at (v ∷ start) (b ∷ state) (suc k) inside h = allows_at start state k (omega arith) h.1

-- a start and a state that it allows are of one length
pub allows_long : (start : List Tern) (state : List Bool) → Allows start state → length start ≡ length state
allows_long [] [] h = refl
allows_long [] (b ∷ state) h = absurd h
allows_long (v ∷ start) [] h = absurd h
allows_long (v ∷ start) (b ∷ state) h = ap suc (allows_long start state h.1)
