-- Where the marks of pending items stand.
use Rattle.std.specs.Prelude.{◌≡◌, ◌<◌, ◌≤◌, ◌^◌, ℕ, true, false, length, get_or}
use Rattle.ht_events.specs.declared.pending_set.PendingSet.TheInside.{Inside}

-- all marks stand from low to last
pub record IsPendingSet (a : Inside) : Type 0 where
  pub few : length a.set < 2 ^ 32
  pub low : (p : ℕ) → get_or a.set p false ≡ true → a.low ≤ p
  pub last : (p : ℕ) → get_or a.set p false ≡ true → p ≤ a.last
