-- What firing an item does to a core and to its plant.
use Rattle.std.specs.Prelude.{◌≡◌, ◌<◌, ◌≤◌, ◌+◌, ◌⊎◌, ℕ}
use Rattle.ht_events.specs.Items.{IsLoad}
use Rattle.ht_events.specs.Pending.{CoreState, IsPending, core_items}
use Rattle.ht_events.specs.declared.plant.Plant.{Ghosts}

module _ {P : Type 0} (g : Ghosts P) where
  -- a plant went on by one item at most: its circuit and frames are the same, and one price was spent, or less
  pub record GoesOn (old new : P) : Type 0 where
    pub circuit : g.circuit new ≡ g.circuit old
    pub frames : g.frames new ≡ g.frames old
    pub price : g.price new ≡ g.price old
    pub keeps : g.keeps old new
    pub rises : g.spent old ≤ g.spent new
    pub spent : g.spent new ≤ g.spent old + g.price old

  -- an item was fired: it agrees and is pending no more, and of the others only its loads may have become pending
  pub record IsFired (old : CoreState) (item : ℕ) (new : CoreState) (plant : P) : Type 0 where
    pub agrees : g.agrees plant item
    pub taken : ¬ IsPending new item
    pub only : (x : ℕ) → x < core_items old → IsPending new x
        → IsPending old x ⊎ IsLoad old.plan.circuit old.plan.frames item x
