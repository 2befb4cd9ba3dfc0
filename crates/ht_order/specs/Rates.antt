-- Classes for work, and which of two rates is higher.
use Rattle.std.specs.Prelude.{◌*◌, ℕ, Bool, nat_lt, max}
use Rattle.ht_order.specs.declared.rate.Rate.{Rate}
use Rattle.ht_order.specs.declared.rate.TheConstants.{UNIT_OF_WORK}

-- so many classes in a unit of work
abbrev pub per_unit : ℕ → Rate
per_unit classes = record { classes = classes; work = UNIT_OF_WORK }

-- Rate a is higher than rate b: it has more classes for the same work, where no work counts as 1.
abbrev pub is_higher : Rate → Rate → Bool
is_higher a b = nat_lt (b.classes * max a.work 1) (a.classes * max b.work 1)
