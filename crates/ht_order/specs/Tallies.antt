-- What is kept of a block, and what a chunk changes of it.
use Rattle.std.specs.Prelude.{◌==◌, ◌+◌, ◌-◌, ◌^◌, ℕ, Bool, true, false, nat_le, min, if◌then◌else◌}
use Rattle.ht_order.specs.declared.rate.Rate.{Rate}
use Rattle.ht_order.specs.declared.tally.Tally.{Tally}
use Rattle.ht_order.specs.declared.tally.TheConstants.{MAX_DRY}

-- a block that had no chunk
abbrev pub new_tally : Tally
new_tally = record {
  tried = false;
  rate = record { classes = 0; work = 0 };
  work = 0;
  dry = 0;
  done = false;
}

-- so many chunks in a row decided nothing that a block ends
abbrev pub is_dry : Tally → Bool
is_dry t = nat_le MAX_DRY t.dry

-- After a chunk that decided so many classes with so much work, and had this rate in the end: work adds up, and so do
-- chunks in a row that decide nothing, as far as numbers go.
abbrev pub after_chunk : Tally → ℕ → ℕ → Rate → Bool → Tally
after_chunk t classes work rate done = record {
  tried = true;
  rate = rate;
  work = min (t.work + work) (2 ^ 64 - 1);
  dry = if classes == 0 then min (t.dry + 1) (2 ^ 32 - 1) else 0;
  done = done;
}
