-- What is kept of a fault while vectors run, and how each value that is compared changes it.
use Rattle.std.specs.Prelude.{◌≡◌, ℕ, Bool, true, false, ◌||◌, Option, Some, None, is_some, if◌then◌else◌}
use Rattle.std.specs.Option.{option_map, option_or}
use Rattle.ht_tern.specs.declared.tern.Tern.{Tern}
use Rattle.ht_tern.specs.Gate.{tern_of}
use Rattle.ht_tern.specs.Opposite.{are_opposite}
use Rattle.ht_net.specs.declared.place.Place.{Place}
use Rattle.ht_causes.specs.declared.cause.LatchPlace.{LatchPlace}
use Rattle.ht_causes.specs.declared.sightings.Sightings.{Sightings}
use Rattle.ht_causes.specs.Firsts.{least_below}
use Rattle.ht_causes.specs.Compared.{are_unlike, are_unsure, is_told, latch_place, output_place}

-- what is kept before the first vector
abbrev pub no_sightings : Sightings
no_sightings = record {
  detected = None;
  possible = None;
  stored = None;
  excited = None;
  told = false;
}

-- the first that was found, or else this one if it is one
abbrev pub or_here : {X : Type 0} → Option X → Bool → X → Option X
or_here found is_one here = option_or found (if is_one then Some here else None)

-- what is kept once the values of an output are compared
abbrev pub with_output_pair : Place → Tern → Tern → Sightings → Sightings
with_output_pair place good faulty kept = record kept {
  detected = or_here kept.detected (are_opposite good faulty) place;
  possible = or_here kept.possible (are_unsure good faulty) place;
}

-- what is kept once the values of a flip-flop are compared
abbrev pub with_latch_pair : LatchPlace → Tern → Tern → Sightings → Sightings
with_latch_pair place good faulty kept = record kept {
  stored = or_here kept.stored (are_unlike good faulty) place;
}

-- what is kept once it is known what the fault's line carries at a vector
abbrev pub with_carried : ℕ → Tern → Bool → Sightings → Sightings
with_carried vector value stuck kept = record kept {
  excited = or_here kept.excited (are_opposite value (tern_of stuck)) vector;
  told = kept.told || is_told value;
}

-- the line has carried a definite value, and the one opposite to the stuck bit
pub record LineIsRead (kept : Sightings) : Type 0 where
  pub excited : is_some kept.excited ≡ true
  pub told : kept.told ≡ true

-- what is kept once a later frame is known, but for what the fault's line carries in it
abbrev pub with_later : Sightings → Sightings → Sightings
with_later frame kept = record kept {
  detected = option_or kept.detected frame.detected;
  possible = option_or kept.possible frame.possible;
  stored = option_or kept.stored frame.stored;
}

-- The outputs below n of vector t were compared, which show these values in the good and in the faulty machine.
pub record AreOutputsCompared (t n : ℕ) (good faulty : ℕ → Tern) (old new : Sightings)
    : Type 0 where
  pub detected : new.detected ≡ option_or old.detected
      (option_map (output_place t) (least_below (λ o. are_opposite (good o) (faulty o)) n))
  pub possible : new.possible ≡ option_or old.possible
      (option_map (output_place t) (least_below (λ o. are_unsure (good o) (faulty o)) n))
  pub stored : new.stored ≡ old.stored
  pub excited : new.excited ≡ old.excited
  pub told : new.told ≡ old.told

-- The flip-flops below n were compared, which hold these values after vector t.
pub record AreLatchesCompared (t n : ℕ) (good faulty : ℕ → Tern) (old new : Sightings)
    : Type 0 where
  pub stored : new.stored ≡ option_or old.stored
      (option_map (latch_place t) (least_below (λ j. are_unlike (good j) (faulty j)) n))
  pub detected : new.detected ≡ old.detected
  pub possible : new.possible ≡ old.possible
  pub excited : new.excited ≡ old.excited
  pub told : new.told ≡ old.told
