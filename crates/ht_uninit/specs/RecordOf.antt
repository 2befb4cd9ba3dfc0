-- How the fields of a record stand for it.
use Rattle.std.specs.Prelude.{◌<◌, ◌^◌, length}
use Rattle.ht_uninit.specs.Records.{UninitState}
use Rattle.ht_uninit.specs.declared.uninit_record.UninitRecord.TheInside.{Inside}

-- what the fields stand for
abbrev pub uninit_state : Inside → UninitState
uninit_state a = record {
  removed = a.removed.items;
  walks = a.walks.items;
  outs = a.outs.items;
  hidden = a.hidden.items;
}

-- the removals can be counted in 32 bits
pub record IsCounted (a : Inside) : Type 0 where
  pub few : length a.removed.items < 2 ^ 32
