-- Where a faulty state differs from the good one, and what it is.
use Rattle.std.specs.Prelude.{ℕ, List, [], ◌∷◌, Option, Some, None, map, length, get_or, ◌==◌, if◌then◌else◌, unwrap_or}
use Rattle.std.specs.List.{range_with_len}
use Rattle.ht_tern.specs.declared.tern.Tern.{Tern}
use Rattle.ht_tern.specs.declared.tern.Tern.TheVariants.{Unk}
use Rattle.ht_group.specs.declared.diffs.Diff.{Diff}

-- the value held for a latch
abbrev pub held : List Diff → ℕ → Option Tern
held [] j = None
held (d ∷ diffs) j = if j == d.latch then Some d.value else held diffs j

-- the value of latch j: the one held for it, or else the good one
abbrev pub value_but : List Tern → List Diff → ℕ → Tern
value_but good diffs j = unwrap_or (held diffs j) (get_or good j Unk)

-- the state that differs so from the good one
abbrev pub with_differences : List Tern → List Diff → List Tern
with_differences good diffs = map (value_but good diffs) (range_with_len 0 (length good))
