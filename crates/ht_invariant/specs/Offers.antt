-- Candidates that are offered one after the other.
use Rattle.std.specs.Prelude.{◌-◌, List, ◌++◌, take, filter, Bool, length}
use Rattle.ht_tree.specs.declared.clause.Clause.{Clause}
use Rattle.ht_tree.specs.Clause.Invariants.{max_clauses}

-- what is kept after more clauses were offered: those that pass a test, as long as there is room
abbrev pub offered : (Clause → Bool) → List Clause → List Clause → List Clause
offered test kept more = kept ++ take (max_clauses - length kept) (filter test more)
