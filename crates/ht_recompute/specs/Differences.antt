-- What places show: whether one must differ, and whether one may.
use Rattle.std.specs.Prelude.{List, [], ◌∷◌, Bool, true, false, ◌||◌, if◌then◌else◌}
use Rattle.std.specs.List.{list_any, list_all}
use Rattle.ht_pairs.specs.Pairs.{Pair, differs}
use Rattle.ht_tree.specs.declared.token.Status3.{Status3}
use Rattle.ht_tree.specs.declared.token.Status3.TheVariants.{Dead, Sure, Open}
use Rattle.ht_recompute.specs.declared.differences.Differences.{Differences}

-- what the sets at some places show
abbrev pub differences_in : List (List Pair) → Differences
differences_in sets = record { must = list_any (list_all differs) sets; may = list_any (list_any differs) sets }

-- what some places show, or others
abbrev pub in_either : Differences → Differences → Differences
in_either a b = record { must = a.must || b.must; may = a.may || b.may }

-- the status of a window whose places show this
abbrev pub status_by : Differences → Status3
status_by a = if a.must then Sure else if a.may then Open else Dead

-- what is not marked
abbrev pub outside_marks : {V : Type 0} → List Bool → List V → List V
outside_marks [] xs = xs
outside_marks (mark ∷ marks) [] = []
outside_marks (true ∷ marks) (x ∷ xs) = outside_marks marks xs
outside_marks (false ∷ marks) (x ∷ xs) = x ∷ outside_marks marks xs
