-- Names in a list, and the different names of a list.
use Rattle.std.specs.Prelude.{List, [], ◌∷◌, ◌++◌, Bool, cond, fold}
use Rattle.std.specs.List.{list_any}
use Rattle.std.specs.Str.{bytes_eq}
use Rattle.ht_net.specs.Build.Named.{Name}

-- the name is one of these
abbrev pub has_name : List Name → Name → Bool
has_name names name = list_any (λ other. bytes_eq other name) names

-- one more name, unless it is there
abbrev pub with_name : List Name → Name → List Name
with_name names name = cond (has_name names name) names (names ++ name ∷ [])

-- names, and after them the others that are new, each where it comes first
abbrev pub with_names : List Name → List Name → List Name
with_names names others = fold with_name names others

-- the names without repetitions, each where it first stands
abbrev pub different : List Name → List Name
different names = with_names [] names
