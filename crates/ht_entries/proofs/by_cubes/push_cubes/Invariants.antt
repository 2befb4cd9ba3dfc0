use Rattle.std.proofs.Common.{◌≡◌, ◌++◌, drop, map}
use Rattle.ht_entries.specs.LineTexts.{lines_text}
use Rattle.ht_entries.specs.ByCubes.{never_line}
use Rattle.ht_entries.proofs.by_cubes.push_cubes.Given as goal

abbrev pub invariant-loop-cube : goal.invariant-loop-cube
invariant-loop-cube l = l.text.items ++ lines_text (map never_line (drop l.cube-index l.fn.cubes))
    ≡ l.fn.text.items ++ lines_text (map never_line l.fn.cubes)
