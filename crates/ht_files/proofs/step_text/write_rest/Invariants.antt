use Rattle.std.proofs.Common.{◌≡◌, ◌≤◌, List, Bool, drop, length, take}
use Rattle.std.specs.List.{All}
use Rattle.ht_texts.specs.Tests.{test_text}
use Rattle.ht_files.proofs.step_text.write_rest.Given as goal

abbrev pub invariant-loop-t : goal.invariant-loop-t
invariant-loop-t l = (l.text.items ≡ test_text (drop l.from (take l.t l.list.list)))
    × All (λ (vector : List Bool). length vector ≡ l.list.width) (drop l.from (take l.t l.list.list))
