use Rattle.std.proofs.Common.{◌≡◌, false, get_or, take}
use Rattle.std.specs.Prelude.{count_by}
use Rattle.ht_faults.specs.Classes.{own_representatives}
use Rattle.ht_uninit.proofs.uninit_text.count_hidden.Given as goal

abbrev pub invariant-loop-i : goal.invariant-loop-i
invariant-loop-i l =
    l.count ≡ count_by (λ i. get_or l.answer.hidden i false) (take l.i-index (own_representatives l.classes))
