use Rattle.std.proofs.Common.{◌-◌, List, length, ap, arith}
use Rattle.std.specs.List.{swap_remove, slice_index_or, slice_set}
use Rattle.std.proofs.lemmas.List.Elements.{All-same, All-set, All-take}
use Rattle.ht_window.specs.States.{WindowState}
use Rattle.ht_window.specs.BaseStates.{IsBase}
use Rattle.ht_window.proofs.bases.Bases.take.Goals as goal

pub invariant_of-self : goal.invariant_of-self
invariant_of-self c =
    let circuit = c.self.inside.frame_plan.value.circuit in
    let old = c.self.inside.windows.items in
    let i = c.in_ok-index.index in
    let taken = c.swap_remove.result in
    let last = slice_index_or old (length old - 1) taken in
    let all = c.self.invariant.windows in
    let known = c.in_ok-index.ensures in
    let same = ap (λ (l : List WindowState). length l) c.deref.ensures.value in
    record {
      windows = All-same (IsBase circuit) c.swap_remove.new.self.items (swap_remove old i taken)
          c.swap_remove.ensures.items
          (All-take (IsBase circuit) (length old - 1) (slice_set old i last)
          (All-set (IsBase circuit) old i last (all (length old - 1) taken (omega (arith, known, same))) all));
    }
