use Rattle.std.proofs.Common.{◌≡◌, ◌≤◌, ◌+◌, ◌∷◌, [], List, set, ap, sym, ◌∙◌, length, take, drop, arith}
use Rattle.std.proofs.lemmas.List.{drop-append-le, length-set, length_push}
use Rattle.ht_trail.specs.declared.cells.Saved.{Saved}
use Rattle.ht_trail.specs.Trails.{restored}
use Rattle.ht_trail.proofs.TrailLaws.{restored_push, part_pop, within_pop}
use Rattle.ht_trail.proofs.cells.Cells.undo.Goals as goal

pub loop-mark-preserved-in-Some : goal.loop-mark-preserved-in-Some
loop-mark-preserved-in-Some g c =
    let V = g.row.T.Denot in
    let i = c.loop-mark.invariant in
    let e = c.in-Some.ensures in
    let s = c.in-Some.saved in
    let xs = c.pop.new.self.items in
    let old = c.loop-mark.self-inside.trail.items in
    let values = c.loop-mark.self-inside.values.items in
    let m = c.args.mark.0 in
    let n : length old ≡ length xs + 1 = ap length e.items ∙ length_push xs s in
    let t = c.loop-mark-test.true in
    let l = c.len.ensures in
    let ok = c.loop-mark.self-inside.trail.ok in
    let few : m ≤ length xs = omega (arith, n, t, l, ok) in
    let long : length (set values s.index s.value) ≡ length values = length-set values s.index s.value in
    record {
      enough = few;
      part = part_pop xs c.args.self.now.trail s
          (sym e.items ∙ (i.part ∙ ap (λ (k : List (Saved V)). take (length k) c.args.self.now.trail) e.items));
      count = long ∙ i.count;
      within = within_pop (length values) (length (set values s.index s.value)) xs old s e.items long i.within;
      values = sym (restored_push values (drop m xs) s) ∙
          (ap (restored values) (sym (drop-append-le m xs (s ∷ []) few) ∙ ap (drop m) (sym e.items)) ∙ i.values);
    }
