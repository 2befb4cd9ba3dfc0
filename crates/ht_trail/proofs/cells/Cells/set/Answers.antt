use Rattle.std.proofs.Common.{◌∷◌, [], ◌++◌, set, ap, ◌∙◌, length, arith}
use Rattle.ht_trail.specs.Trails.{CellsState}
use Rattle.ht_trail.proofs.TrailLaws.{set_back}
use Rattle.ht_trail.proofs.cells.Cells.set.Goals as goal

pub returns-clause-later : goal.returns-clause-later
returns-clause-later g c =
    let V = g.row.T.Denot in
    let xs = c.self.inside.values.items in
    let old = c.index-old.result.now in
    let n = ap (λ (s : CellsState V). length s.values) c.self.view_is in
    let r = c.requires in
    record {
      since = record { index = c.args.i; value = old } ∷ [];
      trail = c.in_ok-push.ensures.items ∙ ap (λ (s : CellsState V). s.trail ++ record { index = c.args.i; value = old }
          ∷ []) c.self.view_is;
      values = ap (λ (v : V). set (set xs c.args.i c.args.value) c.args.i v) (c.index-old.ensures) ∙
          (set_back xs c.args.i c.args.value old (omega (arith, n, r)) ∙ ap (λ (s : CellsState V). s.values)
          c.self.view_is);
    }
