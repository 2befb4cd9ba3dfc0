use Rattle.std.proofs.Common.{rules, ◌++◌, ◌∷◌, [], ap, ◌∙◌, List}
use Rattle.ht_items.proofs.RowLaws.{row_more}
use Rattle.ht_items.proofs.flat_rows.FlatRows.push.Goals as goal

pub invariant_of-self-2 : goal.invariant_of-self-2
invariant_of-self-2 g c =
    (row_more _ _ c.args.row.now c.push.new.self.items c.extend_from_slice.new.self.items
    (record { end = c.in-Ok.end; is_end = search rules; ends_are = search rules; items_are = search rules })
    c.self.invariant).0

pub returns-clause-ok : goal.returns-clause-ok
returns-clause-ok g c =
    let T = g.row.T.Denot in
    (row_more _ _ c.args.row.now c.push.new.self.items c.extend_from_slice.new.self.items
    (record { end = c.in-Ok.end; is_end = search rules; ends_are = search rules; items_are = search rules })
    c.self.invariant).1
    ∙ ap (λ (l : List (List T)). l ++ c.args.row.now ∷ []) c.self.view_is
