use Rattle.std.proofs.Common.{◌≡◌, ◌<◌, ◌∷◌, [], ◌-◌, length, get_or, take, drop, ap, sym, ◌∙◌, arith, ℕ, List}
use Rattle.std.proofs.lemmas.List.{get_or_read}
use Rattle.ht_items.proofs.RowLaws.{row_at, row_within, row_inside}
use Rattle.ht_items.proofs.flat_rows.FlatRows.row.Goals as goal

pub start_of-requires : goal.start_of-requires
start_of-requires g c =
    let ends = c.self.inside.ends.items in
    let h = row_inside ends c.self.inside.items.items c.args.self.now c.args.i c.self.view_is c.requires in
    let e = ap (λ (l : List ℕ). length l) c.deref-2.ensures.value in
    omega (arith, e, h)

pub index-requires : goal.index-requires
index-requires g c =
    let ends = c.self.inside.ends.items in
    let h = row_inside ends c.self.inside.items.items c.args.self.now c.args.i c.self.view_is c.requires in
    let ok = c.self.inside.ends.ok in
    omega (arith, h, ok)

pub part-requires-clause-rises : goal.part-requires-clause-rises
part-requires-clause-rises g c =
    let ends = c.self.inside.ends.items in
    let inside : c.args.i < length ends = row_inside ends c.self.inside.items.items c.args.self.now c.args.i
    c.self.view_is c.requires in
    let w = row_within 0 ends c.self.inside.items.items c.self.invariant c.args.i inside in
    let a = get_or_read ends c.args.i c.index.result.now inside c.index.ensures 0 in
    let s = c.start_of.ensures ∙ ap (λ (l : List ℕ). get_or (0 ∷ l) c.args.i 0) c.deref-2.ensures.value in
    omega (arith, w.0, a, s)

pub part-requires-clause-within : goal.part-requires-clause-within
part-requires-clause-within g c =
    let T = g.row.T.Denot in
    let ends = c.self.inside.ends.items in
    let inside : c.args.i < length ends = row_inside ends c.self.inside.items.items c.args.self.now c.args.i
    c.self.view_is c.requires in
    let w = row_within 0 ends c.self.inside.items.items c.self.invariant c.args.i inside in
    let a = get_or_read ends c.args.i c.index.result.now inside c.index.ensures 0 in
    let n = ap (λ (l : List T). length l) c.deref.ensures.value in
    omega (arith, w.1, a, n)

pub returns : goal.returns
returns g c =
    let T = g.row.T.Denot in
    let ends = c.self.inside.ends.items in
    let items = c.self.inside.items.items in
    let inside : c.args.i < length ends = row_inside ends c.self.inside.items.items c.args.self.now c.args.i
    c.self.view_is c.requires in
    let a : c.index.result.now ≡ get_or ends c.args.i 0 =
    get_or_read ends c.args.i c.index.result.now inside c.index.ensures 0 in
    let s : c.start_of.result ≡ get_or (0 ∷ ends) c.args.i 0 =
    c.start_of.ensures ∙ ap (λ (l : List ℕ). get_or (0 ∷ l) c.args.i 0) c.deref-2.ensures.value in
    let part : take (c.index.result.now - c.start_of.result) (drop c.start_of.result c.deref.result.now)
    ≡ take (get_or ends c.args.i 0 - get_or (0 ∷ ends) c.args.i 0) (drop (get_or (0 ∷ ends) c.args.i 0) items) =
    (λ k. take (a k - s k) (drop (s k) (c.deref.ensures.value k))) in
    c.part.ensures ∙ (part ∙ (sym (row_at 0 ends items c.args.i inside)
    ∙ ap (λ (l : List (List T)). get_or l c.args.i []) c.self.view_is))
