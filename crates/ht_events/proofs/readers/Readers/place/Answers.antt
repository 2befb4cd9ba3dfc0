use Rattle.std.proofs.Common.{◌≡◌, ℕ, List, length, map, ◌∙◌, ap, arith}
use Rattle.std.specs.Vec.{with_items}
use Rattle.std.proofs.lemmas.List.{length-map, with_items_is}
use Rattle.ht_events.specs.FramePlans.{offset_among}
use Rattle.ht_events.proofs.OffsetLaws.{placed_lists}
use Rattle.ht_events.proofs.readers.Readers.place.Goals as goal

pub returns : goal.returns
returns c =
    let f : ℕ → ℕ = offset_among c.args.ranks.now c.args.dffs in
    let a = c.self.inside in
    let placed = c.place_all.new.items in
    let e : placed ≡ map f a.items.items = c.place_all.ensures ∙ ap (map f) c.deref_mut.ensures.value in
    let same = ap (λ (l : List ℕ). length l) e in
    let long = length-map a.items.items f in
    let ok = a.items.ok.0 in
    placed_lists f a.rows.items a.items.items (with_items a.items placed).items
    (with_items_is a.items placed (omega (arith, same, long, ok)) ∙ e) ∙ ap (map (map f)) c.self.view_is
