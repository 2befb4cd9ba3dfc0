use Rattle.std.proofs.Common.{◌≡◌, ◌≢◌, ◌⊎◌, [], inl, inr}
use Rattle.std.specs.Prelude.{flat_map}
use Rattle.ht_entries.proofs.ItemLaws.{items_after_are_read, no_items_after}
use Rattle.ht_entries.proofs.ParsedLaws.{empty_by, not_none, some_by}
use Rattle.ht_entries.proofs.line_items.items_after.Goals.{then-is_empty-via-then-is_empty, then-is_empty-via-else-is_empty+then-not-is_empty}
use Rattle.ht_entries.proofs.line_items.items_after.Goals as goal

pub take_items-requires : goal.take_items-requires
take_items-requires g c = c.requires

pub returns-in_default : goal.returns-in_default
returns-in_default g c = λ items h e. c.in_default.ensures (flat_map g.T.Item.text_of items) e

pub returns-then-is_empty : goal.returns-then-is_empty
returns-then-is_empty g c =
    let why : (c.in_ok-items.items ≡ []) ⊎ (c.in_ok-items.rest.now ≢ []) = elim c.then-is_empty.branch [
      | then-is_empty-via-then-is_empty w ↦
          inl (empty_by c.in_ok-items.items (rw c.as_slice.ensures at w.if-is_empty.ensures))
      | then-is_empty-via-else-is_empty+then-not-is_empty w ↦
          inr (some_by c.in_ok-items.rest.now w.if-not-is_empty.ensures)
    ] in
    no_items_after g.T.Item.text_of g.T.Item.HasText c.requires c.args.word.now c.args.text.now
    c.in-Some.rest.now c.in_ok-items.rest.now c.in_ok-items.items c.in-Some.ensures c.in_ok-items.ensures.taken
    c.in_ok-items.ensures.all why

pub returns : goal.returns
returns g c = (
  items_after_are_read g.T.Item.text_of g.T.Item.HasText c.requires c.args.word.now c.args.text.now
      c.in-Some.rest.now c.in_ok-items.rest.now c.in_ok-items.items c.in-Some.ensures c.in_ok-items.ensures.taken
      (empty_by c.in_ok-items.rest.now c.if-not-is_empty.ensures),
  record {
    some = not_none c.in_ok-items.items (some_by c.in_ok-items.items (rw c.as_slice.ensures at c.if-is_empty.ensures));
    each = c.in_ok-items.ensures.taken.each;
  },
)
