use Rattle.ht_entries.proofs.CubeLineLaws.{no_step}
use Rattle.ht_entries.proofs.CubesTextLaws.{numbers_are_items, signed_are_items}
use Rattle.ht_entries.proofs.by_cubes.parse_step.Goals as goal

pub take_items-requires : goal.take_items-requires
take_items-requires c = signed_are_items

pub items_after-requires : goal.items_after-requires
items_after-requires c = numbers_are_items

pub returns-in_default-2 : goal.returns-in_default-2
returns-in_default-2 c = no_step c.args.line.now c.in-Some.text.now c.in_ok-literals.rest.now c.in_ok-literals.literals
    c.in-Some.ensures c.in_ok-literals.ensures.taken c.in_ok-literals.ensures.all
    (rw c.in_default-2.is at c.in_ok-hints.ensures)
