use Rattle.std.proofs.lemmas.Result.{IfOk-weaker}
use Rattle.ht_entries.proofs.CubeLineLaws.{parsed_cube}
use Rattle.ht_entries.proofs.CubesTextLaws.{rails_are_items}
use Rattle.ht_entries.proofs.by_cubes.parse_cube.Goals as goal

pub items_after-requires : goal.items_after-requires
items_after-requires c = rails_are_items

pub returns : goal.returns
returns c = IfOk-weaker c.items_after.result _ _ (λ parsed. parsed_cube c.args.line.now parsed c.requires)
    c.items_after.ensures
