use Rattle.ht_pairs.specs.Pairs.{pair}
use Rattle.ht_window.proofs.CubeLaws.{member_is}
use Rattle.ht_window.proofs.cube.holds.Goals as goal

pub returns : goal.returns
returns c = member_is (pair c.args.value c.args.value) c.args.set c.has.result c.has.ensures
