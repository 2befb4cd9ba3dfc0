use Rattle.std.proofs.Common.{sym, ◌∙◌}
use Rattle.ht_pairs.specs.Pairs.{pair}
use Rattle.ht_pairs.proofs.SetLaws.{set_of_single}
use Rattle.ht_entries.proofs.by_sets.with_pair.Goals as goal

pub returns-in-None : goal.returns-in-None
returns-in-None c =
    rw c.in-None.is (c.single-single.ensures ∙ sym (set_of_single (pair c.args.good c.args.faulty)))
