use Rattle.ht_entries.proofs.by_sets.after_pair.Goals as goal

pub returns : goal.returns
returns c = rw c.after_space.ensures at c.after_word.ensures
