use Rattle.std.proofs.lemmas.Grind.{elements}
use Rattle.std.proofs.Common.{arith}
use Rattle.ht_group.proofs.four_words.recompute_four.Goals as goal

pub take_word-requires-clause-room : goal.take_word-requires-clause-room
take_word-requires-clause-room c = grind (arith, elements)

pub take_word-requires-clause-value : goal.take_word-requires-clause-value
take_word-requires-clause-value c = grind (arith, elements)

pub returns : goal.returns
returns c = grind (arith, elements)
