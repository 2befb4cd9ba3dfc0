use Rattle.std.proofs.lemmas.Grind.{elements}
use Rattle.std.proofs.Common.{arith}
use Rattle.ht_recompute.proofs.kept_frames.KeptFrames.run.Goals as goal

pub run-requires-clause-nets : goal.run-requires-clause-nets
run-requires-clause-nets c = grind (arith, elements)
