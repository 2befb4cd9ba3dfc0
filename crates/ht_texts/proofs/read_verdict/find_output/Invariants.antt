use Rattle.std.proofs.Common.{ℕ, ◌<◌, ◌≢◌}
use Rattle.ht_texts.specs.Sites.{output_text}
use Rattle.ht_texts.proofs.read_verdict.find_output.Given as goal

abbrev pub invariant-loop-o : goal.invariant-loop-o
invariant-loop-o l = (p : ℕ) → p < l.o → l.name ≢ output_text l.circuit p
