use Rattle.std.proofs.Common.{◌≡◌, take}
use Rattle.ht_texts.specs.Tests.{vector_text}
use Rattle.ht_texts.proofs.vector.read_vector.Given as goal

abbrev pub invariant-loop-character : goal.invariant-loop-character
invariant-loop-character l = take l.character-index l.line ≡ vector_text l.vector.items
