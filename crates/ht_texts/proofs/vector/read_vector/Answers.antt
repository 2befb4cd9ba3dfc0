use Rattle.std.proofs.lemmas.Grind.{elements}
use Rattle.std.proofs.Common.{arith}
use Rattle.ht_texts.specs.Tests.{bit_code}
use Rattle.ht_texts.proofs.CodedLaws.{none_coded}
use Rattle.ht_texts.proofs.vector.read_vector.Goals as goal

pub returns-in_default : goal.returns-in_default
returns-in_default c = none_coded bit_code _ _ c.loop-character.character-index c.loop-character-test.true
    c.in_default.ensures

pub returns : goal.returns
returns c = grind (arith, elements)
