use Rattle.std.proofs.Common.{◌≡◌, map, take, Some}
use Rattle.ht_texts.specs.StartTexts.{start_value}
use Rattle.ht_texts.proofs.start_line.read_start.Given as goal

abbrev pub invariant-loop-character : goal.invariant-loop-character
invariant-loop-character l = map start_value (take l.character-index l.line) ≡ map Some l.start.items
