use Rattle.std.proofs.Common.{take}
use Rattle.ht_texts.specs.Fronts.{Strips}
use Rattle.ht_texts.specs.Pieces.{pieces_text}
use Rattle.ht_texts.specs.PiecesOf.{pieces_of}
use Rattle.ht_texts.proofs.strip.strip_pieces.Given as goal

abbrev pub invariant-loop-piece : goal.invariant-loop-piece
invariant-loop-piece l = Strips (pieces_text (pieces_of (take l.piece-index l.pieces))) l.fn.text l.rest
