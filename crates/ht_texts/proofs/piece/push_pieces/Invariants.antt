use Rattle.std.proofs.Common.{◌≡◌, take}
use Rattle.ht_texts.specs.Pieces.{add_pieces}
use Rattle.ht_texts.specs.PiecesOf.{pieces_of}
use Rattle.ht_texts.proofs.piece.push_pieces.Given as goal

abbrev pub invariant-loop-piece : goal.invariant-loop-piece
invariant-loop-piece l = l.text.items ≡ add_pieces l.fn.text.items (pieces_of (take l.piece-index l.pieces))
