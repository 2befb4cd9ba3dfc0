-- What the pieces of the code stand for.
use Rattle.std.specs.Prelude.{List, map}
use Rattle.ht_texts.specs.declared.piece.Piece as declared
use Rattle.ht_texts.specs.declared.piece.Piece.TheVariants.{Word, Number, Name}
use Rattle.ht_texts.specs.Pieces.{Piece, word, number, name}

-- the piece of a line that this is
abbrev pub piece_of : declared.Piece → Piece
piece_of (Word bytes) = word bytes.now
piece_of (Number n) = number n
piece_of (Name bytes) = name bytes.now

-- the pieces that these are
abbrev pub pieces_of : List declared.Piece → List Piece
pieces_of pieces = map piece_of pieces
