-- A line as a list of pieces.
use Rattle.std.specs.Prelude.{ℕ, List, [], ◌++◌, fold}
use Rattle.std.specs.Fmt.{decimal}

-- a piece of a line: a word of its form, a number in decimal, or a name of the circuit's
pub data Piece : Type 0 where
  word : List ℕ → Piece
  number : ℕ → Piece
  name : List ℕ → Piece

-- the bytes of a piece
abbrev pub piece_text : Piece → List ℕ
piece_text (word bytes) = bytes
piece_text (number n) = decimal n
piece_text (name bytes) = bytes

-- a text, and after it these pieces
abbrev pub add_pieces : List ℕ → List Piece → List ℕ
add_pieces text pieces = fold (λ so_far piece. so_far ++ piece_text piece) text pieces

-- the pieces, one after the other
abbrev pub pieces_text : List Piece → List ℕ
pieces_text pieces = add_pieces [] pieces
