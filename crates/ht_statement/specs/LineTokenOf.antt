-- How a token that borrows its word stands for the token.
use Rattle.ht_statement.specs.declared.token.LineToken.{LineToken as Borrowed}
use Rattle.ht_statement.specs.declared.token.LineToken.TheVariants.{Word as BorrowedWord, Open as BorrowedOpen, Close as BorrowedClose, Comma as BorrowedComma, Equals as BorrowedEquals}
use Rattle.ht_statement.specs.LineToken.{LineToken, word_token, open_token, close_token, comma_token, equals_token}

-- the token that a stored one stands for
abbrev pub token_of : Borrowed → LineToken
token_of (BorrowedWord word) = word_token word.now
token_of BorrowedOpen = open_token
token_of BorrowedClose = close_token
token_of BorrowedComma = comma_token
token_of BorrowedEquals = equals_token
