-- The tokens of a text by its first byte.
use Rattle.std.proofs.Common.{◌≡◌, ℕ, true, false, cond, not, List, [], ◌∷◌, ◌++◌, Option, Some, None, ◌∙◌, ap, arith}
use Rattle.std.specs.Option.{option_map_or}
use Rattle.std.proofs.lemmas.Bool.Decides.{nat_tests}
use Rattle.std.proofs.lemmas.List.Sums.{take_while-cons}
use Rattle.ht_statement.specs.LineToken.{LineToken, is_blank, mark_of, begins_comment, without_comment, ended, tokens_after, tokens_of}
use Rattle.ht_statement.specs.Word.{is_word_byte}

-- ---- comments

-- a first byte that begins no comment stays, before the rest without its comment
pub comment_none : (byte : ℕ) (text : List ℕ) → begins_comment byte ≡ false → without_comment (byte ∷ text) ≡ byte
    ∷ without_comment text
comment_none byte text e =
    take_while-cons (λ b. not (begins_comment b)) byte text ∙ ap (λ r. cond (not r) (byte ∷ without_comment text) []) e

-- a text that begins with a comment is nothing else
pub comment_all : (byte : ℕ) (text : List ℕ) → begins_comment byte ≡ true → without_comment (byte ∷ text) ≡ []
comment_all byte text e =
    take_while-cons (λ b. not (begins_comment b)) byte text ∙ ap (λ r. cond (not r) (byte ∷ without_comment text) []) e

-- ---- what one byte does, with a word before it

blank_is_no_comment : (byte : ℕ) → is_blank byte ≡ true → begins_comment byte ≡ false
blank_is_no_comment byte e = grind (arith, nat_tests)

word_is_no_comment : (byte : ℕ) → is_word_byte byte ≡ true → begins_comment byte ≡ false
word_is_no_comment byte e = grind (arith, nat_tests)

word_is_no_blank : (byte : ℕ) → is_word_byte byte ≡ true → is_blank byte ≡ false
word_is_no_blank byte e = grind (arith, nat_tests)

word_is_no_mark : (byte : ℕ) → is_word_byte byte ≡ true → mark_of byte ≡ None
word_is_no_mark byte e = grind (arith, nat_tests)

mark_is_no_comment : (byte : ℕ) (mark : LineToken) → mark_of byte ≡ Some mark → begins_comment byte ≡ false
mark_is_no_comment byte mark e = grind (arith, nat_tests)

mark_is_no_blank : (byte : ℕ) (mark : LineToken) → mark_of byte ≡ Some mark → is_blank byte ≡ false
mark_is_no_blank byte mark e = grind (arith, nat_tests)

-- the tokens of a text with a comment, after a word
abbrev pub rest_tokens : List ℕ → List ℕ → List LineToken
rest_tokens word text = tokens_after word (without_comment text)

-- what follows the blank test
abbrev after_mark : List ℕ → ℕ → List ℕ → Option LineToken → List LineToken
after_mark word byte text mark = option_map_or (λ m. ended word ++ m ∷ tokens_after [] text) mark
    (tokens_after (word ++ byte ∷ []) text)

-- a blank ends the word before it, and the tokens of the text after it follow
pub blank_ends : (word : List ℕ) (byte : ℕ) (text : List ℕ) → is_blank byte ≡ true → rest_tokens word (byte ∷ text)
    ≡ ended word ++ tokens_of text
blank_ends word byte text e =
    ap (tokens_after word) (comment_none byte text (blank_is_no_comment byte e))
    ∙ ap (λ r. cond r (ended word ++ tokens_of text) (after_mark word byte (without_comment text) (mark_of byte))) e

-- a mark ends the word before it and is a token, and those of the text after it follow
pub mark_ends : (word : List ℕ) (byte : ℕ) (text : List ℕ) (mark : LineToken) → mark_of byte ≡ Some mark
    → rest_tokens word (byte ∷ text) ≡ ended word ++ mark ∷ tokens_of text
mark_ends word byte text mark e =
    ap (tokens_after word) (comment_none byte text (mark_is_no_comment byte mark e))
    ∙ ap (λ r. cond r (ended word ++ tokens_of text) (after_mark word byte (without_comment text) (mark_of byte)))
    (mark_is_no_blank byte mark e)
    ∙ ap (after_mark word byte (without_comment text)) e

-- the begin of a comment ends the word before it, and no token follows
pub comment_ends : (word : List ℕ) (byte : ℕ) (text : List ℕ) → begins_comment byte ≡ true
    → rest_tokens word (byte ∷ text) ≡ ended word
comment_ends word byte text e = ap (tokens_after word) (comment_all byte text e)

-- a byte of a word belongs to the word before it
pub word_goes_on : (word : List ℕ) (byte : ℕ) (text : List ℕ) → is_word_byte byte ≡ true
    → rest_tokens word (byte ∷ text) ≡ rest_tokens (word ++ byte ∷ []) text
word_goes_on word byte text e =
    ap (tokens_after word) (comment_none byte text (word_is_no_comment byte e))
    ∙ ap (λ r. cond r (ended word ++ tokens_of text) (after_mark word byte (without_comment text) (mark_of byte)))
    (word_is_no_blank byte e)
    ∙ ap (after_mark word byte (without_comment text)) (word_is_no_mark byte e)

-- ---- with no word before it

-- a blank at the front of a text adds no token
pub tokens_blank : (byte : ℕ) (text : List ℕ) → is_blank byte ≡ true → tokens_of (byte ∷ text) ≡ tokens_of text
tokens_blank byte text e = blank_ends [] byte text e

-- a mark at the front of a text is its first token
pub tokens_mark : (byte : ℕ) (text : List ℕ) (mark : LineToken) → mark_of byte ≡ Some mark
    → tokens_of (byte ∷ text) ≡ mark ∷ tokens_of text
tokens_mark byte text mark e = mark_ends [] byte text mark e
