-- Words in a text: where one ends, and the word that a text begins with.
use Rattle.std.proofs.Common.{◌≡◌, ℕ, suc, ◌<◌, ◌≤◌, Bool, true, false, List, [], ◌∷◌, ◌++◌, length, get_or, Option, Some, None, refl, sym, ◌∙◌, ap, append_assoc, append-nil, arith}
use Rattle.std.specs.Option.{option_map}
use Rattle.std.proofs.lemmas.Bool.Decides.{nat_tests}
use Rattle.ht_statement.specs.LineToken.{LineToken, word_token, is_blank, mark_of, begins_comment, ended, tokens_of}
use Rattle.ht_statement.specs.Word.{is_word_byte, BeginsNoBlank, BeginsNoWord, IsWordSplit}
use Rattle.ht_statement.specs.declared.token.LineToken.{LineToken as Borrowed}
use Rattle.ht_statement.specs.LineTokenOf.{token_of}
use Rattle.ht_statement.proofs.TokenLaws.{rest_tokens, blank_ends, mark_ends, comment_ends, word_goes_on}

-- ---- the end of a word

-- a byte that belongs to no word is a blank, a mark or the begin of a comment
data EndsWord (byte : ℕ) : Type 0 where
  BlankEnds : is_blank byte ≡ true → EndsWord byte
  MarkEnds : (mark : LineToken) → mark_of byte ≡ Some mark → EndsWord byte
  CommentEnds : begins_comment byte ≡ true → EndsWord byte

mark_cases : (byte : ℕ) (h c : Bool) → (m : Option LineToken) → mark_of byte ≡ m → is_blank byte ≡ c
    → begins_comment byte ≡ h → is_word_byte byte ≡ false → EndsWord byte
mark_cases byte h true m em ec eh e = BlankEnds ec
mark_cases byte true false m em ec eh e = CommentEnds eh
mark_cases byte false false (Some mark) em ec eh e = MarkEnds mark em
mark_cases byte false false None em ec eh e = absurd (grind (arith, nat_tests))

ends : (byte : ℕ) → is_word_byte byte ≡ false → EndsWord byte
ends byte e = mark_cases byte (begins_comment byte) (is_blank byte) (mark_of byte) refl refl refl e

ending : (word : List ℕ) (byte : ℕ) (text : List ℕ) → EndsWord byte → rest_tokens word (byte ∷ text) ≡ ended word
    ++ tokens_of (byte ∷ text)
ending word byte text (BlankEnds e) = blank_ends word byte text e ∙ ap (λ l. ended word ++ l)
    (sym (blank_ends [] byte text e))
ending word byte text (MarkEnds mark e) = mark_ends word byte text mark e ∙ ap (λ l. ended word ++ l)
    (sym (mark_ends [] byte text mark e))
ending word byte text (CommentEnds e) =
    comment_ends word byte text e ∙ sym (append-nil (ended word)) ∙ ap (λ l. ended word ++ l)
    (sym (comment_ends [] byte text e))

word_ends : (word rest : List ℕ) → BeginsNoWord rest → rest_tokens word rest ≡ ended word ++ tokens_of rest
word_ends word [] stops = sym (append-nil (ended word))
word_ends word (byte ∷ text) stops = ending word byte text (ends byte stops)

abbrev pub AreWordBytes : List ℕ → Type 0
AreWordBytes text = (k : ℕ) → k < length text → is_word_byte (get_or text k 0) ≡ true

-- a run of a word's bytes belongs to the word before it, which ends where no byte of a word comes next
pub run_ends : (word run rest : List ℕ) → AreWordBytes run → BeginsNoWord rest → rest_tokens word (run ++ rest)
    ≡ ended (word ++ run) ++ tokens_of rest
run_ends word [] rest are stops = word_ends word rest stops ∙ ap (λ w. ended w ++ tokens_of rest)
    (sym (append-nil word))
run_ends word (byte ∷ run) rest are stops =
    word_goes_on word byte (run ++ rest) (are 0 (omega arith))
    ∙ run_ends (word ++ byte ∷ []) run rest (λ k lt. are (suc k) (omega arith)) stops
    ∙ ap (λ w. ended w ++ tokens_of rest) (append_assoc word (byte ∷ []) run)

-- ---- the word that a text begins with

-- a text that begins with a word has it as its first token
pub tokens_word : (byte : ℕ) (run rest : List ℕ) → AreWordBytes (byte ∷ run) → BeginsNoWord rest
    → tokens_of (byte ∷ run ++ rest) ≡ word_token (byte ∷ run) ∷ tokens_of rest
tokens_word byte run rest are stops = run_ends [] (byte ∷ run) rest are stops

is_word : (byte : ℕ) → begins_comment byte ≡ false → is_blank byte ≡ false → mark_of byte ≡ None → is_word_byte byte
    ≡ true
is_word byte no_hash no_blank no_mark = grind (arith, nat_tests)

-- the word split from a text is its first token, if the text begins with no blank, mark or comment
pub split_is_word : (byte : ℕ) (after text word rest : List ℕ) → text ≡ byte ∷ after → begins_comment byte ≡ false
    → is_blank byte ≡ false → mark_of byte ≡ None
    → IsWordSplit text word rest → tokens_of text ≡ word_token word ∷ tokens_of rest
split_is_word byte after text [] [] e no_hash no_blank no_mark split =
    let wrong : [] ≡ byte ∷ after = sym split.whole ∙ e in absurd (cc)
split_is_word byte after text [] (other ∷ rest) e no_hash no_blank no_mark split =
    let same : other ∷ rest ≡ byte ∷ after = sym split.whole ∙ e in
    let heads : other ≡ byte = cc in
    let yes : is_word_byte other ≡ true = ap is_word_byte heads ∙ is_word byte no_hash no_blank no_mark in
    let stops : is_word_byte other ≡ false = split.longest in
    absurd (cc)
split_is_word byte after text (first ∷ run) rest e no_hash no_blank no_mark split =
    ap tokens_of split.whole ∙ tokens_word first run rest split.bytes split.longest

-- the first token of a text that isn't empty and begins with no blank, mark or comment is the word split from it
pub first_word : (text word rest : List ℕ) → 1 ≤ length text → begins_comment (get_or text 0 0) ≡ false
    → BeginsNoBlank text → mark_of (get_or text 0 0) ≡ None
    → IsWordSplit text word rest → tokens_of text ≡ word_token word ∷ tokens_of rest
first_word [] word rest some no_hash no_blank no_mark split = absurd (omega arith)
first_word (byte ∷ after) word rest some no_hash no_blank no_mark split =
    split_is_word byte after (byte ∷ after) word rest refl no_hash no_blank no_mark split

-- a byte for which no token of a mark was found is no mark
pub no_mark : (found : Option Borrowed) (mark : Option LineToken) → option_map token_of found ≡ mark
    → found ≡ None → mark ≡ None
no_mark found mark e none = sym e ∙ ap (option_map token_of) none
