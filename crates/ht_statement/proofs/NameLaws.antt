-- Names in a text, as tokens; kinds are names.
use Rattle.std.proofs.Common.{◌≡◌, ℕ, zero, suc, ◌<◌, ◌≤◌, Bool, true, List, [], ◌∷◌, ◌++◌, length, get_or, Some, refl, arith}
use Rattle.std.specs.List.{list_all}
use Rattle.std.proofs.lemmas.Bool.{and_parts}
use Rattle.std.proofs.lemmas.Bool.Decides.{nat_tests}
use Rattle.ht_tern.specs.declared.gate.Kind.{Kind}
use Rattle.ht_tern.specs.declared.gate.Kind.TheVariants.{And, Nand, Or, Nor, Xor, Xnor, Not, Buf}
use Rattle.ht_net.specs.Build.Named.{Name}
use Rattle.ht_statement.specs.LineToken.{word_token, tokens_of}
use Rattle.ht_statement.specs.Word.{is_word_byte, BeginsNoWord}
use Rattle.ht_statement.specs.Name.{is_name, is_name_byte}
use Rattle.ht_statement.specs.Element.{gate_of, element_named}
use Rattle.ht_statement.specs.StatementText.{kind_text}
use Rattle.ht_statement.proofs.WordLaws.{tokens_word}

-- ---- names

all_at : (test : ℕ → Bool) (text : List ℕ) → list_all test text ≡ true → (k : ℕ) → k < length text
    → test (get_or text k 0) ≡ true
all_at test [] e k lt = absurd (omega arith)
all_at test (byte ∷ text) e zero lt = (and_parts (test byte) (list_all test text) e).0
all_at test (byte ∷ text) e (suc k) lt = all_at test text (and_parts (test byte) (list_all test text) e).1 k
    (omega arith)

name_byte_is_word : (byte : ℕ) → is_name_byte byte ≡ true → is_word_byte byte ≡ true
name_byte_is_word byte e = grind (arith, nat_tests)

name_is_some : (name : Name) → is_name name ≡ true → 1 ≤ length name
name_is_some name e = grind (arith, nat_tests)

name_bytes : (name : Name) → is_name name ≡ true → list_all is_name_byte name ≡ true
name_bytes name e = grind (arith, nat_tests)

-- a name at the front of a text is its first token, if no byte of a word comes next
pub name_then : (name : Name) (rest : List ℕ) → is_name name ≡ true → BeginsNoWord rest → tokens_of (name ++ rest)
    ≡ word_token name ∷ tokens_of rest
name_then [] rest is stops = absurd (omega (arith, name_is_some [] is))
name_then (byte ∷ run) rest is stops =
    let name = byte ∷ run in
    tokens_word byte run rest
    (λ k lt. name_byte_is_word (get_or name k 0) (all_at is_name_byte name (name_bytes name is) k lt)) stops

-- the first of some names of the format is one
pub all_head : (name : Name) (names : List Name) → list_all is_name (name ∷ names) ≡ true → is_name name ≡ true
all_head name names e = (and_parts (is_name name) (list_all is_name names) e).0

-- names of the format go on to be so without the first
pub all_tail : (name : Name) (names : List Name) → list_all is_name (name ∷ names) ≡ true
    → list_all is_name names ≡ true
all_tail name names e = (and_parts (is_name name) (list_all is_name names) e).1

-- ---- kinds

-- the text of a kind is a name, and names the gate of that kind
pub kind_reads : (kind : Kind) → (is_name (kind_text kind) ≡ true)
    × (element_named (kind_text kind) ≡ Some (gate_of kind))
kind_reads And = (refl, refl)
kind_reads Nand = (refl, refl)
kind_reads Or = (refl, refl)
kind_reads Nor = (refl, refl)
kind_reads Xor = (refl, refl)
kind_reads Xnor = (refl, refl)
kind_reads Not = (refl, refl)
kind_reads Buf = (refl, refl)
