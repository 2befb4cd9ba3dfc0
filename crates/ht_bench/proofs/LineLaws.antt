-- Lines of a text: the first one, and those of normal text, which are the texts of its statements.
use Rattle.std.proofs.Common.{◌≡◌, ℕ, ◌<◌, List, [], ◌∷◌, length, map, ◌∙◌, ap, arith, ◌≢◌, ◌-◌, ◌≤◌, true, slice_index, codes, append_assoc, refl, All}
use Rattle.ht_ports.specs.LineRule.{lines_of, without_cr, HasNoLf}
use Rattle.ht_ports.proofs.PieceLaws.{pieces-lf, pieces-last}
use Rattle.ht_bench.specs.Split.{Lacks, IsSplit}
use Rattle.std.proofs.lemmas.Bool.Decides.{nat_tests}
use Rattle.std.proofs.lemmas.List.Elements.{All-head, All-tail}
use Rattle.ht_ports.proofs.TextLaws.{lines-lf}
use Rattle.ht_statement.specs.Statement.{Statement}
use Rattle.ht_statement.specs.StatementText.{statement_text, CanBeStated, is_printable}
use Rattle.ht_statement.proofs.PrintLaws.{normal_is_one_line}
use Rattle.ht_bench.specs.Normal.{statement_lines}
use Rattle.ht_bench.proofs.AllLaws.{all_from_test}

-- the lines of a text are the part before its first LF, without a CR at its end, and the lines of the rest
pub lines_split : (text piece rest : List ℕ) → IsSplit text 10 piece rest → lines_of text ≡ without_cr piece
    ∷ lines_of rest
lines_split text piece rest split = ap lines_of split.whole ∙ ap (map without_cr) (pieces-lf piece rest split.lacks)

-- a text without an LF is one line, without a CR at its end, unless it is empty
pub lines_last : (text : List ℕ) → Lacks text 10 → 0 < length text → lines_of text ≡ without_cr text ∷ []
lines_last [] lacks some = absurd (omega arith)
lines_last (x ∷ text) lacks some = ap (map without_cr) (pieces-last x text lacks)

-- bytes from the blank on, so neither LF nor CR
abbrev IsPrintable : List ℕ → Type 0
IsPrintable text = All (λ byte. 32 ≤ byte) text

byte_is_printable : (byte : ℕ) → is_printable byte ≡ true → 32 ≤ byte
byte_is_printable byte test = grind (arith, nat_tests)

no_lf : (text : List ℕ) → IsPrintable text → HasNoLf text
no_lf text is k below lf = omega (arith, is k 0 below, lf)

no_return : (text : List ℕ) → IsPrintable text → slice_index text (length text - 1) ≢ 13
no_return [] is e = absurd (let zero_is : 0 ≡ 13 = e in omega arith)
no_return (x ∷ text) is e = omega (arith, is (length (x ∷ text) - 1) 0 (omega arith), e)

keeps_line : (text : List ℕ) → slice_index text (length text - 1) ≢ 13 → without_cr text ≡ text
keeps_line text other = grind (arith, nat_tests)

-- the lines of a normal text are the texts of its statements
pub lines_of_statements : (statements : List Statement) → All CanBeStated statements
    → lines_of (statement_lines statements) ≡ map statement_text statements
lines_of_statements [] can = refl
lines_of_statements (s ∷ statements) can =
    let is : IsPrintable (statement_text s) =
    all_from_test is_printable (λ byte. 32 ≤ byte) byte_is_printable (statement_text s)
    (normal_is_one_line s (All-head CanBeStated s statements can)) in
    let rest = lines_of_statements statements (All-tail CanBeStated s statements can) in
    ap lines_of (append_assoc (statement_text s) (codes "\n") (statement_lines statements))
    ∙ lines-lf (statement_text s) (statement_lines statements) (no_lf (statement_text s) is)
    ∙ ap (λ line. line ∷ lines_of (statement_lines statements))
    (keeps_line (statement_text s) (no_return (statement_text s) is))
    ∙ ap (λ lines. statement_text s ∷ lines) rest
