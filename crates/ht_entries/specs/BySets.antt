-- The form of an entry that shows a fault undetectable by sets of pairs: its lines, and as much of it as was read.
use Rattle.std.specs.Prelude.{◌≡◌, ◌<◌, ℕ, List, [], ◌∷◌, ◌++◌, map, length, Option, Some, None, codes}
use Rattle.std.specs.Fmt.{decimal}
use Rattle.std.specs.List.{All}
use Rattle.ht_texts.specs.Tests.{tern_code}
use Rattle.ht_pairs.specs.Pairs.{Pair, set_of}
use Rattle.ht_tree.specs.declared.family_row.FamilyRow.{FamilyRow}
use Rattle.ht_tree.specs.Record.FamilyRows.{dffs_of}
use Rattle.ht_tree.specs.Record.Rising.{Rises}
use Rattle.ht_entries.specs.declared.proof_line.ProofLine.{ProofLine}
use Rattle.ht_entries.specs.declared.proof_line.ProofLine.TheVariants as line
use Rattle.ht_entries.specs.declared.by_sets.BySetsLine.{BySetsLine}
use Rattle.ht_entries.specs.declared.by_sets.BySetsLine.TheVariants as form
use Rattle.ht_entries.specs.LineWords.{numbered_from_1, IsNumber, IsIndex}
use Rattle.ht_entries.specs.PartWords.{where_true, is_above}

-- ---- its lines

-- pairs, each after a space: the character of its good half, and that of its faulty half
abbrev pub pairs_text : List Pair → List ℕ
pairs_text [] = []
pairs_text (p ∷ set) = 32 ∷ tern_code p.good ∷ tern_code p.faulty ∷ pairs_text set

-- the pairs of a set, or none
abbrev pub pairs_of : Option (List Pair) → List Pair
pairs_of None = []
pairs_of (Some set) = set

-- a flip-flop by its number, and its pairs
abbrev pub row_text : FamilyRow → List ℕ
row_text row = numbered_from_1 (codes "pairs ") row.dff ++ pairs_text row.set

-- the text of a line of this form
abbrev pub by_sets_text : BySetsLine → List ℕ
by_sets_text (form.Begins number) = codes "entry " ++ decimal number ++ codes " undetectable by sets"
by_sets_text (form.Pairs row) = row_text row

-- A set has a text: it has a pair, and lists each of its pairs once, in the order 00, 01, 0X, 10, 11, 1X, X0, X1, XX.
pub record IsSetText (set : List Pair) : Type 0 where
  pub some : 0 < length set
  pub in_order : set ≡ set_of set

-- The set of a flip-flop has a text.
pub record IsRowText (row : FamilyRow) : Type 0 where
  pub dff : IsIndex row.dff
  pub set : IsSetText row.set

-- a line of this form has a text
abbrev pub IsBySetsLine : BySetsLine → Type 0
IsBySetsLine (form.Begins number) = IsNumber number
IsBySetsLine (form.Pairs row) = IsRowText row

-- ---- as much of the entry as was read

-- a line for each flip-flop that has a row
abbrev pub row_lines : List FamilyRow → List ProofLine
row_lines rows = map (λ (row : FamilyRow). line.BySets (form.Pairs row)) rows

-- the line that begins the entry, and those of its rows
abbrev pub by_sets_lines : ℕ → List FamilyRow → List ProofLine
by_sets_lines number rows = line.BySets (form.Begins number) ∷ row_lines rows

-- The entry has a text: its flip-flops rise.
pub record IsBySetsText (rows : List FamilyRow) : Type 0 where
  pub rises : Rises (dffs_of rows)
  pub each : All IsRowText rows

-- ---- a line more of it

-- the rows with that of the line, whose flip-flop is above the last; no other line belongs to the entry
abbrev pub grow_by_sets : List FamilyRow → ProofLine → Option (List FamilyRow)
grow_by_sets rows (line.BySets (form.Pairs row)) = where_true (is_above (dffs_of rows) row.dff) (rows ++ row ∷ [])
grow_by_sets rows other = None
