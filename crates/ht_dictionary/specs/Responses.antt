-- What a machine shows over a list of vectors, as text: a line for each vector, with one character for each output. The
-- good machine or one with a stuck line runs over three values, from a start.
use Rattle.std.specs.Prelude.{◌≡◌, ◌-◌, ◌++◌, ℕ, List, Bool, Option, length, map, take, drop, codes}
use Rattle.std.specs.Fmt.{decimal}
use Rattle.ht_tern.specs.declared.tern.Tern.{Tern}
use Rattle.ht_net.specs.declared.fault.Fault.{Fault}
use Rattle.ht_net.specs.Circuit.Netlist.{Netlist, net_count}
use Rattle.ht_net.specs.Detect.Detection.{outputs_from}
use Rattle.ht_texts.specs.Lines.{with_lf, with_lfs}
use Rattle.ht_dictionary.specs.ResponseTexts.{row_text}
use Rattle.ht_dictionary.specs.Traces.{IsTrace}

-- the text of rows: the characters of each, and an LF
abbrev pub response_text : List (List Tern) → List ℕ
response_text rows = with_lfs (map row_text rows)

-- the rows before the last
abbrev pub rows_but_last : List (List Tern) → List (List Tern)
rows_but_last rows = take (length rows - 1) rows

-- the last row alone, if there is one
abbrev pub last_row : List (List Tern) → List (List Tern)
last_row rows = drop (length rows - 1) rows

-- how many vectors there were, and how many outputs; without the LF
abbrev pub responses_line : ℕ → ℕ → List ℕ
responses_line vectors outputs = codes "responses vectors " ++ decimal vectors ++ codes " outputs " ++ decimal outputs

-- how many vectors there were, and how many nets; without the LF
abbrev pub lines_line : ℕ → ℕ → List ℕ
lines_line vectors nets =
    codes "responses vectors " ++ decimal vectors ++ codes " lines " ++ decimal nets

-- The text has exactly these rows, and ends with this last line, which is empty where there are none. The total line
-- says this.
pub record AreRowTexts (rows : List (List Tern)) (said body last total : List ℕ) : Type 0 where
  pub text : body ++ last ≡ response_text rows
  pub last_is : last ≡ response_text (last_row rows)
  pub total_is : total ≡ with_lf said

-- The text has exactly the rows of the machine's run over the vectors from the start, with a value for each output. The
-- total line says how many rows there are, and how many values each has.
abbrev pub IsResponses : Netlist → Option Fault → List Tern → List (List Bool)
    → List ℕ → List ℕ → List ℕ → Type 0
IsResponses c fault start list body last total = AreRowTexts (outputs_from c fault start list)
    (responses_line (length list) (length c.outputs)) body last total

-- The text has exactly the rows of the machine's trace, with a value for each net. The total line says how many rows
-- there are, and how many values each has.
pub record IsLineResponses (c : Netlist) (fault : Option Fault) (start : List Tern)
    (list : List (List Bool)) (body last total : List ℕ) : Type 0 where
  pub rows : List (List Tern)
  pub trace : IsTrace c fault start list rows
  pub texts : AreRowTexts rows (lines_line (length list) (net_count c)) body last total
