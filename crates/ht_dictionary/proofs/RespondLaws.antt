-- The text of rows is read as these rows.
use Rattle.std.proofs.Common.{◌≡◌, ◌≤◌, ◌-◌, ◌++◌, ℕ, List, Bool, true, Option, length, map, refl, sym, subst, ◌∙◌, ap}
use Rattle.std.specs.Prelude.{flat_map}
use Rattle.std.specs.List.{All}
use Rattle.std.proofs.lemmas.List.{map-append, take-append-drop}
use Rattle.std.proofs.lemmas.List.Concat.{flat_map-append}
use Rattle.ht_ports.specs.LineRule.{max_text_bytes}
use Rattle.ht_tern.specs.declared.tern.Tern.{Tern}
use Rattle.ht_tern.specs.declared.tern.Tern.TheVariants.{Zero, One, Unk}
use Rattle.ht_net.specs.declared.fault.Fault.{Fault}
use Rattle.ht_net.specs.Circuit.Netlist.{Netlist}
use Rattle.ht_net.specs.Detect.Detection.{outputs_from}
use Rattle.ht_texts.specs.Lines.{with_lf}
use Rattle.ht_texts.specs.SearchReports.{is_line_byte}
use Rattle.ht_texts.proofs.LineLaws.{coded_are_lines}
use Rattle.ht_dictionary.specs.ResponseTexts.{tern_code, row_text, IsResponseText, IsMalformedResponse}
use Rattle.ht_dictionary.proofs.ResponseLaws.{never_both}
use Rattle.ht_dictionary.specs.Responses.{response_text, rows_but_last, last_row}
use Rattle.ht_serial.proofs.RowLaws.{rows_count, rows_wide}

-- ---- what is written is read

value_plain : (value : Tern) → is_line_byte (tern_code value) ≡ true
value_plain Zero = refl
value_plain One = refl
value_plain Unk = refl

-- the text of rows of one width is read as these rows, if it isn't too long
pub written_is_read : (width : ℕ) (rows : List (List Tern)) → All (λ (row : List Tern). length row ≡ width) rows
    → length (response_text rows) ≤ max_text_bytes → IsResponseText width (length rows) (response_text rows) rows
written_is_read width rows widths short = record {
  lines = coded_are_lines tern_code value_plain rows;
  widths = widths;
  each = refl;
  short = short;
}

-- no line of the text of rows of one width is malformed, if it isn't too long
pub written_no_line : (width n : ℕ) (rows : List (List Tern)) → All (λ (row : List Tern). length row ≡ width) rows
    → length (response_text rows) ≤ max_text_bytes → ¬ IsMalformedResponse width (length rows) (response_text rows) n
written_no_line width n rows widths short =
    never_both width (length rows) (response_text rows) rows n (written_is_read width rows widths short)

-- the text of what a machine shows over a list is read as these rows, if it isn't too long
pub shown_is_read : (c : Netlist) (fault : Option Fault) (start : List Tern) (list : List (List Bool))
    → length (response_text (outputs_from c fault start list)) ≤ max_text_bytes
    → IsResponseText (length c.outputs) (length list) (response_text (outputs_from c fault start list))
    (outputs_from c fault start list)
shown_is_read c fault start list short =
    let rows = outputs_from c fault start list in
    subst (λ (n : ℕ). IsResponseText (length c.outputs) n (response_text rows) rows) (rows_count c fault start list)
    (written_is_read (length c.outputs) rows (rows_wide c fault start list) short)

-- ---- the text is that of its parts

text-append : (xs ys : List (List Tern)) → response_text (xs ++ ys) ≡ response_text xs ++ response_text ys
text-append xs ys = ap (flat_map with_lf) (map-append row_text xs ys)
    ∙ flat_map-append with_lf (map row_text xs) (map row_text ys)

-- the text of the rows before the last, with that of the last row, is the text of all rows
pub text_parts : (rows : List (List Tern))
    → response_text (rows_but_last rows) ++ response_text (last_row rows) ≡ response_text rows
text_parts rows = sym (text-append (rows_but_last rows) (last_row rows))
    ∙ ap response_text (take-append-drop (length rows - 1) rows)
