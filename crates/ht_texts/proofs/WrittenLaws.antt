-- What is written is read: the text of a list of vectors is the test text of this list.
use Rattle.std.proofs.Common.{◌≡◌, ℕ, ◌≤◌, List, Bool, true, false, length, refl}
use Rattle.std.specs.List.{All}
use Rattle.ht_net.specs.Circuit.Netlist.{Netlist}
use Rattle.ht_ports.specs.LineRule.{max_text_bytes}
use Rattle.ht_texts.specs.Tests.{bit_code, test_text, IsTestText, IsMalformedTest}
use Rattle.ht_texts.specs.SearchReports.{is_line_byte}
use Rattle.ht_texts.proofs.LineLaws.{coded_are_lines}
use Rattle.ht_texts.proofs.TestLaws.{never_both}

bit_plain : (bit : Bool) → is_line_byte (bit_code bit) ≡ true
bit_plain false = refl
bit_plain true = refl

-- what is written of a list of vectors of the circuit is its test text, if that isn't too long
pub written_is_test_text : (c : Netlist) (list : List (List Bool))
    → All (λ (vector : List Bool). length vector ≡ c.inputs) list
    → length (test_text list) ≤ max_text_bytes → IsTestText c (test_text list) list
written_is_test_text c list widths short = record {
  lines = coded_are_lines bit_code bit_plain list;
  widths = widths;
  short = short;
}

-- what is written of a list of vectors of the circuit is malformed at no line, if it isn't too long
pub written_is_not_malformed : (c : Netlist) (list : List (List Bool)) (n : ℕ)
    → All (λ (vector : List Bool). length vector ≡ c.inputs) list
    → length (test_text list) ≤ max_text_bytes → ¬ IsMalformedTest c (test_text list) n
written_is_not_malformed c list n widths short =
    never_both c (test_text list) list n (written_is_test_text c list widths short)
