-- The first wrong line of a report that is read line by line.
use Rattle.std.proofs.Common.{inl, inr, ℕ, ◌+◌, ◌≤◌, List, length, take, arith}
use Rattle.ht_ports.specs.LineRule.{lines_of}
use Rattle.ht_net.specs.Circuit.Netlist.{Netlist}
use Rattle.ht_texts.specs.Tests.{IsTooLong}
use Rattle.ht_texts.specs.SearchReports.{IsReportFront, IsNoReportLine, IsWrongReportLine, IsMalformedReport}
use Rattle.ht_texts.proofs.ReportTextLaws.{front_of_front}
use Rattle.ht_texts.proofs.WrongLineLaws.{begun_is_right}

-- no line of those that begin a report is wrong
pub front_is_right : (c : Netlist) (representatives : List ℕ) (text : List ℕ) (n m : ℕ)
    → IsReportFront c representatives (take n (lines_of text)) → n ≤ length (lines_of text) → m ≤ n
    → ¬ IsNoReportLine c representatives text m
front_is_right c representatives = begun_is_right (IsReportFront c representatives) (front_of_front c representatives)

-- a wrong line after lines that begin a report is the first, if the text doesn't get too long in them
pub wrong_is_first : (c : Netlist) (representatives : List ℕ) (text : List ℕ) (n : ℕ)
    → IsReportFront c representatives (take n (lines_of text)) → n ≤ length (lines_of text)
    → ((m : ℕ) → m ≤ n → ¬ IsTooLong text m) → IsWrongReportLine c representatives text (n + 1)
    → IsMalformedReport c representatives text (n + 1)
wrong_is_first c representatives text n front inside fits wrong = record {
  wrong = wrong;
  first = λ m below sooner. elim sooner [
    | inl line ↦ front_is_right c representatives text n m front inside (omega (arith, below)) line
    | inr (inl early) ↦ omega (arith, below, early.line, inside)
    | inr (inr long) ↦ fits m (omega (arith, below)) long
  ];
}
