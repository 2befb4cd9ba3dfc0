-- What is written is read: the text of a report is that of what it says.
use Rattle.std.proofs.Common.{inl, inr, ℕ, ◌≤◌, List, [], ◌∷◌, Some, length, ap}
use Rattle.std.specs.List.{All, list_all}
use Rattle.std.proofs.lemmas.Bool.{cases_lt}
use Rattle.std.proofs.lemmas.List.Elements.{All-head, All-tail}
use Rattle.std.proofs.Math.ListN.{get_or-eq_default}
use Rattle.ht_net.specs.declared.net.NetId.{NetId}
use Rattle.ht_net.specs.Circuit.Netlist.{Netlist, IsCircuit}
use Rattle.ht_net.specs.Build.Named.{name_of}
use Rattle.ht_faults.specs.Sites.{faults_of}
use Rattle.ht_faults.specs.Classes.{AreClasses}
use Rattle.ht_ports.specs.LineRule.{max_text_bytes}
use Rattle.ht_texts.specs.declared.said.Said.{Said}
use Rattle.ht_texts.specs.Reports.{report_lines, report_text}
use Rattle.ht_texts.specs.SearchReports.{is_line_byte, HasPlainNames, IsSearchOf, IsReportText}
use Rattle.ht_texts.proofs.LineLaws.{ArePlain, AreClean, plain_is_clean, lines_are_lines}
use Rattle.ht_texts.proofs.PieceLaws.{IsFitLine, fit_is_plain}
use Rattle.ht_texts.proofs.ReportPieceLaws.{report_fits}

-- so lines of pieces that fit are as they are read
fit_are_clean : (lines : List (List ℕ)) → All (IsFitLine ArePlain) lines → AreClean lines
fit_are_clean [] fit = tt
fit_are_clean (line ∷ lines) fit = (
  plain_is_clean line (fit_is_plain line (All-head (IsFitLine ArePlain) line lines fit)),
  fit_are_clean lines (All-tail (IsFitLine ArePlain) line lines fit),
)

plain_name : (c : Netlist) → HasPlainNames c → (net : NetId) → ArePlain (name_of c net)
plain_name c names net = elim (cases_lt net.0 (length c.names)) [
  | inl below ↦ names net.0 [] below
  | inr past ↦ ap (list_all is_line_byte) (get_or-eq_default c.names [] past)
]

-- the report of a search that says what it may is read as what it says
pub written_is_report : (c : Netlist) (representatives : List ℕ) (budget : ℕ) (saids : List Said) → IsCircuit c
    → AreClasses c representatives → HasPlainNames c
    → IsSearchOf c representatives (length (faults_of c)) budget saids
    → length (report_text c representatives (Some budget) saids) ≤ max_text_bytes
    → IsReportText c representatives (report_text c representatives (Some budget) saids) budget saids
written_is_report c representatives budget saids is classes names search short = record {
  report = record {
    search = search;
    lines_are = lines_are_lines (report_lines c representatives (Some budget) saids) (fit_are_clean
        (report_lines c representatives (Some budget) saids)
        (report_fits ArePlain c is (plain_name c names) representatives classes budget saids search));
  };
  short = short;
}
