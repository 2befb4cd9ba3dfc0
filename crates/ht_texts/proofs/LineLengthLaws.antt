-- No line of the report of a search is long: it has some words, some numbers and at most two names.
use Rattle.std.proofs.Common.{inl, inr, ℕ, List, [], ◌++◌, length, sym, ap, subst, arith}
use Rattle.std.specs.List.{All}
use Rattle.std.proofs.lemmas.Bool.{cases_lt}
use Rattle.std.proofs.lemmas.List.Elements.{All-take, All-weaker}
use Rattle.std.proofs.Math.ListN.{get_or-eq_default}
use Rattle.std.proofs.Math.Seq.{take-append_seam}
use Rattle.ht_net.specs.declared.net.NetId.{NetId}
use Rattle.ht_net.specs.Circuit.Netlist.{Netlist, IsCircuit}
use Rattle.ht_net.specs.Build.Named.{name_of}
use Rattle.ht_faults.specs.Classes.{AreClasses}
use Rattle.ht_texts.specs.LineLengths.{IsShortLine}
use Rattle.ht_texts.specs.SearchReports.{HasShortNames, IsReportFront}
use Rattle.ht_texts.proofs.PieceLaws.{IsShortName, IsFitLine, fit_is_short}
use Rattle.ht_texts.proofs.ReportPieceLaws.{report_fits}

short_name : (c : Netlist) → HasShortNames c → (net : NetId) → IsShortName (name_of c net)
short_name c names net = elim (cases_lt net.0 (length c.names)) [
  | inl below ↦ names net.0 [] below
  | inr past ↦ omega (arith, ap length (get_or-eq_default c.names [] past))
]

-- what begins lines that are short
pub first_lines_are_short : (lines more : List (List ℕ)) → All IsShortLine (lines ++ more) → All IsShortLine lines
first_lines_are_short lines more short =
    subst (All IsShortLine) (take-append_seam lines more) (All-take IsShortLine (length lines) (lines ++ more) short)

-- lines that begin the report of a search are short, if the names of the circuit are
pub report_is_short : (c : Netlist) (representatives : List ℕ) (lines : List (List ℕ)) → IsCircuit c
    → AreClasses c representatives → HasShortNames c → IsReportFront c representatives lines → All IsShortLine lines
report_is_short c representatives lines is classes names front =
    first_lines_are_short lines front.more (All-weaker (IsFitLine IsShortName) IsShortLine fit_is_short
    (lines ++ front.more) (subst (All (IsFitLine IsShortName)) (sym front.report.lines_are)
    (report_fits IsShortName c is (short_name c names) representatives classes front.budget front.saids
    front.report.search)))
