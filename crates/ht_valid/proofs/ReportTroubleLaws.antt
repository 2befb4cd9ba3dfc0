-- Nothing is wrong with a report that agrees with the vectors.
use Rattle.std.proofs.Common.{◌≡◌, ◌∙◌, ◌<◌, ℕ, suc, Bool, true, false, List, [], ◌∷◌, Option, Some, None, inl, inr, take, drop, length, get_or, refl, sym, ap, subst, arith}
use Rattle.std.specs.Prelude.{cond}
use Rattle.std.proofs.lemmas.List.{append_cancel_left, get_or_append_left, take-append-drop}
use Rattle.ht_ports.specs.LineRule.{lines_of}
use Rattle.ht_tern.specs.declared.tern.Tern.{Tern}
use Rattle.ht_net.specs.Circuit.Netlist.{IsCircuit, Netlist}
use Rattle.ht_faults.specs.Sites.{faults_of}
use Rattle.ht_faults.specs.Classes.{is_representative}
use Rattle.ht_texts.specs.declared.item.Item.{Item}
use Rattle.ht_texts.specs.declared.item.Item.TheVariants.{Head, Verdict, Member, Total}
use Rattle.ht_texts.specs.declared.said.Said.{Said}
use Rattle.ht_texts.specs.declared.said.Said.TheVariants.{Undetected}
use Rattle.ht_texts.specs.Pieces.{pieces_text}
use Rattle.ht_texts.specs.Reports.{fault_line, fault_lines, line_front, report_sums, total_line}
use Rattle.ht_texts.specs.ReportReading.{ReportReading, before_report, in_report, after_report, ReportReadsTo, last_item}
use Rattle.ht_texts.specs.SearchReports.{IsReportText, IsSearchReport}
use Rattle.ht_texts.specs.Verdicts.{said_at, verdict_text}
use Rattle.ht_texts.specs.WrongLines.{IsFirst}
use Rattle.ht_texts.proofs.ReadingLaws.{length-in_report}
use Rattle.ht_texts.proofs.ReportTextLaws.{report_is_not_malformed}
use Rattle.ht_texts.proofs.SaidLaws.{get_or-fault_lines, length-fault_lines, line_of_representative}
use Rattle.ht_texts.proofs.VerdictLaws.{one_verdict}
use Rattle.ht_valid.specs.FirstTrouble.{ContradictsTests, IsReportTrouble}
use Rattle.ht_valid.specs.ValidFiles.{AgreesWithTests, IsOwn}

-- ---- what a line says of a fault

abbrev said_of_item : Item → Said
said_of_item (Head budget) = Undetected
said_of_item (Verdict i said) = said
said_of_item (Member i) = Undetected
said_of_item Total = Undetected

abbrev fault_of_item : Item → ℕ
fault_of_item (Head budget) = 0
fault_of_item (Verdict i said) = i
fault_of_item (Member i) = i
fault_of_item Total = 0

abbrev or_total : Option Item → Item
or_total None = Total
or_total (Some item) = item

-- a line that says something of a fault is that of a representative
record SaysOf (own : Bool) (n k : ℕ) (s said : Said) : Type 0 where
  representative : own ≡ true
  fault : n ≡ k
  same : s ≡ said

says_of : (own : Bool) (n k : ℕ) (s said : Said)
    → ◌≡◌ {A = Option Item} (Some (cond own (Verdict n s) (Member n))) (Some (Verdict k said)) → SaysOf own n k s said
says_of true n k s said e = record {
  representative = refl;
  fault = ap (λ o. fault_of_item (or_total o)) e;
  same = ap (λ o. said_of_item (or_total o)) e;
}
says_of false n k s said e = absurd cc

module _ (c : Netlist) (representatives : List ℕ) (lines : List (List ℕ)) (n budget : ℕ) (saids : List Said)
    (circuit : IsCircuit c) (report : IsSearchReport c representatives lines budget saids) where
  -- the line of fault k in the report
  line_in_report : (k : ℕ) → k < length (faults_of c)
      → get_or lines (suc k) [] ≡ fault_line c representatives k (said_at saids k)
  line_in_report k inside =
      let total = total_line (report_sums representatives (Some budget) saids) in
      let all = fault_lines c representatives saids (length (faults_of c)) in
      ap (λ l. get_or l (suc k) []) report.lines_are
      ∙ (get_or_append_left all (total ∷ []) [] k
      (omega (arith, inside, length-fault_lines c representatives saids (length (faults_of c))))
      ∙ get_or-fault_lines c representatives saids (length (faults_of c)) k inside)

  -- what the first lines say of a representative, the report says
  said_in_front : (b : ℕ) (s : List Said) (k : ℕ) → ReportReadsTo c representatives (take n lines) (in_report b s)
      → k < length s → is_representative representatives k ≡ true → said_at s k ≡ said_at saids k
  said_in_front b s k read below own =
      let inside : k < length (faults_of c) = omega (arith, below, read.readable.listed) in
      let count = length-in_report c representatives (take n lines) b s read in
      let here : get_or lines (suc k) [] ≡ fault_line c representatives k (said_at s k) =
      ap (λ l. get_or l (suc k) []) (sym (take-append-drop n lines))
      ∙ (get_or_append_left (take n lines) (drop n lines) [] (suc k) (omega (arith, below, count))
      ∙ (ap (λ l. get_or l (suc k) []) read.lines_are
      ∙ get_or-fault_lines c representatives s (length s) k below)) in
      one_verdict c (said_at s k) (said_at saids k) circuit (read.readable.saids_are.sayable k below own)
      (report.search.saids_are.sayable k inside own)
      (append_cancel_left (pieces_text (line_front c k)) (verdict_text c (said_at s k)) (verdict_text c (said_at saids k))
      (sym (line_of_representative c representatives k (said_at s k) own)
      ∙ (sym here ∙ (line_in_report k inside ∙ line_of_representative c representatives k (said_at saids k) own))))

  module _ (start : List Tern) (list : List (List Bool))
      (agrees : (i : ℕ) → IsOwn c representatives i → AgreesWithTests c start list i (said_at saids i)) where
    says_truly : (at : ReportReading) (fault : ℕ) (said : Said) → ReportReadsTo c representatives (take n lines) at
        → last_item representatives at ≡ Some (Verdict fault said) → AgreesWithTests c start list fault said
    says_truly before_report fault said read says = absurd cc
    says_truly (in_report b []) fault said read says = absurd cc
    says_truly (in_report b (first ∷ more)) fault said read says =
        let k = length more in
        let is = says_of (is_representative representatives k) k fault (said_at (first ∷ more) k) said says in
        let listed = read.readable.listed in
        let truly = agrees k (record { listed = omega (arith, listed); own = is.representative }) in
        subst (λ i. AgreesWithTests c start list i said) is.fault
        (subst (AgreesWithTests c start list k) is.same
        (subst (AgreesWithTests c start list k)
        (sym (said_in_front b (first ∷ more) k read (omega arith) is.representative)) truly))
    says_truly (after_report b s) fault said read says = absurd cc

    uncontradicted : ¬ ContradictsTests c representatives start list (take n lines)
    uncontradicted found = found.contradicts (says_truly found.at found.fault found.said found.read found.says)

-- Valid reports have no line at which something is wrong first.
pub report_is_right : (c : Netlist) (representatives : List ℕ) (start : List Tern) (list : List (List Bool))
    (text : List ℕ) (budget : ℕ) (saids : List Said) (n : ℕ) → IsCircuit c
    → IsReportText c representatives text budget saids
    → ((i : ℕ) → IsOwn c representatives i → AgreesWithTests c start list i (said_at saids i))
    → ¬ IsFirst (IsReportTrouble c representatives start list text) n
report_is_right c representatives start list text budget saids n circuit is agrees trouble = elim trouble.wrong [
  | inl malformed ↦ report_is_not_malformed c representatives text budget saids n is
      (record { wrong = malformed; first = λ m less wrong. trouble.first m less (inl wrong) })
  | inr contradicts ↦ uncontradicted c representatives (lines_of text) n budget saids circuit is.report start list
      agrees
      contradicts
]
