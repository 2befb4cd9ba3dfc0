-- Files that judges took to their ends are valid, also with the report of what they justify.
use Rattle.std.proofs.Common.{◌≤◌, ℕ, Bool, List, [], ◌∷◌, Some, length, refl, arith}
use Rattle.std.specs.List.{All}
use Rattle.std.proofs.lemmas.List.Elements.{All-cons, All-head, All-nil, All-tail}
use Rattle.ht_tern.specs.declared.tern.Tern.{Tern}
use Rattle.ht_ports.specs.LineRule.{lines_of, max_text_bytes}
use Rattle.ht_net.specs.Circuit.Netlist.{IsCircuit, Netlist}
use Rattle.ht_faults.specs.Classes.{AreClasses, fault_at}
use Rattle.ht_proofs.proofs.DetectionLaws.{detected_within}
use Rattle.ht_texts.specs.declared.said.Said.{Said}
use Rattle.ht_texts.specs.declared.said.Said.TheVariants.{Detected, Untestable, Undetectable, Aborted, Undetected}
use Rattle.ht_texts.specs.Reports.{report_text}
use Rattle.ht_texts.specs.SearchReports.{HasPlainNames, IsBudget}
use Rattle.ht_texts.specs.Verdicts.{IsSayable, said_at}
use Rattle.ht_texts.proofs.ReportWrittenLaws.{written_is_report}
use Rattle.ht_texts.specs.Tests.{IsTestText}
use Rattle.ht_entries.specs.declared.numbered.Numbered.{Numbered}
use Rattle.ht_valid.specs.ValidFiles.{AgreesWithTests, AreValid, Content, IsBacking}
use Rattle.ht_judge.specs.ProofJudging.{AreCompleteProofs, AreJustifyingProofs}
use Rattle.ht_judge.specs.ReportJudging.{IsTrueReport}

abbrev with_entries : Content → List Numbered → Content
with_entries content entries = record content { entries = entries }

backed_with : (c : Netlist) (representatives : List ℕ) (content : Content) (entries all : List Numbered)
    → All (IsBacking c representatives content) all
    → All (IsBacking c representatives (with_entries content entries)) all
backed_with c representatives content entries [] backed =
    All-nil (IsBacking c representatives (with_entries content entries))
backed_with c representatives content entries (e ∷ all) backed =
    let first : IsBacking c representatives content e =
    All-head (IsBacking c representatives content) e all backed in
    All-cons (IsBacking c representatives (with_entries content entries)) e all
    (record { own = first.own; counted = first.counted; backs = first.backs })
    (backed_with c representatives content entries all (All-tail (IsBacking c representatives content) e all backed))

-- tests, a report that is true of their vectors, and complete proofs for it are valid files
pub judged_is_valid : (c : Netlist) (representatives tests report proofs : List ℕ) (content : Content)
    → IsTestText c tests content.list
    → IsTrueReport c representatives content.start content.list (lines_of report) content.budget content.saids
    → length report ≤ max_text_bytes → (complete : AreCompleteProofs c representatives content (lines_of proofs))
    → length proofs ≤ max_text_bytes
    → AreValid c representatives content.start tests report proofs (record content { entries = complete.entries })
judged_is_valid c representatives tests report proofs content vectors true_report short complete few = record {
  stated = refl;
  vectors = vectors;
  reported = record { report = true_report.report; short = short };
  proved = record { format = complete.format; are = complete.are; lines = complete.lines_are; short = few };
  justified = record {
    agrees = true_report.agrees;
    backed = backed_with c representatives content complete.entries complete.entries complete.backed;
    complete = complete.complete;
  };
}

-- ---- the report of what tests and proofs justify

-- what agrees with vectors may be said
pub agreed_sayable : (c : Netlist) (start : List Tern) (list : List (List Bool)) (i : ℕ) (said : Said)
    → length list ≤ max_text_bytes → AgreesWithTests c start list i said → IsSayable c said
agreed_sayable c start list i (Detected place) few agrees =
    let within = detected_within c (fault_at c i) start list place agrees.0 in
    record { output = within.output; vector = let less = within.vector in omega (arith, few, less) }
agreed_sayable c start list i Untestable few agrees = tt
agreed_sayable c start list i Undetectable few agrees = tt
agreed_sayable c start list i Aborted few agrees = tt
agreed_sayable c start list i Undetected few agrees = tt

-- tests and proofs that justify the verdicts are valid files with the report of these verdicts
pub followed_is_valid : (c : Netlist) (representatives tests proofs : List ℕ) (content : Content) → IsCircuit c
    → AreClasses c representatives → HasPlainNames c → IsBudget content.budget → IsTestText c tests content.list
    → length content.list ≤ max_text_bytes
    → (justifying : AreJustifyingProofs c representatives content (lines_of proofs)) → length proofs ≤ max_text_bytes
    → length (report_text c representatives (Some content.budget) content.saids) ≤ max_text_bytes
    → AreValid c representatives content.start tests
    (report_text c representatives (Some content.budget) content.saids) proofs
    (record content { entries = justifying.entries })
followed_is_valid c representatives tests proofs content circuit classes names budget vectors many is few short =
    record {
      stated = refl;
      vectors = vectors;
      reported = written_is_report c representatives content.budget content.saids circuit classes names
          (record {
            budget_is = budget;
            listed = omega arith;
            saids_are = record {
              each = is.each;
              sayable = λ i inside own. agreed_sayable c content.start content.list i (said_at content.saids i) many
                  (is.justified.agrees i (record { listed = inside; own = own }));
            };
          }) short;
      proved = record { format = is.format; are = is.are; lines = is.lines_are; short = few };
      justified = is.justified;
    }
