-- The first trouble of tests, a report and proofs for a part: that of all files, where a line of the report or an entry is
-- wrong by what it says only if it is of a representative of the part.
use Rattle.std.specs.Prelude.{◌≡◌, ◌⊎◌, ℕ, List, [], Bool, true, take}
use Rattle.ht_ports.specs.LineRule.{lines_of}
use Rattle.ht_tern.specs.declared.tern.Tern.{Tern}
use Rattle.ht_net.specs.Circuit.Netlist.{Netlist}
use Rattle.ht_texts.specs.Tests.{IsTestText, IsMalformedTest}
use Rattle.ht_texts.specs.WrongLines.{IsFirst}
use Rattle.ht_texts.specs.SearchReports.{IsReportText, IsWrongReportLine}
use Rattle.ht_valid.specs.declared.trouble.Trouble.{Trouble}
use Rattle.ht_valid.specs.declared.trouble.Trouble.TheVariants.{Tests, Report, Proofs, Fault}
use Rattle.ht_valid.specs.ValidFiles.{Content}
use Rattle.ht_valid.specs.FirstTrouble.{ContradictsTests, IsFaultTrouble, IsFirstFault, IsFirstProofLine}
use Rattle.ht_parts.specs.declared.part.Part.{Part}
use Rattle.ht_parts.specs.Parts.{is_in_part, part_content}
use Rattle.ht_parts.specs.ValidInPart.{AgreeInPart}

-- The last of these lines of a report says of a fault of the part what the vectors from the start contradict.
pub record ContradictsInPart (c : Netlist) (representatives : List ℕ) (part : Part)
    (start : List Tern) (list : List (List Bool)) (lines : List (List ℕ)) : Type 0 where
  pub line : ContradictsTests c representatives start list lines
  pub own : is_in_part representatives part line.fault ≡ true

-- line n of the report is malformed, or contradicts the tests and is of the part
abbrev pub IsReportTroubleInPart : Netlist → List ℕ → Part → List Tern → List (List Bool)
    → List ℕ → ℕ → Type 0
IsReportTroubleInPart c representatives part start list text n =
    IsWrongReportLine c representatives text n
    ⊎ ContradictsInPart c representatives part start list (take n (lines_of text))

-- with the line, the entry of this number is wrong by what the report says of the classes of the part, or is missing
abbrev pub IsFaultTroubleInPart : Netlist → List ℕ → Part → Content → List (List ℕ) → List ℕ
    → ℕ → Type 0
IsFaultTroubleInPart c representatives part content =
    IsFaultTrouble c representatives (part_content representatives part content)

-- The tests and the report are as files have them that are valid in the part, from the start. The entries of the content
-- are those of the proofs, which are still to come: there are none.
pub record AreReadToInPart (c : Netlist) (representatives : List ℕ) (part : Part)
    (start : List Tern) (tests report : List ℕ) (content : Content) : Type 0 where
  pub stated : content.start ≡ start
  pub vectors : IsTestText c tests content.list
  pub reported : IsReportText c representatives report content.budget content.saids
  pub agrees : AgreeInPart c representatives part content
  pub none : content.entries ≡ []

-- The files aren't valid in the part, and this is their first trouble in the order in which they are read.
abbrev pub IsFirstTroubleInPart : Netlist → List ℕ → Part → List Tern → List ℕ → List ℕ → List ℕ
    → Trouble → Type 0
IsFirstTroubleInPart c representatives part start tests report proofs (Tests line) =
    IsMalformedTest c tests line
IsFirstTroubleInPart c representatives part start tests report proofs (Report line) =
    (list : List (List Bool)) × IsTestText c tests list
    × IsFirst (IsReportTroubleInPart c representatives part start list report) line
IsFirstTroubleInPart c representatives part start tests report proofs (Proofs line) =
    (content : Content)
    × AreReadToInPart c representatives part start tests report content
    × IsFirstProofLine (IsFaultTroubleInPart c representatives part content) proofs line
IsFirstTroubleInPart c representatives part start tests report proofs (Fault number) =
    (content : Content)
    × AreReadToInPart c representatives part start tests report content
    × IsFirstFault (IsFaultTroubleInPart c representatives part content) proofs number
