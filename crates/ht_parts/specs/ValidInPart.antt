-- When files are valid in a part: the form is that of valid files, and what they say of the classes of the part agrees,
-- with nothing of these missing.
use Rattle.std.specs.Prelude.{◌≡◌, ℕ, List, true}
use Rattle.std.specs.List.{All}
use Rattle.ht_tern.specs.declared.tern.Tern.{Tern}
use Rattle.ht_net.specs.Circuit.Netlist.{Netlist}
use Rattle.ht_texts.specs.Tests.{IsTestText}
use Rattle.ht_texts.specs.Verdicts.{said_at}
use Rattle.ht_texts.specs.SearchReports.{IsReportText}
use Rattle.ht_entries.specs.EntryTexts.{IsProofText}
use Rattle.ht_valid.specs.ValidFiles.{AgreesWithTests, Content, HasEntry, IsBacking, IsOwn, NeedsEntry}
use Rattle.ht_parts.specs.declared.part.Part.{Part}
use Rattle.ht_parts.specs.Parts.{is_in_part, part_content}

-- Of each representative of the part the report says what the vectors show from the start.
abbrev pub AgreeInPart : Netlist → List ℕ → Part → Content → Type 0
AgreeInPart c representatives part content = (i : ℕ) → IsOwn c representatives i
    → is_in_part representatives part i ≡ true
    → AgreesWithTests c content.start content.list i (said_at content.saids i)

-- What is said of the classes of the part is justified: it agrees with the vectors; each entry has the number of a
-- representative, and backs what is said of it if that is of the part; and none that these need is missing.
pub record IsJustifiedInPart (c : Netlist) (representatives : List ℕ) (part : Part)
    (content : Content) : Type 0 where
  pub agrees : AgreeInPart c representatives part content
  pub backed : All (IsBacking c representatives (part_content representatives part content))
      content.entries
  pub complete : (i : ℕ) → IsOwn c representatives i
      → NeedsEntry (said_at (part_content representatives part content).saids i)
      → HasEntry content.entries i

-- The content is of the start; the tests are vectors of the circuit; the report has one line for each listed fault; the
-- proofs hold the entries; and what is said of the classes of the part is justified.
pub record AreValidInPart (c : Netlist) (representatives : List ℕ) (part : Part) (start : List Tern)
    (tests report proofs : List ℕ) (content : Content) : Type 0 where
  pub stated : content.start ≡ start
  pub vectors : IsTestText c tests content.list
  pub reported : IsReportText c representatives report content.budget content.saids
  pub proved : IsProofText content.entries proofs
  pub justified : IsJustifiedInPart c representatives part content

-- some content makes them valid in the part
abbrev pub AreValidFilesInPart : Netlist → List ℕ → Part → List Tern → List ℕ → List ℕ → List ℕ
    → Type 0
AreValidFilesInPart c representatives part start tests report proofs =
    (content : Content) × AreValidInPart c representatives part start tests report proofs content
