-- Files are valid exactly where they are valid in each part.
use Rattle.std.proofs.Common.{◌≡◌, ◌∙◌, ◌<◌, ◌-◌, ◌↔◌, ℕ, true, List, inl, inr, map, length, get_or, sym, subst, arith}
use Rattle.std.specs.List.{All}
use Rattle.std.proofs.lemmas.Bool.{cases_Bool}
use Rattle.ht_tern.specs.declared.tern.Tern.{Tern}
use Rattle.ht_net.specs.Circuit.Netlist.{IsCircuit, Netlist}
use Rattle.ht_faults.specs.Sites.{faults_of}
use Rattle.ht_faults.specs.Classes.{AreClasses}
use Rattle.ht_texts.specs.Verdicts.{said_at}
use Rattle.ht_texts.specs.ReportReading.{SameSearch}
use Rattle.ht_texts.proofs.ReportFrontLaws.{one_report}
use Rattle.ht_texts.proofs.TestLaws.{one_list}
use Rattle.ht_ports.specs.LineRule.{lines_of}
use Rattle.ht_entries.specs.declared.numbered.Numbered.{Numbered}
use Rattle.ht_entries.specs.EntryTexts.{as_read}
use Rattle.ht_entries.proofs.ReadLaws.{one_list as one_list_of_entries}
use Rattle.ht_valid.specs.ValidFiles.{AgreesWithTests, AreValid, AreValidFiles, Backs, Content, HasEntry, IsBacking, IsOwn, NeedsEntry}
use Rattle.ht_parts.specs.declared.part.Part.{Part}
use Rattle.ht_parts.specs.Parts.{is_in_part, part_content}
use Rattle.ht_parts.specs.ValidInPart.{AreValidFilesInPart, AreValidInPart}
use Rattle.ht_parts.proofs.AsReadLaws.{all_back_as_read, has_as_read, text_as_read}
use Rattle.ht_parts.proofs.MemberLaws.{said_of_member, said_of_other}
use Rattle.ht_parts.proofs.OnePartLaws.{its_part}

-- ---- from the whole to a part

module _ (c : Netlist) (representatives : List ℕ) (part : Part) (content : Content)
    (each : length content.saids ≡ length (faults_of c)) where
  backs_in_part : (e : Numbered) → IsBacking c representatives content e
      → IsBacking c representatives (part_content representatives part content) e
  backs_in_part e is =
      let i = e.number - 1 in
      let listed = is.own.listed in
      let inside : i < length content.saids = omega (arith, listed, each) in record {
        own = is.own;
        counted = is.counted;
        backs = elim (cases_Bool (is_in_part representatives part i)) [
          | inl member ↦ subst (Backs c content.start content.budget i e.entry)
              (sym (said_of_member representatives part content.saids i inside member)) is.backs
          | inr other ↦ subst (Backs c content.start content.budget i e.entry)
              (sym (said_of_other representatives part content.saids i inside other)) tt
        ];
      }

  all_back_in_part : (entries : List Numbered) → All (IsBacking c representatives content) entries
      → All (IsBacking c representatives (part_content representatives part content)) entries
  all_back_in_part entries are k d inside = backs_in_part (get_or entries k d) (are k d inside)

  complete_in_part : ((i : ℕ) → IsOwn c representatives i → NeedsEntry (said_at content.saids i)
      → HasEntry content.entries i) → (i : ℕ) → IsOwn c representatives i
      → NeedsEntry (said_at (part_content representatives part content).saids i) → HasEntry content.entries i
  complete_in_part complete i own needs =
      let listed = own.listed in
      let inside : i < length content.saids = omega (arith, listed, each) in
      elim (cases_Bool (is_in_part representatives part i)) [
        | inl member ↦ complete i own
            (subst NeedsEntry (said_of_member representatives part content.saids i inside member) needs)
        | inr other ↦ absurd
            (subst NeedsEntry (said_of_other representatives part content.saids i inside other) needs)
      ]

-- valid files are valid in each part
valid_in_part : (c : Netlist) (representatives : List ℕ) (part : Part) (start : List Tern)
    (tests report proofs : List ℕ) (content : Content)
    → AreValid c representatives start tests report proofs content
    → AreValidInPart c representatives part start tests report proofs content
valid_in_part c representatives part start tests report proofs content valid =
    let each = valid.reported.report.search.saids_are.each in record {
      stated = valid.stated;
      vectors = valid.vectors;
      reported = valid.reported;
      proved = valid.proved;
      justified = record {
        agrees = λ i own member. valid.justified.agrees i own;
        backed = all_back_in_part c representatives part content each content.entries valid.justified.backed;
        complete = complete_in_part c representatives part content each valid.justified.complete;
      };
    }

-- ---- from all parts to the whole

module _ (c : Netlist) (representatives : List ℕ) (start : List Tern) (tests report proofs : List ℕ) (count : ℕ)
    (circuit : IsCircuit c) (some : 0 < count)
    (parts : (index : ℕ) → index < count → AreValidFilesInPart c representatives
    (record { index = index; count = count }) start tests report proofs) where
  -- what the files say, as the first part has it, with the entries as a reader gives them
  abbrev first : Content
  first = (parts 0 some).0

  abbrev whole : Content
  whole = record first { entries = map as_read first.entries }

  -- What the part says in which a representative is, beside the first part.
  pub record SaysOf (i : ℕ) : Type 0 where
    pub part : Part
    pub content : Content
    pub valid : AreValidInPart c representatives part start tests report proofs content
    pub own : IsOwn c representatives i
    pub member : is_in_part representatives part i ≡ true
    pub start_is : content.start ≡ first.start
    pub list_is : content.list ≡ first.list
    pub same : SameSearch representatives content.budget first.budget content.saids first.saids
    pub entries_are : map as_read content.entries ≡ map as_read first.entries

  says_of : (i : ℕ) → IsOwn c representatives i → SaysOf i
  says_of i own =
      let its = its_part representatives i count own.own some in
      let here = parts its.0 its.1.counted in
      let begin = parts 0 some in record {
        part = record { index = its.0; count = count };
        content = here.0;
        valid = here.1;
        own = own;
        member = its.1.own;
        start_is = here.1.stated ∙ sym begin.1.stated;
        list_is = one_list c tests (here.0).list (begin.0).list here.1.vectors begin.1.vectors;
        same = one_report c representatives (lines_of report) (here.0).budget (begin.0).budget (here.0).saids
            (begin.0).saids circuit here.1.reported.report begin.1.reported.report;
        entries_are = one_list_of_entries proofs (here.0).entries (begin.0).entries here.1.proved begin.1.proved;
      }

  said_is : (i : ℕ) (says : SaysOf i)
      → said_at (part_content representatives says.part says.content).saids i ≡ said_at first.saids i
  said_is i says =
      let listed = says.own.listed in
      let each = says.valid.reported.report.search.saids_are.each in
      said_of_member representatives says.part says.content.saids i (omega (arith, listed, each)) says.member
      ∙ says.same.verdicts i says.own.own

  agrees : (i : ℕ) → IsOwn c representatives i → AgreesWithTests c first.start first.list i (said_at first.saids i)
  agrees i own =
      let says = says_of i own in
      subst (AgreesWithTests c first.start first.list i) (says.same.verdicts i own.own)
      (subst (λ l. AgreesWithTests c first.start l i (said_at says.content.saids i)) says.list_is
      (subst (λ s. AgreesWithTests c s says.content.list i (said_at says.content.saids i)) says.start_is
      (says.valid.justified.agrees i own says.member)))

  -- the first part has each entry as a reader gives it
  backed_first : All (IsBacking c representatives (part_content representatives (record { index = 0; count = count })
      first)) (map as_read first.entries)
  backed_first = all_back_as_read c representatives
      (part_content representatives (record { index = 0; count = count }) first) first.entries
      (parts 0 some).1.justified.backed

  backed : All (IsBacking c representatives whole) (map as_read first.entries)
  backed k d inside =
      let e = get_or (map as_read first.entries) k d in
      let own = (backed_first k d inside).own in
      let i = e.number - 1 in
      let says = says_of i own in
      let content = part_content representatives says.part says.content in
      let all : All (IsBacking c representatives content) (map as_read first.entries) =
      subst (All (IsBacking c representatives content)) says.entries_are
      (all_back_as_read c representatives content says.content.entries says.valid.justified.backed) in
      let here = all k d inside in record {
        own = own;
        counted = here.counted;
        backs = subst (Backs c first.start first.budget i e.entry) (said_is i says)
            (subst (λ b. Backs c first.start b i e.entry (said_at content.saids i)) says.same.budgets
            (subst (λ s. Backs c s says.content.budget i e.entry (said_at content.saids i)) says.start_is
            here.backs));
      }

  complete : (i : ℕ) → IsOwn c representatives i → NeedsEntry (said_at first.saids i)
      → HasEntry (map as_read first.entries) i
  complete i own needs =
      let says = says_of i own in
      subst (λ l. HasEntry l i) says.entries_are
      (has_as_read says.content.entries i
      (says.valid.justified.complete i own (subst NeedsEntry (sym (said_is i says)) needs)))

  valid_whole : AreValid c representatives start tests report proofs whole
  valid_whole = record {
    stated = (parts 0 some).1.stated;
    vectors = (parts 0 some).1.vectors;
    reported = (parts 0 some).1.reported;
    proved = text_as_read first.entries proofs (parts 0 some).1.proved;
    justified = record { agrees = agrees; backed = backed; complete = complete };
  }

  -- files that are valid in each part are valid
  pub valid_files : AreValidFiles c representatives start tests report proofs
  valid_files = (whole, valid_whole)

-- files are valid exactly where they are so in each part
pub valid_in_each : (c : Netlist) (representatives : List ℕ) (start : List Tern) (tests report proofs : List ℕ)
    (count : ℕ) → IsCircuit c → AreClasses c representatives → 0 < count
    → AreValidFiles c representatives start tests report proofs ↔ ((index : ℕ) → index < count
    → AreValidFilesInPart c representatives (record { index = index; count = count }) start tests report proofs)
valid_in_each c representatives start tests report proofs count circuit classes some = (
  λ files index below. (
    files.0,
    valid_in_part c representatives (record { index = index; count = count }) start tests report proofs files.0
        files.1,
  ),
  valid_files c representatives start tests report proofs count circuit some,
)
