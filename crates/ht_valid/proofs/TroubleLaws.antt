-- Valid files have no first trouble, and files have at most one; so it is where no report is there.
use Rattle.std.proofs.Common.{◌≡◌, ◌∙◌, ◌-◌, ℕ, Bool, List, [], ◌∷◌, ◌++◌, Option, Some, None, inl, inr, take, length, length-append, refl, sym, ap, subst, arith}
use Rattle.std.specs.List.{All}
use Rattle.std.proofs.lemmas.List.{same_from_push}
use Rattle.std.proofs.lemmas.List.Elements.{All-cons, All-head, All-nil, All-tail}
use Rattle.ht_ports.specs.LineRule.{lines_of}
use Rattle.ht_tern.specs.declared.tern.Tern.{Tern}
use Rattle.ht_net.specs.Circuit.Netlist.{IsCircuit, Netlist}
use Rattle.ht_texts.specs.Tests.{IsTestText, IsWrongLine, line_at}
use Rattle.ht_texts.specs.SearchReports.{IsReportText}
use Rattle.ht_texts.specs.Verdicts.{said_at}
use Rattle.ht_texts.specs.WrongLines.{IsFirst}
use Rattle.ht_texts.proofs.ReportFrontLaws.{one_report}
use Rattle.ht_texts.proofs.TestLaws.{never_both, one_list}
use Rattle.ht_texts.proofs.WrongLineLaws.{one_first as one_least}
use Rattle.ht_entries.specs.declared.numbered.Numbered.{Numbered}
use Rattle.ht_entries.specs.EntryTexts.{IsProofText}
use Rattle.ht_entries.specs.MalformedProofs.{IsWrongProofLine}
use Rattle.ht_entries.specs.ProofReading.{ProofReading, EndsEntry, closed_of}
use Rattle.ht_entries.proofs.MalformedLaws.{one_place}
use Rattle.ht_valid.specs.declared.trouble.Trouble.{Trouble}
use Rattle.ht_valid.specs.declared.trouble.Trouble.TheVariants.{Tests, Report, Proofs, Fault}
use Rattle.ht_valid.specs.FirstTrouble.{AreReadTo, EndsWithLine, EndsWrongEntry, IsEvidence, IsFaultTrouble, IsFirstFault, IsFirstProofLine, IsFirstTrouble, IsFirstUnjustified, IsMissing, IsProofTrouble, IsReportTrouble, IsTroubleAt, LeavesMissing}
use Rattle.ht_valid.specs.ValidFiles.{AgreesWithTests, AreValid, Backs, Content, IsBacking, IsJustified, IsOwn, NeedsEntry}
use Rattle.ht_valid.proofs.ProofTroubleLaws.{backings_are_evidence, none_ends_unproved, nothing_wrong, text_is_not_malformed}
use Rattle.ht_valid.proofs.ReportTroubleLaws.{report_is_right}

-- one number is the least
one_first : (P Q : ℕ → Type 0) (n m : ℕ) → ((k : ℕ) → P k → Q k) → ((k : ℕ) → Q k → P k) → IsFirst P n → IsFirst Q m
    → n ≡ m
one_first P Q n m to back a b =
    one_least P n m a (record { wrong = back m b.wrong; first = λ k less wrong. b.first k less (to k wrong) })

-- two troubles with an entry that come at the same lines come first at the same one
module _ (A B : List (List ℕ) → List ℕ → ℕ → Type 0)
    (on : (before : List (List ℕ)) (line : List ℕ) (number : ℕ) → A before line number → B before line number)
    (back : (before : List (List ℕ)) (line : List ℕ) (number : ℕ) → B before line number → A before line number)
    (text : List ℕ) where
  here_too : (P Q : List (List ℕ) → List ℕ → ℕ → Type 0)
      → ((before : List (List ℕ)) (line : List ℕ) (number : ℕ) → P before line number → Q before line number)
      → (n : ℕ) → IsProofTrouble P text n → IsProofTrouble Q text n
  here_too P Q to n (inl malformed) = inl malformed
  here_too P Q to n (inr (number, at)) = inr (
    number,
    record {
      counted = at.counted;
      trouble = to (take (n - 1) (lines_of text)) (line_at text n) number at.trouble;
    },
  )

  one_line : (n m : ℕ) → IsFirst (IsProofTrouble A text) n → IsFirst (IsProofTrouble B text) m → n ≡ m
  one_line n m = one_first (IsProofTrouble A text) (IsProofTrouble B text) n m (here_too A B on) (here_too B A back)

  malformed_or_wrong : (n number : ℕ) → IsFirstProofLine A text n → ¬ IsFirstFault B text number
  malformed_or_wrong n number line fault =
      fault.well_formed (subst (IsWrongProofLine text) (one_line n fault.line line.first fault.first)
      line.malformed)

  one_fault : ((before : List (List ℕ)) (line : List ℕ) (m n : ℕ) → B before line m → B before line n → m ≡ n)
      → (m n : ℕ) → IsFirstFault A text m → IsFirstFault B text n → m ≡ n
  one_fault one m n of_a of_b =
      let line = one_line of_a.line of_b.line of_a.first of_b.first in
      let other = subst (λ k. IsTroubleAt A text k m) line of_a.wrong in
      one (take (of_b.line - 1) (lines_of text)) (line_at text of_b.line) m n
      (on (take (of_b.line - 1) (lines_of text)) (line_at text of_b.line) m other.trouble) of_b.wrong.trouble

abbrev number_in : Option Numbered → ℕ
number_in None = 0
number_in (Some e) = e.number

-- ---- contents that say the same

module _ (c : Netlist) (representatives : List ℕ) where
  -- the same start and budget, and the same said of each representative
  pub record Same (a b : Content) : Type 0 where
    pub start : a.start ≡ b.start
    pub budget : a.budget ≡ b.budget
    pub said : (i : ℕ) → IsOwn c representatives i → said_at a.saids i ≡ said_at b.saids i

  turned : (a b : Content) → Same a b → Same b a
  turned a b same = record {
    start = sym same.start;
    budget = sym same.budget;
    said = λ i own. sym (same.said i own);
  }

  -- a report says one thing
  reads_same : (report : List ℕ) (a b : Content) → IsCircuit c → a.start ≡ b.start
      → IsReportText c representatives report a.budget a.saids
      → IsReportText c representatives report b.budget b.saids → Same a b
  reads_same report a b circuit stated of_a of_b =
      let same = one_report c representatives (lines_of report) a.budget b.budget a.saids b.saids circuit of_a.report
      of_b.report in
      record { start = stated; budget = same.budgets; said = λ i own. same.verdicts i own.own }

  backing_same : (a b : Content) (e : Numbered) → Same a b → IsBacking c representatives a e
      → IsBacking c representatives b e
  backing_same a b e same backing =
      let i = e.number - 1 in record {
        own = backing.own;
        counted = backing.counted;
        backs = subst (Backs c b.start b.budget i e.entry) (same.said i backing.own)
            (subst (λ budget. Backs c b.start budget i e.entry (said_at a.saids i)) same.budget
            (subst (λ start. Backs c start a.budget i e.entry (said_at a.saids i)) same.start backing.backs));
      }

  backings_same : (a b : Content) (all : List Numbered) → Same a b → All (IsBacking c representatives a) all
      → All (IsBacking c representatives b) all
  backings_same a b [] same backed = All-nil (IsBacking c representatives b)
  backings_same a b (e ∷ all) same backed =
      All-cons (IsBacking c representatives b) e all
      (backing_same a b e same (All-head (IsBacking c representatives a) e all backed))
      (backings_same a b all same (All-tail (IsBacking c representatives a) e all backed))

  missing_same : (a b : Content) (at : ProofReading) (i : ℕ) → Same a b → IsMissing c representatives a at i
      → IsMissing c representatives b at i
  missing_same a b at i same missing = record {
    own = missing.own;
    needs = subst NeedsEntry (same.said i missing.own) missing.needs;
    due = missing.due;
    none = missing.none;
  }

  fault_same : (a b : Content) → Same a b → (before : List (List ℕ)) (line : List ℕ) (number : ℕ)
      → IsFaultTrouble c representatives a before line number → IsFaultTrouble c representatives b before line number
  fault_same a b same before line number (inl wrong) = inl (record {
    new = wrong.new;
    ended = wrong.ended;
    reads = wrong.reads;
    number_is = wrong.number_is;
    wrong = λ backing. wrong.wrong (backing_same b a wrong.ended (turned a b same) backing);
  })
  fault_same a b same before line number (inr leaves) = inr (record {
    new = leaves.new;
    ended = leaves.ended;
    reads = leaves.reads;
    right = λ e is. backing_same a b e same (leaves.right e is);
    counted = leaves.counted;
    missing = record {
      wrong = missing_same a b leaves.new (number - 1) same leaves.missing.wrong;
      first = λ m less missing. leaves.missing.first m less
          (missing_same b a leaves.new m (turned a b same) missing);
    };
  })

-- ---- one number at a line

-- a line ends one entry or none
one_ended : (old new : ProofReading) (x y : Option Numbered) → EndsEntry old new x → EndsEntry old new y → x ≡ y
one_ended old new None None a b = refl
one_ended old new None (Some e) a b =
    absurd (omega (arith, ap length (sym a ∙ b), length-append (closed_of old) (e ∷ [])))
one_ended old new (Some e) None a b =
    absurd (omega (arith, ap length (sym b ∙ a), length-append (closed_of old) (e ∷ [])))
one_ended old new (Some e) (Some f) a b =
    ap Some (same_from_push (closed_of old) (closed_of old) e f (sym a ∙ b)).1

module _ (before : List (List ℕ)) (line : List ℕ) where
  one_new : (a b : ProofReading) (x y : Option Numbered) → EndsWithLine before line a x → EndsWithLine before line b y
      → a ≡ b
  one_new a b x y of_a of_b = one_place (before ++ line ∷ []) a b of_a.to of_b.to

  ends_one : (a b : ProofReading) (x y : Option Numbered) → EndsWithLine before line a x
      → EndsWithLine before line b y → x ≡ y
  ends_one a b x y of_a of_b =
      one_ended of_a.old a x y of_a.ends
      (subst (λ old. EndsEntry old a y) (one_place before of_b.old of_a.old of_b.from of_a.from)
      (subst (λ new. EndsEntry of_b.old new y) (one_new b a y x of_b of_a) of_b.ends))

  one_wrong : (P : Numbered → Type 0) (m n : ℕ) → EndsWrongEntry P before line m → EndsWrongEntry P before line n
      → m ≡ n
  one_wrong P m n a b =
      let same : Some a.ended ≡ Some b.ended =
      ends_one a.new b.new (Some a.ended) (Some b.ended) a.reads b.reads in
      a.number_is ∙ (ap number_in same ∙ sym b.number_is)

  module _ (c : Netlist) (representatives : List ℕ) (content : Content) where
    never_both_wrong : (m n : ℕ) → EndsWrongEntry (IsBacking c representatives content) before line m
        → ¬ LeavesMissing c representatives content before line n
    never_both_wrong m n wrong leaves =
        wrong.wrong (leaves.right wrong.ended
        (ends_one leaves.new wrong.new leaves.ended (Some wrong.ended) leaves.reads wrong.reads))

    one_number : (m n : ℕ) → IsFaultTrouble c representatives content before line m
        → IsFaultTrouble c representatives content before line n → m ≡ n
    one_number m n (inl a) (inl b) = one_wrong (IsBacking c representatives content) m n a b
    one_number m n (inl a) (inr b) = absurd (never_both_wrong m n a b)
    one_number m n (inr a) (inl b) = absurd (never_both_wrong n m b a)
    one_number m n (inr a) (inr b) =
        let same = one_new a.new b.new a.ended b.ended a.reads b.reads in
        let less = one_first (IsMissing c representatives content a.new) (IsMissing c representatives content b.new)
        (m - 1) (n - 1) (λ k missing. subst (λ at. IsMissing c representatives content at k) same missing)
        (λ k missing. subst (λ at. IsMissing c representatives content at k) (sym same) missing) a.missing b.missing in
        let some = a.counted in
        let other = b.counted in
        omega (arith, less, some, other)

-- ---- valid files

module _ (c : Netlist) (representatives : List ℕ) (start : List Tern) (tests report proofs : List ℕ)
    (circuit : IsCircuit c) where
  -- the report of tests has nothing wrong beside the same tests
  report_right : (list other : List (List Bool)) (content : Content) (n : ℕ) → content.start ≡ start
      → content.list ≡ list
      → IsTestText c tests list → IsTestText c tests other
      → IsReportText c representatives report content.budget content.saids
      → ((i : ℕ) → IsOwn c representatives i → AgreesWithTests c content.start content.list i (said_at content.saids i))
      → ¬ IsFirst (IsReportTrouble c representatives start other report) n
  report_right list other content n stated of_content is is_other reported agrees =
      let same : content.list ≡ other =
      of_content ∙ one_list c tests list other is is_other in
      report_is_right c representatives start other report content.budget content.saids n circuit reported
      (λ i own. subst (λ l. AgreesWithTests c start l i (said_at content.saids i)) same
      (subst (λ s. AgreesWithTests c s content.list i (said_at content.saids i)) stated (agrees i own)))

  -- valid files have no first trouble
  pub valid_has_no_trouble : (content : Content) (trouble : Trouble)
      → AreValid c representatives start tests report proofs content
      → ¬ IsFirstTrouble c representatives start tests report proofs trouble
  valid_has_no_trouble content (Tests n) valid trouble =
      never_both c tests content.list n valid.vectors trouble
  valid_has_no_trouble content (Report n) valid trouble =
      report_right content.list trouble.0 content n valid.stated refl valid.vectors trouble.1 valid.reported
      valid.justified.agrees trouble.2
  valid_has_no_trouble content (Proofs n) valid trouble =
      text_is_not_malformed proofs content.entries n valid.proved trouble.2.malformed
  valid_has_no_trouble content (Fault number) valid trouble =
      let other = trouble.0 in
      let first = trouble.2 in
      let same = reads_same c representatives report content other circuit
      (valid.stated ∙ sym trouble.1.stated) valid.reported trouble.1.reported in
      nothing_wrong content.entries proofs first.line valid.proved c representatives other number
      (backings_same c representatives content other content.entries same valid.justified.backed)
      (λ i own needs. valid.justified.complete i own (subst NeedsEntry (sym (same.said i own)) needs)) first.wrong

  -- ---- one trouble

  report_before : (content : Content) (n : ℕ) (list : List (List Bool)) → IsTestText c tests list
      → IsFirst (IsReportTrouble c representatives start list report) n
      → ¬ AreReadTo c representatives start tests report content
  report_before content n list is first read =
      report_right content.list list content n read.stated refl read.vectors is read.reported read.agrees first

  module _ (a b : Content) (read_a : AreReadTo c representatives start tests report a)
      (read_b : AreReadTo c representatives start tests report b) where
    read_same : Same c representatives a b
    read_same =
        reads_same c representatives report a b circuit (read_a.stated ∙ sym read_b.stated) read_a.reported
        read_b.reported

    on_read : (before : List (List ℕ)) (line : List ℕ) (number : ℕ)
        → IsFaultTrouble c representatives a before line number
        → IsFaultTrouble c representatives b before line number
    on_read = fault_same c representatives a b read_same

    back_read : (before : List (List ℕ)) (line : List ℕ) (number : ℕ)
        → IsFaultTrouble c representatives b before line number
        → IsFaultTrouble c representatives a before line number
    back_read = fault_same c representatives b a (turned c representatives a b read_same)

    one_line_read : (n m : ℕ) → IsFirst (IsProofTrouble (IsFaultTrouble c representatives a) proofs) n
        → IsFirst (IsProofTrouble (IsFaultTrouble c representatives b) proofs) m → n ≡ m
    one_line_read = one_line (IsFaultTrouble c representatives a) (IsFaultTrouble c representatives b) on_read
        back_read proofs

    malformed_or_wrong_read : (n number : ℕ) → IsFirstProofLine (IsFaultTrouble c representatives a) proofs n
        → ¬ IsFirstFault (IsFaultTrouble c representatives b) proofs number
    malformed_or_wrong_read = malformed_or_wrong (IsFaultTrouble c representatives a)
        (IsFaultTrouble c representatives b) on_read back_read proofs

    one_fault_read : (m n : ℕ) → IsFirstFault (IsFaultTrouble c representatives a) proofs m
        → IsFirstFault (IsFaultTrouble c representatives b) proofs n → m ≡ n
    one_fault_read = one_fault (IsFaultTrouble c representatives a) (IsFaultTrouble c representatives b) on_read
        back_read proofs (λ before line. one_number before line c representatives b)

  -- files have one first trouble at most
  pub one_trouble : (t u : Trouble) → IsFirstTrouble c representatives start tests report proofs t
      → IsFirstTrouble c representatives start tests report proofs u → t ≡ u
  one_trouble (Tests n) (Tests m) a b = ap Tests (one_least (IsWrongLine c tests) n m a b)
  one_trouble (Tests n) (Report m) a b = absurd (never_both c tests b.0 n b.1 a)
  one_trouble (Tests n) (Proofs m) a b = absurd (never_both c tests b.0.list n b.1.vectors a)
  one_trouble (Tests n) (Fault m) a b = absurd (never_both c tests b.0.list n b.1.vectors a)
  one_trouble (Report n) (Tests m) a b = absurd (never_both c tests a.0 m a.1 b)
  one_trouble (Report n) (Report m) a b =
      let same = one_list c tests a.0 b.0 a.1 b.1 in
      ap Report (one_first (IsReportTrouble c representatives start a.0 report)
      (IsReportTrouble c representatives start b.0 report)
      n m (λ k wrong. subst (λ l. IsReportTrouble c representatives start l report k) same wrong)
      (λ k wrong. subst (λ l. IsReportTrouble c representatives start l report k) (sym same) wrong) a.2 b.2)
  one_trouble (Report n) (Proofs m) a b = absurd (report_before b.0 n a.0 a.1 a.2 b.1)
  one_trouble (Report n) (Fault m) a b = absurd (report_before b.0 n a.0 a.1 a.2 b.1)
  one_trouble (Proofs n) (Tests m) a b = absurd (never_both c tests a.0.list m a.1.vectors b)
  one_trouble (Proofs n) (Report m) a b = absurd (report_before a.0 m b.0 b.1 b.2 a.1)
  one_trouble (Proofs n) (Proofs m) a b = ap Proofs (one_line_read a.0 b.0 a.1 b.1 n m a.2.first b.2.first)
  one_trouble (Proofs n) (Fault m) a b = absurd (malformed_or_wrong_read a.0 b.0 a.1 b.1 n m a.2 b.2)
  one_trouble (Fault n) (Tests m) a b = absurd (never_both c tests a.0.list m a.1.vectors b)
  one_trouble (Fault n) (Report m) a b = absurd (report_before a.0 m b.0 b.1 b.2 a.1)
  one_trouble (Fault n) (Proofs m) a b = absurd (malformed_or_wrong_read b.0 a.0 b.1 a.1 m n b.2 a.2)
  one_trouble (Fault n) (Fault m) a b = ap Fault (one_fault_read a.0 b.0 a.1 b.1 n m a.2 b.2)

-- ---- where no report is there

-- tests and proofs that justify what a report may say have no first trouble without it
pub justified_has_no_trouble : (c : Netlist) (representatives tests proofs : List ℕ) (content : Content)
    (trouble : Trouble) → IsTestText c tests content.list → IsProofText content.entries proofs
    → IsJustified c representatives content
    → ¬ IsFirstUnjustified c representatives content.start content.budget tests proofs trouble
justified_has_no_trouble c representatives tests proofs content (Tests n) vectors proved is trouble =
    never_both c tests content.list n vectors trouble
justified_has_no_trouble c representatives tests proofs content (Report n) vectors proved is trouble = trouble
justified_has_no_trouble c representatives tests proofs content (Proofs n) vectors proved is trouble =
    text_is_not_malformed proofs content.entries n proved trouble.2.malformed
justified_has_no_trouble c representatives tests proofs content (Fault number) vectors proved is trouble =
    let first = trouble.2 in
    none_ends_unproved content.entries proofs first.line proved c representatives content.start trouble.0
    content.budget number
    (subst (λ list. All (IsEvidence c representatives content.start list content.budget) content.entries)
    (one_list c tests content.list trouble.0 vectors trouble.1)
    (backings_are_evidence c representatives content content.entries is.agrees is.backed)) first.wrong

module _ (c : Netlist) (representatives : List ℕ) (start : List Tern) (budget : ℕ) (tests proofs : List ℕ) where
  -- an entry that is no evidence ends with the line
  abbrev WrongWith : List (List Bool) → List (List ℕ) → List ℕ → ℕ → Type 0
  WrongWith list = EndsWrongEntry (IsEvidence c representatives start list budget)

  list_same : (a b : List (List Bool)) → IsTestText c tests a → IsTestText c tests b → (before : List (List ℕ))
      (line : List ℕ) (number : ℕ) → WrongWith a before line number → WrongWith b before line number
  list_same a b is other before line number =
      subst (λ list. WrongWith list before line number) (one_list c tests a b is other)

  -- tests and proofs without a report have one first trouble at most
  pub one_unjustified : (t u : Trouble) → IsFirstUnjustified c representatives start budget tests proofs t
      → IsFirstUnjustified c representatives start budget tests proofs u → t ≡ u
  one_unjustified (Tests n) (Tests m) a b = ap Tests (one_least (IsWrongLine c tests) n m a b)
  one_unjustified (Tests n) (Report m) a b = absurd b
  one_unjustified (Tests n) (Proofs m) a b = absurd (never_both c tests b.0 n b.1 a)
  one_unjustified (Tests n) (Fault m) a b = absurd (never_both c tests b.0 n b.1 a)
  one_unjustified (Report n) u a b = absurd a
  one_unjustified (Proofs n) (Tests m) a b = absurd (never_both c tests a.0 m a.1 b)
  one_unjustified (Proofs n) (Report m) a b = absurd b
  one_unjustified (Proofs n) (Proofs m) a b =
      ap Proofs (one_line (WrongWith a.0) (WrongWith b.0) (list_same a.0 b.0 a.1 b.1) (list_same b.0 a.0 b.1 a.1)
      proofs n m a.2.first b.2.first)
  one_unjustified (Proofs n) (Fault m) a b =
      absurd (malformed_or_wrong (WrongWith a.0) (WrongWith b.0) (list_same a.0 b.0 a.1 b.1)
      (list_same b.0 a.0 b.1 a.1) proofs n m a.2 b.2)
  one_unjustified (Fault n) (Tests m) a b = absurd (never_both c tests a.0 m a.1 b)
  one_unjustified (Fault n) (Report m) a b = absurd b
  one_unjustified (Fault n) (Proofs m) a b =
      absurd (malformed_or_wrong (WrongWith b.0) (WrongWith a.0) (list_same b.0 a.0 b.1 a.1)
      (list_same a.0 b.0 a.1 b.1) proofs m n b.2 a.2)
  one_unjustified (Fault n) (Fault m) a b =
      ap Fault (one_fault (WrongWith a.0) (WrongWith b.0) (list_same a.0 b.0 a.1 b.1) (list_same b.0 a.0 b.1 a.1)
      proofs (λ before line. one_wrong before line (IsEvidence c representatives start b.0 budget)) n m a.2 b.2)
