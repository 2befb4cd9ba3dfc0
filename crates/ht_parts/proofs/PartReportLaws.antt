-- What a judge of reports for a part owes: a line that is taken, one that isn't, and the end.
use Rattle.std.proofs.Common.{◌≡◌, ◌∙◌, ◌<◌, ◌+◌, ℕ, Bool, true, false, List, [], ◌∷◌, ◌++◌, Option, Some, Ok, Err, inl, inr, length, length-append, get_or, refl, sym, ap, subst, arith}
use Rattle.std.specs.Prelude.{IsTrue}
use Rattle.std.proofs.lemmas.Bool.{cases_Bool, cases_lt, false≢true}
use Rattle.ht_tern.specs.declared.tern.Tern.{Tern}
use Rattle.ht_net.specs.declared.place.Place.{Place}
use Rattle.ht_net.specs.Circuit.Netlist.{Netlist}
use Rattle.ht_faults.specs.Sites.{faults_of}
use Rattle.ht_texts.specs.declared.item.Item.{Item}
use Rattle.ht_texts.specs.declared.item.Item.TheVariants.{Head, Verdict, Member, Total}
use Rattle.ht_texts.specs.declared.malformed_line.MalformedLine.{MalformedLine}
use Rattle.ht_texts.specs.declared.said.Said.{Said}
use Rattle.ht_texts.specs.declared.said.Said.TheVariants.{Undetected}
use Rattle.ht_texts.specs.Verdicts.{said_at}
use Rattle.ht_texts.specs.SearchReports.{IsBudget, IsSearchReport}
use Rattle.ht_texts.specs.ReportReading.{ReportReading, before_report, after_report, ReportReadsTo, last_item, read_on}
use Rattle.ht_texts.specs.ReportStands.{EndsReport, ReportView, ReportStands, ReportCalled, new_report}
use Rattle.ht_texts.proofs.SaidLaws.{said_before, said_last}
use Rattle.ht_proofs.specs.Detections.{AreFirstDetections, place_at}
use Rattle.ht_valid.specs.ValidFiles.{AgreesWithTests}
use Rattle.ht_valid.specs.declared.trouble.Trouble.TheVariants.{Report}
use Rattle.ht_judge.specs.declared.judge_error.JudgeError.{JudgeError}
use Rattle.ht_judge.specs.declared.judge_error.JudgeError.TheVariants.{Denied}
use Rattle.ht_judge.specs.declared.report_judge.Claims.{Claims}
use Rattle.ht_judge.specs.ReportJudging.{KeepsSaid, budget_with, saids_in}
use Rattle.ht_judge.specs.ReportJudgeOf.{HasLines}
use Rattle.ht_judge.proofs.ReportLaws.{agrees_with_place, agrees_with_tests, budget_by, kept_on, next_member, next_verdict, starts}
use Rattle.ht_parts.specs.declared.part.Part.{Part}
use Rattle.ht_parts.specs.declared.part_report_judge.PartReportJudge.TheInside.{Inside}
use Rattle.ht_parts.specs.Parts.{is_in_part, part_members, part_saids}
use Rattle.ht_parts.specs.TroubleInPart.{ContradictsInPart}
use Rattle.ht_parts.specs.PartReportJudging.{AgreesIfMember, AreClaimedInPart, IsTrueReportInPart, JudgesPartReport, PartEndHasCause, PartReportJudged, PartReportView}
use Rattle.ht_parts.specs.PartReportJudgeOf.{KeepsPartReport, part_report_view}
use Rattle.ht_parts.proofs.MemberLaws.{flag_is_member, member_flag, member_is_own}

-- ---- before the first line

-- a judge with a new reader stands for no lines
pub new_judges : (a : Inside) (c : Netlist) (representatives : List ℕ) → a.reader ≡ new_report c representatives
    → a.saids.items ≡ [] → a.live ≡ true → length representatives ≡ length (faults_of c) → (start : List Tern)
    (list : List (List Bool)) → AreFirstDetections c representatives start list a.detections.now
    → JudgesPartReport (part_report_view a) start list []
new_judges a c representatives reader none live every start list first =
    let stands : ReportStands a.reader [] before_report =
    subst (λ (r : ReportView). ReportStands r [] before_report) (sym reader) (starts c representatives) in
    record {
      live = live;
      every = subst (λ (r : ReportView). length r.representatives ≡ length (faults_of r.circuit)) (sym reader) every;
      first = subst (λ (r : ReportView). AreFirstDetections r.circuit r.representatives start list a.detections.now)
          (sym reader) first;
      at = before_report;
      read = stands.read;
      kept = none;
      lines_read = stands.lines_read;
      sums = stands.sums;
      agree = λ i below own. absurd (omega (arith, below, ap length none));
    }

-- ---- what the next line says

module _ (c : Netlist) (representatives : List ℕ) (part : Part) (before : List (List ℕ)) (line : List ℕ)
    (every : length representatives ≡ length (faults_of c)) (start : List Tern) (list : List (List Bool))
    (places : List (Option Place)) (first : AreFirstDetections c representatives start list places) where
  -- what is said of the first faults of the part agrees with the vectors
  abbrev pub AgreeAll : List Said → Type 0
  AgreeAll saids = (i : ℕ) → i < length saids → is_in_part representatives part i ≡ true
      → AgreesWithTests c start list i (said_at saids i)

  agree_front : (saids more : List Said) (i : ℕ) → AgreeAll saids → i < length saids
      → is_in_part representatives part i ≡ true → AgreesWithTests c start list i (said_at (saids ++ more) i)
  agree_front saids more i agree below own =
      subst (AgreesWithTests c start list i) (sym (said_before saids more i below)) (agree i below own)

  agree_same : (saids : List Said) → AgreeAll saids → AgreeAll (saids ++ [])
  agree_same saids agree i below own =
      agree_front saids [] i agree (omega (arith, below, length-append saids [])) own

  agree_push : (saids : List Said) (said : Said) → AgreeAll saids
      → (is_in_part representatives part (length saids) ≡ true → AgreesWithTests c start list (length saids) said)
      → AgreeAll (saids ++ said ∷ [])
  agree_push saids said agree last i below own = elim (cases_lt i (length saids)) [
    | inl less ↦ agree_front saids (said ∷ []) i agree less own
    | inr upto ↦
        let same : length saids ≡ i = omega (arith, below, upto, length-append saids (said ∷ [])) in
        subst (λ k. AgreesWithTests c start list k (said_at (saids ++ said ∷ []) k)) same
        (subst (AgreesWithTests c start list (length saids)) (sym (said_last saids said))
        (last (subst (λ k. is_in_part representatives part k ≡ true) (sym same) own)))
  ]

  agree_on : (at : ReportReading) (item : Item) (budget : ℕ) (saids : List Said)
      → ReportReadsTo c representatives before at
      → ReportReadsTo c representatives (before ++ line ∷ []) (read_on at item)
      → last_item representatives (read_on at item) ≡ Some item → KeepsSaid at budget saids
      → AgreesIfMember (part_members representatives part) places item → AgreeAll saids
      → AgreeAll (saids ++ saids_in item)
  agree_on at (Head b) budget saids old new says kept agrees all = agree_same saids all
  agree_on at (Verdict k said) budget saids old new says kept agrees all =
      let next = next_verdict c representatives before line at k said budget saids old new says kept in
      let listed = next.listed in
      agree_push saids said all (λ own.
      let member : is_in_part representatives part k ≡ true =
      subst (λ i. is_in_part representatives part i ≡ true) (sym next.number) own in
      subst (λ i. AgreesWithTests c start list i said) next.number
      (agrees_with_tests c start list k (place_at places k) said (first.first k next.listed next.own)
      (agrees (member_flag representatives part k (omega (arith, listed, every)) ∙ member))))
  agree_on at (Member k) budget saids old new says kept agrees all =
      agree_push saids Undetected all
      (λ own. absurd (false≢true
      (sym (next_member c representatives before line at k budget saids old new says kept)
      ∙ member_is_own representatives part (length saids) own)))
  agree_on at Total budget saids old new says kept agrees all = agree_same saids all

  -- A line of a member that doesn't agree with the first detections contradicts the vectors.
  pub record Contradicted (saids : List Said) : Type 0 where
    pub number : length before ≡ length saids + 1
    pub contradicts : ContradictsInPart c representatives part start list (before ++ line ∷ [])

  contradicted : (at : ReportReading) (item : Item) (budget : ℕ) (saids : List Said)
      → ReportReadsTo c representatives before at
      → ReportReadsTo c representatives (before ++ line ∷ []) (read_on at item)
      → last_item representatives (read_on at item) ≡ Some item → KeepsSaid at budget saids
      → ¬ AgreesIfMember (part_members representatives part) places item → Contradicted saids
  contradicted at (Head b) budget saids old new says kept differs = absurd (differs tt)
  contradicted at (Verdict k said) budget saids old new says kept differs =
      let next = next_verdict c representatives before line at k said budget saids old new says kept in
      elim (cases_Bool (get_or (part_members representatives part) k false)) [
        | inl member ↦ record {
          number = next.lines;
          contradicts = record {
            line = record {
              at = read_on at (Verdict k said);
              read = new;
              fault = k;
              said = said;
              says = says;
              contradicts = λ agrees. differs (λ flag. agrees_with_place c start list k (place_at places k) said
                  (first.first k next.listed next.own) agrees);
            };
            own = flag_is_member representatives part k member;
          };
        }
        | inr other ↦ absurd (differs (λ flag. absurd (false≢true (sym other ∙ flag))))
      ]
  contradicted at (Member k) budget saids old new says kept differs = absurd (differs tt)
  contradicted at Total budget saids old new says kept differs = absurd (differs tt)

-- ---- a call with a line

-- what is known of the lines before
pub record Judged (a : Inside) (start : List Tern) (list : List (List Bool)) (before : List (List ℕ))
    (at : ReportReading) (c : Netlist) (representatives : List ℕ) : Type 0 where
  pub every : length representatives ≡ length (faults_of c)
  pub first : AreFirstDetections c representatives start list a.detections.now
  pub old : ReportReadsTo c representatives before at
  pub members : a.members.items ≡ part_members representatives a.part
  pub all : (i : ℕ) → i < length a.saids.items → is_in_part representatives a.part i ≡ true
      → AgreesWithTests c start list i (said_at a.saids.items i)

-- the judge with what a call leaves
abbrev pub judge_with : Inside → ReportView → ℕ → List Said → Bool → PartReportView
judge_with a r budget saids live = record {
  circuit = r.circuit;
  representatives = r.representatives;
  part = a.part;
  detections = a.detections.now;
  lines_read = r.lines_read;
  sums = r.sums;
  budget = budget;
  saids = saids;
  live = live;
}

-- a call that ends with an error
abbrev pub Stops : Inside → ReportView → List ℕ → JudgeError → Type 0
Stops a r line error =
    PartReportJudged (part_report_view a) (judge_with a r a.budget a.saids.items false) line (Err error)

module _ (a : Inside) (r : ReportView) (line : List ℕ) (item : Item) (keeps : KeepsPartReport a) (live : IsTrue a.live)
    (called : ReportCalled a.reader r line (Ok item)) where
  reader_stands : (start : List Tern) (list : List (List Bool)) (before : List (List ℕ))
      → (j : JudgesPartReport (part_report_view a) start list before) → ReportStands a.reader before j.at
  reader_stands start list before j = record {
    live = (keeps.stands live).2.live;
    read = j.read;
    lines_read = j.lines_read;
    sums = j.sums;
  }

  judged : (start : List Tern) (list : List (List Bool)) (before : List (List ℕ))
      (j : JudgesPartReport (part_report_view a) start list before)
      → Judged a start list before j.at r.circuit r.representatives
  judged start list before j =
      subst (Judged a start list before j.at r.circuit) (sym called.representatives)
      (subst (λ c. Judged a start list before j.at c a.reader.representatives) (sym called.circuit)
      (record { every = j.every; first = j.first; old = j.read; members = keeps.members; all = j.agree }))

  -- the reader stands for some lines after a line that it takes
  pub has_lines : HasLines r
  has_lines =
      let had = keeps.stands live in
      (had.0 ++ line ∷ [], read_on had.1 item, (called.taken had.0 had.1 had.2).stands)

  -- the budget that is kept after a line is one of a search
  pub has_budget : (budget : ℕ) → budget ≡ budget_with item a.budget → IsBudget budget
  has_budget budget is =
      let had = keeps.stands live in
      let next = called.taken had.0 had.1 had.2 in
      subst IsBudget (sym is)
      (budget_by r.circuit r.representatives item (read_on had.1 item) a.budget next.stands.read.readable next.says
      keeps.budget)

  -- the members stay those of the part
  pub has_members : a.members.items ≡ part_members r.representatives a.part
  has_members = subst (λ l. a.members.items ≡ part_members l a.part) (sym called.representatives) keeps.members

  -- if what a line says of a member agrees with the first detections, the judge stands for the lines with it
  pub line_taken : (budget : ℕ) (saids : List Said) → AgreesIfMember a.members.items a.detections.now item
      → budget ≡ budget_with item a.budget → saids ≡ a.saids.items ++ saids_in item
      → PartReportJudged (part_report_view a) (judge_with a r budget saids true) line (Ok tt)
  line_taken budget saids agrees budget_is saids_are = record {
    circuit = called.circuit;
    representatives = called.representatives;
    part = refl;
    live = refl;
    taken = λ start list before j.
        let next = called.taken before j.at (reader_stands start list before j) in
        let known = judged start list before j in
        let new = next.stands.read in
        let kept = kept_on r.circuit r.representatives before line j.at item a.budget a.saids.items known.old new
        j.kept in
        let agree = agree_on r.circuit r.representatives a.part before line known.every start list a.detections.now
        known.first j.at item a.budget a.saids.items known.old new next.says j.kept
        (subst (λ l. AgreesIfMember l a.detections.now item) known.members agrees) known.all in
        record {
          live = refl;
          every = known.every;
          first = known.first;
          at = read_on j.at item;
          read = new;
          lines_read = next.stands.lines_read;
          sums = next.stands.sums;
          kept = subst (λ b. KeepsSaid (read_on j.at item) b saids) (sym budget_is)
              (subst (KeepsSaid (read_on j.at item) (budget_with item a.budget)) (sym saids_are) kept);
          agree = subst (AgreeAll r.circuit r.representatives a.part before line known.every start list
              a.detections.now known.first) (sym saids_are) agree;
        };
    cause = λ start list before j. tt;
  }

  -- if what a line says of a member contradicts the first detections, the judge stops at the number of that line
  pub line_contradicts : (number : ℕ) (error : JudgeError) → error ≡ Denied (Report number)
      → ¬ AgreesIfMember a.members.items a.detections.now item → number ≡ length a.saids.items + 2
      → Stops a r line error
  line_contradicts number error error_is differs number_is = subst (Stops a r line) (sym error_is) (record {
    circuit = called.circuit;
    representatives = called.representatives;
    part = refl;
    live = refl;
    taken = λ start list before j. tt;
    cause = λ start list before j.
        let next = called.taken before j.at (reader_stands start list before j) in
        let known = judged start list before j in
        let found = contradicted r.circuit r.representatives a.part before line known.every start list
        a.detections.now known.first j.at item a.budget a.saids.items known.old next.stands.read next.says j.kept
        (subst (λ l. ¬ AgreesIfMember l a.detections.now item) known.members differs) in
        let lines = before ++ line ∷ [] in (
          omega (arith, number_is, found.number),
          inr (subst (λ c. ContradictsInPart c a.reader.representatives a.part start list lines) called.circuit
              (subst (λ x. ContradictsInPart r.circuit x a.part start list lines) called.representatives
              found.contradicts)),
        );
  })

-- the members stay those of the part where the reader refuses a line
pub members_stay : (a : Inside) (r : ReportView) (line : List ℕ) (malformed : MalformedLine) → KeepsPartReport a
    → ReportCalled a.reader r line (Err malformed) → a.members.items ≡ part_members r.representatives a.part
members_stay a r line malformed keeps called =
    subst (λ l. a.members.items ≡ part_members l a.part) (sym called.representatives) keeps.members

-- if the reader finds a line malformed, the judge stops at the number of that line
pub line_refused : (a : Inside) (r : ReportView) (line : List ℕ) (malformed : MalformedLine) (error : JudgeError)
    → error ≡ Denied (Report malformed.line) → KeepsPartReport a → IsTrue a.live
    → ReportCalled a.reader r line (Err malformed)
    → Stops a r line error
line_refused a r line malformed error error_is keeps live called = subst (Stops a r line) (sym error_is) (record {
  circuit = called.circuit;
  representatives = called.representatives;
  part = refl;
  live = refl;
  taken = λ start list before j. tt;
  cause = λ start list before j.
      let refused = called.refused before j.at (record {
        live = (keeps.stands live).2.live;
        read = j.read;
        lines_read = j.lines_read;
        sums = j.sums;
      }) in
      (refused.number, inl refused.none);
})

-- ---- the end

-- where the report is read and kept
pub record ReadAndKept (c : Netlist) (representatives : List ℕ) (lines : List (List ℕ)) (budget : ℕ)
    (saids : List Said) (at : ReportReading) : Type 0 where
  pub read : ReportReadsTo c representatives lines at
  pub kept : KeepsSaid at budget saids

-- a report that the judge has taken to its end is true of the vectors for the part
whole_is_true : (v : PartReportView) (start : List Tern) (list : List (List Bool)) (lines : List (List ℕ))
    → (j : JudgesPartReport v start list lines)
    → (budget : ℕ) × (saids : List Said) × (j.at ≡ after_report budget saids)
    → IsTrueReportInPart v.circuit v.representatives v.part start list lines v.budget v.saids
whole_is_true v start list lines j (budget, saids, is) =
    let whole = subst (ReadAndKept v.circuit v.representatives lines v.budget v.saids) is
    (record { read = j.read; kept = j.kept }) in
    let report : IsSearchReport v.circuit v.representatives lines v.budget v.saids =
    subst (λ b. IsSearchReport v.circuit v.representatives lines b v.saids) (sym whole.kept.0)
    (subst (IsSearchReport v.circuit v.representatives lines budget) (sym whole.kept.1)
    (record { search = whole.read.readable; lines_are = whole.read.lines_are })) in
    record {
      report = report;
      agrees = λ i own member. j.agree i (omega (arith, own.listed, report.search.saids_are.each)) member;
    }

module _ (a : Inside) (keeps : KeepsPartReport a) (start : List Tern) (list : List (List Bool))
    (lines : List (List ℕ)) (j : JudgesPartReport (part_report_view a) start list lines) where
  stands_at_end : ReportStands a.reader lines j.at
  stands_at_end = record {
    live = (keeps.stands j.live).2.live;
    read = j.read;
    lines_read = j.lines_read;
    sums = j.sums;
  }

  -- if the reader ends the lines as a whole report, its claims for the part are true
  pub whole_ends : (u : Unit {0}) (claims : Claims)
      → ((lines : List (List ℕ)) (at : ReportReading) → ReportStands a.reader lines at
      → EndsReport a.reader lines at (Ok u))
      → claims.budget ≡ a.budget
      → ((representatives : List ℕ) (part : Part) → a.members.items ≡ part_members representatives part
      → length a.saids.items ≡ length representatives
      → claims.saids.items ≡ part_saids representatives part a.saids.items)
      → AreClaimedInPart a.reader.circuit a.reader.representatives a.part start list lines claims
  whole_ends u claims ends budget shown =
      let says = whole_is_true (part_report_view a) start list lines j (ends lines j.at stands_at_end) in
      let each = says.report.search.saids_are.each in
      let every = j.every in
      record {
        saids = a.saids.items;
        says = subst (λ b. IsTrueReportInPart a.reader.circuit a.reader.representatives a.part start list lines b
            a.saids.items) (sym budget) says;
        shown = shown a.reader.representatives a.part keeps.members (omega (arith, each, every));
      }

  -- if the report ends too early, the judge denies the line after its last
  pub early_ends : (malformed : MalformedLine) (error : JudgeError) → error ≡ Denied (Report malformed.line)
      → ((lines : List (List ℕ)) (at : ReportReading) → ReportStands a.reader lines at
      → EndsReport a.reader lines at (Err malformed))
      → PartEndHasCause (part_report_view a) lines error
  early_ends malformed error is ends =
      subst (PartEndHasCause (part_report_view a) lines) (sym is) (ends lines j.at stands_at_end)
