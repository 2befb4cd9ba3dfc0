-- What a judge of reports owes: a line that is taken, one that isn't, and the end.
use Rattle.std.proofs.Common.{◌≡◌, ◌∙◌, ◌<◌, ◌≤◌, ◌+◌, ℕ, Bool, true, false, List, [], ◌∷◌, ◌++◌, Option, Some, None, Ok, Err, inl, inr, length, length-append, refl, sym, ap, subst, arith}
use Rattle.std.specs.Prelude.{IsTrue, cond}
use Rattle.std.proofs.lemmas.Bool.{cases_lt, false≢true}
use Rattle.std.proofs.lemmas.List.{append-nil}
use Rattle.ht_tern.specs.declared.tern.Tern.{Tern}
use Rattle.ht_net.specs.declared.fault.Fault.{Fault}
use Rattle.ht_net.specs.declared.place.Place.{Place}
use Rattle.ht_net.specs.Circuit.Netlist.{Netlist}
use Rattle.ht_net.specs.Detect.Detection.{IsFirstFrom}
use Rattle.ht_faults.specs.Sites.{faults_of}
use Rattle.ht_faults.specs.Classes.{fault_at, is_representative}
use Rattle.ht_texts.specs.declared.item.Item.{Item}
use Rattle.ht_texts.specs.declared.item.Item.TheVariants.{Head, Verdict, Member, Total}
use Rattle.ht_texts.specs.declared.malformed_line.MalformedLine.{MalformedLine}
use Rattle.ht_texts.specs.declared.said.Said.{Said}
use Rattle.ht_texts.specs.declared.said.Said.TheVariants.{Detected, Untestable, Undetectable, Aborted, Undetected}
use Rattle.ht_texts.specs.Verdicts.{said_at}
use Rattle.ht_texts.specs.SearchReports.{IsBudget, IsSearchReport}
use Rattle.ht_texts.specs.ReportReading.{ReportReading, before_report, in_report, after_report, ReportReadsTo, IsReportReading, last_item, read_on}
use Rattle.ht_texts.specs.ReportStands.{EndsReport, ReportView, ReportStands, ReportCalled, new_report}
use Rattle.ht_texts.proofs.SaidLaws.{said_before, said_last}
use Rattle.ht_texts.proofs.ReadingLaws.{last_item_push, length-in_report}
use Rattle.ht_proofs.specs.Detections.{AreFirstDetections, place_at}
use Rattle.ht_valid.specs.ValidFiles.{AgreesWithTests}
use Rattle.ht_valid.specs.FirstTrouble.{ContradictsTests}
use Rattle.ht_valid.specs.declared.trouble.Trouble.TheVariants.{Report}
use Rattle.ht_judge.specs.declared.judge_error.JudgeError.{JudgeError}
use Rattle.ht_judge.specs.declared.judge_error.JudgeError.TheVariants.{Denied}
use Rattle.ht_judge.specs.declared.report_judge.ReportJudge.TheInside.{Inside}
use Rattle.ht_judge.specs.ReportJudging.{AgreesWithPlace, AgreesWithPlaces, KeepsSaid, IsTrueReport, JudgesReport, ReportEndHasCause, ReportJudgeView, ReportJudged, budget_with, saids_in}
use Rattle.ht_judge.specs.ReportJudgeOf.{HasLines, KeepsReport, report_judge_view}

-- a new reader of a report stands for no lines
pub starts : (c : Netlist) (representatives : List ℕ) → ReportStands (new_report c representatives) [] before_report
starts c representatives = record {
  live = refl;
  read = record { readable = tt; lines_are = refl };
  lines_read = refl;
  sums = refl;
}

-- ---- what is said, and the first detections

-- two first detections are at one place
not_before : (c : Netlist) (f : Fault) (start : List Tern) (list : List (List Bool)) (p q : Place)
    → IsFirstFrom c f start list (Some p) → IsFirstFrom c f start list (Some q) → q.vector ≤ p.vector
not_before c f start list p q a b = elim (cases_lt p.vector q.vector) [
  | inl less ↦ absurd (b.1 p.vector p.output (inl less) a.0)
  | inr upto ↦ upto
]

not_lower : (c : Netlist) (f : Fault) (start : List Tern) (list : List (List Bool)) (p q : Place) → p.vector ≡ q.vector
    → IsFirstFrom c f start list (Some p) → IsFirstFrom c f start list (Some q) → q.output ≤ p.output
not_lower c f start list p q same a b = elim (cases_lt p.output q.output) [
  | inl less ↦ absurd (b.1 p.vector p.output (inr (same, less)) a.0)
  | inr upto ↦ upto
]

place_is : (p q : Place) → p.vector ≡ q.vector → p.output ≡ q.output → p ≡ q
place_is p q vector output =
    let P : ℕ → ℕ → Place = λ v o. record { vector = v; output = o } in
    ap (λ v. P v p.output) vector ∙ ap (P q.vector) output

pub one_place : (c : Netlist) (f : Fault) (start : List Tern) (list : List (List Bool)) (p q : Place)
    → IsFirstFrom c f start list (Some p) → IsFirstFrom c f start list (Some q) → p ≡ q
one_place c f start list p q a b =
    let vector : p.vector ≡ q.vector = omega
    (arith, not_before c f start list p q a b, not_before c f start list q p b a) in
    place_is p q vector
    (omega (arith, not_lower c f start list p q vector a b, not_lower c f start list q p (sym vector) b a))

pub agrees_with_tests : (c : Netlist) (start : List Tern) (list : List (List Bool)) (i : ℕ) (place : Option Place)
    (said : Said)
    → IsFirstFrom c (fault_at c i) start list place → AgreesWithPlace place said → AgreesWithTests c start list i said
agrees_with_tests c start list i (Some p) (Detected q) is same =
    subst (λ x. IsFirstFrom c (fault_at c i) start list (Some x)) same is
agrees_with_tests c start list i (Some p) Untestable is agrees = absurd agrees
agrees_with_tests c start list i (Some p) Undetectable is agrees = absurd agrees
agrees_with_tests c start list i (Some p) Aborted is agrees = absurd agrees
agrees_with_tests c start list i (Some p) Undetected is agrees = absurd agrees
agrees_with_tests c start list i None (Detected q) is agrees = absurd agrees
agrees_with_tests c start list i None Untestable is agrees = is
agrees_with_tests c start list i None Undetectable is agrees = is
agrees_with_tests c start list i None Aborted is agrees = is
agrees_with_tests c start list i None Undetected is agrees = is

pub agrees_with_place : (c : Netlist) (start : List Tern) (list : List (List Bool)) (i : ℕ) (place : Option Place)
    (said : Said)
    → IsFirstFrom c (fault_at c i) start list place → AgreesWithTests c start list i said → AgreesWithPlace place said
agrees_with_place c start list i (Some p) (Detected q) is agrees = one_place c (fault_at c i) start list p q is agrees
agrees_with_place c start list i (Some p) Untestable is agrees = absurd (agrees p.vector p.output is.0)
agrees_with_place c start list i (Some p) Undetectable is agrees = absurd (agrees p.vector p.output is.0)
agrees_with_place c start list i (Some p) Aborted is agrees = absurd (agrees p.vector p.output is.0)
agrees_with_place c start list i (Some p) Undetected is agrees = absurd (agrees p.vector p.output is.0)
agrees_with_place c start list i None (Detected q) is agrees = absurd (is q.vector q.output agrees.0)
agrees_with_place c start list i None Untestable is agrees = tt
agrees_with_place c start list i None Undetectable is agrees = tt
agrees_with_place c start list i None Aborted is agrees = tt
agrees_with_place c start list i None Undetected is agrees = tt

-- ---- what the next line says

no_head : (own : Bool) (n b : ℕ) (s : Said)
    → ¬ ◌≡◌ {A = Option Item} (Some (cond own (Verdict n s) (Member n))) (Some (Head b))
no_head true n b s e = cc
no_head false n b s e = cc

-- the line of a verdict is that of a representative, and the other way round
own_item : (own : Bool) (n k : ℕ) (s said : Said)
    → ◌≡◌ {A = Option Item} (Some (cond own (Verdict n s) (Member n))) (Some (Verdict k said)) → (own ≡ true) × (n ≡ k)
own_item true n k s said e = (refl, cc)
own_item false n k s said e = absurd cc

other_item : (own : Bool) (n k : ℕ) (s : Said)
    → ◌≡◌ {A = Option Item} (Some (cond own (Verdict n s) (Member n))) (Some (Member k)) → own ≡ false
other_item true n k s e = absurd cc
other_item false n k s e = refl

-- the budget of a head is one of a search
head_budget : (c : Netlist) (representatives : List ℕ) (at : ReportReading) (b : ℕ)
    → IsReportReading c representatives at → last_item representatives at ≡ Some (Head b) → IsBudget b
head_budget c representatives before_report b is says = absurd cc
head_budget c representatives (in_report k []) b is says =
    let e : ◌≡◌ {A = Option Item} (Some (Head k)) (Some (Head b)) = says in
    let same : k ≡ b = cc in
    subst IsBudget same is.budget_is
head_budget c representatives (in_report k (said ∷ saids)) b is says =
    absurd (no_head (is_representative representatives (length saids)) (length saids) b
    (said_at (said ∷ saids) (length saids)) says)
head_budget c representatives (after_report k saids) b is says = absurd cc

-- the budget after a line is one of a search, if that before it is
pub budget_by : (c : Netlist) (representatives : List ℕ) (one : Item) (at : ReportReading) (budget : ℕ)
    → IsReportReading c representatives at → last_item representatives at ≡ Some one → IsBudget budget
    → IsBudget (budget_with one budget)
budget_by c representatives (Head b) at budget is says before = head_budget c representatives at b is says
budget_by c representatives (Verdict k said) at budget is says before = before
budget_by c representatives (Member k) at budget is says before = before
budget_by c representatives Total at budget is says before = before

module _ (c : Netlist) (representatives : List ℕ) (before : List (List ℕ)) (line : List ℕ) where
  unmoved : (at : ReportReading) → ReportReadsTo c representatives before at
      → ¬ ReportReadsTo c representatives (before ++ line ∷ []) at
  unmoved at old new =
      omega (arith, ap length (new.lines_are ∙ sym old.lines_are), length-append before (line ∷ []))

  -- what is kept after a line is what was said up to it
  pub kept_on : (at : ReportReading) (item : Item) (budget : ℕ) (saids : List Said)
      → ReportReadsTo c representatives before at
      → ReportReadsTo c representatives (before ++ line ∷ []) (read_on at item)
      → KeepsSaid at budget saids → KeepsSaid (read_on at item) (budget_with item budget) (saids ++ saids_in item)
  kept_on before_report (Head b) budget saids old new kept = (refl, ap (λ s. s ++ []) kept)
  kept_on before_report (Verdict i said) budget saids old new kept = absurd (unmoved before_report old new)
  kept_on before_report (Member i) budget saids old new kept = absurd (unmoved before_report old new)
  kept_on before_report Total budget saids old new kept = absurd (unmoved before_report old new)
  kept_on (in_report b s) (Head k) budget saids old new kept = absurd (unmoved (in_report b s) old new)
  kept_on (in_report b s) (Verdict i said) budget saids old new kept = (kept.0, ap (λ x. x ++ said ∷ []) kept.1)
  kept_on (in_report b s) (Member i) budget saids old new kept = (kept.0, ap (λ x. x ++ Undetected ∷ []) kept.1)
  kept_on (in_report b s) Total budget saids old new kept = (kept.0, append-nil saids ∙ kept.1)
  kept_on (after_report b s) (Head k) budget saids old new kept = absurd (unmoved (after_report b s) old new)
  kept_on (after_report b s) (Verdict i said) budget saids old new kept = absurd (unmoved (after_report b s) old new)
  kept_on (after_report b s) (Member i) budget saids old new kept = absurd (unmoved (after_report b s) old new)
  kept_on (after_report b s) Total budget saids old new kept = absurd (unmoved (after_report b s) old new)

  -- A verdict is of the next fault, which is a representative; the line is the second after as many as were said.
  pub record IsNextVerdict (saids : List Said) (k : ℕ) : Type 0 where
    pub number : k ≡ length saids
    pub own : is_representative representatives k ≡ true
    pub listed : k < length (faults_of c)
    pub lines : length before ≡ length saids + 1

  pub next_verdict : (at : ReportReading) (k : ℕ) (said : Said) (budget : ℕ) (saids : List Said)
      → ReportReadsTo c representatives before at
      → ReportReadsTo c representatives (before ++ line ∷ []) (read_on at (Verdict k said))
      → last_item representatives (read_on at (Verdict k said)) ≡ Some (Verdict k said) → KeepsSaid at budget saids
      → IsNextVerdict saids k
  next_verdict before_report k said budget saids old new says kept = absurd (unmoved before_report old new)
  next_verdict (in_report b s) k said budget saids old new says kept =
      let here = own_item (is_representative representatives (length s)) (length s) k said said
      (sym (last_item_push representatives b s said) ∙ says) in
      let same : length s ≡ length saids = ap length (sym kept.1) in
      let listed = new.readable.listed in
      record {
        number = sym here.1 ∙ same;
        own = ap (is_representative representatives) (sym here.1) ∙ here.0;
        listed = omega (arith, listed, length-append s (said ∷ []), here.1);
        lines = omega (arith, length-in_report c representatives before b s old, same);
      }
  next_verdict (after_report b s) k said budget saids old new says kept = absurd (unmoved (after_report b s) old new)

  -- another line of a fault is that of no representative
  pub next_member : (at : ReportReading) (k : ℕ) (budget : ℕ) (saids : List Said)
      → ReportReadsTo c representatives before at
      → ReportReadsTo c representatives (before ++ line ∷ []) (read_on at (Member k))
      → last_item representatives (read_on at (Member k)) ≡ Some (Member k) → KeepsSaid at budget saids
      → is_representative representatives (length saids) ≡ false
  next_member before_report k budget saids old new says kept = absurd (unmoved before_report old new)
  next_member (in_report b s) k budget saids old new says kept =
      ap (λ (x : List Said). is_representative representatives (length x)) kept.1
      ∙ other_item (is_representative representatives (length s)) (length s) k Undetected
      (sym (last_item_push representatives b s Undetected) ∙ says)
  next_member (after_report b s) k budget saids old new says kept = absurd (unmoved (after_report b s) old new)

  module _ (start : List Tern) (list : List (List Bool)) (places : List (Option Place))
      (first : AreFirstDetections c representatives start list places) where
    -- what is said of the first faults agrees with the vectors
    abbrev pub AgreeAll : List Said → Type 0
    AgreeAll saids = (i : ℕ) → i < length saids → is_representative representatives i ≡ true
        → AgreesWithTests c start list i (said_at saids i)

    agree_front : (saids more : List Said) (i : ℕ) → AgreeAll saids → i < length saids
        → is_representative representatives i ≡ true → AgreesWithTests c start list i (said_at (saids ++ more) i)
    agree_front saids more i agree below own =
        subst (AgreesWithTests c start list i) (sym (said_before saids more i below)) (agree i below own)

    agree_same : (saids : List Said) → AgreeAll saids → AgreeAll (saids ++ [])
    agree_same saids agree i below own =
        agree_front saids [] i agree (omega (arith, below, length-append saids [])) own

    agree_push : (saids : List Said) (said : Said) → AgreeAll saids
        → (is_representative representatives (length saids) ≡ true → AgreesWithTests c start list (length saids) said)
        → AgreeAll (saids ++ said ∷ [])
    agree_push saids said agree last i below own = elim (cases_lt i (length saids)) [
      | inl less ↦ agree_front saids (said ∷ []) i agree less own
      | inr upto ↦
          let same : length saids ≡ i = omega (arith, below, upto, length-append saids (said ∷ [])) in
          subst (λ k. AgreesWithTests c start list k (said_at (saids ++ said ∷ []) k)) same
          (subst (AgreesWithTests c start list (length saids)) (sym (said_last saids said))
          (last (subst (λ k. is_representative representatives k ≡ true) (sym same) own)))
    ]

    agree_on : (at : ReportReading) (item : Item) (budget : ℕ) (saids : List Said)
        → ReportReadsTo c representatives before at
        → ReportReadsTo c representatives (before ++ line ∷ []) (read_on at item)
        → last_item representatives (read_on at item) ≡ Some item → KeepsSaid at budget saids
        → AgreesWithPlaces places item → AgreeAll saids → AgreeAll (saids ++ saids_in item)
    agree_on at (Head b) budget saids old new says kept agrees all = agree_same saids all
    agree_on at (Verdict k said) budget saids old new says kept agrees all =
        let next = next_verdict at k said budget saids old new says kept in
        agree_push saids said all (λ own. subst (λ i. AgreesWithTests c start list i said) next.number
        (agrees_with_tests c start list k (place_at places k) said (first.first k next.listed next.own) agrees))
    agree_on at (Member k) budget saids old new says kept agrees all =
        agree_push saids Undetected all
        (λ own. absurd (false≢true (sym (next_member at k budget saids old new says kept) ∙ own)))
    agree_on at Total budget saids old new says kept agrees all = agree_same saids all

    -- A line that doesn't agree with the first detections contradicts the vectors.
    pub record Contradicted (saids : List Said) : Type 0 where
      pub number : length before ≡ length saids + 1
      pub contradicts : ContradictsTests c representatives start list (before ++ line ∷ [])

    contradicted : (at : ReportReading) (item : Item) (budget : ℕ) (saids : List Said)
        → ReportReadsTo c representatives before at
        → ReportReadsTo c representatives (before ++ line ∷ []) (read_on at item)
        → last_item representatives (read_on at item) ≡ Some item → KeepsSaid at budget saids
        → ¬ AgreesWithPlaces places item → Contradicted saids
    contradicted at (Head b) budget saids old new says kept differs = absurd (differs tt)
    contradicted at (Verdict k said) budget saids old new says kept differs =
        let next = next_verdict at k said budget saids old new says kept in
        record {
          number = next.lines;
          contradicts = record {
            at = read_on at (Verdict k said);
            read = new;
            fault = k;
            said = said;
            says = says;
            contradicts = λ agrees. differs (agrees_with_place c start list k (place_at places k) said
                (first.first k next.listed next.own) agrees);
          };
        }
    contradicted at (Member k) budget saids old new says kept differs = absurd (differs tt)
    contradicted at Total budget saids old new says kept differs = absurd (differs tt)

-- ---- a call with a line

-- what is known of the lines before
pub record Judged (a : Inside) (start : List Tern) (list : List (List Bool)) (before : List (List ℕ))
    (at : ReportReading) (c : Netlist)
    (representatives : List ℕ) : Type 0 where
  pub first : AreFirstDetections c representatives start list a.detections.now
  pub old : ReportReadsTo c representatives before at
  pub all : (i : ℕ) → i < length a.saids.items → is_representative representatives i ≡ true
      → AgreesWithTests c start list i (said_at a.saids.items i)

-- the judge with what a call leaves
abbrev pub judge_with : Inside → ReportView → ℕ → List Said → Bool → ReportJudgeView
judge_with a r budget saids live = record {
  circuit = r.circuit;
  representatives = r.representatives;
  detections = a.detections.now;
  lines_read = r.lines_read;
  sums = r.sums;
  budget = budget;
  saids = saids;
  live = live;
}

-- a call that ends with an error
abbrev pub Stops : Inside → ReportView → List ℕ → JudgeError → Type 0
Stops a r line error =
    ReportJudged (report_judge_view a) (judge_with a r a.budget a.saids.items false) line (Err error)

module _ (a : Inside) (r : ReportView) (line : List ℕ) (item : Item) (keeps : KeepsReport a) (live : IsTrue a.live)
    (called : ReportCalled a.reader r line (Ok item)) where
  reader_stands : (start : List Tern) (list : List (List Bool)) (before : List (List ℕ))
      → (j : JudgesReport (report_judge_view a) start list before) → ReportStands a.reader before j.at
  reader_stands start list before j = record {
    live = (keeps.stands live).2.live;
    read = j.read;
    lines_read = j.lines_read;
    sums = j.sums;
  }

  judged : (start : List Tern) (list : List (List Bool)) (before : List (List ℕ))
      (j : JudgesReport (report_judge_view a) start list before)
      → Judged a start list before j.at r.circuit r.representatives
  judged start list before j =
      subst (Judged a start list before j.at r.circuit) (sym called.representatives)
      (subst (λ c. Judged a start list before j.at c a.reader.representatives) (sym called.circuit)
      (record { first = j.first; old = j.read; all = j.agree }))

  -- the reader stands for some lines after a line that it takes, and the budget of a head is one of a search
  pub has_lines : HasLines r
  has_lines =
      let had = keeps.stands live in
      (had.0 ++ line ∷ [], read_on had.1 item, (called.taken had.0 had.1 had.2).stands)

  -- if what a line says agrees with the first detections, the judge stands for the lines with it
  pub line_taken : (budget : ℕ) (saids : List Said) → AgreesWithPlaces a.detections.now item
      → budget ≡ budget_with item a.budget → saids ≡ a.saids.items ++ saids_in item
      → ReportJudged (report_judge_view a) (judge_with a r budget saids true) line (Ok tt)
  line_taken budget saids agrees budget_is saids_are = record {
    circuit = called.circuit;
    representatives = called.representatives;
    live = refl;
    taken = λ start list before j.
        let next = called.taken before j.at (reader_stands start list before j) in
        let known = judged start list before j in
        let new = next.stands.read in
        let kept = kept_on r.circuit r.representatives before line j.at item a.budget a.saids.items known.old new
        j.kept in
        let agree = agree_on r.circuit r.representatives before line start list a.detections.now known.first j.at item
        a.budget a.saids.items known.old new next.says j.kept agrees known.all in
        record {
          live = refl;
          first = known.first;
          at = read_on j.at item;
          read = new;
          lines_read = next.stands.lines_read;
          sums = next.stands.sums;
          kept = subst (λ b. KeepsSaid (read_on j.at item) b saids) (sym budget_is)
              (subst (KeepsSaid (read_on j.at item) (budget_with item a.budget)) (sym saids_are) kept);
          agree = subst (AgreeAll r.circuit r.representatives before line start list a.detections.now known.first)
              (sym saids_are) agree;
        };
    cause = λ start list before j. tt;
  }

  -- if what a line says contradicts the first detections, the judge stops at the number of that line
  pub line_contradicts : (number : ℕ) (error : JudgeError) → error ≡ Denied (Report number)
      → ¬ AgreesWithPlaces a.detections.now item → number ≡ length a.saids.items + 2
      → Stops a r line error
  line_contradicts number error error_is differs number_is = subst (Stops a r line) (sym error_is) (record {
    circuit = called.circuit;
    representatives = called.representatives;
    live = refl;
    taken = λ start list before j. tt;
    cause = λ start list before j.
        let next = called.taken before j.at (reader_stands start list before j) in
        let known = judged start list before j in
        let found = contradicted r.circuit r.representatives before line start list a.detections.now known.first j.at
        item
        a.budget a.saids.items known.old next.stands.read next.says j.kept differs in
        let lines = before ++ line ∷ [] in (
          omega (arith, number_is, found.number),
          inr (subst (λ c. ContradictsTests c a.reader.representatives start list lines) called.circuit
              (subst (λ x. ContradictsTests r.circuit x start list lines) called.representatives found.contradicts)),
        );
  })

  -- the budget that is kept after a line is one of a search
  pub has_budget : (budget : ℕ) → budget ≡ budget_with item a.budget → IsBudget budget
  has_budget budget is =
      let had = keeps.stands live in
      let next = called.taken had.0 had.1 had.2 in
      subst IsBudget (sym is)
      (budget_by r.circuit r.representatives item (read_on had.1 item) a.budget next.stands.read.readable next.says
      keeps.budget)

-- if the reader finds a line malformed, the judge stops at the number of that line
pub line_refused : (a : Inside) (r : ReportView) (line : List ℕ) (malformed : MalformedLine) (error : JudgeError)
    → error ≡ Denied (Report malformed.line) → KeepsReport a → IsTrue a.live
    → ReportCalled a.reader r line (Err malformed)
    → Stops a r line error
line_refused a r line malformed error error_is keeps live called = subst (Stops a r line) (sym error_is) (record {
  circuit = called.circuit;
  representatives = called.representatives;
  live = refl;
  taken = λ start list before j. tt;
  cause = λ start list before j.
      let refused = called.refused before j.at (record {
        live = (keeps.stands live).2.live;
        read = j.read;
        lines_read = j.lines_read;
        sums = j.sums;
      }) in
      (refused.number, inl refused.none);
})

-- ---- the end

-- where the report is read and kept
pub record ReadAndKept (c : Netlist) (representatives : List ℕ) (lines : List (List ℕ)) (budget : ℕ)
    (saids : List Said) (at : ReportReading) : Type 0 where
  pub read : ReportReadsTo c representatives lines at
  pub kept : KeepsSaid at budget saids

-- a report that the judge has taken to its end is true of the vectors
pub whole_is_true : (v : ReportJudgeView) (start : List Tern) (list : List (List Bool)) (lines : List (List ℕ))
    → (j : JudgesReport v start list lines)
    → (budget : ℕ) × (saids : List Said) × (j.at ≡ after_report budget saids)
    → IsTrueReport v.circuit v.representatives start list lines v.budget v.saids
whole_is_true v start list lines j (budget, saids, is) =
    let whole = subst (ReadAndKept v.circuit v.representatives lines v.budget v.saids) is
    (record { read = j.read; kept = j.kept }) in
    let report : IsSearchReport v.circuit v.representatives lines v.budget v.saids =
    subst (λ b. IsSearchReport v.circuit v.representatives lines b v.saids) (sym whole.kept.0)
    (subst (IsSearchReport v.circuit v.representatives lines budget) (sym whole.kept.1)
    (record { search = whole.read.readable; lines_are = whole.read.lines_are })) in
    record {
      report = report;
      agrees = λ i own. j.agree i (omega (arith, own.listed, report.search.saids_are.each)) own.own;
    }

module _ (a : Inside) (keeps : KeepsReport a) (start : List Tern) (list : List (List Bool)) (lines : List (List ℕ))
    (j : JudgesReport (report_judge_view a) start list lines) where
  stands_at_end : ReportStands a.reader lines j.at
  stands_at_end = record {
    live = (keeps.stands j.live).2.live;
    read = j.read;
    lines_read = j.lines_read;
    sums = j.sums;
  }

  -- if the reader ends the lines as a whole report, it is true of the vectors
  pub whole_ends : (u : Unit {0})
      → ((lines : List (List ℕ)) (at : ReportReading) → ReportStands a.reader lines at
      → EndsReport a.reader lines at (Ok u))
      → IsTrueReport a.reader.circuit a.reader.representatives start list lines a.budget a.saids.items
  whole_ends u ends = whole_is_true (report_judge_view a) start list lines j (ends lines j.at stands_at_end)

  -- if the report ends too early, the judge denies the line after its last
  pub early_ends : (malformed : MalformedLine) (error : JudgeError) → error ≡ Denied (Report malformed.line)
      → ((lines : List (List ℕ)) (at : ReportReading) → ReportStands a.reader lines at
      → EndsReport a.reader lines at (Err malformed))
      → ReportEndHasCause (report_judge_view a) lines error
  early_ends malformed error is ends =
      subst (ReportEndHasCause (report_judge_view a) lines) (sym is) (ends lines j.at stands_at_end)
