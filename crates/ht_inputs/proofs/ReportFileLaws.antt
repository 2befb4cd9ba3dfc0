-- The first trouble of a report that is read line by line.
use Rattle.std.proofs.Common.{◌≡◌, ◌⊎◌, ◌^◌, inl, inr, ℕ, zero, suc, ◌+◌, ◌-◌, ◌<◌, ◌≤◌, List, [], ◌∷◌, ◌++◌, Bool, true, false, length, take, get_or, Some, refl, sym, ◌∙◌, ap, subst, arith}
use Rattle.std.specs.Prelude.{None, if◌then◌else◌}
use Rattle.std.proofs.lemmas.Bool.{cases_lt}
use Rattle.std.proofs.lemmas.List.{length-append}
use Rattle.std.proofs.Math.Seq.{get_or-append_seam}
use Rattle.ht_inputs.proofs.Common.{AreClasses, AreFine, Denied, DeskView, HasFront, HasTextLines, HasLongLine, IsFirst}
use Rattle.ht_inputs.proofs.Common.{IsRefusedFor, JobBasis, JudgeError, LinesStop, ReadStops, ReportIsRead, RunError}
use Rattle.ht_inputs.proofs.Common.{Said, StandsForFile, StandsForReport, StopsAtLine, Tern, WasRead, Asked}
use Rattle.ht_inputs.specs.Jobs.{judges}
use Rattle.ht_inputs.proofs.Common.{judged_error_of, lines_of}
use Rattle.ht_ports.specs.declared.ports.InPort.TheVariants as in_port
use Rattle.ht_net.specs.Circuit.Netlist.{Netlist, IsCircuit}
use Rattle.ht_faults.specs.Classes.{is_representative}
use Rattle.ht_texts.specs.declared.limits.TheConstants.{MAX_LINE_BYTES}
use Rattle.ht_texts.specs.declared.item.Item.TheVariants.{Verdict, Member}
use Rattle.ht_texts.specs.SearchReports.{HasShortNames, IsReportFront, IsSearchReport}
use Rattle.ht_texts.specs.ReportReading.{ReportReading, before_report, in_report, after_report, last_item, SaySame}
use Rattle.ht_texts.specs.Verdicts.{said_at}
use Rattle.ht_texts.proofs.ReportFrontLaws.{one_reading, reading_is_front}
use Rattle.ht_texts.proofs.LineLengthLaws.{report_is_short}
use Rattle.ht_valid.specs.declared.trouble.Trouble.TheVariants.{Report}
use Rattle.ht_valid.specs.ValidFiles.{AgreesWithTests}
use Rattle.ht_valid.specs.FirstTrouble.{ContradictsTests, IsReportTrouble}
use Rattle.ht_judge.specs.declared.judge_error.JudgeError.TheVariants as judge
use Rattle.ht_judge.specs.ReportJudging.{KeepsSaid, IsTrueReport, JudgesReport, ReportEndHasCause, ReportJudgeView, ReportLineDeniedFor}
use Rattle.ht_inputs.specs.declared.run_error.RunError.TheVariants.{NoMemory}
use Rattle.ht_inputs.specs.Judging.{IsWrongInReport}
use Rattle.ht_inputs.proofs.JudgedLaws.{lines_stop, same_circuit, whole_file, whole_front}
use Rattle.ht_inputs.proofs.ReadingLaws.{read_so}
use Rattle.ht_inputs.proofs.FirstTroubleLaws.{HasTroubleAt, IsWrongAt, first_after, front_is, grown_to, next_is, shorter}

-- ---- what a judge stands for contradicts nothing

item_is : (own : Bool) (i fault : ℕ) (last said : Said)
    → Some (if own then Verdict i last else Member i) ≡ Some (Verdict fault said)
    → (own ≡ true) × (i ≡ fault) × (last ≡ said)
item_is true i fault last said e = (refl, (let same = e in cc), (let same = e in cc))
item_is false i fault last said e = let other = e in cc

-- what the last line says of a fault was judged
last_agrees : (c : Netlist) (representatives : List ℕ) (start : List Tern) (list : List (List Bool))
    (at there : ReportReading) (budget : ℕ) (saids : List Said) (fault : ℕ) (said : Said) → SaySame representatives at
    there
    → KeepsSaid at budget saids
    → ((i : ℕ) → i < length saids → is_representative representatives i ≡ true
    → AgreesWithTests c start list i (said_at saids i))
    → last_item representatives there ≡ Some (Verdict fault said) → AgreesWithTests c start list fault said
last_agrees c r start list at before_report budget saids fault said same kept agree says = let other = says in cc
last_agrees c r start list at (after_report b s) budget saids fault said same kept agree says = let other = says in cc
last_agrees c r start list at (in_report b []) budget saids fault said same kept agree says = let other = says in cc
last_agrees c r start list before_report (in_report b (s ∷ ss)) budget saids fault said same kept agree says = absurd
    same
last_agrees c r start list (after_report d t) (in_report b (s ∷ ss)) budget saids fault said same kept agree says =
    absurd same
last_agrees c r start list (in_report d t) (in_report b (s ∷ ss)) budget saids fault said same kept agree says =
    let n = length ss in
    let is = item_is (is_representative r n) n fault (said_at (s ∷ ss) n) said says in
    let judged = agree n (omega (arith, ap length kept.1, same.counts)) is.0 in
    let heard : said_at saids n ≡ said = ap (λ l. said_at l n) kept.1 ∙ same.verdicts n is.0 ∙ is.2 in
    subst (λ i. AgreesWithTests c start list i said) is.1 (subst (AgreesWithTests c start list n) heard judged)

contradicts_nothing : (v : ReportJudgeView) (start : List Tern) (list : List (List Bool)) (lines : List (List ℕ))
    → IsCircuit v.circuit → JudgesReport v start list lines
    → ¬ ContradictsTests v.circuit v.representatives start list lines
contradicts_nothing v start list lines is j wrong = wrong.contradicts
    (last_agrees v.circuit v.representatives start list j.at wrong.at v.budget v.saids wrong.fault wrong.said
    (one_reading v.circuit v.representatives lines j.at wrong.at is j.read wrong.read) j.kept j.agree wrong.says)

module _ (v : ReportJudgeView) (basis : JobBasis) where
  -- if the judge stands for a report up to a line, that line ends the run with no error
  pub judged_is_fine : (before : List (List ℕ)) (line : List ℕ) → StandsForReport v basis (before ++ line ∷ [])
      → (error : RunError) → ¬ IsWrongInReport basis before line error
  judged_is_fine before line h (Denied (Report number)) (is, inl none) =
      none (same_circuit (λ c r. IsReportFront c r (before ++ line ∷ [])) h.circuit h.representatives
      (reading_is_front v.circuit v.representatives (before ++ line ∷ []) h.judges.at h.judges.read))
  judged_is_fine before line h (Denied (Report number)) (is, inr contradicts) =
      same_circuit (λ c r. ¬ ContradictsTests c r basis.content.start basis.content.list
      (before ++ line ∷ [])) h.circuit h.representatives
      (contradicts_nothing v basis.content.start basis.content.list (before ++ line ∷ [])
      (subst IsCircuit (sym h.circuit) h.well_formed) h.judges) contradicts
  judged_is_fine before line h error wrong = wrong

  -- if the judge denies a line of a report, memory ran out or the line ends the run with that error
  pub denied_is_wrong : (before : List (List ℕ)) (line : List ℕ) → StandsForReport v basis before → (e : JudgeError)
      → ReportLineDeniedFor v basis.content.start basis.content.list before line e
      → (judged_error_of e ≡ NoMemory) ⊎ IsWrongInReport basis before line (judged_error_of e)
  denied_is_wrong before line h (judge.Denied (Report number)) denied = inr (
    denied.0,
    same_circuit (λ c r. (¬ IsReportFront c r (before ++ line ∷ []))
        ⊎ ContradictsTests c r basis.content.start basis.content.list
        (before ++ line ∷ [])) h.circuit h.representatives denied.1,
  )
  denied_is_wrong before line h judge.NoMemory denied = inl refl
  denied_is_wrong before line h e denied = absurd denied

-- ---- the first trouble

-- no line says nothing
nothing_contradicts : (c : Netlist) (representatives : List ℕ) (start : List Tern) (list : List (List Bool))
    → IsCircuit c → ¬ ContradictsTests c representatives start list []
nothing_contradicts c representatives start list is wrong =
    let same = one_reading c representatives [] before_report wrong.at is (record { readable = tt; lines_are = refl })
    wrong.read in
    silent wrong.at same wrong.says
  where
    silent : (at : ReportReading) → SaySame representatives before_report at
        → last_item representatives at ≡ Some (Verdict wrong.fault wrong.said) → ⊥
    silent before_report same says = let other = says in cc
    silent (in_report b s) same says = absurd same
    silent (after_report b s) same says = absurd same

module _ (basis : JobBasis) (text : List ℕ) (is : IsCircuit basis.circuit) where
  abbrev IsTrouble : ℕ → Type 0
  IsTrouble = IsReportTrouble basis.circuit basis.representatives basis.content.start basis.content.list text

  abbrev IsRefused : List (List ℕ) → Type 0
  IsRefused lines = (¬ IsReportFront basis.circuit basis.representatives lines)
      ⊎ ContradictsTests basis.circuit basis.representatives basis.content.start basis.content.list lines

  refused_at : (n : ℕ) → 0 < n → n ≤ length (lines_of text) → IsRefused (take n (lines_of text))
      → HasTroubleAt (IsWrongInReport basis) text n (Denied (Report (length (take (n - 1) (lines_of text)) + 1)))
  refused_at n some within refused = record {
    counted = (some, within);
    wrong = (refl, subst IsRefused (grown_to (lines_of text) n some within) refused);
  }

  contradicts_at : (n : ℕ) → ContradictsTests basis.circuit basis.representatives basis.content.start basis.content.list
      (take n (lines_of text)) → IsWrongAt (IsWrongInReport basis) text n
  contradicts_at zero wrong =
      absurd (nothing_contradicts basis.circuit basis.representatives basis.content.start basis.content.list is wrong)
  contradicts_at (suc n) wrong = elim (cases_lt n (length (lines_of text))) [
    | inl inside ↦ inl (_, refused_at (suc n) (omega arith) (omega (arith, inside)) (inr wrong))
    | inr past ↦ inr (inl (omega (arith, past)))
  ]

  parts : (n : ℕ) → IsTrouble n → IsWrongAt (IsWrongInReport basis) text n
  parts n (inl (inl none)) = inl (_, refused_at n none.counted.0 none.counted.1 (inl none.none))
  parts n (inl (inr (inl early))) = inr (inl (omega (arith, early.line)))
  parts n (inl (inr (inr long))) = inr (inr long)
  parts n (inr contradicts) = contradicts_at n contradicts

  refused_line : (before : List (List ℕ)) (line : List ℕ) → length before < length (lines_of text)
      → take (length before + 1) (lines_of text) ≡ before ++ line ∷ [] → IsRefused (before ++ line ∷ [])
      → IsTrouble (length before + 1)
  refused_line before line there grown (inl none) = inl (inl (record {
    counted = (omega arith, omega (arith, there));
    none = subst (λ l. ¬ IsReportFront basis.circuit basis.representatives l) (sym grown) none;
  }))
  refused_line before line there grown (inr wrong) =
      inr (subst (ContradictsTests basis.circuit basis.representatives basis.content.start basis.content.list)
      (sym grown) wrong)

  -- a line of a report that is denied after fine ones is its first trouble
  pub first_refused : (before : List (List ℕ)) (line : List ℕ) (number : ℕ) → AreFine (IsWrongInReport basis) before
      → HasFront (before ++ line ∷ []) text → IsWrongInReport basis before line (Denied (Report number))
      → IsFirst IsTrouble number
  first_refused before line number fine front wrong =
      let there = front_is before line text front in
      first_after (IsWrongInReport basis) text before fine (shorter before line text front) IsTrouble parts number
      wrong.0 (refused_line before line there.0 there.1 wrong.1)

  -- a line that is too long for a report, after fine ones, is its first trouble
  pub first_long : (before : List (List ℕ)) (number : ℕ) → AreClasses basis.circuit basis.representatives
      → HasShortNames basis.circuit → AreFine (IsWrongInReport basis) before → number ≡ length before + 1
      → HasLongLine MAX_LINE_BYTES before text → IsFirst IsTrouble number
  first_long before number classes names fine is_number long =
      let line = get_or (lines_of text) (length before) [] in
      first_after (IsWrongInReport basis) text before fine long.front IsTrouble parts number is_number
      (elim long.long [
        | inl wide ↦ refused_line before line long.there (next_is MAX_LINE_BYTES before text long)
            (inl (λ front.
            let short = report_is_short basis.circuit basis.representatives (before ++ line ∷ []) is classes names
            front (length before) [] (omega (arith, length-append before (line ∷ []))) in
            omega (arith, wide, short, ap length (get_or-append_seam before line [] []))))
        | inr late ↦ inl (inr (inr late))
      ])

  -- the report ends before it is whole
  pub first_missing : (lines : List (List ℕ)) (number : ℕ) → AreFine (IsWrongInReport basis) lines
      → HasTextLines lines text → number ≡ length lines + 1
      → ((budget : ℕ) (saids : List Said) → ¬ IsSearchReport basis.circuit basis.representatives lines budget saids)
      → IsFirst IsTrouble number
  first_missing lines number fine has is_number none =
      first_after (IsWrongInReport basis) text lines fine (whole_front lines text has) IsTrouble parts number is_number
      (inl (inr (inl (record {
        line = omega (arith, ap length has.lines_are);
        none = subst (λ l. (budget : ℕ) (saids : List Said)
            → ¬ IsSearchReport basis.circuit basis.representatives l budget saids) (sym has.lines_are) none;
      }))))

-- ---- why reading a report ends the run

module _ (job : Asked) (judged : judges job.command ≡ true) (name : List ℕ) (basis : JobBasis)
    (is : IsCircuit basis.circuit) (a b : DeskView)
  where
    abbrev Stops : RunError → Type 0
    Stops = ReadStops job basis in_port.Report name a b

    refuses : (number : ℕ) (IsSo : List ℕ → Type 0) → ((text : List ℕ) → IsSo text
        → IsRefusedFor job basis (Denied (Report number)) text)
        → WasRead in_port.Report name IsSo a → Stops (Denied (Report number))
    refuses number IsSo so read =
        (ap (λ (b : Bool). if b then Some in_port.Report else None) judged, read_so _ so read)

    -- what stops the lines of a report is why reading the file ends the run
    pub report_stops : {most : ℕ} {e : RunError} → AreClasses basis.circuit basis.representatives
        → HasShortNames basis.circuit → LinesStop (IsWrongInReport basis) (λ line. Denied (Report line)) MAX_LINE_BYTES
        most in_port.Report name a b e → Stops e
    report_stops {most = most} classes names stops = lines_stop Stops (λ s. s) tt at_line (λ line s.
        refuses line (HasLongLine MAX_LINE_BYTES s.before)
        (λ text long. first_long basis text is s.before line classes names s.fine s.line_is long) s.read) stops
      where
        at_line : (e : RunError) → StopsAtLine (IsWrongInReport basis) most e in_port.Report name a → Stops e
        at_line (Denied (Report number)) s = refuses number (HasFront (s.before ++ s.line ∷ []))
            (λ text front. first_refused basis text is s.before s.line number s.fine front s.wrong) s.read
        at_line e s = absurd s.wrong

    -- what the end of a report denies
    pub report_ends : {v : ReportJudgeView}
        → (read : StandsForFile (StandsForReport v basis) (IsWrongInReport basis) (2 ^ 64 - 1) in_port.Report name a)
        → (e : JudgeError) → ReportEndHasCause v read.lines e → Stops (judged_error_of e)
    report_ends {v = v} read (judge.Denied (Report number)) h =
        let none = same_circuit (λ c r. (budget : ℕ) (saids : List Said) → ¬ IsSearchReport c r read.lines budget saids)
        read.stands.circuit read.stands.representatives h.1 in
        refuses number (HasTextLines read.lines)
        (λ text has. first_missing basis text is read.lines number read.fine has h.0 none) (whole_file read)
    report_ends read (judge.Denied trouble) h = absurd h
    report_ends read judge.NoMemory h = tt

-- ---- a report that is whole

-- a report that the judge took to its end, true of the tests, is read, with its budget and verdicts
pub report_is_read : (v : ReportJudgeView) (basis : JobBasis) (name : List ℕ) (a : DeskView)
    → (read : StandsForFile (StandsForReport v basis) (IsWrongInReport basis) (2 ^ 64 - 1) in_port.Report name a)
    (budget : ℕ)
    (saids : List Said) → basis.content.budget ≡ budget → basis.content.saids ≡ saids
    → IsTrueReport v.circuit v.representatives basis.content.start basis.content.list read.lines budget saids
    → ReportIsRead basis name a
report_is_read v basis name a read budget saids same_budget same_saids whole =
    let says = basis.content in
    let is = same_circuit (λ c r. IsTrueReport c r says.start says.list read.lines says.budget says.saids)
    read.stands.circuit read.stands.representatives
    (subst (λ n. IsTrueReport v.circuit v.representatives says.start says.list read.lines n says.saids)
    (sym same_budget)
    (subst (λ l. IsTrueReport v.circuit v.representatives says.start says.list read.lines budget l) (sym same_saids)
    whole)) in
    record {
      each = is.report.search.saids_are.each;
      agrees = is.agrees;
      read = record {
        there = (whole_file read).there;
        told = λ text input.
            let has = (whole_file read).told text input in
            record {
              reported = record {
                report = subst (λ l. IsSearchReport basis.circuit basis.representatives l says.budget says.saids)
                    (sym has.lines_are) is.report;
                short = has.short;
              };
              agrees = is.agrees;
            };
      };
    }
