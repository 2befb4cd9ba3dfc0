-- The first trouble of proofs that are read line by line.
use Rattle.std.proofs.Common.{◌≡◌, ◌⊎◌, ◌^◌, Bool, true, false, inl, inr, ℕ, ◌+◌, ◌-◌, ◌<◌, ◌≤◌, List, [], ◌∷◌, ◌++◌, length, map, take, get_or, Some, refl, sym, ◌∙◌, ap, subst, arith}
use Rattle.std.specs.List.{All}
use Rattle.std.proofs.lemmas.List.{length-append}
use Rattle.std.proofs.Math.Seq.{get_or-append_seam}
use Rattle.std.specs.Prelude.{Result}
use Rattle.ht_inputs.proofs.Common.{Asked, AreFine, Content, Denied, DeskView, HasFront, HasTextLines, HasLongLine}
use Rattle.ht_inputs.proofs.Common.{JobBasis, JudgeError, LinesStop, Numbered, ReadStops, RunError, StandsForFile}
use Rattle.ht_inputs.proofs.Common.{StandsForProofs, StopsAtLine, WasRead, before_proofs}
use Rattle.ht_inputs.proofs.Common.{judged_error_of, line_text, lines_of, max_text_bytes, refused_port}
use Rattle.ht_ports.specs.declared.ports.InPort.TheVariants as in_port
use Rattle.ht_net.specs.Circuit.Netlist.{Netlist}
use Rattle.ht_entries.specs.declared.format.Format.{Format}
use Rattle.ht_entries.specs.EntryLines.{proof_lines}
use Rattle.ht_entries.specs.EntryTexts.{AreEntryTexts}
use Rattle.ht_entries.specs.declared.format.Format.TheVariants.{One, Two, Three}
use Rattle.ht_entries.specs.declared.limits.TheConstants.{MAX_PROOF_LINE_BYTES}
use Rattle.ht_entries.specs.ReaderStands.{ProofStands}
use Rattle.ht_entries.specs.ProofReading.{AreProofLines, IsMalformedAfter, IsProofFront, ProofReading, ProofReadsTo, before_first, after_first, within_entry, after_last, closed_of, lines_taken}
use Rattle.ht_entries.specs.MalformedProofs.{IsWrongProofLine}
use Rattle.ht_entries.proofs.LineLengthLaws.{front_is_short}
use Rattle.ht_entries.proofs.MalformedLaws.{one_place}
use Rattle.ht_entries.proofs.ReadLaws.{read_is_front}
use Rattle.ht_valid.specs.declared.trouble.Trouble.TheVariants.{Proofs, Fault}
use Rattle.ht_valid.specs.ValidFiles.{IsBacking, IsJustified}
use Rattle.ht_valid.specs.FirstTrouble.{EndsWrongEntry, IsEvidence, IsEvidenceTrouble, IsFaultTrouble, IsFirstFault, IsFirstProofLine, IsMissing, IsProofTrouble, IsTroubleAt}
use Rattle.ht_valid.proofs.ProofTroubleLaws.{backings_are_evidence}
use Rattle.ht_judge.specs.declared.judge_error.JudgeError.TheVariants as judge
use Rattle.ht_judge.specs.declared.report_judge.Claims.{Claims}
use Rattle.ht_judge.specs.ProofJudging.{AreCompleteProofs, AreJustifyingProofs, FollowsProofs, JudgesProofs, ProofEndHasCause, ProofJudgeView, ProofJudged, ProofLineDeniedFor}
use Rattle.ht_inputs.specs.declared.run_error.RunError.TheVariants.{NoMemory, ReadFault}
use Rattle.ht_inputs.specs.Inputs.{AreGoodProofs}
use Rattle.ht_inputs.specs.Judging.{AgreeWithTests, IsTroubleBy, IsTroubleIn, IsWrongInProofs, JudgesBy, ProofsAreRead, ProofsStop, VerdictsAreRead}
use Rattle.ht_inputs.specs.Refusals.{IsTroubleOf}
use Rattle.ht_inputs.proofs.JudgedLaws.{lines_stop, same_circuit, whole_file, whole_front}
use Rattle.ht_inputs.proofs.ReadingLaws.{read_so}
use Rattle.ht_inputs.proofs.FirstTroubleLaws.{IsWrongAt, at_line, first_after, front_is, grown_to, next_is, shorter}

-- ---- what a judge stands for is fine

-- the last of the entries that are whole
last_is : (IsSo : Numbered → Type 0) (before closed : List Numbered) (ended : Numbered) → closed ≡ before ++ ended ∷ []
    → All IsSo closed → IsSo ended
last_is IsSo before closed ended is so =
    let last = so (length before) ended (omega (arith, ap length is, length-append before (ended ∷ []))) in
    subst IsSo (ap (λ l. get_or l (length before) ended) is ∙ get_or-append_seam before ended [] ended) last

-- where all entries are right none that is wrong ends
none_ends_wrong : (IsRight : Numbered → Type 0) (before : List (List ℕ)) (line : List ℕ) (number : ℕ)
    (at : ProofReading) → ProofReadsTo (before ++ line ∷ []) at → All IsRight (closed_of at)
    → ¬ EndsWrongEntry IsRight before line number
none_ends_wrong IsRight before line number at read right wrong =
    let same : at ≡ wrong.new = one_place (before ++ line ∷ []) at wrong.new read wrong.reads.to in
    wrong.wrong (last_is IsRight (closed_of wrong.reads.old) (closed_of wrong.new) wrong.ended wrong.reads.ends
    (subst (λ at. All IsRight (closed_of at)) same right))

none_wrong : (follows : Bool) (v : ProofJudgeView) (content : Content) (before : List (List ℕ)) (line : List ℕ)
    (number : ℕ) → JudgesBy follows v content (before ++ line ∷ [])
    → ¬ IsTroubleBy follows v.circuit v.representatives content before line number
none_wrong false v content before line number j (inl wrong) =
    none_ends_wrong (IsBacking v.circuit v.representatives content) before line number j.at j.stands.read j.backed wrong
none_wrong false v content before line number j (inr leaves) =
    let same : j.at ≡ leaves.new = one_place (before ++ line ∷ []) j.at leaves.new j.stands.read leaves.reads.to in
    subst (λ at. ¬ IsMissing v.circuit v.representatives content at (number - 1)) same (j.complete (number - 1))
    leaves.missing.wrong
none_wrong true v content before line number j wrong =
    let said : Content = record content { saids = v.saids; entries = closed_of j.at } in
    none_ends_wrong (IsEvidence v.circuit v.representatives content.start content.list content.budget) before line
    number j.at j.stands.read
    (backings_are_evidence v.circuit v.representatives said (closed_of j.at) j.justified.agrees j.justified.backed)
    wrong

-- the lines for which a judge stands begin proofs
pub reads_to : (follows : Bool) (v : ProofJudgeView) (content : Content) (lines : List (List ℕ))
    → JudgesBy follows v content lines → (at : ProofReading) × ProofStands v.reader lines at
reads_to false v content lines j = (j.at, j.stands)
reads_to true v content lines j = (j.at, j.stands)

-- what the call with a line leaves, whether the judge goes by claims or follows the proofs
pub judged_by : (follows : Bool) (old new : ProofJudgeView) (line : List ℕ) (result : Result (Unit {0}) JudgeError)
    → ProofJudged JudgesProofs IsFaultTrouble old new line result
    → ProofJudged FollowsProofs IsEvidenceTrouble old new line result
    → ProofJudged (JudgesBy follows) (IsTroubleBy follows) old new line result
judged_by false old new line result judged followed = judged
judged_by true old new line result judged followed = followed

module _ (v : ProofJudgeView) (basis : JobBasis) where
  -- if the judge stands for proofs up to a line, that line ends the run with no error
  pub judged_is_fine : (before : List (List ℕ)) (line : List ℕ) → StandsForProofs v basis (before ++ line ∷ [])
      → (error : RunError) → ¬ IsWrongInProofs basis before line error
  judged_is_fine before line h (Denied (Proofs number)) wrong =
      let (at, stands) = reads_to basis.follows v (before_proofs basis.content) (before ++ line ∷ []) h.judges in
      wrong.1 (read_is_front (before ++ line ∷ []) at stands.read)
  judged_is_fine before line h (Denied (Fault number)) wrong =
      same_circuit (λ c r. ¬ IsTroubleBy basis.follows c r (before_proofs basis.content) before line number) h.circuit
      h.representatives
      (none_wrong basis.follows v (before_proofs basis.content) before line number h.judges) wrong
  judged_is_fine before line h error wrong = wrong

  -- if the judge denies a line of proofs, memory ran out or the line ends the run with that error
  pub denied_is_wrong : (before : List (List ℕ)) (line : List ℕ) → StandsForProofs v basis before → (e : JudgeError)
      → ProofLineDeniedFor (IsTroubleBy basis.follows v.circuit v.representatives (before_proofs basis.content)) before
      line e
      → (judged_error_of e ≡ NoMemory) ⊎ IsWrongInProofs basis before line (judged_error_of e)
  denied_is_wrong before line h (judge.Denied (Proofs number)) denied = inr denied
  denied_is_wrong before line h (judge.Denied (Fault number)) denied =
      inr (same_circuit (λ c r. IsTroubleBy basis.follows c r (before_proofs basis.content) before line number)
      h.circuit h.representatives denied)
  denied_is_wrong before line h judge.NoMemory denied = inl refl
  denied_is_wrong before line h e denied = absurd denied

-- the first line of proofs has bytes, so there are fewer lines than a text has bytes
first_is_head : (line : List ℕ) (lines : List (List ℕ)) (at : ProofReading)
    → line ∷ lines ≡ map line_text (lines_taken at) → length line ≡ 8
first_is_head line lines before_first is = let other = is in cc
first_is_head line lines (after_first One) is = ap (λ l. length (get_or l 0 [])) is
first_is_head line lines (after_first Two) is = ap (λ l. length (get_or l 0 [])) is
first_is_head line lines (after_first Three) is = ap (λ l. length (get_or l 0 [])) is
first_is_head line lines (within_entry One closed number p) is = ap (λ l. length (get_or l 0 [])) is
first_is_head line lines (within_entry Two closed number p) is = ap (λ l. length (get_or l 0 [])) is
first_is_head line lines (within_entry Three closed number p) is = ap (λ l. length (get_or l 0 [])) is
first_is_head line lines (after_last One closed) is = ap (λ l. length (get_or l 0 [])) is
first_is_head line lines (after_last Two closed) is = ap (λ l. length (get_or l 0 [])) is
first_is_head line lines (after_last Three closed) is = ap (λ l. length (get_or l 0 [])) is

-- lines that proofs begin with are fewer than the bytes that a text may have
pub fewer_lines : (lines : List (List ℕ)) (at : ProofReading) → ProofReadsTo lines at
    → length (get_or lines 0 []) + length lines ≤ max_text_bytes + 1 → length lines < max_text_bytes
fewer_lines [] at read few = omega arith
fewer_lines (line ∷ lines) at read few = omega (arith, few, first_is_head line lines at read.lines_are)

-- ---- the first trouble

-- the line with which something is wrong with an entry is well formed
trouble_is_front : (follows : Bool) (c : Netlist) (representatives : List ℕ) (content : Content)
    (before : List (List ℕ)) (line : List ℕ) (number : ℕ)
    → IsTroubleBy follows c representatives content before line number → IsProofFront (before ++ line ∷ [])
trouble_is_front false c representatives content before line number (inl wrong) =
    read_is_front (before ++ line ∷ []) wrong.new wrong.reads.to
trouble_is_front false c representatives content before line number (inr leaves) =
    read_is_front (before ++ line ∷ []) leaves.new leaves.reads.to
trouble_is_front true c representatives content before line number wrong =
    read_is_front (before ++ line ∷ []) wrong.new wrong.reads.to

module _ (basis : JobBasis) (text : List ℕ) where
  abbrev IsTrouble : ℕ → Type 0
  IsTrouble = IsProofTrouble (IsTroubleIn basis) text

  parts : (n : ℕ) → IsTrouble n → IsWrongAt (IsWrongInProofs basis) text n
  parts n (inl (inl none)) = inl (
    Denied (Proofs (length (take (n - 1) (lines_of text)) + 1)),
    record {
      counted = none.counted;
      wrong =
          (refl, subst (λ l. ¬ IsProofFront l) (grown_to (lines_of text) n none.counted.0 none.counted.1) none.none);
    },
  )
  parts n (inl (inr (inl early))) = inr (inl (omega (arith, early.line)))
  parts n (inl (inr (inr long))) = inr (inr long)
  parts n (inr (number, at)) = inl (Denied (Fault number), record { counted = at.counted; wrong = at.trouble })

  malformed_line : (before : List (List ℕ)) (line : List ℕ) → length before < length (lines_of text)
      → take (length before + 1) (lines_of text) ≡ before ++ line ∷ [] → IsMalformedAfter before line
      → IsWrongProofLine text (length before + 1)
  malformed_line before line there grown none = inl (record {
    counted = (omega arith, omega (arith, there));
    none = subst (λ l. ¬ IsProofFront l) (sym grown) none;
  })

  -- a line after those with which nothing is wrong is the first that is malformed
  first_malformed : (before : List (List ℕ)) (number : ℕ) → AreFine (IsWrongInProofs basis) before
      → HasFront before text → number ≡ length before + 1 → IsWrongProofLine text (length before + 1)
      → IsFirstProofLine (IsTroubleIn basis) text number
  first_malformed before number fine front is wrong = record {
    malformed = subst (IsWrongProofLine text) (sym is) wrong;
    first = first_after (IsWrongInProofs basis) text before fine front IsTrouble parts number is (inl wrong);
  }

  -- a malformed line after fine ones is the first malformed line of the proofs
  pub first_refused : (before : List (List ℕ)) (line : List ℕ) (number : ℕ) → AreFine (IsWrongInProofs basis) before
      → HasFront (before ++ line ∷ []) text → IsWrongInProofs basis before line (Denied (Proofs number))
      → IsFirstProofLine (IsTroubleIn basis) text number
  first_refused before line number fine front wrong =
      let there = front_is before line text front in
      first_malformed before number fine (shorter before line text front) wrong.0
      (malformed_line before line there.0 there.1 wrong.1)

  -- a line that is too long for proofs, after fine ones, is their first malformed line
  pub first_long : (before : List (List ℕ)) (number : ℕ) → AreFine (IsWrongInProofs basis) before
      → number ≡ length before + 1 → HasLongLine MAX_PROOF_LINE_BYTES before text
      → IsFirstProofLine (IsTroubleIn basis) text number
  first_long before number fine is long =
      let line = get_or (lines_of text) (length before) [] in
      first_malformed before number fine long.front is
      (elim long.long [
        | inl wide ↦ malformed_line before line long.there (next_is MAX_PROOF_LINE_BYTES before text long) (λ front.
            let short = front_is_short (before ++ line ∷ []) front (length before) []
            (omega (arith, length-append before (line ∷ []))) in
            omega (arith, wide, short, ap length (get_or-append_seam before line [] [])))
        | inr late ↦ inr (inr late)
      ])

  -- the proofs end before they are whole
  pub first_missing : (lines : List (List ℕ)) (number : ℕ) → AreFine (IsWrongInProofs basis) lines
      → HasTextLines lines text → number ≡ length lines + 1 → ¬ AreProofLines lines
      → IsFirstProofLine (IsTroubleIn basis) text number
  first_missing lines number fine has is none = first_malformed lines number fine (whole_front lines text has) is
      (inr (inl (record {
        line = omega (arith, ap length has.lines_are);
        none = subst (λ l. ¬ AreProofLines l) (sym has.lines_are) none;
      })))

  well_formed : (before : List (List ℕ)) (line : List ℕ) → HasFront (before ++ line ∷ []) text
      → IsProofFront (before ++ line ∷ []) → ¬ IsWrongProofLine text (length before + 1)
  well_formed before line front is (inl none) = none.none (subst IsProofFront (sym (front_is before line text
      front).1) is)
  well_formed before line front is (inr (inl early)) =
      let there = (front_is before line text front).0 in
      omega (arith, there, early.line)
  well_formed before line front is (inr (inr long)) =
      front.short (length before + 1) (omega (arith, length-append before (line ∷ []))) long

  -- a fault whose entry is found wrong with a line after fine ones is the first such fault
  pub first_fault : (before : List (List ℕ)) (line : List ℕ) (number : ℕ) → AreFine (IsWrongInProofs basis) before
      → HasFront (before ++ line ∷ []) text → IsTroubleIn basis before line number
      → IsFirstFault (IsTroubleIn basis) text number
  first_fault before line number fine front wrong =
      let here = at_line (IsWrongInProofs basis) text before line front (Denied (Fault number)) wrong in
      let at : IsTroubleAt (IsTroubleIn basis) text (length before + 1) number =
      record { counted = here.counted; trouble = here.wrong } in
      record {
        line = length before + 1;
        well_formed = well_formed before line front (trouble_is_front basis.follows basis.circuit
            basis.representatives (before_proofs basis.content) before line number wrong);
        wrong = at;
        first = first_after (IsWrongInProofs basis) text before fine (shorter before line text front) IsTrouble parts
            (length before + 1) refl (inr (number, at));
      }

-- ---- why reading proofs ends the run

module _ (name : List ℕ) (basis : JobBasis) (a b : DeskView) where
  -- what stops the lines of proofs is why reading the file ends the run
  pub proofs_stop : {most : ℕ} {e : RunError} → LinesStop (IsWrongInProofs basis) (λ line. Denied (Proofs line))
      MAX_PROOF_LINE_BYTES most in_port.Proofs name a b e → ProofsStop basis name a b e
  proofs_stop {most = most} stops = lines_stop (ProofsStop basis name a b) (λ s. s) tt at_line (λ line s.
      read_so (λ text. IsFirstProofLine (IsTroubleIn basis) text line)
      (λ text long. first_long basis text s.before line s.fine s.line_is long) s.read) stops
    where
      at_line : (e : RunError) → StopsAtLine (IsWrongInProofs basis) most e in_port.Proofs name a
          → ProofsStop basis name a b e
      at_line (Denied (Proofs number)) s = read_so (λ text. IsFirstProofLine (IsTroubleIn basis) text number)
          (λ text front. first_refused basis text s.before s.line number s.fine front s.wrong) s.read
      at_line (Denied (Fault number)) s = read_so (λ text. IsFirstFault (IsTroubleIn basis) text number)
          (λ text front. first_fault basis text s.before s.line number s.fine front s.wrong) s.read
      at_line e s = absurd s.wrong

  -- what the end of proofs denies
  pub proofs_end : {v : ProofJudgeView}
      → (read : StandsForFile (StandsForProofs v basis) (IsWrongInProofs basis) (2 ^ 64 - 1) in_port.Proofs name a)
      → (e : JudgeError) → ProofEndHasCause read.lines e → ProofsStop basis name a b (judged_error_of e)
  proofs_end read (judge.Denied (Proofs number)) h = read_so (λ text. IsFirstProofLine (IsTroubleIn basis) text number)
      (λ text has. first_missing basis text read.lines number read.fine has h.0 h.1) (whole_file read)
  proofs_end read (judge.Denied trouble) h = absurd h
  proofs_end read judge.NoMemory h = tt

  -- the same of a job that denies such proofs
  pub job_stops : (job : Asked)
      → ((line : ℕ) → refused_port job (Denied (Proofs line)) ≡ Some in_port.Proofs)
      → ((number : ℕ) → refused_port job (Denied (Fault number)) ≡ Some in_port.Proofs)
      → ((text : List ℕ) (line : ℕ) → IsFirstProofLine (IsTroubleIn basis) text line
      → IsFirstProofLine (IsTroubleOf job basis) text line)
      → ((text : List ℕ) (number : ℕ) → IsFirstFault (IsTroubleIn basis) text number
      → IsFirstFault (IsTroubleOf job basis) text number)
      → (e : RunError) → ProofsStop basis name a b e → ReadStops job basis in_port.Proofs name a b e
  job_stops job at_lines at_faults lines faults (Denied (Proofs line)) s = (
    at_lines line,
    read_so (λ text. IsFirstProofLine (IsTroubleOf job basis) text line) (λ text. lines text line) s,
  )
  job_stops job at_lines at_faults lines faults (Denied (Fault number)) s = (
    at_faults number,
    read_so (λ text. IsFirstFault (IsTroubleOf job basis) text number) (λ text. faults text number) s,
  )
  job_stops job at_lines at_faults lines faults ReadFault s = s
  job_stops job at_lines at_faults lines faults NoMemory s = tt
  job_stops job at_lines at_faults lines faults e s = absurd s

-- ---- proofs that are whole

-- entries that the lines have, and that justify what is said, are those of the file
entries_are_read : (c : Netlist) (representatives : List ℕ) (content : Content) (lines : List (List ℕ))
    (format : Format) (name : List ℕ) (a : DeskView) → IsJustified c representatives content
    → AreEntryTexts format content.entries → lines ≡ map line_text (proof_lines format content.entries)
    → WasRead in_port.Proofs name (HasTextLines lines) a → ProofsAreRead c representatives content name a
entries_are_read c representatives content lines format name a justified are lines_are file = record {
  justified = justified;
  read = read_so (AreGoodProofs c representatives content) (λ text has. record {
    proved = record { format = format; are = are; lines = has.lines_are ∙ lines_are; short = has.short };
    justified = justified;
  }) file;
}

-- complete proofs of what is said, which agrees with the tests, are read, with some entries
pub claimed_are_read : (c : Netlist) (representatives : List ℕ) (content : Content) (lines : List (List ℕ))
    (name : List ℕ) (a : DeskView) → AgreeWithTests c representatives content
    → AreCompleteProofs c representatives (before_proofs content) lines → WasRead in_port.Proofs name
    (HasTextLines lines) a
    → (entries : List Numbered) × ProofsAreRead c representatives (record content { entries = entries }) name a
claimed_are_read c representatives content lines name a agrees is file =
    let whole : Content = record content { entries = is.entries } in
    let backed : All (IsBacking c representatives whole) is.entries = λ k e lt.
    (let one = is.backed k e lt in record { own = one.own; counted = one.counted; backs = one.backs }) in (
      is.entries,
      entries_are_read c representatives whole lines is.format name a
          (record { agrees = agrees; backed = backed; complete = is.complete }) is.are is.lines_are file,
    )

-- proofs that justify the claims of a judge that followed them are read, with these verdicts
pub followed_are_read : (c : Netlist) (representatives : List ℕ) (content : Content) (claims : Claims)
    (lines : List (List ℕ)) (name : List ℕ) (a : DeskView) → claims.budget ≡ content.budget
    → AreJustifyingProofs c representatives (record (before_proofs content) { saids = claims.saids.items }) lines
    → WasRead in_port.Proofs name (HasTextLines lines) a → VerdictsAreRead c representatives content name a claims
followed_are_read c representatives content claims lines name a budget is file = record {
  budget = budget;
  each = is.each;
  entries = is.entries;
  are = entries_are_read c representatives
      (record content { saids = claims.saids.items; entries = is.entries }) lines is.format name a is.justified is.are
      is.lines_are file;
}
