-- The list of faults, read line by line after the first vectors.
use Rattle.std.proofs.Common.{◌≡◌, ◌^◌, ◌-◌, inl, inr, ℕ, ◌+◌, ◌<◌, List, [], ◌∷◌, ◌++◌, length, take, refl, sym, ap, subst, arith}
use Rattle.std.proofs.lemmas.List.{length-take-le}
use Rattle.std.proofs.Math.Seq.{get_or-take}
use Rattle.ht_inputs.proofs.Common.{AreFine, DeskView, HasFront, HasLongLine, JobBasis, LinesStop, ReadStops, RunError}
use Rattle.ht_inputs.proofs.Common.{Asked, StandsForFile, WasRead, lines_of}
use Rattle.ht_ports.specs.declared.ports.InPort.TheVariants.{Faults}
use Rattle.ht_faults.specs.Sites.{faults_of}
use Rattle.ht_texts.specs.FaultListTexts.{AreFaultLines, IsFaultListText, IsMalformedFaultList, IsWrongFaultLine}
use Rattle.ht_texts.specs.declared.limits.TheConstants.{MAX_LINE_BYTES}
use Rattle.ht_texts.proofs.FaultListLaws.{fault_lines_are_short}
use Rattle.ht_inputs.specs.declared.run_error.RunError.TheVariants.{BadFaults}
use Rattle.ht_inputs.proofs.FirstTroubleLaws.{IsWrongAt, first_after, front_is, grown_to, shorter}
use Rattle.ht_inputs.proofs.JudgedLaws.{lines_stop, whole_file}
use Rattle.ht_inputs.proofs.ReadingLaws.{read_so}

abbrev pub fault_count : JobBasis → ℕ
fault_count basis = length (faults_of basis.circuit)

-- no list of faults goes on with the line
abbrev pub IsNoFault : JobBasis → List (List ℕ) → List ℕ → RunError → Type 0
IsNoFault basis before line error = (error ≡ BadFaults (length before + 1))
    × ((numbers : List ℕ) → ¬ AreFaultLines (fault_count basis) (before ++ line ∷ []) numbers)

-- the reader stands for these lines
abbrev pub StandsForFaults : ℕ → List ℕ → JobBasis → List (List ℕ) → Type 0
StandsForFaults count numbers basis lines = (count ≡ fault_count basis) × AreFaultLines count lines numbers

module _ (basis : JobBasis) (text : List ℕ) (before : List (List ℕ)) (fine : AreFine (IsNoFault basis) before) where
  abbrev IsBadAt : ℕ → Type 0
  IsBadAt = IsMalformedFaultList (fault_count basis) text

  fault_parts : (n : ℕ) → IsWrongFaultLine (fault_count basis) text n → IsWrongAt (IsNoFault basis) text n
  fault_parts n (inl none) = inl (
    _,
    record {
      counted = none.counted;
      wrong = (
        refl,
        λ numbers are. none.none (
          numbers,
          subst (λ l. AreFaultLines (fault_count basis) l numbers)
              (sym (grown_to (lines_of text) n none.counted.0 none.counted.1)) are,
        ),
      );
    },
  )
  fault_parts n (inr long) = inr (inr long)

  bad_at : HasFront before text → IsWrongFaultLine (fault_count basis) text (length before + 1)
      → IsBadAt (length before + 1)
  bad_at front wrong =
      let first = first_after (IsNoFault basis) text before fine front (IsWrongFaultLine (fault_count basis) text)
      fault_parts (length before + 1) refl wrong in
      record { wrong = first.wrong; first = first.first }

  -- after fine lines, one with which no list of faults goes on is the first malformed one
  pub bad_fault : (line : List ℕ) (error : RunError) → HasFront (before ++ line ∷ []) text
      → IsNoFault basis before line error → IsBadAt (length before + 1)
  bad_fault line error front wrong =
      let (there, is) = front_is before line text front in
      bad_at (shorter before line text front) (inl (record {
        counted = (omega arith, omega (arith, there));
        none = λ found. wrong.1 found.0 (subst (λ l. AreFaultLines (fault_count basis) l found.0) is found.1);
      }))

  -- after fine lines, one that is too long for a list of faults is the first malformed one
  pub long_fault : fault_count basis < 2 ^ 64 → HasLongLine MAX_LINE_BYTES before text → IsBadAt (length before + 1)
  long_fault few long = bad_at long.front (elim long.long [
    | inl wide ↦ inl (record {
      counted = (omega arith, omega (arith, long.there));
      none = λ found.
          let n = length before in
          let size = length-take-le (n + 1) (lines_of text) (omega (arith, long.there)) in
          let short = fault_lines_are_short (fault_count basis) (take (n + 1) (lines_of text)) found.0 few found.1 n []
          (omega (arith, size)) in
          let same = ap (λ (l : List ℕ). length l) (get_or-take (n + 1) (lines_of text) n [] (omega arith)) in
          omega (arith, wide, short, same);
    })
    | inr late ↦ inr late
  ])

module _ (job : Asked) (basis : JobBasis) (name : List ℕ) (a b : DeskView) where
  abbrev Stops : RunError → Type 0
  Stops = ReadStops job basis Faults name a b

  -- what stops the lines of a list of faults is why reading the file ends the run
  pub faults_stop : {most : ℕ} {e : RunError} → fault_count basis < 2 ^ 64
      → LinesStop (IsNoFault basis) BadFaults MAX_LINE_BYTES most Faults name a b e → Stops e
  faults_stop few stops = lines_stop Stops (λ fault. fault) tt
      (λ e s. subst Stops (sym s.wrong.0)
      (refl, read_so _ (λ text front. bad_fault basis text s.before s.fine s.line e front s.wrong) s.read))
      (λ line s. subst (λ (n : ℕ). Stops (BadFaults n)) (sym s.line_is)
      (refl, read_so _ (λ text long. long_fault basis text s.before s.fine few long) s.read)) stops

-- all numbers were read
pub faults_are_read : (count : ℕ) (numbers : List ℕ) (basis : JobBasis) {name : List ℕ} {a : DeskView}
    → StandsForFile (StandsForFaults count numbers basis) (IsNoFault basis) (2 ^ 64 - 1) Faults name a
    → WasRead Faults name (λ text. IsFaultListText count text numbers) a
faults_are_read count numbers basis read = read_so _ (λ text has. record {
  lines = subst (λ l. AreFaultLines count l numbers) (sym has.lines_are) read.stands.1;
  short = has.short;
}) (whole_file read)
