-- The start, read line by line after the netlist: its first line, and no other.
use Rattle.std.proofs.Common.{◌≡◌, inl, inr, ℕ, zero, suc, ◌+◌, ◌<◌, ◌≤◌, List, [], ◌∷◌, ◌++◌, Vec, true, length, take, get_or, cond, ap, subst, sym, refl, arith}
use Rattle.std.specs.Prelude.{IfErr, IfOk, Err, Ok, Result, Some, None, Bool, if◌then◌else◌, ◌==◌, Option}
use Rattle.std.specs.declared.alloc.Global.{Global}
use Rattle.std.proofs.lemmas.Bool.{cases_eq, cases_lt}
use Rattle.std.proofs.lemmas.Bool.Decides.{nat_tests}
use Rattle.std.proofs.lemmas.List.{length-take-le}
use Rattle.ht_inputs.proofs.Common.{AreFine, Asked, DeskView, EndsReading, Extra, HasFront, HasTextLines, HasLongLine}
use Rattle.ht_inputs.proofs.Common.{HasReadTo, InCall, IsTooLong, JobBasis, LinesStop, ReadStops, RunError, SaysBasis}
use Rattle.ht_inputs.proofs.Common.{Tern, WasRead, input_name, lines_of, max_text_bytes, order_of}
use Rattle.ht_inputs.proofs.Common.{refused_port, without_cr}
use Rattle.ht_inputs.specs.Inputs.{SaysExtra}
use Rattle.ht_ports.specs.declared.ports.InPort.TheVariants.{Tests}
use Rattle.ht_ports.specs.LineRule.{first_piece}
use Rattle.ht_ports.proofs.PieceLaws.{length-without_cr}
use Rattle.ht_ports.proofs.TextLaws.{first_line}
use Rattle.ht_net.specs.Circuit.Netlist.{max_dffs}
use Rattle.ht_texts.specs.Tests.{lf_count, line_at}
use Rattle.ht_texts.specs.StartTexts.{IsMalformedStart, IsStartLine, IsStartText}
use Rattle.ht_texts.proofs.LfLaws.{lf_count-cons}
use Rattle.ht_texts.proofs.StartLaws.{other_length_no_start, start_or_none}
use Rattle.ht_inputs.specs.declared.run_error.RunError.TheVariants.{BadStart}
use Rattle.ht_inputs.specs.Jobs.{may_state_start, turn_of}
use Rattle.ht_inputs.specs.Judging.{StandsForStart}
use Rattle.ht_inputs.proofs.FirstTroubleLaws.{front_is, shorter}
use Rattle.ht_inputs.proofs.JudgedLaws.{get_front, lines_stop}
use Rattle.ht_inputs.proofs.ReadingLaws.{one_more, read_so, stops_there}

-- ---- a text that gets too long in its first line has a long first line

-- bytes without an LF are in the first piece
in_first_piece : (text : List ℕ) (k : ℕ) → k ≤ length text → lf_count (take k text) ≡ 0 → k ≤ length (first_piece text)
in_first_piece [] k fits none = omega (arith, fits)
in_first_piece (x ∷ text) zero fits none = omega arith
in_first_piece (x ∷ text) (suc k) fits none =
    let cons : lf_count (x ∷ take k text) ≡ cond (x == 10) 1 0 + lf_count (take k text) =
    lf_count-cons x (take k text) in
    elim (cases_eq x 10) [
      | inl lf ↦ absurd (let one : lf_count (x ∷ take k text) ≡ 1 + lf_count (take k text) = grind (arith, nat_tests)
          in omega (arith, none, one))
      | inr other ↦
          let rest : lf_count (take k text) ≡ 0 = grind (arith, nat_tests) in
          let within = in_first_piece text k (omega (arith, fits)) rest in
          let more : length (first_piece (x ∷ text)) ≡ suc (length (first_piece text)) = grind (arith, nat_tests) in
          omega (arith, within, more)
    ]

long_line : (text : List ℕ) → IsTooLong text 1 → max_text_bytes ≤ length (line_at text 1) + 1
long_line [] long = absurd (let some = long.long in omega (arith, some))
long_line (x ∷ text) long =
    let first = first_line x text in
    let none : lf_count (take max_text_bytes (x ∷ text)) ≡ 0 = omega (arith, long.line) in
    let within = in_first_piece (x ∷ text) max_text_bytes (omega (arith, long.long)) none in
    let cut = length-without_cr (first_piece (x ∷ text)) in
    let here : length (line_at (x ∷ text) 1) ≡ length (without_cr (first_piece (x ∷ text))) =
    ap (λ (lines : List (List ℕ)). length (get_or lines 0 [])) first.1 in
    omega (arith, within, cut, here)

-- ---- the line that shows that a text is no start

-- the line is no start's, or isn't the first
abbrev pub IsNoStartLine : JobBasis → List (List ℕ) → List ℕ → RunError → Type 0
IsNoStartLine basis before line error = (error ≡ BadStart (length before + 1))
    × ((start : List Tern) → IsStartLine (length basis.circuit.dffs) line start → 0 < length before)

-- the first line of a text, where no other is before it
first_is : (before : List (List ℕ)) (line text : List ℕ) → HasFront (before ++ line ∷ []) text → length before ≡ 0
    → line_at text 1 ≡ line
first_is [] line text front none = ap (λ l. get_or l 0 []) front.lines_are
first_is (x ∷ before) line text front none = absurd (omega (arith, none))

-- the only line of one so far
pub only_line : (before : List (List ℕ)) (line : List ℕ) → length before ≡ 0
    → get_or (before ++ line ∷ []) 0 [] ≡ line
only_line [] line none = refl
only_line (x ∷ before) line none = absurd (omega (arith, none))

module _ (basis : JobBasis) (text : List ℕ) (before : List (List ℕ)) (fine : AreFine (IsNoStartLine basis) before) where
  abbrev IsBadAt : ℕ → Type 0
  IsBadAt = IsMalformedStart (length basis.circuit.dffs) text

  abbrev IsFirstLine : List ℕ → List Tern → Type 0
  IsFirstLine = IsStartLine (length basis.circuit.dffs)

  -- at most one line is fine
  few : length before < 2
  few = elim (cases_lt 1 (length before)) [
    | inl many ↦
        let one = length-take-le 1 before (omega (arith, many)) in
        absurd (fine 1 (BadStart (length (take 1 before) + 1)) many (refl, λ start is. omega (arith, one)))
    | inr upto ↦ omega (arith, upto)
  ]

  -- and then it is that of a start
  first_start : HasFront before text → 0 < length before → (start : List Tern) × IsFirstLine (line_at text 1) start
  first_start front some = elim (start_or_none (length basis.circuit.dffs) (line_at text 1)) [
    | inl read ↦ read
    | inr none ↦ absurd (fine 0 (BadStart (length (take 0 before) + 1)) some (
      refl,
      λ start is. absurd (none start (subst (λ (l : List ℕ). IsFirstLine l start)
          (sym (get_front before front.more (lines_of text) 0 front.lines_are some)) is)),
    ))
  ]

  bad_at : HasFront before text → length before < length (lines_of text)
      → (length before ≡ 0 → (start : List Tern) → ¬ IsFirstLine (line_at text 1) start) → IsBadAt (length before + 1)
  bad_at front there none = elim (cases_lt 0 (length before)) [
    | inl some ↦ inr (omega (arith, few, some), omega (arith, there, some), first_start front some)
    | inr first ↦ inl (omega (arith, first), none (omega (arith, first)))
  ]

  -- after fine lines, one that is no start's, or that comes second, is the first malformed one
  pub bad_start : (line : List ℕ) (error : RunError) → HasFront (before ++ line ∷ []) text
      → IsNoStartLine basis before line error → IsBadAt (length before + 1)
  bad_start line error front wrong =
      bad_at (shorter before line text front) (front_is before line text front).0 (λ first start is.
      let some = wrong.1 start (subst (λ (l : List ℕ). IsFirstLine l start)
      (first_is before line text front first) is) in
      omega (arith, some, first))

  -- after fine lines, one that is too long for a start is the first malformed one
  pub long_start : length basis.circuit.dffs ≤ max_dffs → HasLongLine max_dffs before text → IsBadAt (length before + 1)
  long_start fits long = bad_at long.front long.there (λ first.
      other_length_no_start (length basis.circuit.dffs) (line_at text 1) (λ same. elim long.long [
        | inl wide ↦
            let wider = subst (λ n. max_dffs < length (get_or (lines_of text) n [])) first wide in
            omega (arith, wider, fits, same)
        | inr late ↦
            let longer = long_line text (subst (λ n. IsTooLong text (n + 1)) first late) in
            omega (arith, longer, fits, same)
      ]))

-- ---- a job that states a start

refuses_start : (job : Asked) → may_state_start job ≡ true → (line : ℕ) → refused_port job (BadStart line) ≡ Some Extra
refuses_start job may line = ap (λ (is_start : Bool). if is_start then Some Extra else None) may

says_start : (job : Asked) (basis : JobBasis) (text : List ℕ) → may_state_start job ≡ true
    → IsStartText (length basis.circuit.dffs) text basis.content.start → SaysBasis job basis Extra text
says_start job basis text may is = subst (λ (b : Bool). SaysExtra b basis text) (sym may) is

module _ (job : Asked) (may : may_state_start job ≡ true) (basis : JobBasis) (name : List ℕ) (a b : DeskView) where
  abbrev Stops : RunError → Type 0
  Stops = ReadStops job basis Extra name a b

  -- why the lines of a start aren't all taken
  pub start_stops : {most : ℕ} {e : RunError} → length basis.circuit.dffs ≤ max_dffs
      → LinesStop (IsNoStartLine basis) BadStart max_dffs most Extra name a b e → Stops e
  start_stops fits stops = lines_stop Stops (λ fault. fault) tt
      (λ e s. subst Stops (sym s.wrong.0) (
        refuses_start job may (length s.before + 1),
        read_so _ (λ text front. bad_start basis text s.before s.fine s.line e front s.wrong) s.read,
      ))
      (λ line s. subst (λ (n : ℕ). Stops (BadStart n)) (sym s.line_is) (
        refuses_start job may (length s.before + 1),
        read_so _ (λ text long. long_start basis text s.before s.fine fits long) s.read,
      )) stops

  -- they end without one
  pub start_ends : (lines : List (List ℕ)) → WasRead Extra name (HasTextLines lines) a
      → ((start : List Tern) → ¬ IsStartLine (length basis.circuit.dffs) (get_or lines 0 []) start) → Stops (BadStart 1)
  start_ends lines read none = (
    refuses_start job may 1,
    read_so _ (λ text has. inl (
      refl,
      subst (λ (l : List (List ℕ)).
          (start : List Tern) → ¬ IsStartLine (length basis.circuit.dffs) (get_or l 0 []) start)
          (sym has.lines_are) none,
    )) read,
  )

-- what a reader that stands for the lines of a file has
pub line_of : (basis : JobBasis) (lines : List (List ℕ)) (start : Option (Vec Tern Global)) (values : Vec Tern Global)
    → StandsForStart start basis lines → start ≡ Some values
    → IsStartLine (length basis.circuit.dffs) (get_or lines 0 []) values.items
line_of basis lines start values stands is = rw is at stands.line

-- if a reader that stands for lines has no start, their first line is that of none
pub none_of : (basis : JobBasis) (lines : List (List ℕ)) (start : Option (Vec Tern Global))
    → StandsForStart start basis lines → start ≡ None
    → (values : List Tern) → ¬ IsStartLine (length basis.circuit.dffs) (get_or lines 0 []) values
none_of basis lines start stands is = rw is at stands.line

-- they have it
pub start_read : (width : ℕ) (start : List Tern) (lines : List (List ℕ)) (name : List ℕ) (a : DeskView)
    → WasRead Extra name (HasTextLines lines) a → IsStartLine width (get_or lines 0 []) start → length lines ≤ 1
    → WasRead Extra name (λ text. IsStartText width text start) a
start_read width start lines name a read is only = read_so _ (λ text has. record {
  line = subst (λ (l : List (List ℕ)). IsStartLine width (get_or l 0 []) start) (sym has.lines_are) is;
  only = omega (arith, only, ap length has.lines_are);
}) read

-- ---- the step after the netlist

at_one : (job : Asked) → may_state_start job ≡ true → order_of job Extra ≡ 1
at_one job may = ap (turn_of Extra) may

module _ {job : Asked} {basis : JobBasis} {first old new : DeskView} (may : may_state_start job ≡ true) {name : List ℕ}
    (reads : input_name job Extra ≡ Some name) (before : HasReadTo job basis 1 first old) (call : InCall Extra old new)
  where
    -- a start that is read after the netlist is the next file that the job has read
    pub start_step : (width : ℕ) → length basis.circuit.dffs ≡ width → (result : Result (Vec Tern Global) RunError)
        → IfOk result (λ start. WasRead Extra name (λ text. IsStartText width text start.items) old)
        → IfOk result (λ start. basis.content.start ≡ start.items → HasReadTo job basis 2 first new)
    start_step width of_width (Ok start) read = λ same.
        one_more before (at_one job may) reads call (before.netlist (omega arith))
        (read_so (SaysBasis job basis Extra) (λ text is. says_start job basis text may
        (subst (λ (w : ℕ). IsStartText w text basis.content.start) (sym of_width)
        (subst (λ (s : List Tern). IsStartText width text s) (sym same) is))) read)
    start_step width of_width (Err e) read = tt

    -- an error in reading the start after the netlist ends the reading of the job
    pub step_stops : (result : Result (Vec Tern Global) RunError) → IfErr result
        (ReadStops job basis Extra name old new)
        → IfErr result (EndsReading job first new)
    step_stops (Ok start) stops = tt
    step_stops (Err e) stops = stops_there before (at_one job may) reads call
        (λ late. absurd (omega (arith, late, ap (turn_of Tests) may, at_one job may))) e stops
