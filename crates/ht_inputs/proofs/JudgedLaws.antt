-- The lines of a file that a judge took so far.
use Rattle.std.proofs.Common.{◌≡◌, ◌⊎◌, ◌^◌, inl, inr, ℕ, ◌+◌, ◌-◌, ◌<◌, ◌≤◌, List, [], ◌∷◌, ◌++◌, length, take, get_or, Some, Option, sym, ◌∙◌, ap, subst, arith, refl, append-nil}
use Rattle.std.specs.Prelude.{slice_index}
use Rattle.std.proofs.lemmas.Bool.{cases_eq, cases_lt}
use Rattle.std.proofs.lemmas.Bool.Decides.{nat_tests}
use Rattle.std.proofs.lemmas.Grind.{common_steps}
use Rattle.std.proofs.lemmas.List.{length-append, length-take-le, take-append-le}
use Rattle.std.proofs.Math.Seq.{take-append_seam, get_or-append_seam}
use Rattle.ht_inputs.proofs.Common.{AreFine, DeskView, HasFront, HasTextLines, InCall, InPort, IsInput, IsTooLongLine}
use Rattle.ht_inputs.proofs.Common.{LinesSoFar, LinesStop, MayBeHeld, ReadFault, RunError, StandsForFile, StopsAtLine}
use Rattle.ht_inputs.proofs.Common.{WasRead, lines_of, max_text_bytes, rest_of, without_cr}
use Rattle.ht_ports.specs.Desk.{Reads}
use Rattle.ht_ports.specs.Lines.{LinesView, Gives, GivesNone}
use Rattle.ht_ports.specs.LineRule.{NextLine}
use Rattle.ht_ports.proofs.CallLaws.{in_call_trans}
use Rattle.std.specs.Io.KnownBytes.{IsAtEnd}
use Rattle.ht_texts.proofs.LinesSoFarLaws.{lines_end, lines_next, lines_start, read_lines_fit}
use Rattle.ht_net.specs.Circuit.Netlist.{Netlist}
use Rattle.ht_inputs.specs.declared.run_error.RunError.TheVariants.{NoMemory}
use Rattle.ht_inputs.specs.Reading.{IsReadFault}
use Rattle.ht_inputs.specs.Judging.{StopsAtLong}
use Rattle.ht_inputs.proofs.NextLineLaws.{next_is_long}
use Rattle.ht_inputs.proofs.ReadingLaws.{read_so}

-- what holds of a circuit and its classes holds of equal ones
pub same_circuit : (IsSo : Netlist → List ℕ → Type 0) {c d : Netlist} {r s : List ℕ} → c ≡ d → r ≡ s → IsSo c r
    → IsSo d s
same_circuit IsSo {c = c} {s = s} circuit representatives h =
    subst (λ (n : Netlist). IsSo n s) circuit (subst (IsSo c) representatives h)

-- ---- lines, one after the other

get_or-front : (xs ys : List (List ℕ)) (k : ℕ) → k < length xs → get_or (xs ++ ys) k [] ≡ get_or xs k []
get_or-front xs ys k lt = grind (arith, common_steps)

-- what begins with other lines has these first
pub take_front : (xs ys lines : List (List ℕ)) (k : ℕ) → lines ≡ xs ++ ys → k ≤ length xs → take k lines ≡ take k xs
take_front xs ys lines k is within = ap (take k) is ∙ take-append-le k xs ys within

-- a line of a text within its first lines is the one of the same index among these
pub get_front : (xs ys lines : List (List ℕ)) (k : ℕ) → lines ≡ xs ++ ys → k < length xs
    → get_or lines k [] ≡ get_or xs k []
get_front xs ys lines k is inside = ap (λ l. get_or l k []) is ∙ get_or-front xs ys k inside

module _ (IsWrong : List (List ℕ) → List ℕ → RunError → Type 0) where
  -- after fine lines, one that ends the run with no error leaves all of them fine
  pub one_more_fine : (lines : List (List ℕ)) (line : List ℕ) → AreFine IsWrong lines
      → ((error : RunError) → ¬ IsWrong lines line error) → AreFine IsWrong (lines ++ line ∷ [])
  one_more_fine lines line fine is k error lt wrong = elim (cases_lt k (length lines)) [
    | inl below ↦ fine k error below
        (subst (λ l. IsWrong l (get_or lines k []) error) (take_front lines (line ∷ []) _ k refl (omega arith))
        (subst (λ l. IsWrong (take k (lines ++ line ∷ [])) l error) (get_front lines (line ∷ []) _ k refl below)
        wrong))
    | inr upto ↦
        let same : k ≡ length lines = omega (arith, lt, upto, length-append lines (line ∷ [])) in
        let last = subst (λ n. IsWrong (take n (lines ++ line ∷ [])) (get_or (lines ++ line ∷ []) n []) error) same
        wrong in
        is error (subst (λ l. IsWrong l line error) (take-append_seam lines (line ∷ []))
        (subst (λ l. IsWrong (take (length lines) (lines ++ line ∷ [])) l error)
        (get_or-append_seam lines line [] []) last))
  ]

-- ---- a file, line by line

-- a read is a call on the port
pub read_call : {port other : InPort} {a b c : DeskView} → other ≡ port → InCall port a b → Reads other b c
    → InCall port a c
read_call {port = port} {a = a} {b = b} {c = c} same p q =
    in_call_trans port a b c p (subst (λ (o : InPort). Reads o b c) same q).call

-- so many bytes of the text were given, and its lines so far are these
abbrev pub IsGiven : List ℕ → ℕ → List (List ℕ) → Option (List ℕ) → Type 0
IsGiven text passed lines rest = (left : List ℕ) × (rest ≡ Some left) × LinesSoFar text passed lines left

-- The judge stands for the lines that were given.
pub record Takes (Stands : List (List ℕ) → Type 0) (IsWrong : List (List ℕ) → List ℕ → RunError → Type 0)
    (port : InPort) (name : List ℕ) (first now : DeskView) (reader : LinesView) : Type 0 where
  pub lines : List (List ℕ)
  pub counted : length lines ≡ reader.lines_read
  pub stands : Stands lines
  pub fine : AreFine IsWrong lines
  pub few : length (get_or lines 0 []) + length lines ≤ reader.bytes_read + 1
  pub given : (text : List ℕ) → IsInput port name text first
      → IsGiven text reader.bytes_read lines (rest_of reader now)

-- a line has no more bytes than it takes with its end
line_is_within : (line : List ℕ) (count : ℕ) (old new : Option (List ℕ)) → NextLine line count old new
    → length line ≤ count
line_is_within line count old new next =
    let inner = length-without_cr next.piece in
    elim next.next.ends [
      | inl lf ↦ omega (arith, ap length next.is, inner, next.size, ap length lf, length-append next.piece (10 ∷ []))
      | inr last ↦ omega (arith, ap length next.is, inner, next.size, ap length last.0)
    ]
  where
    length-without_cr : (piece : List ℕ) → length (without_cr piece) ≤ length piece
    length-without_cr piece = elim (cases_eq (slice_index piece (length piece - 1)) 13) [
      | inl cr ↦ grind (arith, nat_tests, common_steps, length-take-le (length piece - 1) piece (omega arith))
      | inr other ↦ grind (arith, nat_tests, common_steps)
    ]

-- one line more
few_more : (lines : List (List ℕ)) (line : List ℕ) (passed count : ℕ)
    → length (get_or lines 0 []) + length lines ≤ passed + 1 → 0 < count → length line ≤ count
    → length (get_or (lines ++ line ∷ []) 0 []) + length (lines ++ line ∷ []) ≤ passed + count + 1
few_more [] line passed count few some within = omega (arith, within)
few_more (first ∷ lines) line passed count few some within =
    omega (arith, few, some, length-append lines (line ∷ []))

-- the lines so far are the front of the text
front_given : (text : List ℕ) (passed : ℕ) (lines : List (List ℕ)) (left : List ℕ) → LinesSoFar text passed lines left
    → passed ≤ max_text_bytes → HasFront lines text
front_given text passed lines left so fits = record {
  more = lines_of left;
  lines_are = so.lines_are;
  short = λ n upto. read_lines_fit text passed lines left n so fits upto;
}

-- all lines are a front
pub whole_front : (lines : List (List ℕ)) (text : List ℕ) → HasTextLines lines text → HasFront lines text
whole_front lines text has = record {
  more = [];
  lines_are = has.lines_are ∙ sym (append-nil lines);
  short = λ n upto long. omega (arith, long.long, has.short);
}

module _ (Stands : List (List ℕ) → Type 0) (IsWrong : List (List ℕ) → List ℕ → RunError → Type 0) {port : InPort}
    {name : List ℕ} {first : DeskView}
  where
    -- before the first line is read, a judge that stands for no lines has taken all that were read
    pub takes_start : {now : DeskView} {reader : LinesView} → reader.lines_read ≡ 0 → reader.bytes_read ≡ 0 → Stands []
        → ((text : List ℕ) → IsInput port name text first → rest_of reader now ≡ Some text)
        → Takes Stands IsWrong port name first now reader
    takes_start none nothing stands rest = record {
      lines = [];
      counted = sym none;
      stands = stands;
      fine = λ k error lt. absurd (omega (arith, lt));
      few = omega arith;
      given = λ text is.
          (text, rest text is, subst (λ n. LinesSoFar text n [] text) (sym nothing) (lines_start text));
    }

module _ {Stands : List (List ℕ) → Type 0} {IsWrong : List (List ℕ) → List ℕ → RunError → Type 0} {port : InPort}
    {name : List ℕ} {first a b : DeskView} {old new : LinesView} (t : Takes Stands IsWrong port name first a old) where
  module _ {line : List ℕ} (gives : Gives line old new a b) where
    given_next : (text : List ℕ) → IsInput port name text first
        → IsGiven text new.bytes_read (t.lines ++ line ∷ []) (rest_of new b)
    given_next text input =
        let before = t.given text input in
        let step = subst (λ (r : Option (List ℕ)). NextLine line gives.count r (rest_of new b)) before.1 gives.next in
        let after = lines_next text old.bytes_read t.lines before.0 line gives.count (rest_of new b) before.2 step
        in (
          after.0,
          after.1,
          subst (λ n. LinesSoFar text n (t.lines ++ line ∷ []) after.0) (sym gives.bytes_read) after.3,
        )

    -- a judge that takes the next line, with which nothing is wrong, has taken all lines up to it
    pub takes_more : (After : List (List ℕ) → Type 0) → After (t.lines ++ line ∷ [])
        → ((error : RunError) → ¬ IsWrong t.lines line error) → Takes After IsWrong port name first b new
    takes_more After stands is = record {
      lines = t.lines ++ line ∷ [];
      counted = omega (arith, length-append t.lines (line ∷ []), t.counted, gives.lines_read);
      stands = stands;
      fine = one_more_fine IsWrong t.lines line t.fine is;
      few = subst (λ n. length (get_or (t.lines ++ line ∷ []) 0 []) + length (t.lines ++ line ∷ []) ≤ n + 1)
          (sym gives.bytes_read)
          (few_more t.lines line old.bytes_read gives.count t.few gives.some
          (line_is_within line gives.count (rest_of old a) (rest_of new b) gives.next));
      given = given_next;
    }

    -- a judge that doesn't take the line
    pub stops_judged : (error_at : ℕ → RunError) (longest : ℕ) {most : ℕ} {e : RunError} → MayBeHeld first name
        → length t.lines < most → (e ≡ NoMemory) ⊎ IsWrong t.lines line e
        → LinesStop IsWrong error_at longest most port name first b e
    stops_judged error_at longest there upto (inl none) = inr (inl none)
    stops_judged error_at longest there upto (inr wrong) = inr (inr (inl (record {
      before = t.lines;
      line = line;
      fine = t.fine;
      upto = upto;
      wrong = wrong;
      read = record {
        there = there;
        told = λ text input.
            let after = given_next text input in
            front_given text new.bytes_read (t.lines ++ line ∷ []) after.0 after.2 gives.fits;
      };
    })))

  -- the file is at its end
  pub takes_all : (most : ℕ) → GivesNone old new a b → old.lines_read ≤ old.bytes_read → old.bytes_read ≤ max_text_bytes
      → length t.lines ≤ most → MayBeHeld first name → StandsForFile Stands IsWrong most port name first
  takes_all most none below fits upto there = record {
    lines = t.lines;
    stands = t.stands;
    fine = t.fine;
    few = omega (arith, t.few, fits);
    fits = omega (arith, t.counted, below, fits);
    upto = upto;
    front = read_so (HasFront t.lines) (λ text has. whole_front t.lines text has) whole;
    whole = λ fewer. whole;
  }
    where
      whole : WasRead port name (HasTextLines t.lines) first
      whole = record {
        there = there;
        told = λ text input.
            let before = t.given text input in
            let end : before.0 ≡ [] = subst IsAtEnd (none.rest ∙ before.1) none.at_end in
            let all = lines_end text old.bytes_read t.lines
            (subst (LinesSoFar text old.bytes_read t.lines) end before.2) in
            record { lines_are = all.0; short = omega (arith, all.1, fits) };
      }

-- so many lines were taken
pub takes_enough : {Stands : List (List ℕ) → Type 0} {IsWrong : List (List ℕ) → List ℕ → RunError → Type 0}
    {port : InPort} {name : List ℕ} {first a : DeskView} {old : LinesView} (most : ℕ)
    → Takes Stands IsWrong port name first a old → old.lines_read ≤ old.bytes_read → old.bytes_read ≤ max_text_bytes
    → old.lines_read ≡ most → MayBeHeld first name → StandsForFile Stands IsWrong most port name first
takes_enough {old = old} most t below fits all there = record {
  lines = t.lines;
  stands = t.stands;
  fine = t.fine;
  few = omega (arith, t.few, fits);
  fits = omega (arith, t.counted, below, fits);
  upto = omega (arith, t.counted, all);
  front = record {
    there = there;
    told = λ text input.
        let before = t.given text input in
        front_given text old.bytes_read t.lines before.0 before.2 fits;
  };
  whole = λ fewer. absurd (omega (arith, fewer, t.counted, all));
}

-- if the line after those that a judge took is too long, the file stops at it
pub stops_at_long : {Stands : List (List ℕ) → Type 0} {IsWrong : List (List ℕ) → List ℕ → RunError → Type 0}
    {port : InPort} {name : List ℕ} {first a : DeskView} {old : LinesView} (longest : ℕ) {most : ℕ} (line : ℕ)
    → Takes Stands IsWrong port name first a old → MayBeHeld first name → line ≡ old.lines_read + 1
    → old.lines_read < most → old.bytes_read ≤ max_text_bytes
    → ((rest : List ℕ) → rest_of old a ≡ Some rest → IsTooLongLine longest old.bytes_read rest)
    → StopsAtLong IsWrong longest most line port name first
stops_at_long {old = old} longest line t there is upto fits long = record {
  before = t.lines;
  line_is = omega (arith, t.counted, is);
  fine = t.fine;
  upto = omega (arith, t.counted, upto);
  read = record {
    there = there;
    told = λ text input.
        let before = t.given text input in
        let next = next_is_long longest text old.bytes_read t.lines before.0 before.2 fits (long before.0 before.1) in
        record {
          front = front_given text old.bytes_read t.lines before.0 before.2 fits;
          there = next.next.there;
          long = elim next.long [
            | inl wide ↦ inl (subst (λ l. longest < length l) (sym next.next.at) wide)
            | inr late ↦ inr late
          ];
        };
  };
}

-- ---- a file that was read, or wasn't

-- a file is read whole, unless it has too many lines
pub whole_file : {Stands : List (List ℕ) → Type 0} {IsWrong : List (List ℕ) → List ℕ → RunError → Type 0}
    {port : InPort} {name : List ℕ} {a : DeskView} (read : StandsForFile Stands IsWrong (2 ^ 64 - 1) port name a)
    → WasRead port name (HasTextLines read.lines) a
whole_file read = read.whole (omega (arith, read.fits))

-- what holds of each way in which it stops
pub lines_stop : {IsWrong : List (List ℕ) → List ℕ → RunError → Type 0} {error_at : ℕ → RunError} {longest most : ℕ}
    {port : InPort} {name : List ℕ} {a b : DeskView} {e : RunError} (IsSo : RunError → Type 0)
    → (IsReadFault port name a b → IsSo ReadFault) → IsSo NoMemory
    → ((error : RunError) → StopsAtLine IsWrong most error port name a → IsSo error)
    → ((line : ℕ) → StopsAtLong IsWrong longest most line port name a → IsSo (error_at line))
    → LinesStop IsWrong error_at longest most port name a b e → IsSo e
lines_stop IsSo failed none at_line at_long (inl fault) = subst IsSo (sym fault.0) (failed fault.1)
lines_stop IsSo failed none at_line at_long (inr (inl is)) = subst IsSo (sym is) none
lines_stop {e = e} IsSo failed none at_line at_long (inr (inr (inl stops))) = at_line e stops
lines_stop IsSo failed none at_line at_long (inr (inr (inr (line, same, stops)))) =
    subst IsSo (sym same) (at_long line stops)
