-- The tests and the responses: rows of values, one for each line.
use Rattle.std.proofs.Common.{◌≡◌, inl, inr, ℕ, ◌+◌, ◌-◌, ◌<◌, ◌≤◌, ◌^◌, Bool, List, [], ◌∷◌, ◌++◌, length, map, take, get_or, refl, sym, ◌∙◌, ap, subst, arith}
use Rattle.std.specs.Prelude.{All, IfOk, None, Result, Ok, Err, Some, false, if◌then◌else◌}
use Rattle.std.proofs.lemmas.Bool.{cases_lt}
use Rattle.std.proofs.lemmas.List.{length-append, length-map, length-take-le}
use Rattle.std.proofs.Math.ListN.{replicate, length-replicate}
use Rattle.std.proofs.Math.Seq.{take-append_seam}
use Rattle.ht_inputs.proofs.Common.{AreFine, BadResponses, BadTests, DeskView, HasFront, HasTextLines, HasLongLine}
use Rattle.ht_inputs.proofs.Common.{IsMalformedResponse, IsMalformedTest, JobBasis, LinesStop}
use Rattle.ht_inputs.proofs.Common.{ObservationView, ReadStops, Rows, RunError, StandsForFile, StandsForResponses}
use Rattle.ht_inputs.proofs.Common.{Asked, StandsForTests, Tern, TestsStop, WasRead, lines_of, refused_port, row_text}
use Rattle.ht_inputs.specs.Jobs.{may_state_start}
use Rattle.ht_ports.specs.declared.ports.InPort.TheVariants as in_port
use Rattle.ht_net.specs.Circuit.Netlist.{max_inputs, max_nets, no_net}
use Rattle.ht_texts.specs.Tests.{IsTextOf, IsWrongLine, bit_code}
use Rattle.ht_dictionary.specs.ResponseTexts.{IsResponseText, IsRowText, IsWrongResponse, tern_code}
use Rattle.ht_inputs.specs.Reading.{AreVectorsUpTo}
use Rattle.ht_inputs.proofs.FirstTroubleLaws.{IsWrongAt, at_line, first_after, shorter}
use Rattle.ht_inputs.proofs.JudgedLaws.{lines_stop, whole_file, whole_front}
use Rattle.ht_inputs.proofs.ReadingLaws.{basis_of, no_circuit, read_so}

-- ---- tests

-- the line is no vector's
abbrev pub IsNoVectorLine : JobBasis → List (List ℕ) → List ℕ → RunError → Type 0
IsNoVectorLine basis before line error = (error ≡ BadTests (length before + 1))
    × ((vector : List Bool) → ¬ IsTextOf basis.circuit.inputs line vector)

module _ (basis : JobBasis) (text : List ℕ) (before : List (List ℕ)) (fine : AreFine (IsNoVectorLine basis) before)
  where
    vector_parts : (n : ℕ) → IsWrongLine basis.circuit text n → IsWrongAt (IsNoVectorLine basis) text n
    vector_parts n (inl none) = inl (_, record { counted = none.counted; wrong = (refl, none.none) })
    vector_parts n (inr long) = inr (inr long)

    malformed : HasFront before text → IsWrongLine basis.circuit text (length before + 1)
        → IsMalformedTest basis.circuit text (length before + 1)
    malformed front wrong =
        let first = first_after (IsNoVectorLine basis) text before fine front (IsWrongLine basis.circuit text)
        vector_parts (length before + 1) refl wrong in
        record { wrong = first.wrong; first = first.first }

    -- after fine lines, one that is no vector's is the first malformed one
    pub bad_vector : (line : List ℕ) (error : RunError) → HasFront (before ++ line ∷ []) text
        → IsNoVectorLine basis before line error → IsMalformedTest basis.circuit text (length before + 1)
    bad_vector line error front wrong =
        let at = at_line (IsNoVectorLine basis) text before line front error wrong in
        malformed (shorter before line text front) (inl (record { counted = at.counted; none = at.wrong.1 }))

    -- after fine lines, one that is too long for a vector is the first malformed one
    pub long_vector : basis.circuit.inputs ≤ max_inputs → HasLongLine max_inputs before text
        → IsMalformedTest basis.circuit text (length before + 1)
    long_vector few long = malformed long.front (elim long.long [
      | inl wide ↦ inl (record {
        counted = (omega arith, omega (arith, long.there));
        none = λ vector of.
            let one : length before + 1 - 1 ≡ length before = omega arith in
            let is = subst (λ n. get_or (lines_of text) n [] ≡ map bit_code vector) one of.characters in
            absurd (omega (arith, wide, few, of.count, ap length is, length-map vector bit_code));
      })
      | inr late ↦ inr late
    ])

-- what stops the lines of tests is why reading the first vectors ends the run
pub tests_stop_at : (basis : JobBasis) {most : ℕ} {name : List ℕ} {a b : DeskView} {e : RunError}
    → basis.circuit.inputs ≤ max_inputs
    → LinesStop (IsNoVectorLine basis) BadTests max_inputs most in_port.Tests name a b e
    → TestsStop basis.circuit most name a b e
tests_stop_at basis {most = most} {name = name} {a = a} {b = b} few stops =
    lines_stop (TestsStop basis.circuit most name a b) (λ fault. fault) tt
    (λ e s. subst (TestsStop basis.circuit most name a b) (sym s.wrong.0) (
      read_so (λ text. IsMalformedTest basis.circuit text (length s.before + 1))
          (λ text front. bad_vector basis text s.before s.fine s.line e front s.wrong) s.read,
      omega (arith, s.upto),
    ))
    (λ line s. subst (λ (n : ℕ). TestsStop basis.circuit most name a b (BadTests n)) (sym s.line_is) (
      read_so (λ text. IsMalformedTest basis.circuit text (length s.before + 1))
          (λ text long. long_vector basis text s.before s.fine few long) s.read,
      omega (arith, s.upto),
    )) stops

-- the front of a text of rows
rows_front : {V : Type 0} (code : V → ℕ) (rows : List (List V)) (lines : List (List ℕ)) (text : List ℕ)
    → lines ≡ map (map code) rows → HasFront lines text
    → (take (length rows) (lines_of text) ≡ map (map code) rows) × (length rows ≤ length (lines_of text))
    × (length lines ≡ length rows)
rows_front code rows lines text are front =
    let count : length lines ≡ length rows = ap length are ∙ length-map rows (map code) in (
      ap (λ n. take n (lines_of text)) (sym count) ∙ ap (take (length lines)) front.lines_are
          ∙ take-append_seam lines front.more ∙ are,
      omega (arith, count, ap length front.lines_are, length-append lines front.more),
      count,
    )

-- vectors that stand for the lines read of the tests are the file's first ones, and all if there are fewer
pub tests_are_read : (basis : JobBasis) (v : Rows) {IsWrong : List (List ℕ) → List ℕ → RunError → Type 0} {most : ℕ}
    {name : List ℕ} {a : DeskView}
    → StandsForFile (StandsForTests v basis) IsWrong most in_port.Tests name a
    → WasRead in_port.Tests name (AreVectorsUpTo basis.circuit most v.list) a
tests_are_read basis v {most = most} read = record {
  there = read.front.there;
  told = λ text is.
      let front = read.front.told text is in
      let (first, there, count) = rows_front bit_code v.list read.lines text read.stands.lines_are front in
      record {
        first = record {
          lines = first;
          there = there;
          widths = read.stands.widths;
          short = λ n upto. front.short n (omega (arith, upto, count));
        };
        all = λ fewer.
            let has = (read.whole (omega (arith, fewer, count))).told text is in
            record {
              lines = has.lines_are ∙ read.stands.lines_are;
              widths = read.stands.widths;
              short = has.short;
            };
      };
}

-- ---- responses

-- the line is no row's or has no vector
abbrev pub IsNoRowLine : JobBasis → List (List ℕ) → List ℕ → RunError → Type 0
IsNoRowLine basis before line error = (error ≡ BadResponses (length before + 1))
    × ((row : List Tern) → IsRowText (length basis.circuit.outputs) line row
    → length basis.content.list ≤ length before)

module _ (basis : JobBasis) (text : List ℕ) (before : List (List ℕ)) (fine : AreFine (IsNoRowLine basis) before) where
  abbrev IsWrongRow : ℕ → Type 0
  IsWrongRow = IsWrongResponse (length basis.circuit.outputs) (length basis.content.list) text

  abbrev IsBadAt : ℕ → Type 0
  IsBadAt = IsMalformedResponse (length basis.circuit.outputs) (length basis.content.list) text

  row_parts : (n : ℕ) → IsWrongRow n → IsWrongAt (IsNoRowLine basis) text n
  row_parts n (inl none) = inl (
    _,
    record {
      counted = none.counted;
      wrong = (
        refl,
        λ row of. elim none.wrong [
          | inl many ↦ omega (
            arith,
            many,
            none.counted.1,
            length-take-le (n - 1) (lines_of text) (omega (
              arith,
              none.counted.1,
            )),
          )
          | inr no_row ↦ absurd (no_row row of)
        ],
      );
    },
  )
  row_parts n (inr (inl early)) = inr (inl early.missing)
  row_parts n (inr (inr long)) = inr (inr long)

  bad_at : HasFront before text → IsWrongRow (length before + 1) → IsBadAt (length before + 1)
  bad_at front wrong =
      let first = first_after (IsNoRowLine basis) text before fine front IsWrongRow row_parts (length before + 1) refl
      wrong in
      record { wrong = first.wrong; first = first.first }

  -- after fine lines, one that is no row's or has no vector is the first malformed one
  pub bad_row : (line : List ℕ) (error : RunError) → HasFront (before ++ line ∷ []) text
      → IsNoRowLine basis before line error → IsBadAt (length before + 1)
  bad_row line error front wrong =
      let at = at_line (IsNoRowLine basis) text before line front error wrong in
      bad_at (shorter before line text front) (inl (record {
        counted = at.counted;
        wrong = elim (cases_lt (length basis.content.list) (length before + 1)) [
          | inl many ↦ inl many
          | inr fits ↦ inr (λ row of. absurd (omega (
            arith,
            fits,
            at.wrong.1 row of,
            length-take-le (length before + 1 - 1) (lines_of text) (omega (arith, at.counted.1)),
          )))
        ];
      }))

  -- after fine lines, one that is too long for a row is the first malformed one
  pub long_row : length basis.circuit.outputs ≤ max_nets → HasLongLine max_nets before text
      → IsBadAt (length before + 1)
  long_row few long = bad_at long.front (elim long.long [
    | inl wide ↦ inl (record {
      counted = (omega arith, omega (arith, long.there));
      wrong = inr (λ row of.
          let one : length before + 1 - 1 ≡ length before = omega arith in
          let is = subst (λ n. get_or (lines_of text) n [] ≡ map tern_code row) one of.characters in
          absurd (omega (arith, wide, few, of.count, ap length is, length-map row tern_code)));
    })
    | inr late ↦ inr (inr late)
  ])

  -- if fine lines end before there is a row for each vector, the line after them is the first malformed one
  pub missing_row : HasTextLines before text → length before < length basis.content.list → IsBadAt (length before + 1)
  missing_row has fewer = bad_at (whole_front before text has) (inr (inl (record {
    missing = omega (arith, ap length has.lines_are);
    awaited = omega (arith, fewer);
  })))

module _ (job : Asked) (states_none : may_state_start job ≡ false) (name : List ℕ) (basis : JobBasis) (a b : DeskView)
  where
    abbrev Stops : RunError → Type 0
    Stops = ReadStops job basis in_port.Extra name a b

    refuses_rows : (line : ℕ) → refused_port job (BadResponses line) ≡ Some in_port.Extra
    refuses_rows line = ap (λ (is_start : Bool). if is_start then None else Some in_port.Extra) states_none

    -- what stops the lines of responses is why reading the file ends the run
    pub responses_stop : {most : ℕ} {e : RunError} → length basis.circuit.outputs ≤ max_nets
        → LinesStop (IsNoRowLine basis) BadResponses max_nets most in_port.Extra name a b e → Stops e
    responses_stop few stops = lines_stop Stops (λ fault. fault) tt
        (λ e s. subst Stops (sym s.wrong.0) (
          refuses_rows (length s.before + 1),
          read_so _
              (λ text front. bad_row basis text s.before s.fine s.line e front s.wrong) s.read,
        ))
        (λ line s. subst (λ (n : ℕ). Stops (BadResponses n)) (sym s.line_is) (
          refuses_rows (length s.before + 1),
          read_so _
              (λ text long. long_row basis text s.before s.fine few long) s.read,
        )) stops

    -- the responses end before there is one for each vector
    pub responses_end : {Stands : List (List ℕ) → Type 0} {v : ObservationView}
        (read : StandsForFile Stands (IsNoRowLine basis) (2 ^ 64 - 1) in_port.Extra name a)
        → StandsForResponses v basis read.lines → length v.rows < length basis.content.list
        → Stops (BadResponses (length v.rows + 1))
    responses_end {v = v} read stands fewer =
        let count : length read.lines ≡ length v.rows = ap length stands.lines_are ∙ length-map v.rows row_text in
        subst (λ (n : ℕ). Stops (BadResponses (n + 1))) count (
          refuses_rows (length read.lines + 1),
          read_so _
              (λ text has. missing_row basis text read.lines read.fine has (omega (arith, count, fewer)))
              (whole_file read),
        )

-- a basis for so many values in each row, and so many vectors
abbrev pub basis_for : ℕ → ℕ → JobBasis
basis_for width vectors = basis_of (record no_circuit { outputs = replicate width no_net }) (replicate vectors []) []

-- the basis for n values in each row has n outputs
pub width_is : (width vectors : ℕ) → width ≡ length (basis_for width vectors).circuit.outputs
width_is width vectors = sym (length-replicate width no_net)

-- the basis for n vectors has n vectors
pub vectors_are : (width vectors : ℕ) → vectors ≡ length (basis_for width vectors).content.list
vectors_are width vectors = sym (length-replicate {A = List Bool} vectors [])

-- All rows were read, if there are as many as vectors.
pub responses_are_read : {Stands : List (List ℕ) → Type 0} {IsWrong : List (List ℕ) → List ℕ → RunError → Type 0}
    {v : ObservationView} {name : List ℕ} {a : DeskView} (width vectors : ℕ) (result : Result ObservationView RunError)
    (read : StandsForFile Stands IsWrong (2 ^ 64 - 1) in_port.Extra name a)
    → StandsForResponses v (basis_for width vectors) read.lines → IfOk result (λ all. all ≡ v)
    → IfOk result (λ all. length all.rows ≡ vectors)
    → IfOk result (λ all. WasRead in_port.Extra name (λ text. IsResponseText width vectors text all.rows) a)
responses_are_read width vectors (Ok all) read stands same each = read_so _ (λ text has. record {
  lines = has.lines_are ∙ stands.lines_are ∙ ap (λ (o : ObservationView). map row_text o.rows) (sym same);
  widths = subst (λ (n : ℕ). All (λ (row : List Tern). length row ≡ n) all.rows) (sym (width_is width vectors))
      (subst (λ (o : ObservationView).
      All (λ (row : List Tern). length row ≡ length (basis_for width vectors).circuit.outputs) o.rows) (sym same)
      stands.widths);
  each = each;
  short = has.short;
}) (whole_file read)
responses_are_read width vectors (Err e) read stands same each = tt
