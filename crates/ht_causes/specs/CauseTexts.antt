-- The report of causes: the head of a simulation's report, a line for each fault, and a total with a count for each row
-- of the table. Lines are without their LF.
use Rattle.std.specs.Prelude.{◌≡◌, ◌<◌, ◌==◌, ◌+◌, ◌-◌, ◌^◌, ℕ, List, [], ◌∷◌, ◌++◌, true, if◌then◌else◌, length, map, None, codes}
use Rattle.std.specs.List.{count_by, range_with_len}
use Rattle.ht_net.specs.Circuit.Netlist.{Netlist}
use Rattle.ht_net.specs.Build.Named.{name_of}
use Rattle.ht_net.specs.Detect.Detection.{IsPlace}
use Rattle.ht_faults.specs.Sites.{faults_of}
use Rattle.ht_faults.specs.Classes.{class_count, is_representative, own_representatives}
use Rattle.ht_texts.specs.declared.said.Said.TheVariants.{Undetected}
use Rattle.ht_texts.specs.Lines.{with_lf, with_lfs}
use Rattle.ht_texts.specs.Pieces.{Piece, word, number, name, pieces_text}
use Rattle.ht_texts.specs.Verdicts.{place_pieces}
use Rattle.ht_texts.specs.Reports.{fault_line, head_line, line_front}
use Rattle.ht_causes.specs.declared.cause.Cause.{Cause}
use Rattle.ht_causes.specs.declared.cause.Cause.TheVariants.{Detected, Possible, Stored, Stopped, Unexcited, Unknown}
use Rattle.ht_causes.specs.declared.cause.LatchPlace.{LatchPlace}
use Rattle.ht_causes.specs.Causes.{cause_at, table_row}

-- ---- what has a line

-- a flip-flop of the circuit, after a vector whose number from 1 fits 64 bits
pub record IsLatchPlace (c : Netlist) (place : LatchPlace) : Type 0 where
  pub dff : place.dff < length c.dffs
  pub vector : place.vector < 2 ^ 64 - 1

-- the cause names an output or a flip-flop of the circuit, and a vector whose number from 1 fits 64 bits
abbrev pub IsCauseIn : Netlist → Cause → Type 0
IsCauseIn c (Detected place) = IsPlace c place
IsCauseIn c (Possible place) = IsPlace c place
IsCauseIn c (Stored place) = IsLatchPlace c place
IsCauseIn c (Stopped vector) = vector < 2 ^ 64 - 1
IsCauseIn c Unexcited = Unit {0}
IsCauseIn c Unknown = Unit {0}

-- there is an entry for each fault, and that of each representative has a line
pub record HaveLines (c : Netlist) (representatives : List ℕ) (causes : List Cause) : Type 0 where
  pub each : length causes ≡ length (faults_of c)
  pub within : (i : ℕ) → i < length (faults_of c) → is_representative representatives i ≡ true
      → IsCauseIn c (cause_at causes i)

-- ---- the lines

-- the number of the vector, from 1, and the name of the flip-flop
abbrev pub latch_place_pieces : Netlist → LatchPlace → List Piece
latch_place_pieces c place =
    number (place.vector + 1) ∷ word (codes " ")
    ∷ name (name_of c (record { 0 = c.inputs + place.dff })) ∷ []

-- the cause of a fault, with the place where it is found first
abbrev pub cause_pieces : Netlist → Cause → List Piece
cause_pieces c (Detected place) = word (codes "detected ") ∷ place_pieces c place
cause_pieces c (Possible place) = word (codes "possible ") ∷ place_pieces c place
cause_pieces c (Stored place) = word (codes "stored ") ∷ latch_place_pieces c place
cause_pieces c (Stopped vector) = word (codes "stopped ") ∷ number (vector + 1) ∷ []
cause_pieces c Unexcited = word (codes "unexcited") ∷ []
cause_pieces c Unknown = word (codes "unknown") ∷ []

-- a representative with its cause; another fault has the line that it has in a report
abbrev pub cause_line : Netlist → List ℕ → ℕ → Cause → List ℕ
cause_line c representatives i cause =
    if is_representative representatives i then pieces_text (line_front c i ++ cause_pieces c cause)
    else fault_line c representatives i Undetected

-- the lines of the first n faults
abbrev pub cause_lines : Netlist → List ℕ → List Cause → ℕ → List (List ℕ)
cause_lines c representatives causes n =
    map (λ i. cause_line c representatives i (cause_at causes i)) (range_with_len 0 n)

-- ---- the total

-- how many classes have a cause in a row of the table
abbrev pub row_count : List ℕ → List Cause → ℕ → ℕ
row_count representatives causes row =
    count_by (λ i. table_row (cause_at causes i) == row) (own_representatives representatives)

-- how many classes there are, and how many in each row
abbrev pub causes_total : List ℕ → List Cause → List ℕ
causes_total representatives causes =
    pieces_text (word (codes "total ") ∷ number (class_count representatives)
    ∷ word (codes " detected ") ∷ number (row_count representatives causes 0)
    ∷ word (codes " possible ") ∷ number (row_count representatives causes 1)
    ∷ word (codes " stored ") ∷ number (row_count representatives causes 2)
    ∷ word (codes " stopped ") ∷ number (row_count representatives causes 3)
    ∷ word (codes " unexcited ") ∷ number (row_count representatives causes 4)
    ∷ word (codes " unknown ") ∷ number (row_count representatives causes 5) ∷ [])

-- ---- the whole

-- the head, and the lines of the first n faults
abbrev pub first_cause_lines : Netlist → List ℕ → List Cause → ℕ → List (List ℕ)
first_cause_lines c representatives causes n =
    head_line c representatives None ∷ cause_lines c representatives causes n

-- the text without its last line
abbrev pub causes_body : Netlist → List ℕ → List Cause → List ℕ
causes_body c representatives causes =
    with_lfs (first_cause_lines c representatives causes (length (faults_of c)))

-- the whole text
abbrev pub causes_text : Netlist → List ℕ → List Cause → List ℕ
causes_text c representatives causes =
    causes_body c representatives causes ++ with_lf (causes_total representatives causes)
