-- A report: a head line, a line for each fault, and the total. Lines are without their LF. A list of representatives
-- has the number of each fault's representative, from 0. The report of a search has a budget, that of a simulation
-- has none.
use Rattle.std.specs.Prelude.{ℕ, ◌+◌, ◌==◌, List, [], ◌∷◌, ◌++◌, if◌then◌else◌, length, get_or, map, Option, Some, None, is_some, codes}
use Rattle.std.specs.List.{range_with_len}
use Rattle.ht_net.specs.declared.fault.Fault.{Fault}
use Rattle.ht_net.specs.Circuit.Netlist.{Netlist}
use Rattle.ht_faults.specs.Sites.{faults_of}
use Rattle.ht_faults.specs.Classes.{fault_at, is_representative, class_count}
use Rattle.ht_texts.specs.declared.said.Said.{Said}
use Rattle.ht_texts.specs.declared.total.Sums.{Sums}
use Rattle.ht_texts.specs.Lines.{with_lfs}
use Rattle.ht_texts.specs.Pieces.{Piece, word, number, pieces_text}
use Rattle.ht_texts.specs.Tests.{bit_code}
use Rattle.ht_texts.specs.Sites.{site_pieces}
use Rattle.ht_texts.specs.Verdicts.{said_at, verdict_pieces}
use Rattle.ht_texts.specs.Counts.{sums_of}

-- ---- the head

-- the sizes of the circuit
abbrev pub circuit_sizes : Netlist → List Piece
circuit_sizes c =
    word (codes "circuit inputs ") ∷ number c.inputs ∷ word (codes " outputs ") ∷ number (length c.outputs)
    ∷ word (codes " flip-flops ") ∷ number (length c.dffs) ∷ word (codes " gates ") ∷ number (length c.gates) ∷ []

-- how many faults its list has, and how many classes they make
abbrev pub fault_sizes : Netlist → List ℕ → List Piece
fault_sizes c representatives =
    word (codes " faults ") ∷ number (length (faults_of c)) ∷ word (codes " classes ")
    ∷ number (class_count representatives) ∷ []

-- the budget of a search
abbrev pub budget_pieces : Option ℕ → List Piece
budget_pieces None = []
budget_pieces (Some budget) = word (codes " budget ") ∷ number budget ∷ []

-- the pieces of the first line of a report
abbrev pub head_pieces : Netlist → List ℕ → Option ℕ → List Piece
head_pieces c representatives budget = circuit_sizes c ++ fault_sizes c representatives ++ budget_pieces budget

-- the first line of a report
abbrev pub head_line : Netlist → List ℕ → Option ℕ → List ℕ
head_line c representatives budget = pieces_text (head_pieces c representatives budget)

-- ---- the faults

-- a line that is stuck at a value
abbrev pub fault_pieces : Netlist → Fault → List Piece
fault_pieces c fault = site_pieces c fault.site ++ word (codes " s-a-") ∷ word (bit_code fault.value ∷ []) ∷ []

-- the number of fault i, from 1, and the fault
abbrev pub line_front : Netlist → ℕ → List Piece
line_front c i = number (i + 1) ∷ word (codes " ") ∷ fault_pieces c (fault_at c i) ++ word (codes " ") ∷ []

-- the verdict of a representative, or the number from 1 of the representative that stands for the fault
abbrev pub outcome_pieces : Netlist → List ℕ → ℕ → Said → List Piece
outcome_pieces c representatives i said =
    if is_representative representatives i then verdict_pieces c said
    else word (codes "as ") ∷ number (get_or representatives i 0 + 1) ∷ []

-- the line of fault i, of which this is said
abbrev pub fault_line : Netlist → List ℕ → ℕ → Said → List ℕ
fault_line c representatives i said = pieces_text (line_front c i ++ outcome_pieces c representatives i said)

-- the lines of the first n faults
abbrev pub fault_lines : Netlist → List ℕ → List Said → ℕ → List (List ℕ)
fault_lines c representatives saids n =
    map (λ i. fault_line c representatives i (said_at saids i)) (range_with_len 0 n)

-- ---- the total

-- a word and how many there are, or nothing where there are none
abbrev pub some_pieces : List ℕ → ℕ → List Piece
some_pieces bytes count = if count == 0 then [] else word bytes ∷ number count ∷ []

-- how many classes there are, and how many are detected
abbrev pub class_sums : Sums → List Piece
class_sums sums = word (codes "total ") ∷ number sums.classes ∷ word (codes " detected ") ∷ number sums.detected ∷ []

-- how many a search answered without a test, and how many it gave up
abbrev pub answer_sums : Sums → List Piece
answer_sums sums =
    word (codes " untestable ") ∷ number sums.untestable ∷ word (codes " aborted ") ∷ number sums.aborted ∷ []

-- what only a search counts
abbrev pub search_sums : Sums → List Piece
search_sums sums =
    answer_sums sums ++ some_pieces (codes " undetectable ") sums.undetectable
    ++ some_pieces (codes " undetected ") sums.undetected

-- how many classes there are, and of how many of them each verdict is said
abbrev pub total_pieces : Sums → List Piece
total_pieces sums = class_sums sums ++ (if sums.search then search_sums sums else [])

-- the last line of a report
abbrev pub total_line : Sums → List ℕ
total_line sums = pieces_text (total_pieces sums)

-- ---- the whole

-- the head and the lines of the first n faults
abbrev pub first_lines : Netlist → List ℕ → Option ℕ → List Said → ℕ → List (List ℕ)
first_lines c representatives budget saids n =
    head_line c representatives budget ∷ fault_lines c representatives saids n

-- the report without its last line
abbrev pub body_lines : Netlist → List ℕ → Option ℕ → List Said → List (List ℕ)
body_lines c representatives budget saids = first_lines c representatives budget saids (length (faults_of c))

-- the sums of the report
abbrev pub report_sums : List ℕ → Option ℕ → List Said → Sums
report_sums representatives budget saids = sums_of representatives saids (is_some budget)

-- the lines of the report
abbrev pub report_lines : Netlist → List ℕ → Option ℕ → List Said → List (List ℕ)
report_lines c representatives budget saids =
    body_lines c representatives budget saids ++ total_line (report_sums representatives budget saids) ∷ []

-- the text of the report
abbrev pub report_text : Netlist → List ℕ → Option ℕ → List Said → List ℕ
report_text c representatives budget saids = with_lfs (report_lines c representatives budget saids)

-- the text without its last line
abbrev pub report_body : Netlist → List ℕ → Option ℕ → List Said → List ℕ
report_body c representatives budget saids = with_lfs (body_lines c representatives budget saids)
