-- The text of a diagnosis: a head line, a line for the good machine and one for each fault, and the total. Lines are
-- without their LF.
use Rattle.std.specs.Prelude.{ℕ, List, [], ◌∷◌, ◌++◌, if◌then◌else◌, length, map, Option, Some, None, is_none, count_by, codes}
use Rattle.std.specs.List.{range_with_len}
use Rattle.ht_net.specs.declared.place.Place.{Place}
use Rattle.ht_net.specs.Circuit.Netlist.{Netlist}
use Rattle.ht_faults.specs.Sites.{faults_of}
use Rattle.ht_faults.specs.Classes.{is_representative, own_representatives, class_count}
use Rattle.ht_texts.specs.declared.said.Said.TheVariants.{Undetected}
use Rattle.ht_texts.specs.Lines.{with_lf, with_lfs}
use Rattle.ht_texts.specs.Pieces.{Piece, word, number, pieces_text}
use Rattle.ht_texts.specs.Verdicts.{place_pieces}
use Rattle.ht_texts.specs.Reports.{line_front, fault_line}
use Rattle.ht_dictionary.specs.DiagnosisView.{DiagnosisView}
use Rattle.ht_dictionary.specs.Diagnoses.{contradiction_at}

-- ---- the lines

-- where a machine first contradicts the observation, or that it is consistent
abbrev pub contradiction_pieces : Netlist → Option Place → List Piece
contradiction_pieces c None = word (codes "consistent") ∷ []
contradiction_pieces c (Some place) = word (codes "contradicted ") ∷ place_pieces c place

-- how many vectors were applied, and how many faults and classes there are
abbrev pub diagnosis_head : ℕ → ℕ → ℕ → List ℕ
diagnosis_head vectors faults classes =
    pieces_text (word (codes "diagnosis vectors ") ∷ number vectors ∷ word (codes " faults ") ∷ number faults
    ∷ word (codes " classes ") ∷ number classes ∷ [])

-- the good machine with its contradiction
abbrev pub good_line : Netlist → Option Place → List ℕ
good_line c place = pieces_text (word (codes "good ") ∷ contradiction_pieces c place)

-- a representative with its contradiction; another fault has the line that it has in a report
abbrev pub diagnosed_line : Netlist → List ℕ → ℕ → Option Place → List ℕ
diagnosed_line c representatives i place =
    if is_representative representatives i then pieces_text (line_front c i ++ contradiction_pieces c place)
    else fault_line c representatives i Undetected

-- the lines of the first n faults
abbrev pub diagnosed_lines : Netlist → List ℕ → List (Option Place) → ℕ → List (List ℕ)
diagnosed_lines c representatives places n =
    map (λ i. diagnosed_line c representatives i (contradiction_at places i)) (range_with_len 0 n)

-- ---- the total

-- of how many classes the representative is consistent
abbrev pub consistent_count : List ℕ → List (Option Place) → ℕ
consistent_count representatives places =
    count_by (λ i. is_none (contradiction_at places i)) (own_representatives representatives)

-- how many classes there are, and of how many the representative is consistent
abbrev pub diagnosis_total : List ℕ → List (Option Place) → List ℕ
diagnosis_total representatives places =
    pieces_text (word (codes "total ") ∷ number (class_count representatives) ∷ word (codes " consistent ")
    ∷ number (consistent_count representatives places) ∷ [])

-- ---- the whole

-- the head, the good machine and the first n faults
abbrev pub first_diagnosis_lines : Netlist → List ℕ → ℕ → DiagnosisView → ℕ → List (List ℕ)
first_diagnosis_lines c representatives vectors diagnosis n =
    diagnosis_head vectors (length (faults_of c)) (class_count representatives) ∷ good_line c diagnosis.good
    ∷ diagnosed_lines c representatives diagnosis.places n

-- the text without its last line
abbrev pub diagnosis_body : Netlist → List ℕ → ℕ → DiagnosisView → List ℕ
diagnosis_body c representatives vectors diagnosis =
    with_lfs (first_diagnosis_lines c representatives vectors diagnosis (length (faults_of c)))

-- the whole text
abbrev pub diagnosis_text : Netlist → List ℕ → ℕ → DiagnosisView → List ℕ
diagnosis_text c representatives vectors diagnosis =
    diagnosis_body c representatives vectors diagnosis
    ++ with_lf (diagnosis_total representatives diagnosis.places)
