-- The text of a diagnosis, line by line.
use Rattle.std.proofs.Common.{◌≡◌, ◌+◌, ◌++◌, ◌∷◌, ℕ, List, length, ◌∙◌, ap, arith}
use Rattle.std.proofs.lemmas.List.FromFn.{map-range_with_len_more}
use Rattle.ht_net.specs.Circuit.Netlist.{Netlist}
use Rattle.ht_texts.specs.Lines.{with_lf, with_lfs}
use Rattle.ht_texts.proofs.ReportLaws.{with_lfs-push}
use Rattle.ht_faults.specs.Sites.{faults_of}
use Rattle.ht_faults.specs.Classes.{class_count}
use Rattle.ht_dictionary.specs.DiagnosisView.{DiagnosisView}
use Rattle.ht_dictionary.specs.Diagnoses.{contradiction_at}
use Rattle.ht_dictionary.specs.DiagnosisTexts.{diagnosed_line, first_diagnosis_lines, diagnosis_head, good_line}

-- the lines of the first faults grow by the next fault's line
pub diagnosis_lines_more : (c : Netlist) (representatives : List ℕ) (vectors : ℕ) (diagnosis : DiagnosisView) (n : ℕ)
    → with_lfs (first_diagnosis_lines c representatives vectors diagnosis (n + 1))
    ≡ with_lfs (first_diagnosis_lines c representatives vectors diagnosis n)
    ++ with_lf (diagnosed_line c representatives n (contradiction_at diagnosis.places n))
diagnosis_lines_more c representatives vectors diagnosis n =
    let line : ℕ → List ℕ = λ i. diagnosed_line c representatives i (contradiction_at diagnosis.places i) in
    let head = diagnosis_head vectors (length (faults_of c)) (class_count representatives) in
    ap (λ lines. with_lfs (head ∷ good_line c diagnosis.good ∷ lines))
    (map-range_with_len_more line 0 n n (omega arith))
    ∙ with_lfs-push (first_diagnosis_lines c representatives vectors diagnosis n) (line n)
