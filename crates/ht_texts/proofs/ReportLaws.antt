-- Texts and lines that grow.
use Rattle.std.proofs.Common.{◌≡◌, ℕ, ◌+◌, List, [], ◌∷◌, ◌++◌, Option, ap, ◌∙◌, arith}
use Rattle.std.proofs.lemmas.List.{append-nil}
use Rattle.std.proofs.lemmas.List.Concat.{flat_map-append}
use Rattle.std.proofs.lemmas.List.FromFn.{map-range_with_len_more}
use Rattle.ht_net.specs.Circuit.Netlist.{Netlist}
use Rattle.ht_texts.specs.declared.said.Said.{Said}
use Rattle.ht_texts.specs.Lines.{with_lf, with_lfs}
use Rattle.ht_texts.specs.Verdicts.{said_at}
use Rattle.ht_texts.specs.Reports.{head_line, fault_line, total_line, first_lines, body_lines, report_sums, report_body, report_text}

-- the lines grow by one
pub with_lfs-push : (lines : List (List ℕ)) (line : List ℕ)
    → with_lfs (lines ++ line ∷ []) ≡ with_lfs lines ++ with_lf line
with_lfs-push lines line =
    flat_map-append with_lf lines (line ∷ []) ∙ ap (λ l. with_lfs lines ++ l) (append-nil (with_lf line))

-- the lines of the first faults grow by the next fault's line
pub first_lines_more : (c : Netlist) (representatives : List ℕ) (budget : Option ℕ) (saids : List Said) (n : ℕ)
    → with_lfs (first_lines c representatives budget saids (n + 1))
    ≡ with_lfs (first_lines c representatives budget saids n)
    ++ with_lf (fault_line c representatives n (said_at saids n))
first_lines_more c representatives budget saids n =
    let line : ℕ → List ℕ = λ i. fault_line c representatives i (said_at saids i) in
    ap (λ lines. with_lfs (head_line c representatives budget ∷ lines))
    (map-range_with_len_more line 0 n n (omega arith))
    ∙ with_lfs-push (first_lines c representatives budget saids n) (line n)

-- the report is its body and its total line
pub report_splits : (c : Netlist) (representatives : List ℕ) (budget : Option ℕ) (saids : List Said)
    → report_text c representatives budget saids
    ≡ report_body c representatives budget saids ++ with_lf (total_line (report_sums representatives budget saids))
report_splits c representatives budget saids =
    with_lfs-push (body_lines c representatives budget saids) (total_line (report_sums representatives budget saids))
