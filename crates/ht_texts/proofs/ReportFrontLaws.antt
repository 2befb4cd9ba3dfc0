-- What begins a report is read, what is read begins a report, and lines are read in one way.
use Rattle.std.proofs.Common.{◌≡◌, inl, inr, ℕ, zero, suc, ◌+◌, ◌-◌, ◌<◌, ◌≤◌, ◌^◌, true, List, [], ◌∷◌, ◌++◌, Some, length, get_or, take, drop, replicate, length-append, refl, sym, ap, ◌∙◌, subst, arith}
use Rattle.std.specs.Prelude.{codes}
use Rattle.std.specs.Fmt.{decimal}
use Rattle.std.proofs.lemmas.Bool.{cases_lt}
use Rattle.std.proofs.lemmas.Fmt.{decimal_injective}
use Rattle.std.proofs.lemmas.List.{append-nil, append_cancel_left, same_from_push, take-append-le, take-append-drop, length-take-le, length-replicate, get_or-take, get_or-replicate, get_or-append_right, nil_from_length}
use Rattle.std.proofs.lemmas.List.FromFn.{take-map-range_with_len}
use Rattle.std.proofs.Math.ListN.{get_or-eq_default}
use Rattle.std.proofs.Math.Seq.{take-append_seam}
use Rattle.ht_net.specs.Circuit.Netlist.{Netlist, IsCircuit}
use Rattle.ht_faults.specs.Sites.{faults_of}
use Rattle.ht_faults.specs.Classes.{is_representative}
use Rattle.ht_texts.specs.declared.said.Said.{Said}
use Rattle.ht_texts.specs.declared.said.Said.TheVariants.{Untestable, Undetected}
use Rattle.ht_texts.specs.Pieces.{pieces_text}
use Rattle.ht_texts.specs.Verdicts.{said_at, AreSayableTo, IsSayable, verdict_text}
use Rattle.ht_texts.specs.Reports.{circuit_sizes, fault_sizes, head_line, line_front, fault_line, fault_lines, first_lines, body_lines, report_sums, total_line, report_lines}
use Rattle.ht_texts.specs.SearchReports.{IsSearchOf, IsSearchReport, IsReportFront}
use Rattle.ht_texts.specs.ReportReading.{ReportReading, before_report, in_report, after_report, ReportReadsTo, SameSearch, SaySame}
use Rattle.ht_texts.proofs.SaidLaws.{said_before, line_of_representative, length-fault_lines, get_or-fault_lines, same_fault_lines}
use Rattle.ht_texts.proofs.ReadingLaws.{length-first_lines, length-in_report, length-after_report}
use Rattle.ht_texts.proofs.VerdictLaws.{one_verdict}

-- ---- the first lines of a report

-- the report of a search has two lines more than the circuit has faults
pub length-report_lines : (c : Netlist) (representatives : List ℕ) (budget : ℕ) (saids : List Said)
    → length (report_lines c representatives (Some budget) saids) ≡ length (faults_of c) + 2
length-report_lines c representatives budget saids =
    let total = total_line (report_sums representatives (Some budget) saids) in
    omega (
      arith,
      length-append (body_lines c representatives (Some budget) saids) (total ∷ []),
      length-first_lines c representatives budget saids (length (faults_of c)),
    )

take_report : (c : Netlist) (representatives : List ℕ) (budget : ℕ) (saids : List Said) (n : ℕ)
    → n ≤ length (faults_of c)
    → take (suc n) (report_lines c representatives (Some budget) saids)
    ≡ first_lines c representatives (Some budget) saids n
take_report c representatives budget saids n within =
    let head = head_line c representatives (Some budget) in
    let all = fault_lines c representatives saids (length (faults_of c)) in
    let total = total_line (report_sums representatives (Some budget) saids) in
    let size : n ≤ length all =
    omega (arith, within, length-fault_lines c representatives saids (length (faults_of c))) in
    ap (λ l. head ∷ l)
    (take-append-le n all (total ∷ []) size
    ∙ take-map-range_with_len (λ i. fault_line c representatives i (said_at saids i)) 0 (length (faults_of c)) n
    within)

-- ---- what is read begins a report

-- of the other faults it may be said that they are untestable
completed : Netlist → List Said → List Said
completed c saids = saids ++ replicate (length (faults_of c) - length saids) Untestable

completed_is_searched : (c : Netlist) (representatives : List ℕ) (n budget : ℕ) (saids : List Said)
    → IsSearchOf c representatives n budget saids
    → IsSearchOf c representatives (length (faults_of c)) budget (completed c saids)
unfolding completed
completed_is_searched c representatives n budget saids is =
    let left = length (faults_of c) - length saids in
    let size = is.saids_are.each in
    let room = is.listed in record {
      budget_is = is.budget_is;
      listed = omega arith;
      saids_are = record {
        each = omega (
          arith,
          size,
          room,
          length-append saids (replicate left Untestable),
          length-replicate left Untestable,
        );
        sayable = λ i below own. elim (cases_lt i (length saids)) [
          | inl before ↦ subst (IsSayable c) (sym (said_before saids (replicate left Untestable) i before))
              (is.saids_are.sayable i (omega (arith, before, size)) own)
          | inr upto ↦ subst (IsSayable c)
              (sym (get_or-append_right saids (replicate left Untestable) (length saids) i Undetected refl upto
              ∙ get_or-replicate left (i - length saids) Untestable Undetected (omega (arith, below, upto))))
              tt
        ];
      };
    }

front_of : (c : Netlist) (representatives : List ℕ) (lines whole : List (List ℕ)) (k budget : ℕ) (saids : List Said)
    → lines ≡ take k whole → IsSearchReport c representatives whole budget saids
    → IsReportFront c representatives lines
front_of c representatives lines whole k budget saids is report = record {
  budget = budget;
  saids = saids;
  more = drop k whole;
  report = subst (λ l. IsSearchReport c representatives l budget saids)
      (sym (ap (λ l. l ++ drop k whole) is ∙ take-append-drop k whole)) report;
}

-- lines that are read, however far, begin some report of a search
pub reading_is_front : (c : Netlist) (representatives : List ℕ) (lines : List (List ℕ)) (at : ReportReading)
    → ReportReadsTo c representatives lines at → IsReportFront c representatives lines
unfolding completed
reading_is_front c representatives lines before_report read =
    let none : IsSearchOf c representatives 0 1 [] = record {
      budget_is = (omega arith, omega arith);
      listed = omega arith;
      saids_are = record { each = refl; sayable = λ i below. absurd (omega arith) };
    } in
    front_of c representatives lines (report_lines c representatives (Some 1) (completed c [])) 0 1 (completed c [])
    read.lines_are
    (record { search = completed_is_searched c representatives 0 1 [] none; lines_are = refl })
reading_is_front c representatives lines (in_report budget saids) read =
    let n = length saids in
    let all = completed c saids in
    let whole = report_lines c representatives (Some budget) all in
    let head = head_line c representatives (Some budget) in
    let begins : lines ≡ take (suc n) whole = read.lines_are
    ∙ ap (λ l. head ∷ l) (same_fault_lines c representatives saids all n
    (λ i below _. sym (said_before saids (replicate (length (faults_of c) - n) Untestable) i below)))
    ∙ sym (take_report c representatives budget all n read.readable.listed) in
    front_of c representatives lines whole (suc n) budget all begins
    (record { search = completed_is_searched c representatives n budget saids read.readable; lines_are = refl })
reading_is_front c representatives lines (after_report budget saids) read = record {
  budget = budget;
  saids = saids;
  more = [];
  report = record { search = read.readable; lines_are = append-nil lines ∙ read.lines_are };
}

-- ---- what begins a report is read

-- the first verdicts
taken_is_searched : (c : Netlist) (representatives : List ℕ) (n k budget : ℕ) (saids : List Said) → k ≤ n
    → IsSearchOf c representatives n budget saids
    → IsSearchOf c representatives (length (take k saids)) budget (take k saids)
taken_is_searched c representatives n k budget saids within is =
    let size : length (take k saids) ≡ k = length-take-le k saids (omega (arith, within, is.saids_are.each)) in record {
      budget_is = is.budget_is;
      listed = omega (arith, size, within, is.listed);
      saids_are = record {
        each = refl;
        sayable = λ i below own.
            let before : i < k = omega (arith, size, below) in
            subst (IsSayable c) (sym (get_or-take k saids i Undetected before))
            (is.saids_are.sayable i (omega (arith, before, within)) own);
      };
    }

-- the head and the lines of the first m faults
first_lines_read : (c : Netlist) (representatives : List ℕ) (lines more : List (List ℕ)) (budget : ℕ)
    (saids : List Said) (m : ℕ) → IsSearchReport c representatives (lines ++ more) budget saids
    → length lines ≡ suc m → m ≤ length (faults_of c)
    → ReportReadsTo c representatives lines (in_report budget (take m saids))
first_lines_read c representatives lines more budget saids m report count within =
    let size : length (take m saids) ≡ m =
    length-take-le m saids (omega (arith, within, report.search.saids_are.each)) in
    let head = head_line c representatives (Some budget) in record {
      readable = taken_is_searched c representatives (length (faults_of c)) m budget saids within report.search;
      lines_are = sym (take-append_seam lines more)
          ∙ ap (λ k. take k (lines ++ more)) count
          ∙ ap (take (suc m)) report.lines_are
          ∙ take_report c representatives budget saids m within
          ∙ ap (λ l. head ∷ l) (same_fault_lines c representatives saids (take m saids) m
          (λ i below _. sym (get_or-take m saids i Undetected below)))
          ∙ ap (λ k. first_lines c representatives (Some budget) (take m saids) k) (sym size);
    }

by_count : (c : Netlist) (representatives : List ℕ) (lines more : List (List ℕ)) (budget : ℕ) (saids : List Said)
    (n : ℕ) → length lines ≡ n → IsSearchReport c representatives (lines ++ more) budget saids
    → (at : ReportReading) × ReportReadsTo c representatives lines at
by_count c representatives lines more budget saids zero count report =
    (before_report, record { readable = tt; lines_are = nil_from_length lines count })
by_count c representatives lines more budget saids (suc m) count report =
    elim (cases_lt (length (faults_of c)) m) [
      | inr within ↦ (
        in_report budget (take m saids),
        first_lines_read c representatives lines more budget saids m report count within,
      )
      | inl past ↦
          let none : more ≡ [] = nil_from_length more (omega (
            arith,
            past,
            count,
            length-append lines more,
            ap length report.lines_are,
            length-report_lines c representatives budget saids,
          )) in (
            after_report budget saids,
            record {
              readable = report.search;
              lines_are = sym (append-nil lines) ∙ ap (λ l. lines ++ l) (sym none) ∙ report.lines_are;
            },
          )
    ]

-- lines that begin some report of a search are read
pub front_is_reading : (c : Netlist) (representatives : List ℕ) (lines : List (List ℕ))
    → IsReportFront c representatives lines → (at : ReportReading) × ReportReadsTo c representatives lines at
front_is_reading c representatives lines front =
    by_count c representatives lines front.more front.budget front.saids (length lines) refl front.report

-- ---- lines are read in one way

one_budget : (c : Netlist) (representatives : List ℕ) (a b : ℕ) → a < 2 ^ 64 → b < 2 ^ 64
    → head_line c representatives (Some a) ≡ head_line c representatives (Some b) → a ≡ b
one_budget c representatives a b a_fits b_fits e =
    decimal_injective a b a_fits b_fits
    (append_cancel_left (pieces_text (circuit_sizes c ++ fault_sizes c representatives) ++ codes " budget ")
    (decimal a) (decimal b) e)

one_said : (c : Netlist) (representatives : List ℕ) (a b : List Said) (n i : ℕ) → IsCircuit c
    → AreSayableTo c representatives n a → AreSayableTo c representatives n b
    → fault_lines c representatives a n ≡ fault_lines c representatives b n
    → is_representative representatives i ≡ true → said_at a i ≡ said_at b i
one_said c representatives a b n i is of_a of_b same own = elim (cases_lt i n) [
  | inl below ↦
      one_verdict c (said_at a i) (said_at b i) is (of_a.sayable i below own)
      (of_b.sayable i below own)
      (append_cancel_left (pieces_text (line_front c i)) (verdict_text c (said_at a i)) (verdict_text c (said_at b i))
      (sym (line_of_representative c representatives i (said_at a i) own)
      ∙ sym (get_or-fault_lines c representatives a n i below)
      ∙ ap (λ l. get_or l i []) same
      ∙ get_or-fault_lines c representatives b n i below
      ∙ line_of_representative c representatives i (said_at b i) own))
  | inr past ↦
      get_or-eq_default a Undetected (omega (arith, past, of_a.each))
      ∙ sym (get_or-eq_default b Undetected (omega (arith, past, of_b.each)))
]

same_search : (c : Netlist) (representatives : List ℕ) (n budget budget' : ℕ) (a b : List Said) → IsCircuit c
    → IsSearchOf c representatives n budget a → IsSearchOf c representatives n budget' b
    → first_lines c representatives (Some budget) a n ≡ first_lines c representatives (Some budget') b n
    → SameSearch representatives budget budget' a b
same_search c representatives n budget budget' a b is of_a of_b same = record {
  budgets = one_budget c representatives budget budget' (omega (arith, of_a.budget_is.1))
      (omega (arith, of_b.budget_is.1))
      (ap (λ l. get_or l 0 []) same);
  counts = of_a.saids_are.each ∙ sym of_b.saids_are.each;
  verdicts = λ i own. one_said c representatives a b n i is of_a.saids_are of_b.saids_are (ap (drop 1) same) own;
}

-- the lines of a report say one thing
pub one_report : (c : Netlist) (representatives : List ℕ) (lines : List (List ℕ)) (budget budget' : ℕ)
    (a b : List Said) → IsCircuit c → IsSearchReport c representatives lines budget a
    → IsSearchReport c representatives lines budget' b → SameSearch representatives budget budget' a b
one_report c representatives lines budget budget' a b is of_a of_b =
    same_search c representatives (length (faults_of c)) budget budget' a b is of_a.search of_b.search
    (same_from_push (body_lines c representatives (Some budget) a) (body_lines c representatives (Some budget') b)
    (total_line (report_sums representatives (Some budget) a))
    (total_line (report_sums representatives (Some budget') b)) (sym of_a.lines_are ∙ of_b.lines_are)).0

-- two readings of the same lines are equally far and say the same
pub one_reading : (c : Netlist) (representatives : List ℕ) (lines : List (List ℕ)) (a b : ReportReading)
    → IsCircuit c → ReportReadsTo c representatives lines a → ReportReadsTo c representatives lines b
    → SaySame representatives a b
one_reading c representatives lines before_report before_report is of_a of_b = tt
one_reading c representatives lines before_report (in_report k saids) is of_a of_b =
    omega (arith, ap length of_a.lines_are, length-in_report c representatives lines k saids of_b)
one_reading c representatives lines before_report (after_report k saids) is of_a of_b =
    omega (arith, ap length of_a.lines_are, length-after_report c representatives lines k saids of_b)
one_reading c representatives lines (in_report j a) before_report is of_a of_b =
    omega (arith, ap length of_b.lines_are, length-in_report c representatives lines j a of_a)
one_reading c representatives lines (in_report j a) (in_report k b) is of_a of_b =
    let same : length b ≡ length a = omega (
      arith,
      length-in_report c representatives lines j a of_a,
      length-in_report c representatives lines k b of_b,
    ) in
    same_search c representatives (length a) j k a b is of_a.readable
    (subst (λ n. IsSearchOf c representatives n k b) same of_b.readable)
    (sym of_a.lines_are ∙ of_b.lines_are ∙ ap (first_lines c representatives (Some k) b) same)
one_reading c representatives lines (in_report j a) (after_report k b) is of_a of_b = omega (
  arith,
  length-in_report c representatives lines j a of_a,
  length-after_report c representatives lines k b of_b,
  of_a.readable.listed,
)
one_reading c representatives lines (after_report j a) before_report is of_a of_b =
    omega (arith, ap length of_b.lines_are, length-after_report c representatives lines j a of_a)
one_reading c representatives lines (after_report j a) (in_report k b) is of_a of_b = omega (
  arith,
  length-after_report c representatives lines j a of_a,
  length-in_report c representatives lines k b of_b,
  of_b.readable.listed,
)
one_reading c representatives lines (after_report j a) (after_report k b) is of_a of_b =
    one_report c representatives lines j k a b is
    (record { search = of_a.readable; lines_are = of_a.lines_are })
    (record { search = of_b.readable; lines_are = of_b.lines_are })
