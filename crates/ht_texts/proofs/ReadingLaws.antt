-- A report that is read line by line: where it stands after one line more, and which line that may be.
use Rattle.std.proofs.Common.{◌≡◌, inl, inr, ℕ, zero, suc, ◌+◌, ◌<◌, true, false, List, [], ◌∷◌, ◌++◌, Some, length, get_or, length-append, refl, sym, ap, ◌∙◌, subst, arith}
use Rattle.std.proofs.lemmas.Bool.{cases_Bool, cases_lt, cond-true, cond-false}
use Rattle.std.proofs.lemmas.List.{append_cancel_left, same_from_push}
use Rattle.ht_net.specs.Circuit.Netlist.{Netlist}
use Rattle.ht_faults.specs.Sites.{faults_of}
use Rattle.ht_faults.specs.Classes.{is_representative}
use Rattle.ht_texts.specs.declared.item.Item.{Item}
use Rattle.ht_texts.specs.declared.item.Item.TheVariants.{Head, Verdict, Member, Total}
use Rattle.ht_texts.specs.declared.said.Said.{Said}
use Rattle.ht_texts.specs.declared.said.Said.TheVariants.{Undetected}
use Rattle.ht_texts.specs.declared.total.Sums.{Sums}
use Rattle.ht_texts.specs.Pieces.{pieces_text}
use Rattle.ht_texts.specs.Verdicts.{said_at, IsSayable, verdict_text}
use Rattle.ht_texts.specs.Counts.{CountsItem, representatives_below, sums_among, sums_of}
use Rattle.ht_texts.specs.Reports.{head_line, line_front, fault_line, fault_lines, first_lines, body_lines, report_sums, total_line}
use Rattle.ht_texts.specs.SearchReports.{IsSearchOf}
use Rattle.ht_texts.specs.ReportLines.{SaysOfFault, SaysItem}
use Rattle.ht_texts.specs.ReportReading.{ReportReading, before_report, in_report, after_report, ReportReadsTo, fault_item, last_item, read_on}
use Rattle.ht_texts.specs.ReportStands.{sums_read}
use Rattle.ht_texts.proofs.SaidLaws.{said_before, said_last, line_of_representative, line_of_member, length-fault_lines, get_or-fault_lines, fault_lines_more, fault_lines_push}
use Rattle.ht_texts.proofs.TallyLaws.{sums_agree, verdict_counted, member_not_counted}
use Rattle.ht_texts.proofs.VerdictLaws.{SameKind, same_kind}

-- ---- how many lines are read

-- the head and the lines of the first n faults are n + 1 lines
pub length-first_lines : (c : Netlist) (representatives : List ℕ) (budget : ℕ) (saids : List Said) (n : ℕ)
    → length (first_lines c representatives (Some budget) saids n) ≡ n + 1
length-first_lines c representatives budget saids n = omega (arith, length-fault_lines c representatives saids n)

-- within a report one line more is read than there are faults of which something is said
pub length-in_report : (c : Netlist) (representatives : List ℕ) (lines : List (List ℕ)) (budget : ℕ)
    (saids : List Said) → ReportReadsTo c representatives lines (in_report budget saids)
    → length lines ≡ length saids + 1
length-in_report c representatives lines budget saids read =
    ap length read.lines_are ∙ length-first_lines c representatives budget saids (length saids)

-- a report that is read to its end has two lines more than the circuit has faults
pub length-after_report : (c : Netlist) (representatives : List ℕ) (lines : List (List ℕ)) (budget : ℕ)
    (saids : List Said) → ReportReadsTo c representatives lines (after_report budget saids)
    → length lines ≡ length (faults_of c) + 2
length-after_report c representatives lines budget saids read =
    let total = total_line (report_sums representatives (Some budget) saids) in
    omega (
      arith,
      ap length read.lines_are,
      length-append (body_lines c representatives (Some budget) saids) (total ∷ []),
      length-first_lines c representatives budget saids (length (faults_of c)),
    )

-- ---- one line more is read

-- where a reading stands after a line that says this
pub record ReadsOn (c : Netlist) (representatives : List ℕ) (lines : List (List ℕ)) (at : ReportReading) (item : Item)
    (sums : Sums) : Type 0 where
  pub read : ReportReadsTo c representatives lines (read_on at item)
  pub says : last_item representatives (read_on at item) ≡ Some item
  pub sums_are : sums ≡ sums_read representatives (read_on at item)

-- what the last line says of the last fault
pub last_item_push : (representatives : List ℕ) (budget : ℕ) (saids : List Said) (said : Said)
    → last_item representatives (in_report budget (saids ++ said ∷ []))
    ≡ Some (fault_item representatives (length saids) said)
last_item_push representatives budget [] said = refl
last_item_push representatives budget (first ∷ more) said =
    let all = first ∷ (more ++ said ∷ []) in
    let count : length (more ++ said ∷ []) ≡ length (first ∷ more) = omega (arith, length-append more (said ∷ [])) in
    ap (λ k. Some (fault_item representatives k (said_at all k))) count
    ∙ ap (λ s. Some (fault_item representatives (length (first ∷ more)) s)) (said_last (first ∷ more) said)

said_push : (c : Netlist) (representatives : List ℕ) (budget : ℕ) (saids : List Said) (said : Said)
    → length saids < length (faults_of c)
    → (is_representative representatives (length saids) ≡ true → IsSayable c said)
    → IsSearchOf c representatives (length saids) budget saids
    → IsSearchOf c representatives (length (saids ++ said ∷ [])) budget (saids ++ said ∷ [])
said_push c representatives budget saids said inside sayable is = record {
  budget_is = is.budget_is;
  listed = omega (arith, length-append saids (said ∷ []));
  saids_are = record {
    each = refl;
    sayable = λ i below own. elim (cases_lt i (length saids)) [
      | inl before ↦ subst (IsSayable c) (sym (said_before saids (said ∷ []) i before))
          (is.saids_are.sayable i before own)
      | inr upto ↦
          let last : length saids ≡ i = omega (arith, below, upto, length-append saids (said ∷ [])) in
          subst (λ k. IsSayable c (said_at (saids ++ said ∷ []) k)) last
          (subst (IsSayable c) (sym (said_last saids said))
          (sayable (subst (λ k. is_representative representatives k ≡ true) (sym last) own)))
    ];
  };
}

-- the line of the next fault
fault_read : (c : Netlist) (representatives : List ℕ) (lines : List (List ℕ)) (line : List ℕ) (budget : ℕ)
    (saids : List Said) (said : Said) → length saids < length (faults_of c)
    → (is_representative representatives (length saids) ≡ true → IsSayable c said)
    → line ≡ fault_line c representatives (length saids) said
    → ReportReadsTo c representatives lines (in_report budget saids)
    → ReportReadsTo c representatives (lines ++ line ∷ []) (in_report budget (saids ++ said ∷ []))
fault_read c representatives lines line budget saids said inside sayable is read = record {
  readable = said_push c representatives budget saids said inside sayable read.readable;
  lines_are =
      let head = head_line c representatives (Some budget) in
      let all = saids ++ said ∷ [] in
      let count : length all ≡ length saids + 1 = length-append saids (said ∷ []) in
      ap (λ l. lines ++ l ∷ []) is
      ∙ ap (λ l. l ++ fault_line c representatives (length saids) said ∷ []) read.lines_are
      ∙ ap (λ l. head ∷ l) (sym (fault_lines_push c representatives saids said))
      ∙ ap (λ n. head ∷ fault_lines c representatives all n) (sym count);
}

verdict_read : (c : Netlist) (representatives : List ℕ) (lines : List (List ℕ)) (line : List ℕ) (budget : ℕ)
    (saids : List Said) (said : Said) (old new : Sums) → IsSayable c said
    → SaysOfFault c representatives (length saids) true line said
    → ReportReadsTo c representatives lines (in_report budget saids)
    → old ≡ sums_read representatives (in_report budget saids) → CountsItem (Verdict (length saids) said) old new
    → ReadsOn c representatives (lines ++ line ∷ []) (in_report budget saids) (Verdict (length saids) said) new
verdict_read c representatives lines line budget saids said old new sayable of_fault read sums counts = record {
  read = fault_read c representatives lines line budget saids said of_fault.listed (λ _. sayable) of_fault.line_is
      read;
  says = last_item_push representatives budget saids said
      ∙ ap (λ item. Some item) (cond-true (is_representative representatives (length saids))
      (Verdict (length saids) said) (Member (length saids)) of_fault.own_is);
  sums_are = verdict_counted representatives saids said true old new of_fault.own_is sums counts;
}

member_read : (c : Netlist) (representatives : List ℕ) (lines : List (List ℕ)) (line : List ℕ) (budget : ℕ)
    (saids : List Said) (old new : Sums) → SaysOfFault c representatives (length saids) false line Undetected
    → ReportReadsTo c representatives lines (in_report budget saids)
    → old ≡ sums_read representatives (in_report budget saids) → new ≡ old
    → ReadsOn c representatives (lines ++ line ∷ []) (in_report budget saids) (Member (length saids)) new
member_read c representatives lines line budget saids old new of_fault read sums counts = record {
  read = fault_read c representatives lines line budget saids Undetected of_fault.listed
      (λ own. cc) of_fault.line_is read;
  says = last_item_push representatives budget saids Undetected
      ∙ ap (λ item. Some item) (cond-false (is_representative representatives (length saids))
      (Verdict (length saids) Undetected) (Member (length saids)) of_fault.own_is);
  sums_are = counts ∙ sums ∙ member_not_counted representatives saids Undetected true of_fault.own_is;
}

total_read : (c : Netlist) (representatives : List ℕ) (lines : List (List ℕ)) (line : List ℕ) (budget : ℕ)
    (saids : List Said) (old new : Sums) → length representatives ≡ length (faults_of c)
    → length saids ≡ length (faults_of c) → line ≡ total_line old
    → ReportReadsTo c representatives lines (in_report budget saids)
    → old ≡ sums_read representatives (in_report budget saids) → new ≡ old
    → ReadsOn c representatives (lines ++ line ∷ []) (in_report budget saids) Total new
total_read c representatives lines line budget saids old new listed all is read sums counts = record {
  read = record {
    readable = subst (λ n. IsSearchOf c representatives n budget saids) all read.readable;
    lines_are =
        let whole : old ≡ sums_of representatives saids true = sums
        ∙ ap (λ n. sums_among representatives saids true (representatives_below representatives n))
        (all ∙ sym listed) in
        ap (λ l. lines ++ l ∷ []) (is ∙ ap total_line whole)
        ∙ ap (λ l. l ++ total_line (sums_of representatives saids true) ∷ [])
        (read.lines_are ∙ ap (first_lines c representatives (Some budget) saids) all);
  };
  says = refl;
  sums_are = counts ∙ sums;
}

-- a line that says this item is read
pub item_read : (c : Netlist) (representatives : List ℕ) (lines : List (List ℕ)) (at : ReportReading) (line : List ℕ)
    (item : Item) (old new : Sums) → length representatives ≡ length (faults_of c)
    → ReportReadsTo c representatives lines at → old ≡ sums_read representatives at
    → SaysItem c representatives (length lines) old line item → CountsItem item old new
    → ReadsOn c representatives (lines ++ line ∷ []) at item new
item_read c representatives lines before_report line (Head budget) old new listed read sums says counts = record {
  read = record {
    readable = record {
      budget_is = says.1;
      listed = omega arith;
      saids_are = record { each = refl; sayable = λ i below. absurd (omega arith) };
    };
    lines_are = ap (λ l. l ++ line ∷ []) read.lines_are ∙ ap (λ l. l ∷ []) says.2;
  };
  says = refl;
  sums_are = counts ∙ sums;
}
item_read c representatives lines before_report line (Verdict i said) old new listed read sums says counts =
    absurd (omega (arith, ap length read.lines_are, says.0))
item_read c representatives lines before_report line (Member i) old new listed read sums says counts =
    absurd (omega (arith, ap length read.lines_are, says.0))
item_read c representatives lines before_report line Total old new listed read sums says counts =
    absurd (omega (arith, ap length read.lines_are, says.0))
item_read c representatives lines (in_report budget saids) line (Head b) old new listed read sums says counts =
    absurd (omega (arith, length-in_report c representatives lines budget saids read, says.0))
item_read c representatives lines (in_report budget saids) line (Verdict i said) old new listed read sums says counts =
    let next : length saids ≡ i = omega (arith, length-in_report c representatives lines budget saids read, says.0) in
    subst (λ k. ReadsOn c representatives (lines ++ line ∷ []) (in_report budget saids) (Verdict k said) new) next
    (verdict_read c representatives lines line budget saids said old new says.1
    (subst (λ k. SaysOfFault c representatives k true line said) (sym next) says.2) read sums counts)
item_read c representatives lines (in_report budget saids) line (Member i) old new listed read sums says counts =
    let next : length saids ≡ i = omega (arith, length-in_report c representatives lines budget saids read, says.0) in
    subst (λ k. ReadsOn c representatives (lines ++ line ∷ []) (in_report budget saids) (Member k) new) next
    (member_read c representatives lines line budget saids old new
    (subst (λ k. SaysOfFault c representatives k false line Undetected) (sym next) says.1) read sums counts)
item_read c representatives lines (in_report budget saids) line Total old new listed read sums says counts =
    total_read c representatives lines line budget saids old new listed
    (omega (arith, length-in_report c representatives lines budget saids read, says.0)) says.1 read sums counts
item_read c representatives lines (after_report budget saids) line (Head b) old new listed read sums says counts =
    absurd (omega (arith, length-after_report c representatives lines budget saids read, says.0))
item_read c representatives lines (after_report budget saids) line (Verdict i s) old new listed read sums says counts =
    absurd (omega (arith, length-after_report c representatives lines budget saids read, says.0, says.2.listed))
item_read c representatives lines (after_report budget saids) line (Member i) old new listed read sums says counts =
    absurd (omega (arith, length-after_report c representatives lines budget saids read, says.0, says.1.listed))
item_read c representatives lines (after_report budget saids) line Total old new listed read sums says counts =
    absurd (omega (arith, length-after_report c representatives lines budget saids read, says.0))

-- ---- which line that may be

-- the line of fault n says its verdict, or that another fault represents it
fault_says : (c : Netlist) (representatives : List ℕ) (n : ℕ) (sums : Sums) (line : List ℕ) (said : Said)
    → n < length (faults_of c) → (is_representative representatives n ≡ true → IsSayable c said)
    → line ≡ fault_line c representatives n said
    → (item : Item) × SaysItem c representatives (n + 1) sums line item
fault_says c representatives n sums line said listed sayable is =
    elim (cases_Bool (is_representative representatives n)) [
      | inl own ↦ (Verdict n said, (refl, sayable own, record { listed = listed; own_is = own; line_is = is }))
      | inr other ↦ (
        Member n,
        (
          refl,
          record {
            listed = listed;
            own_is = other;
            line_is = is ∙ line_of_member c representatives n said Undetected other;
          },
        ),
      )
    ]

-- two bodies with the same lines say verdicts of the same kinds
bodies_count_alike : (c : Netlist) (representatives : List ℕ) (budget budget' : ℕ) (a b : List Said) (n : ℕ)
    → first_lines c representatives (Some budget) a n ≡ first_lines c representatives (Some budget') b n
    → (i : ℕ) → i < n → is_representative representatives i ≡ true → SameKind (said_at a i) (said_at b i)
bodies_count_alike c representatives budget budget' a b n same i below own =
    let line : get_or (fault_lines c representatives a n) i [] ≡ get_or (fault_lines c representatives b n) i [] =
    ap (λ l. get_or l (suc i) []) same in
    same_kind c (said_at a i) (said_at b i)
    (append_cancel_left (pieces_text (line_front c i)) (verdict_text c (said_at a i)) (verdict_text c (said_at b i))
    (sym (line_of_representative c representatives i (said_at a i) own)
    ∙ sym (get_or-fault_lines c representatives a n i below)
    ∙ line
    ∙ get_or-fault_lines c representatives b n i below
    ∙ line_of_representative c representatives i (said_at b i) own))

-- the sums before a total are those of any report with these lines
body_sums : (c : Netlist) (representatives : List ℕ) (lines : List (List ℕ)) (at : ReportReading) (budget : ℕ)
    (saids : List Said) (sums : Sums) → length representatives ≡ length (faults_of c)
    → ReportReadsTo c representatives lines at → sums ≡ sums_read representatives at
    → lines ≡ body_lines c representatives (Some budget) saids → sums ≡ sums_of representatives saids true
body_sums c representatives lines before_report budget saids sums listed read sums_are body =
    absurd (omega (arith, ap length read.lines_are, ap length body))
body_sums c representatives lines (in_report b a) budget saids sums listed read sums_are body =
    let all : length a ≡ length (faults_of c) = omega (
      arith,
      length-in_report c representatives lines b a read,
      ap length body,
      length-first_lines c representatives budget saids (length (faults_of c)),
    ) in
    let same : first_lines c representatives (Some b) a (length (faults_of c))
    ≡ first_lines c representatives (Some budget) saids (length (faults_of c)) =
    ap (first_lines c representatives (Some b) a) (sym all) ∙ sym read.lines_are ∙ body in
    sums_are
    ∙ ap (λ n. sums_among representatives a true (representatives_below representatives n)) (all ∙ sym listed)
    ∙ sums_agree representatives a saids true (length representatives)
    (λ i below own. bodies_count_alike c representatives b budget a saids (length (faults_of c)) same i
    (omega (arith, below, listed)) own)
body_sums c representatives lines (after_report b a) budget saids sums listed read sums_are body =
    absurd (omega (
      arith,
      length-after_report c representatives lines b a read,
      ap length body,
      length-first_lines c representatives budget saids (length (faults_of c)),
    ))

-- the last of the first lines: the head or the line of a fault
first_line_says : (c : Netlist) (representatives : List ℕ) (lines : List (List ℕ)) (line : List ℕ) (budget : ℕ)
    (saids : List Said) (sums : Sums) (n : ℕ) → n ≡ length saids
    → IsSearchOf c representatives (length saids) budget saids
    → lines ++ line ∷ [] ≡ first_lines c representatives (Some budget) saids n
    → (item : Item) × SaysItem c representatives n sums line item
first_line_says c representatives lines line budget saids sums zero none is e =
    let parts = same_from_push lines [] line (head_line c representatives (Some budget)) e in
    (Head budget, (refl, is.budget_is, parts.1))
first_line_says c representatives lines line budget saids sums (suc m) some is e =
    let last = fault_line c representatives m (said_at saids m) in
    let before = first_lines c representatives (Some budget) saids m in
    let head = head_line c representatives (Some budget) in
    let more : m + 1 ≡ suc m = omega arith in
    let split : lines ++ line ∷ [] ≡ before ++ last ∷ [] = e
    ∙ ap (λ n. first_lines c representatives (Some budget) saids n) (sym more)
    ∙ ap (λ l. head ∷ l) (fault_lines_more c representatives saids m) in
    subst (λ n. (item : Item) × SaysItem c representatives n sums line item) more
    (fault_says c representatives m sums line (said_at saids m) (omega (arith, some, is.listed))
    (is.saids_are.sayable m (omega (arith, some))) (same_from_push lines before line last split).1)

-- a line after which the lines still begin a report says something
pub next_line_says : (c : Netlist) (representatives : List ℕ) (lines : List (List ℕ)) (at next : ReportReading)
    (line : List ℕ) (sums : Sums) → length representatives ≡ length (faults_of c)
    → ReportReadsTo c representatives lines at → sums ≡ sums_read representatives at
    → ReportReadsTo c representatives (lines ++ line ∷ []) next
    → (item : Item) × SaysItem c representatives (length lines) sums line item
next_line_says c representatives lines at before_report line sums listed read sums_are more =
    absurd (omega (arith, ap length more.lines_are, length-append lines (line ∷ [])))
next_line_says c representatives lines at (in_report budget saids) line sums listed read sums_are more =
    let count : length lines ≡ length saids = omega (
      arith,
      length-append lines (line ∷ []),
      length-in_report c representatives (lines ++ line ∷ []) budget saids more,
    ) in
    first_line_says c representatives lines line budget saids sums (length lines) count more.readable
    (more.lines_are ∙ ap (first_lines c representatives (Some budget) saids) (sym count))
next_line_says c representatives lines at (after_report budget saids) line sums listed read sums_are more =
    let total = total_line (report_sums representatives (Some budget) saids) in
    let parts = same_from_push lines (body_lines c representatives (Some budget) saids) line total more.lines_are in (
      Total,
      (
        ap length parts.0 ∙ length-first_lines c representatives budget saids (length (faults_of c)),
        parts.1 ∙ sym (ap total_line
            (body_sums c representatives lines at budget saids sums listed read sums_are parts.0)),
      ),
    )
