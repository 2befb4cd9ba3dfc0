-- Tests and proofs have one valid report of a budget.
use Rattle.std.proofs.Common.{◌≡◌, ◌∙◌, ◌+◌, ◌-◌, arith, ℕ, Bool, true, List, ◌∷◌, ◌++◌, [], Some, None, map, length, refl, sym, ap, subst}
use Rattle.std.specs.List.{All, range_with_len}
use Rattle.std.proofs.lemmas.List.Elements.{All-contains}
use Rattle.ht_ports.specs.LineRule.{lines_of}
use Rattle.ht_tern.specs.declared.tern.Tern.{Tern}
use Rattle.ht_net.specs.Circuit.Netlist.{IsCircuit, Netlist}
use Rattle.ht_net.specs.Detect.Detection.{IsFirstFrom}
use Rattle.ht_faults.specs.Sites.{faults_of}
use Rattle.ht_faults.specs.Classes.{AreClasses, fault_at}
use Rattle.ht_tree.specs.declared.entry.Entry.{Entry}
use Rattle.ht_tree.specs.Record.Entries.{kind_of}
use Rattle.ht_texts.specs.declared.said.Said.{Said}
use Rattle.ht_texts.specs.declared.said.Said.TheVariants.{Detected, Untestable, Undetectable, Aborted, Undetected}
use Rattle.ht_texts.specs.Verdicts.{kind_number, said_at}
use Rattle.ht_texts.specs.Counts.{representatives_below, sums_among}
use Rattle.ht_texts.specs.Reports.{fault_line, head_line, report_lines, total_line}
use Rattle.ht_texts.proofs.SaidLaws.{same_fault_lines}
use Rattle.ht_texts.proofs.TallyLaws.{sums_agree}
use Rattle.ht_texts.proofs.TestLaws.{one_list}
use Rattle.ht_entries.specs.declared.numbered.Numbered.{Numbered}
use Rattle.ht_entries.specs.EntryTexts.{as_read}
use Rattle.ht_entries.proofs.ReadLaws.{one_list as one_list_of_entries}
use Rattle.ht_valid.specs.ValidFiles.{AgreesWithTests, AreValid, Backs, Content, HasEntry, IsBacking, IsOwn, NeedsEntry, said_by_kind}
use Rattle.ht_judge.proofs.ReportLaws.{one_place}
use Rattle.ht_parts.proofs.AsReadLaws.{all_back_as_read, has_as_read}

module _ (c : Netlist) (start : List Tern) (list : List (List Bool)) (i : ℕ) where
  -- an entry that backs what is said of a fault that isn't detected is of that kind
  backing_kind : (budget : ℕ) (e : Entry) (said : Said) → AgreesWithTests c start list i said
      → IsFirstFrom c (fault_at c i) start list None → Backs c start budget i e said
      → said_by_kind (kind_of e) ≡ said
  backing_kind budget e (Detected p) agrees none backs = absurd (none p.vector p.output agrees.0)
  backing_kind budget e Untestable agrees none backs = backs.0
  backing_kind budget e Undetectable agrees none backs = backs.0
  backing_kind budget e Aborted agrees none backs = backs.0
  backing_kind budget e Undetected agrees none backs = backs.0

  module _ (budget : ℕ) (entries : List Numbered) (a b : Said)
      (backs : (has : HasEntry entries i) → Backs c start budget i has.entry a × Backs c start budget i has.entry b)
    where
      -- both are what the entry says
      by_entry : AgreesWithTests c start list i a → AgreesWithTests c start list i b
          → IsFirstFrom c (fault_at c i) start list None → HasEntry entries i → a ≡ b
      by_entry agrees_a agrees_b none has =
          sym (backing_kind budget has.entry a agrees_a none (backs has).0)
          ∙ backing_kind budget has.entry b agrees_b none (backs has).1

  one_said : (budget : ℕ) (entries : List Numbered) (a b : Said)
      → ((has : HasEntry entries i) → Backs c start budget i has.entry a × Backs c start budget i has.entry b)
      → AgreesWithTests c start list i a → AgreesWithTests c start list i b
      → (NeedsEntry a → HasEntry entries i) → (NeedsEntry b → HasEntry entries i) → a ≡ b
  one_said budget entries (Detected p) (Detected q) backs agrees_a agrees_b needs_a needs_b =
      ap Detected (one_place c (fault_at c i) start list p q agrees_a agrees_b)
  one_said budget entries (Detected p) Untestable backs agrees_a agrees_b needs_a needs_b =
      absurd (agrees_b p.vector p.output agrees_a.0)
  one_said budget entries (Detected p) Undetectable backs agrees_a agrees_b needs_a needs_b =
      absurd (agrees_b p.vector p.output agrees_a.0)
  one_said budget entries (Detected p) Aborted backs agrees_a agrees_b needs_a needs_b =
      absurd (agrees_b p.vector p.output agrees_a.0)
  one_said budget entries (Detected p) Undetected backs agrees_a agrees_b needs_a needs_b =
      absurd (agrees_b p.vector p.output agrees_a.0)
  one_said budget entries Untestable b backs agrees_a agrees_b needs_a needs_b =
      by_entry budget entries Untestable b backs agrees_a agrees_b agrees_a (needs_a tt)
  one_said budget entries Undetectable b backs agrees_a agrees_b needs_a needs_b =
      by_entry budget entries Undetectable b backs agrees_a agrees_b agrees_a (needs_a tt)
  one_said budget entries Aborted b backs agrees_a agrees_b needs_a needs_b =
      by_entry budget entries Aborted b backs agrees_a agrees_b agrees_a (needs_a tt)
  one_said budget entries Undetected (Detected q) backs agrees_a agrees_b needs_a needs_b =
      absurd (agrees_a q.vector q.output agrees_b.0)
  one_said budget entries Undetected Untestable backs agrees_a agrees_b needs_a needs_b =
      by_entry budget entries Undetected Untestable backs agrees_a agrees_b agrees_a (needs_b tt)
  one_said budget entries Undetected Undetectable backs agrees_a agrees_b needs_a needs_b =
      by_entry budget entries Undetected Undetectable backs agrees_a agrees_b agrees_a (needs_b tt)
  one_said budget entries Undetected Aborted backs agrees_a agrees_b needs_a needs_b =
      by_entry budget entries Undetected Aborted backs agrees_a agrees_b agrees_a (needs_b tt)
  one_said budget entries Undetected Undetected backs agrees_a agrees_b needs_a needs_b = refl

-- ---- the lines

-- reports that say the same of each representative have the same lines
same_report : (c : Netlist) (representatives : List ℕ) (budget : ℕ) (a b : List Said)
    → length representatives ≡ length (faults_of c)
    → ((i : ℕ) → IsOwn c representatives i → said_at a i ≡ said_at b i)
    → report_lines c representatives (Some budget) a ≡ report_lines c representatives (Some budget) b
same_report c representatives budget a b every same =
    let n = length (faults_of c) in
    let head = head_line c representatives (Some budget) in
    let lines = same_fault_lines c representatives a b n
    (λ i below own. same i (record { listed = below; own = own })) in
    let sums = subst (λ m. sums_among representatives a true (representatives_below representatives m)
    ≡ sums_among representatives b true (representatives_below representatives m)) (sym every)
    (sums_agree representatives a b true n
    (λ i below own. ap kind_number (same i (record { listed = below; own = own })))) in
    ap (λ l. (head ∷ l) ++ total_line (sums_among representatives a true
    (representatives_below representatives (length representatives))) ∷ []) lines
    ∙ ap (λ s. (head ∷ map (λ i. fault_line c representatives i (said_at b i)) (range_with_len 0 n))
    ++ total_line s ∷ []) sums

-- ---- the law

module _ (c : Netlist) (representatives : List ℕ) (start : List Tern) (tests proofs report other : List ℕ)
    (a b : Content) (classes : AreClasses c representatives)
    (valid_a : AreValid c representatives start tests report proofs a)
    (valid_b : AreValid c representatives start tests other proofs b) (budgets : a.budget ≡ b.budget) where
  start_is : a.start ≡ b.start
  start_is = valid_a.stated ∙ sym valid_b.stated

  list_is : a.list ≡ b.list
  list_is = one_list c tests a.list b.list valid_a.vectors valid_b.vectors

  entries_are : map as_read b.entries ≡ map as_read a.entries
  entries_are = one_list_of_entries proofs b.entries a.entries valid_b.proved valid_a.proved

  -- the entries that both have
  abbrev both : List Numbered
  both = map as_read a.entries

  backed_a : All (IsBacking c representatives a) both
  backed_a = all_back_as_read c representatives a a.entries valid_a.justified.backed

  backed_b : All (IsBacking c representatives b) both
  backed_b = subst (All (IsBacking c representatives b)) entries_are
      (all_back_as_read c representatives b b.entries valid_b.justified.backed)

  backs_both : (i : ℕ) (has : HasEntry both i) → Backs c a.start a.budget i has.entry (said_at a.saids i)
      × Backs c a.start a.budget i has.entry (said_at b.saids i)
  backs_both i has =
      let e : Numbered = record { number = i + 1; entry = has.entry } in
      let same : i + 1 - 1 ≡ i = omega arith in (
        subst (λ k. Backs c a.start a.budget k has.entry (said_at a.saids k)) same
            (All-contains (IsBacking c representatives a) both e backed_a has.among).backs,
        subst (λ k. Backs c a.start k i has.entry (said_at b.saids i)) (sym budgets)
            (subst (λ s. Backs c s b.budget i has.entry (said_at b.saids i)) (sym start_is)
            (subst (λ k. Backs c b.start b.budget k has.entry (said_at b.saids k)) same
            (All-contains (IsBacking c representatives b) both e backed_b has.among).backs)),
      )

  same_said : (i : ℕ) → IsOwn c representatives i → said_at a.saids i ≡ said_at b.saids i
  same_said i own =
      one_said c a.start a.list i a.budget both (said_at a.saids i) (said_at b.saids i) (backs_both i)
      (valid_a.justified.agrees i own)
      (subst (λ l. AgreesWithTests c a.start l i (said_at b.saids i)) (sym list_is)
      (subst (λ s. AgreesWithTests c s b.list i (said_at b.saids i)) (sym start_is) (valid_b.justified.agrees i own)))
      (λ needs. has_as_read a.entries i (valid_a.justified.complete i own needs))
      (λ needs. subst (λ l. HasEntry l i) entries_are
      (has_as_read b.entries i (valid_b.justified.complete i own needs)))

  -- both reports have the same lines
  pub one_report_of_valid : lines_of report ≡ lines_of other
  one_report_of_valid =
      valid_a.reported.report.lines_are
      ∙ (same_report c representatives a.budget a.saids b.saids classes.every same_said
      ∙ (ap (λ k. report_lines c representatives (Some k) b.saids) budgets
      ∙ sym valid_b.reported.report.lines_are))

-- tests and proofs have one valid report of a budget
pub one_valid_report : (c : Netlist) (representatives : List ℕ) (start : List Tern)
    (tests proofs report other : List ℕ) (a b : Content) → IsCircuit c → AreClasses c representatives
    → AreValid c representatives start tests report proofs a → AreValid c representatives start tests other proofs b
    → a.budget ≡ b.budget → lines_of report ≡ lines_of other
one_valid_report c representatives start tests proofs report other a b circuit classes valid_a valid_b budgets =
    one_report_of_valid c representatives start tests proofs report other a b classes valid_a valid_b budgets
