-- An entry by sets that passes has a text.
use Rattle.std.proofs.Common.{◌≡◌, ◌∙◌, ◌<◌, ◌==◌, ℕ, List, [], ◌∷◌, length, get_or, inl, inr, refl, ap, subst, arith, if◌then◌else◌}
use Rattle.std.specs.List.{All}
use Rattle.std.proofs.lemmas.Bool.{eq-eqb}
use Rattle.std.proofs.lemmas.Bool.Decides.{eqb_tells}
use Rattle.std.proofs.lemmas.List.Elements.{All-cons, All-head, All-nil, All-tail}
use Rattle.std.proofs.lemmas.List.FromFn.{get_or-map-range_with_len, length-map-range_with_len}
use Rattle.ht_tern.specs.declared.tern.Tern.{Tern}
use Rattle.ht_tern.specs.declared.tern.Tern.TheVariants.{Unk}
use Rattle.ht_pairs.specs.Pairs.{IsMember, Pair, pair}
use Rattle.ht_net.specs.declared.fault.Fault.{Fault}
use Rattle.ht_net.specs.Circuit.Netlist.{IsCircuit, Netlist}
use Rattle.ht_tree.specs.declared.family_row.FamilyRow.{FamilyRow}
use Rattle.ht_tree.specs.Record.FamilyRows.{ClosesByRows, dffs_of, row_set, start_set}
use Rattle.ht_tree.specs.Record.Rising.{Rises}
use Rattle.ht_entries.specs.BySets.{IsBySetsText}
use Rattle.ht_entries.proofs.RisesLaws.{rises_cons, rises_one, rises_tail}
use Rattle.ht_entries.proofs.PairsTextLaws.{some_of_member}
use Rattle.ht_valid.specs.WritableEntries.{AreInOrder}

rises_past : (j k : ℕ) (xs : List ℕ) → Rises (j ∷ k ∷ xs) → Rises (j ∷ xs)
rises_past j k [] rises = rises_one j
rises_past j k (x ∷ xs) rises =
    let first : j < k = rises.next 0 (omega arith) in
    let rest = rises_tail j (k ∷ x ∷ xs) rises in
    let second : k < x = rest.next 0 (omega arith) in
    rises_cons j x xs (omega (arith, first, second)) (rises_tail k (x ∷ xs) rest)

-- rows of flip-flops above leave a set as it is
set_kept : (rows : List FamilyRow) (j : ℕ) (set : List Pair) → Rises (j ∷ dffs_of rows) → row_set rows j set ≡ set
set_kept [] j set rises = refl
set_kept (row ∷ rows) j set rises =
    let above : j < row.dff = rises.next 0 (omega arith) in
    ap (row_set rows j) (elim (eqb_tells j row.dff) [
      | inl e ↦ let same : j ≡ row.dff = e.1 in absurd (omega (arith, same, above))
      | inr e ↦ rw e.0 refl
    ])
    ∙ set_kept rows j set (rises_past j row.dff (dffs_of rows) rises)

-- where each set by the rows has a member, so has each row's
each_some : (n : ℕ) (rows : List FamilyRow) (base : ℕ → List Pair) → Rises (dffs_of rows)
    → All (λ (row : FamilyRow). row.dff < n) rows → ((j : ℕ) → j < n → 0 < length (row_set rows j (base j)))
    → All (λ (row : FamilyRow). 0 < length row.set) rows
each_some n [] base rises known some = All-nil (λ (row : FamilyRow). 0 < length row.set)
each_some n (row ∷ rows) base rises known some =
    let inside : row.dff < n = All-head (λ (r : FamilyRow). r.dff < n) row rows known in
    let own : row_set rows row.dff (if row.dff == row.dff then row.set else base row.dff) ≡ row.set =
    ap (row_set rows row.dff) (rw (eq-eqb row.dff row.dff refl) refl) ∙ set_kept rows row.dff row.set rises in
    All-cons (λ (r : FamilyRow). 0 < length r.set) row rows
    (subst (λ (set : List Pair). 0 < length set) own (some row.dff inside))
    (each_some n rows (λ j. if j == row.dff then row.set else base j) (rises_tail row.dff (dffs_of rows) rises)
    (All-tail (λ (r : FamilyRow). r.dff < n) row rows known) some)

module _ (c : Netlist) (circuit : IsCircuit c) (fault : Fault) (start : List Tern) (rows : List FamilyRow)
    (passes : ClosesByRows c fault start rows) where
  -- the family has the start's pair at each flip-flop
  sets_some : (j : ℕ) → j < length c.dffs → 0 < length (row_set rows j (start_set start j))
  sets_some j inside =
      let sets = passes.closes.sets in
      let long = length-map-range_with_len (λ (i : ℕ). row_set rows i (start_set start i)) 0 (length start) in
      let here : j < length start = omega (arith, inside, sets, long) in
      some_of_member (pair (get_or start j Unk) (get_or start j Unk)) (row_set rows j (start_set start j))
      (subst (IsMember (pair (get_or start j Unk) (get_or start j Unk)))
      (get_or-map-range_with_len (λ (i : ℕ). row_set rows i (start_set start i)) 0 (length start) j j [] here (omega arith))
      (passes.closes.starts j here))

  -- an entry by sets that passes has a text, if its sets are in order
  pub sets_have_text : AreInOrder rows → IsBySetsText rows
  sets_have_text ordered =
      let some = each_some (length c.dffs) rows (start_set start) passes.rises passes.known sets_some in
      let few = circuit.few_dffs in
      record {
        rises = passes.rises;
        each = λ k d inside.
            let known : (get_or rows k d).dff < length c.dffs = passes.known k d inside in
            record {
              dff = omega (arith, known, few);
              set = record { some = some k d inside; in_order = ordered k d inside };
            };
      }
