-- What awaits its verdict after a step awaited it before, and the entries of steps rise.
use Rattle.std.specs.Prelude.{◌≡◌, ◌⊎◌, ◌<◌, ◌+◌, ◌-◌, ℕ, suc, zero, List, [], ◌∷◌, ◌++◌, Bool, true, length, get_or, refl, None}
use Rattle.std.specs.List.{All, Contains}
use Rattle.std.proofs.Common.{arith, ap, inl, inr, sym, ◌∙◌, subst}
use Rattle.std.proofs.lemmas.Bool.{lt-ltb}
use Rattle.std.proofs.lemmas.List.{append-nil, map-append}
use Rattle.std.proofs.lemmas.List.Concat.{flat_map-append}
use Rattle.std.proofs.lemmas.List.Elements.{All-append, All-cons, All-head, All-nil, All-tail, Contains-append_cases, Contains-append_left, Contains-append_right}
use Rattle.ht_net.specs.Circuit.Netlist.{Netlist}
use Rattle.ht_net.specs.Frames.Rows.{Rows}
use Rattle.ht_net.specs.Detect.Detection.{IsFirstFrom}
use Rattle.ht_faults.specs.Classes.{fault_at}
use Rattle.ht_tree.specs.declared.entry.Entry as recorded
use Rattle.ht_tree.specs.Record.Rising.{Rises}
use Rattle.ht_entries.specs.declared.numbered.Numbered.{Numbered}
use Rattle.ht_entries.specs.EntryTexts.{numbers_of}
use Rattle.ht_entries.specs.ProofSteps.{is_above}
use Rattle.ht_entries.proofs.RisesLaws.{rises_add, rises_none}
use Rattle.ht_invariant.specs.declared.finding.Invariant.{Invariant}
use Rattle.ht_valid.specs.ValidFiles.{HasEntry, IsOwn}
use Rattle.ht_engine.specs.declared.settings.Settings.{Settings}
use Rattle.ht_engine.specs.declared.step.Step.{Step}
use Rattle.ht_engine.specs.declared.step.Step.TheVariants.{Vectors, Entry, Finished}
use Rattle.ht_engine.specs.declared.work.Work.TheVariants as work
use Rattle.ht_engine.specs.DeepWork.{IsWorkBy}
use Rattle.ht_engine.specs.Steps.{AreSteps, AwaitsVerdict, Follows, IsNextFault, IsOwnEntry, IsWorkStep, entries_of, none, one_more, first_vectors, one_vector, step_entries, step_vectors, vectors_of_steps}
use Rattle.ht_engine.proofs.MoreVectorsLaws.{undetected_before}

-- ---- the vectors and the entries of one more step

-- the vectors of steps with one more are those of the steps and then those of the last one
pub vectors_more : (steps : List Step) (step : Step)
    → vectors_of_steps (steps ++ step ∷ []) ≡ vectors_of_steps steps ++ step_vectors step
vectors_more steps step =
    flat_map-append step_vectors steps (step ∷ [])
    ∙ ap (λ (x : List (List Bool)). vectors_of_steps steps ++ x) (append-nil (step_vectors step))

-- the entries of steps with one more are those of the steps and then that of the last one, if any
pub entries_more : (steps : List Step) (step : Step)
    → entries_of (steps ++ step ∷ []) ≡ entries_of steps ++ step_entries step
entries_more steps step =
    flat_map-append step_entries steps (step ∷ [])
    ∙ ap (λ (x : List Numbered). entries_of steps ++ x) (append-nil (step_entries step))

-- a list adds no entry, an entry no vector
pub entries_with_list : (steps : List Step) (list : Rows)
    → entries_of (steps ++ Vectors list ∷ []) ≡ entries_of steps
entries_with_list steps list = entries_more steps (Vectors list) ∙ append-nil (entries_of steps)

-- a step that gives an entry adds no vector
pub vectors_with_entry : (steps : List Step) (fault : ℕ) (e : recorded.Entry)
    → vectors_of_steps (steps ++ Entry fault e ∷ []) ≡ vectors_of_steps steps
vectors_with_entry steps fault e = vectors_more steps (Entry fault e) ∙ append-nil (vectors_of_steps steps)

abbrev pub numbered : ℕ → recorded.Entry → Numbered
numbered fault e = record { number = fault + 1; entry = e }

-- ---- who has an entry

-- a fault that has an entry has one if more entries come after
pub has_left : (entries more : List Numbered) (k : ℕ) → HasEntry entries k → HasEntry (entries ++ more) k
has_left entries more k h = record {
  entry = h.entry;
  among = Contains-append_left entries more (numbered k h.entry) h.among;
}

-- a list of entries contains the one at its end
pub contains_last : (entries : List Numbered) (e : Numbered) → Contains (entries ++ e ∷ []) e
contains_last entries e = Contains-append_right entries (e ∷ []) e (0, omega arith, refl)

only_at : (e f : Numbered) (k : ℕ) → k < length (e ∷ []) → get_or (e ∷ []) k f ≡ f → e ≡ f
only_at e f zero l is = is
only_at e f (suc k) l is = absurd (omega (arith, l))

same_number : (fault k : ℕ) (e f : recorded.Entry) → numbered fault e ≡ numbered k f → k ≡ fault
same_number fault k e f is =
    let n : fault + 1 ≡ k + 1 = ap (λ (x : Numbered). x.number) is in omega (arith, n)

-- a fault that has an entry with one more had one before, or is the fault of the last one
pub has_cases : (entries : List Numbered) (fault : ℕ) (e : recorded.Entry) (k : ℕ)
    → HasEntry (entries ++ numbered fault e ∷ []) k → HasEntry entries k ⊎ (k ≡ fault)
has_cases entries fault e k h =
    elim (Contains-append_cases entries (numbered fault e ∷ []) (numbered k h.entry) h.among) [
      | inl b ↦ inl (record { entry = h.entry; among = b })
      | inr b ↦ inr (same_number fault k e h.entry (only_at (numbered fault e) (numbered k h.entry) b.0 b.1 b.2))
    ]

-- the fault of an entry that a last step gives has an entry
pub has_last : (steps : List Step) (fault : ℕ) (e : recorded.Entry)
    → HasEntry (entries_of (steps ++ Entry fault e ∷ [])) fault
has_last steps fault e = record {
  entry = e;
  among = subst (λ (entries : List Numbered). Contains entries (numbered fault e))
      (sym (entries_more steps (Entry fault e))) (contains_last (entries_of steps) (numbered fault e));
}

-- ---- who awaits its verdict after a step awaited it before

-- a fault that awaits its verdict after a step awaited it before that step
pub awaited_before : (c : Netlist) (representatives : List ℕ) (settings : Settings) (steps : List Step) (step : Step)
    (k : ℕ)
    → AwaitsVerdict c representatives settings (steps ++ step ∷ []) k → AwaitsVerdict c representatives settings steps k
awaited_before c representatives settings steps step k a = record {
  own = a.own;
  chosen = a.chosen;
  undetected = undetected_before c (fault_at c k) settings.start (vectors_of_steps steps) (step_vectors step)
      (subst (λ (list : List (List Bool)). IsFirstFrom c (fault_at c k) settings.start list None) (vectors_more steps step)
      a.undetected);
  without_entry = λ h. a.without_entry
      (subst (λ (entries : List Numbered). HasEntry entries k) (sym (entries_more steps step))
      (has_left (entries_of steps) (step_entries step) k h));
}

-- ---- the entries rise

above_entries : (entries : List Numbered) (j : ℕ) → All (λ (e : Numbered). e.number < j) entries
    → is_above (numbers_of entries) j ≡ true
above_entries [] j h = refl
above_entries (e ∷ []) j h = lt-ltb e.number j (All-head (λ (e : Numbered). e.number < j) e [] h)
above_entries (e ∷ f ∷ entries) j h =
    above_entries (f ∷ entries) j (All-tail (λ (e : Numbered). e.number < j) e (f ∷ entries) h)

-- Each entry is of a lower fault than those that still await their verdict; the entries rise, each of an own fault.
pub record AreInOrder (c : Netlist) (representatives : List ℕ) (settings : Settings) (steps : List Step) : Type 0 where
  pub below : (k : ℕ) → AwaitsVerdict c representatives settings steps k
      → All (λ (e : Numbered). e.number < k + 1) (entries_of steps)
  pub rises : Rises (numbers_of (entries_of steps))
  pub own : All (IsOwnEntry c representatives) (entries_of steps)

after_list : (c : Netlist) (representatives : List ℕ) (settings : Settings) (steps : List Step) (list : Rows)
    → AreInOrder c representatives settings steps → AreInOrder c representatives settings (steps ++ Vectors list ∷ [])
after_list c representatives settings steps list o =
    let same = sym (entries_with_list steps list) in
    record {
      below = λ k a. subst (All (λ (e : Numbered). e.number < k + 1)) same
          (o.below k (awaited_before c representatives settings steps (Vectors list) k a));
      rises = subst (λ (entries : List Numbered). Rises (numbers_of entries)) same o.rises;
      own = subst (All (IsOwnEntry c representatives)) same o.own;
    }

above_by : (i k : ℕ) → (k < i → ⊥) → (i ≡ k → ⊥) → i < k
above_by i k f g = omega (arith, f, g)

is_higher : (c : Netlist) (representatives : List ℕ) (settings : Settings) (steps : List Step) (i k : ℕ)
    (e : recorded.Entry)
    → IsNextFault c representatives settings steps i → AwaitsVerdict c representatives settings (steps ++ Entry i e ∷ []) k
    → i < k
is_higher c representatives settings steps i k e n a =
    above_by i k (λ below. n.least k below (awaited_before c representatives settings steps (Entry i e) k a))
    (λ same. a.without_entry
    (subst (HasEntry (entries_of (steps ++ Entry i e ∷ []))) same (has_last steps i e)))

own_entry : (c : Netlist) (representatives : List ℕ) (i : ℕ) (e : recorded.Entry) → IsOwn c representatives i
    → IsOwnEntry c representatives (numbered i e)
own_entry c representatives i e own =
    let at : i ≡ i + 1 - 1 = omega arith in
    record { counted = omega arith; own = subst (IsOwn c representatives) at own }

rises_more : (entries : List Numbered) (i : ℕ) (e : recorded.Entry) → Rises (numbers_of entries)
    → All (λ (e : Numbered). e.number < i + 1) entries → Rises (numbers_of (entries ++ numbered i e ∷ []))
rises_more entries i e rises below =
    subst Rises (sym (map-append (λ (e : Numbered). e.number) entries (numbered i e ∷ [])))
    (rises_add (numbers_of entries) (i + 1) rises (above_entries entries (i + 1) below))

after_entry : (c : Netlist) (representatives : List ℕ) (settings : Settings) (steps : List Step) (i : ℕ)
    (e : recorded.Entry)
    → IsNextFault c representatives settings steps i → AreInOrder c representatives settings steps
    → AreInOrder c representatives settings (steps ++ Entry i e ∷ [])
after_entry c representatives settings steps i e n o =
    let more = sym (entries_more steps (Entry i e)) in
    let entries = entries_of steps in
    let last = numbered i e in
    record {
      below = λ k a.
          let P : Numbered → Type 0 = λ (e : Numbered). e.number < k + 1 in
          let higher = is_higher c representatives settings steps i k e n a in
          let under : i + 1 < k + 1 = omega (arith, higher) in
          subst (All P) more (All-append P entries (last ∷ [])
          (o.below k (awaited_before c representatives settings steps (Entry i e) k a))
          (All-cons P last [] under (All-nil P)));
      rises = subst (λ (entries : List Numbered). Rises (numbers_of entries)) more
          (rises_more entries i e o.rises (o.below i n.awaits));
      own =
          let P : Numbered → Type 0 = IsOwnEntry c representatives in
          subst (All P) more (All-append P entries (last ∷ []) o.own
          (All-cons P last [] (own_entry c representatives i e n.awaits.own) (All-nil P)));
    }

after_work : (c : Netlist) (representatives : List ℕ) (settings : Settings) (steps : List Step)
    (step : Step) → IsWorkStep c representatives settings steps step → AreInOrder c representatives settings steps
    → AreInOrder c representatives settings (steps ++ step ∷ [])
after_work c representatives settings steps (Vectors list) f o = after_list c representatives settings steps list
    o
after_work c representatives settings steps (Entry fault e) f o =
    after_entry c representatives settings steps fault e
    (subst (IsNextFault c representatives settings steps) (sym f.given.0) f.next) o
after_work c representatives settings steps Finished f o = absurd f.given

after_step : (c : Netlist) (representatives : List ℕ) (settings : Settings) (steps : List Step)
    (step : Step) → Follows c representatives settings steps step → AreInOrder c representatives settings steps
    → AreInOrder c representatives settings (steps ++ step ∷ [])
after_step c representatives settings steps step (inl f) o =
    subst (λ (x : Step). AreInOrder c representatives settings (steps ++ x ∷ [])) (sym f.given)
    (after_list c representatives settings steps
    (one_vector c (get_or (first_vectors c settings) (length steps) [])) o)
after_step c representatives settings steps step (inr f) o =
    after_work c representatives settings steps step f o

-- the entries of steps rise, each of a representative below all faults that still await their verdict
pub steps_in_order : (c : Netlist) (representatives : List ℕ) (settings : Settings)
    (steps : List Step) → AreSteps c representatives settings steps → AreInOrder c representatives settings steps
steps_in_order c representatives settings steps none = record {
  below = λ k a. All-nil _;
  rises = rises_none;
  own = All-nil _;
}
steps_in_order c representatives settings steps (one_more before step are follows) =
    after_step c representatives settings before step follows
    (steps_in_order c representatives settings before are)

-- ---- what each entry is

-- The entry is what the work on its fault gave, after some vectors and with some invariant.
pub record IsMade (c : Netlist) (settings : Settings) (e : Numbered) : Type 0 where
  pub before : List (List Bool)
  pub invariant : Invariant
  pub given : IsWorkBy settings.search c (fault_at c (e.number - 1)) settings before invariant (work.Entry e.entry)

made_more : (c : Netlist) (representatives : List ℕ) (settings : Settings) (steps : List Step) (step : Step)
    → IsWorkStep c representatives settings steps step → All (IsMade c settings) (step_entries step)
made_more c representatives settings steps (Vectors list) w = All-nil _
made_more c representatives settings steps (Entry fault e) w =
    let at : w.fault ≡ fault + 1 - 1 = let same = w.given.0 in omega (arith, same) in
    All-cons (IsMade c settings) (numbered fault e) [] (record {
      before = vectors_of_steps steps;
      invariant = w.invariant;
      given = subst (λ (i : ℕ). IsWorkBy settings.search c (fault_at c i) settings (vectors_of_steps steps) w.invariant
          (work.Entry e)) at w.given.1;
    }) (All-nil _)
made_more c representatives settings steps Finished w = absurd w.given

made_after : (c : Netlist) (representatives : List ℕ) (settings : Settings) (steps : List Step) (step : Step)
    → Follows c representatives settings steps step → All (IsMade c settings) (step_entries step)
made_after c representatives settings steps step (inl f) =
    subst (λ (x : Step). All (IsMade c settings) (step_entries x)) (sym f.given) (All-nil _)
made_after c representatives settings steps step (inr f) = made_more c representatives settings steps step f

-- each entry of steps is what the work on its fault gave, after some vectors and with some invariant
pub steps_made : (c : Netlist) (representatives : List ℕ) (settings : Settings) (steps : List Step)
    → AreSteps c representatives settings steps → All (IsMade c settings) (entries_of steps)
steps_made c representatives settings steps none = All-nil _
steps_made c representatives settings steps (one_more before step are follows) =
    subst (All (IsMade c settings)) (sym (entries_more before step))
    (All-append (IsMade c settings) (entries_of before) (step_entries step)
    (steps_made c representatives settings before are) (made_after c representatives settings before step follows))
