-- The steps of a full search, written and counted.
use Rattle.std.proofs.Common.{◌≡◌, ◌<◌, ◌≤◌, ◌+◌, ◌-◌, ◌*◌, ◌++◌, ◌∙◌, ◌⊎◌, inl, inr, zero, suc, ℕ, List, [], ◌∷◌, Bool, true, false, length, get_or, take, drop, flat_map, length-append, refl, sym, ap, subst, arith, append_assoc, append-nil}
use Rattle.std.specs.Prelude.{Result, Ok, Err, OnOk, Option, Some, None, is_some}
use Rattle.std.specs.List.{All}
use Rattle.std.proofs.lemmas.List.{length-take-le, take-append-drop, take_all, take_more}
use Rattle.std.proofs.Math.Seq.{take-append_seam}
use Rattle.std.proofs.lemmas.List.Concat.{flat_map-append}
use Rattle.std.proofs.lemmas.List.Elements.{All-append, All-nil, All-weaker}
use Rattle.ht_tern.specs.declared.tern.Tern.{Tern}
use Rattle.ht_net.specs.Circuit.Netlist as net
use Rattle.ht_net.specs.Frames.Rows.{Rows}
use Rattle.ht_faults.specs.Classes.{AreClasses}
use Rattle.ht_tree.specs.declared.entry.Entry as recorded
use Rattle.ht_tree.specs.Record.Reached.{AreVectors}
use Rattle.ht_entries.specs.declared.numbered.Numbered.{Numbered}
use Rattle.ht_verdicts.specs.Kept.{entries_from, kept_entries, kept_text}
use Rattle.ht_proofs.specs.ClassGraderView.{ClassGraderStandsFor}
use Rattle.ht_engine.specs.Marks.{AreMarks}
use Rattle.ht_engine.specs.declared.settings.Search.TheVariants.{Deep}
use Rattle.ht_order.specs.declared.rate.TheConstants.{UNIT_OF_WORK}
use Rattle.ht_app.specs.Outputs.{EndsSearch}
use Rattle.ht_verdicts.specs.Standing.{AllDecide, VerdictsView, entry_at}
use Rattle.ht_engine.specs.declared.settings.Settings.{Settings}
use Rattle.ht_engine.specs.declared.step.Step.{Step}
use Rattle.ht_engine.specs.declared.step.Step.TheVariants.{Vectors, Entry}
use Rattle.ht_engine.specs.Steps.{entries_of, first_vectors, step_entries, step_vectors, vectors_of_steps}
use Rattle.ht_files.specs.Searched.{AreFound, BeginWith, IsDeciding, TellAll, entry_steps}
use Rattle.ht_files.specs.StepTexts.{step_text}
use Rattle.ht_files.specs.declared.text_size.TextSize.{TextSize}
use Rattle.ht_files.proofs.KeptLaws.{all_are_kept, IsKeptFrom, steps_have_entries, steps_have_no_vectors, steps_in_parts}
use Rattle.ht_ports.specs.declared.ports.OutPort.TheVariants.{Proofs}
use Rattle.ht_app.proofs.Common.{Act, DeskView, RunError, Sizes, Tries, after_trans, max_text_bytes, put, step_acts}
use Rattle.ht_app.specs.Steps.{StaysWritable}
use Rattle.ht_app.specs.Generating.{Adds, AreSizesOf, AreLists, CountsStep, HaveAll, WritesEntries, WritesLists}
use Rattle.ht_full.specs.Searches.{FullView, IsChunk, IsEnd, IsFullOf}
use Rattle.ht_full.proofs.KnownLaws.{known_further}
use Rattle.ht_inputs.specs.declared.run_error.RunError.TheVariants.{NoMemory}
use Rattle.ht_app.proofs.StepLaws.{counted_step, counts_entry, counts_list, entry_acts}
use Rattle.ht_app.proofs.WritingLaws.{runs_out_first, runs_out_last, tries_none, tries_then}

-- ---- steps that are added

-- no step
pub adds_none : {A : Type 0} {value : A} (sizes : Sizes) (a : DeskView) → Adds [] sizes sizes (Ok value) a a
adds_none sizes a = record {
  tries = tries_none;
  counted = λ settings steps are. subst (λ (l : List Step). AreSizesOf settings l sizes) (sym (append-nil steps)) are;
}

counts_one : {A : Type 0} (step : Step) (sizes later : Sizes) (result : Result A RunError)
    → OnOk result (CountsStep step sizes later)
    → OnOk result ((settings : Settings) (steps : List Step) → AreSizesOf settings steps sizes
    → AreSizesOf settings (steps ++ step ∷ []) later)
counts_one step sizes later (Ok value) counts = λ settings steps are. counted_step are counts
counts_one step sizes later (Err error) counts = tt

-- one step whose text is counted
pub adds_one : {A : Type 0} (step : Step) {sizes later : Sizes} (result : Result A RunError) {a b : DeskView}
    → Tries (step_acts step) result a b → OnOk result (CountsStep step sizes later)
    → Adds (step ∷ []) sizes later result a b
adds_one step result {a = a} {b = b} tries counts = record {
  tries = subst (λ (l : List Act). Tries l result a b) (sym (append-nil (step_acts step))) tries;
  counted = counts_one step _ _ result counts;
}

counts_then : {A : Type 0} (xs ys : List Step) (sizes between later : Sizes) (result : Result A RunError)
    → ((settings : Settings) (steps : List Step) → AreSizesOf settings steps sizes
    → AreSizesOf settings (steps ++ xs) between)
    → OnOk result ((settings : Settings) (steps : List Step) → AreSizesOf settings steps between
    → AreSizesOf settings (steps ++ ys) later)
    → OnOk result ((settings : Settings) (steps : List Step) → AreSizesOf settings steps sizes
    → AreSizesOf settings (steps ++ (xs ++ ys)) later)
counts_then xs ys sizes between later (Ok value) first second = λ settings steps are.
    subst (λ (l : List Step). AreSizesOf settings l later) (append_assoc steps xs ys)
    (second settings (steps ++ xs) (first settings steps are))
counts_then xs ys sizes between later (Err error) first second = tt

-- steps that are added after others are added together with them
pub adds_then : {A B : Type 0} {xs ys : List Step} {value : A} {sizes between later : Sizes}
    (result : Result B RunError) {a m b : DeskView} → Adds xs sizes between (Ok value) a m
    → Adds ys between later result m b → Adds (xs ++ ys) sizes later result a b
adds_then {xs = xs} {ys = ys} result {a = a} {b = b} first second = record {
  tries = subst (λ (l : List Act). Tries l result a b) (sym (flat_map-append step_acts xs ys))
      (tries_then first.tries second.tries);
  counted = counts_then xs ys _ _ _ result first.counted second.counted;
}

-- memory runs out after them
pub adds_no_more : {A : Type 0} (B : Type 0) {steps : List Step} {value : A} {sizes between : Sizes} (later : Sizes)
    {a b : DeskView} → Adds steps sizes between (Ok value) a b → Adds {A = B} steps sizes later (Err NoMemory) a b
adds_no_more B later adds = record { tries = runs_out_last B adds.tries; counted = tt }

-- what may be written stays so in two steps
pub stays_twice : {a b c : DeskView} → StaysWritable a b → StaysWritable b c → StaysWritable a c
stays_twice x y = record {
  after = after_trans x.after y.after;
  is_created = λ port is. y.is_created port (x.is_created port is);
}

-- ---- lists

no_entries_more : (xs ys : List Step) → entries_of xs ≡ [] → entries_of ys ≡ [] → entries_of (xs ++ ys) ≡ []
no_entries_more xs ys first second = flat_map-append step_entries xs ys
    ∙ ap (λ (l : List Numbered). l ++ entries_of ys) first ∙ second

-- no lists yet
pub no_lists : (given : List (List Bool)) → AreLists given []
no_lists given = record { none = refl; vectors = inl refl }

-- the vectors with one list more
vectors_more : (steps : List Step) (list : Rows)
    → vectors_of_steps (steps ++ Vectors list ∷ []) ≡ vectors_of_steps steps ++ list.list
vectors_more steps list = flat_map-append step_vectors steps (Vectors list ∷ [])
    ∙ ap (λ (l : List (List Bool)). vectors_of_steps steps ++ l) (append-nil list.list)

-- nothing is written yet
pub lists_at_first : (c : net.Netlist) (given : List (List Bool)) {all : List (List Bool)} (sizes : Sizes)
    (a : DeskView) → all ≡ [] → WritesLists {A = Unit {0}} c given all sizes sizes (Ok tt) a a
lists_at_first c given sizes a none = record {
  steps = [];
  are = no_lists given;
  adds = adds_none sizes a;
  whole = record {
    same = sym none;
    wide = subst (AreVectors c) (sym none) (All-nil (λ (v : List Bool). length v ≡ c.inputs));
  };
}

-- what was written is all of another list that is the same
pub lists_of : {A : Type 0} (c : net.Netlist) (given : List (List Bool)) {all same : List (List Bool)}
    {sizes later : Sizes} {result : Result A RunError} {a b : DeskView} → all ≡ same
    → WritesLists c given all sizes later result a b → WritesLists c given same sizes later result a b
lists_of c given {sizes = sizes} {later = later} {result = result} {a = a} {b = b} is writes =
    subst (λ (l : List (List Bool)). WritesLists c given l sizes later result a b) is writes

module _ (c : net.Netlist) (given : List (List Bool)) (list : Rows) (n : ℕ)
    (begins : (more : List (List Bool)) × (list.list ≡ given ++ more)) where
  abbrev rest : Step
  rest = Vectors (record list { list = drop n list.list })

  whole_list : take n list.list ++ drop n list.list ≡ list.list
  whole_list = take-append-drop n list.list

  all_with_rest : (steps : List Step) → HaveAll c steps (take n list.list)
      → vectors_of_steps (steps ++ rest ∷ []) ≡ list.list
  all_with_rest steps first = vectors_more steps (record list { list = drop n list.list })
      ∙ ap (λ (l : List (List Bool)). l ++ drop n list.list) first.same ∙ whole_list

  lists_with_rest : (steps : List Step) → HaveAll c steps (take n list.list) → AreLists given steps
      → AreLists given (steps ++ rest ∷ [])
  lists_with_rest steps first are = record {
    none = no_entries_more steps (rest ∷ []) are.none refl;
    vectors = inr (begins.0, all_with_rest steps first ∙ begins.1);
  }

  have_all : {A : Type 0} (result : Result A RunError) (steps : List Step) → HaveAll c steps (take n list.list)
      → list.width ≡ c.inputs → OnOk result (All (λ (v : List Bool). length v ≡ list.width) (drop n list.list))
      → OnOk result (HaveAll c (steps ++ rest ∷ []) list.list)
  have_all (Ok value) steps first width wide = record {
    same = all_with_rest steps first;
    wide = subst (AreVectors c) whole_list
        (All-append (λ (v : List Bool). length v ≡ c.inputs) (take n list.list) (drop n list.list) first.wide
        (subst (λ (w : ℕ). All (λ (v : List Bool). length v ≡ w) (drop n list.list)) width wide));
  }
  have_all (Err error) steps first width wide = tt

  -- the rest of a list is tried to be written after its first vectors
  pub rest_is_put : {A : Type 0} {sizes between : Sizes} (later : Sizes) (result : Result A RunError)
      {a m b : DeskView} → WritesLists {A = Unit {0}} c given (take n list.list) sizes between (Ok tt) a m
      → list.width ≡ c.inputs → Tries (step_acts rest) result m b → OnOk result (CountsStep rest between later)
      → OnOk result (All (λ (v : List Bool). length v ≡ list.width) (drop n list.list))
      → WritesLists c given list.list sizes later result a b
  rest_is_put later result first width tries counts wide = record {
    steps = first.steps ++ rest ∷ [];
    are = lists_with_rest first.steps first.whole first.are;
    adds = adds_then result first.adds (adds_one rest result tries counts);
    whole = have_all result first.steps first.whole width wide;
  }

-- memory runs out after lists
pub lists_no_more : {B : Type 0} (c : net.Netlist) (given : List (List Bool)) {all other : List (List Bool)}
    {sizes between : Sizes} (later : Sizes) {a b : DeskView}
    → WritesLists {A = Unit {0}} c given all sizes between (Ok tt) a b
    → WritesLists {A = B} c given other sizes later (Err NoMemory) a b
lists_no_more {B} c given later first = record {
  steps = first.steps;
  are = first.are;
  adds = adds_no_more B later first.adds;
  whole = tt;
}

-- lists that were tried to be written by one call were so by the one that made it
pub lists_by : {A B : Type 0} (c : net.Netlist) (given : List (List Bool)) {all other : List (List Bool)}
    {sizes later last : Sizes} (e : RunError) {a b : DeskView}
    → WritesLists {A = A} c given all sizes later (Err e) a b
    → WritesLists {A = B} c given other sizes last (Err e) a b
lists_by c given e writes = record {
  steps = writes.steps;
  are = writes.are;
  adds = record { tries = record { ends = writes.adds.tries.ends }; counted = tt };
  whole = tt;
}

-- ---- the search goes on

-- after a chunk a search is of the same, and within the same work
pub full_after_chunk : (c : net.Netlist) (representatives : List ℕ) (start : List Tern) (given : List (List Bool))
    (chosen : List Bool) (work : ℕ) (a b : FullView) → IsFullOf c representatives start given chosen work a
    → IsChunk a b
    → IsFullOf c representatives start given chosen work b
full_after_chunk c representatives start given chosen work a b is chunk =
    let left = chunk.is.left in
    let within = is.within in
    record {
      known = known_further c representatives start given a.known b.known is.known chunk.is.known;
      choice = chunk.is.known.chosen ∙ is.choice;
      within = omega (arith, left, within);
    }

-- the vectors before a chunk are the first ones after it
pub first_after_chunk : (a b : FullView) → IsChunk a b
    → a.known.vectors.list ≡ take (length a.known.vectors.list) b.known.vectors.list
first_after_chunk a b chunk =
    sym (ap (take (length a.known.vectors.list)) chunk.is.known.added
    ∙ take-append_seam a.known.vectors.list chunk.is.known.more)

-- so many vectors are there after a chunk
pub more_after_chunk : (a b : FullView) → IsChunk a b
    → length a.known.vectors.list ≤ length b.known.vectors.list
more_after_chunk a b chunk =
    let long = ap length chunk.is.known.added in
    let parts = length-append a.known.vectors.list chunk.is.known.more in
    omega (arith, long, parts)

-- ---- entries

get_taken : (n : ℕ) (kept : List (Option recorded.Entry)) (i : ℕ) (made : recorded.Entry)
    → get_or (take n kept) i None ≡ Some made → get_or kept i None ≡ Some made
get_taken zero kept i made is = let none : None ≡ Some made = is in absurd (cc)
get_taken (suc n) [] i made is = let none : None ≡ Some made = is in absurd (cc)
get_taken (suc n) (x ∷ more) zero made is = is
get_taken (suc n) (x ∷ more) (suc i) made is = get_taken n more i made is

-- each entry of the first faults decides its fault
pub entries_deciding : (v : VerdictsView) → AllDecide v → (n : ℕ)
    → All (IsDeciding v.circuit v.representatives v.start) (entries_of (entry_steps 0 (take n v.entries)))
entries_deciding v decide n =
    subst (All (IsDeciding v.circuit v.representatives v.start)) (sym (steps_have_entries 0 (take n v.entries)))
    (All-weaker (IsKeptFrom 0 (take n v.entries)) (IsDeciding v.circuit v.representatives v.start) deciding
    (entries_from 0 (take n v.entries)) (all_are_kept 0 (take n v.entries)))
  where
    deciding : (e : Numbered) → IsKeptFrom 0 (take n v.entries) e
        → IsDeciding v.circuit v.representatives v.start e
    deciding e is =
        let counts = is.number in
        let at : is.index ≡ e.number - 1 = omega (arith, counts) in
        record {
          counted = omega (arith, counts);
          decides = decide (e.number - 1) e.entry
              (subst (λ (i : ℕ). get_or v.entries i None ≡ Some e.entry) at
              (get_taken n v.entries is.index e.entry is.there));
        }

-- a fault without an entry adds no step
pub no_entry_added : (k : ℕ) (entry : Option recorded.Entry) → is_some entry ≡ false → (sizes : Sizes) (a : DeskView)
    → Adds {A = Unit {0}} (entry_steps k (entry ∷ [])) sizes sizes (Ok tt) a a
no_entry_added k None none sizes a = adds_none sizes a
no_entry_added k (Some made) none sizes a = let other : true ≡ false = none in absurd (cc)

entry_counts : {A : Type 0} (k : ℕ) (made : recorded.Entry) (text : List ℕ) (old : Sizes) (new : TextSize)
    (result : Result A RunError) → text ≡ step_text (Entry k made)
    → OnOk result (new.bytes ≡ old.proofs.bytes + length text)
    → OnOk result (CountsStep (Entry k made) old (record old { proofs = new }))
entry_counts k made text old new (Ok value) is counts = counts_entry old new refl is counts
entry_counts k made text old new (Err error) is counts = tt

-- the entry of a fault is added, whose text is counted
pub entry_added : {A : Type 0} (k : ℕ) (entry : Option recorded.Entry) (text : List ℕ) (old : Sizes) (new : TextSize)
    (result : Result A RunError) {a b : DeskView} → is_some entry ≡ true → text ≡ kept_text k entry
    → Tries (put Proofs text ∷ []) result a b → OnOk result (new.bytes ≡ old.proofs.bytes + length text)
    → Adds (entry_steps k (entry ∷ [])) old (record old { proofs = new }) result a b
entry_added k None text old new result some is tries counts = let other : false ≡ true = some in absurd (cc)
entry_added k (Some made) text old new result {a = a} {b = b} some is tries counts =
    adds_one (Entry k made) result
    (subst (λ (l : List Act). Tries l result a b) (entry_acts {step = Entry k made} refl is) tries)
    (entry_counts k made text old new result is counts)

-- memory runs out before steps
pub adds_unmade : {A : Type 0} (steps : List Step) (sizes later : Sizes) (a : DeskView)
    → Adds {A = A} steps sizes later (Err NoMemory) a a
adds_unmade {A} steps sizes later a =
    record { tries = runs_out_first A (flat_map step_acts steps) a; counted = tt }

-- the entries of the first faults and that of the next one
pub one_entry_more : (kept : List (Option recorded.Entry)) (i : ℕ) → i < length kept
    → entry_steps 0 (take i kept) ++ entry_steps i (get_or kept i None ∷ []) ≡ entry_steps 0 (take (i + 1) kept)
one_entry_more kept i inside =
    let long : length (take i kept) ≡ i = length-take-le i kept (omega (arith, inside)) in
    let at : 0 + length (take i kept) ≡ i = omega (arith, long) in
    sym (ap (entry_steps 0) (take_more kept i None inside)
    ∙ steps_in_parts 0 (take i kept) (get_or kept i None ∷ [])
    ∙ ap (λ (n : ℕ). entry_steps 0 (take i kept) ++ entry_steps n (get_or kept i None ∷ [])) at)

-- the text of a list is counted among the tests
pub list_counts : {A : Type 0} (list : Rows) (text : List ℕ) (old : Sizes) (new : TextSize) (result : Result A RunError)
    → text ≡ step_text (Vectors list) → OnOk result (new.bytes ≡ old.tests.bytes + length text)
    → OnOk result (new.bytes ≤ max_text_bytes)
    → OnOk result (CountsStep (Vectors list) old (record old { tests = new }))
list_counts list text old new (Ok value) is counts short = counts_list old new refl is counts short
list_counts list text old new (Err error) is counts short = tt

-- ---- lists and then entries

-- lists are steps of a full search
pub lists_are_found : {c : net.Netlist} {settings : Settings} {representatives : List ℕ} {steps : List Step}
    → AreClasses c representatives → AreLists (first_vectors c settings) steps → AreFound c settings steps
lists_are_found {c = c} {settings = settings} {representatives = representatives} classes are = record {
  representatives = representatives;
  classes = classes;
  vectors = are.vectors;
  entries = subst (All (IsDeciding c representatives settings.start)) (sym are.none)
      (All-nil (IsDeciding c representatives settings.start));
}

-- the vectors are those of the lists, where nothing but entries comes after them
pub all_vectors : (steps entries : List Step) → vectors_of_steps entries ≡ []
    → vectors_of_steps (steps ++ entries) ≡ vectors_of_steps steps
all_vectors steps entries none = flat_map-append step_vectors steps entries
    ∙ ap (λ (l : List (List Bool)). vectors_of_steps steps ++ l) none ∙ append-nil (vectors_of_steps steps)

-- the entries are those that come after the lists
pub all_entries : (steps entries : List Step) → entries_of steps ≡ []
    → entries_of (steps ++ entries) ≡ entries_of entries
all_entries steps entries none = flat_map-append step_entries steps entries
    ∙ ap (λ (l : List Numbered). l ++ entries_of entries) none

-- lists and then the entries of the first faults are steps of a full search
pub entries_are_found : {c : net.Netlist} {settings : Settings} {representatives : List ℕ} {steps : List Step}
    (v : VerdictsView) (n : ℕ) → AreClasses c representatives → v.circuit ≡ c → v.representatives ≡ representatives
    → v.start ≡ settings.start → AllDecide v → AreLists (first_vectors c settings) steps
    → AreFound c settings (steps ++ entry_steps 0 (take n v.entries))
entries_are_found {c = c} {settings = settings} {representatives = representatives} {steps = steps} v n classes
    circuit same start decide are =
    let entries = entry_steps 0 (take n v.entries) in
    record {
      representatives = representatives;
      classes = classes;
      vectors = subst (BeginWith (first_vectors c settings))
          (sym (all_vectors steps entries (steps_have_no_vectors 0 (take n v.entries)))) are.vectors;
      entries = subst (All (IsDeciding c representatives settings.start)) (sym (all_entries steps entries are.none))
          (subst (λ (d : net.Netlist). All (IsDeciding d representatives settings.start) (entries_of entries)) circuit
          (subst (λ (r : List ℕ). All (IsDeciding v.circuit r settings.start) (entries_of entries)) same
          (subst (λ (s : List Tern). All (IsDeciding v.circuit v.representatives s) (entries_of entries)) start
          (entries_deciding v decide n))));
    }

-- ---- the search's vectors

-- the rest of a search's vectors is tried to be written after its first ones
pub chunk_is_put : {A : Type 0} (c : net.Netlist) (representatives : List ℕ) (start : List Tern)
    (given : List (List Bool)) (chosen : List Bool) (work : ℕ) (s : FullView) (n : ℕ) (list : Rows)
    → IsFullOf c representatives start given chosen work s → list ≡ s.known.vectors
    → list.width ≡ s.known.verdicts.circuit.inputs → {sizes between : Sizes} (later : Sizes)
    (result : Result A RunError) {a m b : DeskView}
    → WritesLists {A = Unit {0}} c given (take n s.known.vectors.list) sizes between (Ok tt) a m
    → Tries (step_acts (Vectors (record list { list = drop n list.list }))) result m b
    → OnOk result (CountsStep (Vectors (record list { list = drop n list.list })) between later)
    → OnOk result (All (λ (v : List Bool). length v ≡ list.width) (drop n list.list))
    → WritesLists c given s.known.vectors.list sizes later result a b
chunk_is_put c representatives start given chosen work s n list full same width later result first tries counts wide =
    let begins : (more : List (List Bool)) × (list.list ≡ given ++ more) =
    (full.known.more, ap (λ (r : Rows). r.list) same ∙ full.known.added) in
    lists_of c given (ap (λ (r : Rows). r.list) same)
    (rest_is_put c given list n begins later result
    (lists_of c given (ap (λ (r : Rows). take n r.list) (sym same)) first)
    (width ∙ ap (λ (d : net.Netlist). d.inputs) full.known.circuit) tries counts wide)

-- ---- the end of a search

module _ (c : net.Netlist) (settings : Settings) (representatives : List ℕ) (marks : List Bool) (work : ℕ)
    (s : FullView) (v : VerdictsView) (kept : v ≡ s.known.verdicts)
    (full : IsFullOf c representatives settings.start (first_vectors c settings) marks work s)
    (classes : AreClasses c representatives) (decide : AllDecide v) (lists : List Step)
    (are : AreLists (first_vectors c settings) lists) where
  circuit_is : v.circuit ≡ c
  circuit_is = ap (λ (w : VerdictsView). w.circuit) kept ∙ full.known.circuit

  classes_are : v.representatives ≡ representatives
  classes_are = ap (λ (w : VerdictsView). w.representatives) kept ∙ full.known.classes

  start_is : v.start ≡ settings.start
  start_is = ap (λ (w : VerdictsView). w.start) kept ∙ full.known.start_is

  -- lists and then the entries of the first faults are steps of the search
  pub found_by_search : (n : ℕ) → AreFound c settings (lists ++ entry_steps 0 (take n v.entries))
  found_by_search n = entries_are_found v n classes circuit_is classes_are start_is decide are

  module _ (whole : HaveAll c lists s.known.vectors.list) (n : ℕ) (all : length v.entries ≤ n) where
    abbrev entries : List Step
    entries = entry_steps 0 (take n v.entries)

    pub vectors_are : vectors_of_steps (lists ++ entries) ≡ s.known.vectors.list
    vectors_are = all_vectors lists entries (steps_have_no_vectors 0 (take n v.entries)) ∙ whole.same

    pub entries_are : entries_of (lists ++ entries) ≡ kept_entries v
    entries_are = all_entries lists entries are.none ∙ steps_have_entries 0 (take n v.entries)
        ∙ ap (entries_from 0) (take_all n v.entries all)

    -- they tell all that its verdicts keep
    pub told_by_search : settings.search ≡ Deep → TellAll v settings (lists ++ entries)
    told_by_search deep = record {
      start = start_is;
      search = deep;
      found = subst (λ (d : net.Netlist). AreFound d settings (lists ++ entries)) (sym circuit_is) (found_by_search n);
      wide = subst (λ (d : net.Netlist). AreVectors d (vectors_of_steps (lists ++ entries))) (sym circuit_is)
          (subst (AreVectors c) (sym vectors_are) whole.wide);
      graded = subst (λ (l : List (List Bool)). ClassGraderStandsFor v.grader v.start l) (sym vectors_are)
          (subst (λ (w : VerdictsView). ClassGraderStandsFor w.grader w.start s.known.vectors.list) (sym kept)
          full.known.stands);
      entries = entries_are;
    }

-- and it ended with them
pub ends_search : (c : net.Netlist) (settings : Settings) (representatives : List ℕ) (marks : List Bool) (work : ℕ)
    (s : FullView) (steps : List Step) → AreClasses c representatives → AreMarks representatives settings marks
    → IsFullOf c representatives settings.start (first_vectors c settings) marks (work * UNIT_OF_WORK) s → IsEnd s
    → vectors_of_steps steps ≡ s.known.vectors.list → entries_of steps ≡ kept_entries s.known.verdicts
    → EndsSearch c settings work steps
ends_search c settings representatives marks work s steps classes marked full end vectors entries = record {
  representatives = representatives;
  classes = classes;
  marks = marks;
  marked = marked;
  at = s;
  is = full;
  vectors = vectors;
  entries = entries;
  at_end = end;
}
