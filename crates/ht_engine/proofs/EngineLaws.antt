-- An engine that makes one step stands for the steps with it.
use Rattle.std.specs.Prelude.{◌≡◌, ◌≢◌, ◌↔◌, ◌<◌, ◌≤◌, ◌+◌, ◌-◌, ℕ, List, [], ◌∷◌, ◌++◌, Bool, true, false, not, drop, length, get_or, refl, Option, Some, None}
use Rattle.std.specs.List.{All}
use Rattle.std.specs.Option.{is_some}
use Rattle.std.proofs.Common.{arith, ap, eq-eqb, inl, inr, length-append, set, sym, ◌∙◌, subst}
use Rattle.std.proofs.lemmas.Bool.{false≢true, true≢false}
use Rattle.std.proofs.lemmas.Bool.Decides.{eqb_tells}
use Rattle.std.proofs.lemmas.List.{drop_all, drop_more, get_or-set_other, get_or-set_same, get_or_default, length-drop}
use Rattle.std.proofs.lemmas.List.Elements.{All-append, All-cons, All-nil, Contains-append_left}
use Rattle.ht_tern.specs.declared.tern.Tern.{Tern}
use Rattle.ht_net.specs.declared.fault.Fault.{Fault}
use Rattle.ht_net.specs.declared.place.Place.{Place}
use Rattle.ht_net.specs.Detect.Detection.{Allows, IsFirstFrom, IsStart, state_from}
use Rattle.ht_net.specs.Circuit.Netlist.{Netlist}
use Rattle.ht_net.specs.Frames.Rows.{Rows}
use Rattle.ht_net.proofs.FrameLaws.{le_or_lt}
use Rattle.ht_net.proofs.MoreToldLaws.{state_is_start}
use Rattle.ht_net.proofs.SilenceLaws.{some_allowed}
use Rattle.ht_faults.specs.FaultList.{no_fault}
use Rattle.ht_faults.specs.Classes.{fault_at, is_representative}
use Rattle.ht_faults.specs.Sites.{faults_of}
use Rattle.ht_proofs.specs.ClassGraderView.{ClassGraderStandsFor, ClassGraderView}
use Rattle.ht_proofs.specs.Detections.{place_at}
use Rattle.ht_tree.specs.declared.entry.Entry as recorded
use Rattle.ht_tree.specs.declared.entry.Entry.TheVariants as entries
use Rattle.ht_tree.specs.declared.kind.EntryKind.{EntryKind}
use Rattle.ht_tree.specs.declared.kind.EntryKind.TheVariants as kind
use Rattle.ht_tree.specs.Record.Entries.{AllowsEntry, kind_of}
use Rattle.ht_tree.specs.Record.Reached.{AreVectors}
use Rattle.ht_tree.specs.Window.Windows as window
use Rattle.ht_invariant.specs.declared.finding.Invariant.{Invariant}
use Rattle.ht_entries.specs.declared.numbered.Numbered.{Numbered}
use Rattle.ht_valid.specs.ValidFiles.{HasEntry, IsOwn}
use Rattle.ht_engine.specs.declared.settings.Search.{Search}
use Rattle.ht_engine.specs.declared.settings.Search.TheVariants.{Plain, Deep}
use Rattle.ht_engine.specs.declared.settings.Settings.{Settings}
use Rattle.ht_engine.specs.declared.step.Step.{Step}
use Rattle.ht_engine.specs.declared.step.Step.TheVariants.{Vectors, Entry, Finished}
use Rattle.ht_engine.specs.EngineOf.{IsEngine}
use Rattle.ht_engine.specs.declared.work.Work.{Work}
use Rattle.ht_engine.specs.declared.work.Work.TheVariants as work
use Rattle.ht_engine.specs.DeepWork.{DeepWorkHolds, DetectsAfter, IsDeepWork, IsWorkBy, states_reached}
use Rattle.ht_engine.specs.Enough.{IsEnough}
use Rattle.ht_engine.specs.FaultWork.{IsNamedInvariant, IsWork, WorkHolds}
use Rattle.ht_engine.specs.EngineStands.{AllHold, AreEnough, EngineStandsFor, EntryHolds, EngineView, Grades, HasGraded, HasSameWork, IsKindIn, IsSaid, IsUndetectedWith, Makes, MakesStep, MeansOfStep, all_first, kind_at, remaining}
use Rattle.ht_engine.specs.OneStep.{Advances, Ends, GivesEntry, GivesFirst, GivesList, IsNextUndetected, IsUndetected, IsWorkOn, said_by}
use Rattle.ht_engine.specs.Steps.{AwaitsVerdict, Follows, IsChosen, IsNextFault, entries_of, one_more, one_vector, vectors_of_steps}
use Rattle.ht_engine.proofs.DeepLaws.{deep_after, plain_after}
use Rattle.ht_engine.proofs.StepLaws.{awaited_before, contains_last, entries_more, entries_with_list, has_cases, has_last, numbered, vectors_more, vectors_with_entry}

-- ---- what is undetected

-- a representative that is to be worked on is undetected exactly where no place is kept for it
pub undetected_tells : (e : EngineView) (i : ℕ) (place : Option Place) (nowhere : Bool)
    → IsOwn e.circuit e.representatives i → IsChosen e.representatives e.settings i
    → place ≡ place_at e.grader.places i
    → is_some place ≡ not nowhere → (nowhere ≡ true) ↔ IsUndetected e i
undetected_tells e i None true own chosen here is =
    (λ h. record { own = own; chosen = chosen; undetected = sym here }, λ u. refl)
undetected_tells e i None false own chosen here is = absurd (false≢true is)
undetected_tells e i (Some p) true own chosen here is = absurd (true≢false is)
undetected_tells e i (Some p) false own chosen here is =
    (λ h. absurd (false≢true h), λ u. let bad : Some p ≡ None = here ∙ u.undetected in cc)

-- the place that is kept is the first detection of the vectors that are graded
pub first_graded : (e : EngineView) (list : List (List Bool)) → HasGraded e list → (i : ℕ)
    → IsOwn e.circuit e.representatives i
    → IsFirstFrom e.circuit (fault_at e.circuit i) e.settings.start list (place_at e.grader.places i)
first_graded e list graded i own =
    let represents : is_representative e.grader.representatives i ≡ true =
    ap (λ (l : List ℕ). is_representative l i) graded.representatives_same ∙ own.own in
    subst (λ (c : Netlist). IsFirstFrom c (fault_at c i) e.settings.start list (place_at e.grader.places i))
    graded.circuit
    (graded.stands.first.first i
    (subst (λ (c : Netlist). i < length (faults_of c)) (sym graded.circuit) own.listed) represents)

-- what no vectors detect has no place
none_kept : (c : Netlist) (fault : Fault) (start : List Tern) (list : List (List Bool)) (place : Option Place)
    → IsFirstFrom c fault start list None → IsFirstFrom c fault start list place → place ≡ None
none_kept c fault start list None undetected first = refl
none_kept c fault start list (Some p) undetected first = absurd (undetected p.vector p.output first.0)

-- ---- the next fault

module _ (e : EngineView) (steps : List Step) (s : EngineStandsFor e steps) where
  awaits_of : (i : ℕ) → e.first_awaiting ≤ i → IsUndetected e i
      → AwaitsVerdict e.circuit e.representatives e.settings steps i
  awaits_of i from u = record {
    own = u.own;
    chosen = u.chosen;
    undetected =
        subst (IsFirstFrom e.circuit (fault_at e.circuit i) e.settings.start (vectors_of_steps steps)) u.undetected
        (first_graded e (vectors_of_steps steps) s.graded i u.own);
    without_entry = λ h. let below = s.entered i h in absurd (omega (arith, below, from));
  }

  undetected_of : (i : ℕ) → AwaitsVerdict e.circuit e.representatives e.settings steps i → IsUndetected e i
  undetected_of i a = record {
    own = a.own;
    chosen = a.chosen;
    undetected = none_kept e.circuit (fault_at e.circuit i) e.settings.start (vectors_of_steps steps)
        (place_at e.grader.places i) a.undetected (first_graded e (vectors_of_steps steps) s.graded i a.own);
  }

  -- the next undetected fault of an engine is the next that awaits its verdict after its steps
  pub is_next : (i : ℕ) → IsNextUndetected e i → IsNextFault e.circuit e.representatives e.settings steps i
  is_next i n = record {
    awaits = awaits_of i n.from n.undetected;
    least = λ k below a. elim (le_or_lt e.first_awaiting k) [
      | inl from ↦ n.least k from below (undetected_of k a)
      | inr under ↦ s.done k under a
    ];
  }

  -- if no undetected fault is left from where the engine is on, no fault awaits its verdict
  pub none_awaits : ((k : ℕ) → e.first_awaiting ≤ k → ¬ IsUndetected e k)
      → (k : ℕ) → ¬ AwaitsVerdict e.circuit e.representatives e.settings steps k
  none_awaits last k a = elim (le_or_lt e.first_awaiting k) [
    | inl from ↦ last k from (undetected_of k a)
    | inr under ↦ s.done k under a
  ]

  -- where none is left all first vectors are given, and none is left after one step more
  pub all_given : e.rest ≡ [] → length (all_first e) ≤ length steps
  all_given none =
      let cut = length-drop (length steps) (all_first e) in
      let empty = ap (λ (l : List (List Bool)). length l) (sym s.rest ∙ none) in
      omega (arith, cut, empty)

  -- if no first vector is left, none is left after one step more
  pub none_more : (step : Step) → e.rest ≡ [] → e.rest ≡ drop (length (steps ++ step ∷ [])) (all_first e)
  none_more step none =
      let more = length-append steps (step ∷ []) in
      let given = all_given none in
      none ∙ sym (drop_all (length (steps ++ step ∷ [])) (all_first e) (omega (arith, more, given)))

-- what a grader of an engine has graded with some vectors more
pub adds_graded : (e now : EngineView) → e ≡ now → (grader : ClassGraderView)
    → (grader.machines.circuit ≡ e.grader.machines.circuit) × (grader.representatives ≡ e.grader.representatives)
    → (more : List (List Bool))
    → ((start : List Tern) (before : List (List Bool)) → ClassGraderStandsFor e.grader start before
    → ClassGraderStandsFor grader start (before ++ more))
    → (before : List (List Bool)) → HasGraded now before
    → Grades e.circuit e.representatives e.settings.start (before ++ more) grader
adds_graded e now at grader same more added before graded =
    let here : HasGraded e before = subst (λ (v : EngineView). HasGraded v before) (sym at) graded in
    record {
      circuit = same.0 ∙ here.circuit;
      representatives_same = same.1 ∙ here.representatives_same;
      stands = added e.settings.start before here.stands;
    }

-- what is graded with one list more
graded_more : (e new : EngineView) (steps : List Step) → EngineStandsFor e steps → (list : Rows)
    → ((before : List (List Bool)) → HasGraded e before → HasGraded new (before ++ list.list)) → (after : EngineView)
    → new ≡ after → HasGraded after (vectors_of_steps (steps ++ Vectors list ∷ []))
graded_more e new steps s list graded after is =
    subst (HasGraded after) (sym (vectors_more steps (Vectors list)))
    (subst (λ (v : EngineView). HasGraded v (vectors_of_steps steps ++ list.list)) is
    (graded (vectors_of_steps steps) s.graded))

-- what an engine stands for with one list more, where only what it has graded, its place and the first vectors that are
-- left are new
module _ (e new : EngineView) (steps : List Step) (s : EngineStandsFor e steps) (list : Rows)
    (graded : (before : List (List Bool)) → HasGraded e before → HasGraded new (before ++ list.list)) where
  abbrev longer : List Step
  longer = steps ++ Vectors list ∷ []

  stands_longer : (place : ℕ) (rest : List (List Bool))
      → new ≡ record e { grader = new.grader; first_awaiting = place; rest = rest }
      → Follows e.circuit e.representatives e.settings steps (Vectors list)
      → rest ≡ drop (length longer) (all_first e) → e.first_awaiting ≤ place
      → ((k : ℕ) → k < place → ¬ AwaitsVerdict e.circuit e.representatives e.settings longer k)
      → AreVectors e.circuit list.list → EngineStandsFor new longer
  stands_longer place rest after follows left from done wide =
      let same = sym (entries_with_list steps list) in
      let at : EngineView = record e { grader = new.grader; first_awaiting = place; rest = rest } in
      subst (λ (v : EngineView). EngineStandsFor v longer) (sym after)
      (record {
        latches = s.latches;
        are = one_more steps (Vectors list) s.are follows;
        rest = left;
        graded = graded_more e new steps s list graded at after;
        kinds = λ i l. subst (λ (entries : List Numbered). IsKindIn entries i (kind_at e i)) same (s.kinds i l);
        done = done;
        entered = λ k h.
            let below = s.entered k (subst (λ (entries : List Numbered). HasEntry entries k) (sym same) h) in
            omega (arith, below, from);
        wide = subst (AreVectors e.circuit) (sym (vectors_more steps (Vectors list)))
            (All-append (λ (v : List Bool). length v ≡ e.circuit.inputs) (vectors_of_steps steps) list.list s.wide
            wide);
        pass = subst (AllHold e.circuit e.settings) same s.pass;
        found = s.found;
        holds = s.holds;
        enough = subst (AreEnough e.circuit e.settings.budget e.named_invariant.clauses) same s.enough;
      })

-- ---- one of the first vectors

module _ (e new : EngineView) (steps : List Step) (s : EngineStandsFor e steps) (list : Rows)
    (g : GivesFirst e new list) where
  some_left : length steps < length (all_first e)
  some_left =
      let cut = length-drop (length steps) (all_first e) in
      let some = ap (λ (l : List (List Bool)). length l) (sym s.rest ∙ g.left) in
      omega (arith, cut, some)

  -- the steps so far are the first vectors so far
  left_is : get_or (all_first e) (length steps) [] ∷ drop (length steps + 1) (all_first e) ≡ g.vector ∷ g.rest
  left_is = sym (drop_more (all_first e) (length steps) [] some_left) ∙ (sym s.rest ∙ g.left)

  vector_is : get_or (all_first e) (length steps) [] ≡ g.vector
  vector_is = ap (λ (l : List (List Bool)). get_or l 0 []) left_is

  rest_is : drop (length steps + 1) (all_first e) ≡ g.rest
  rest_is = ap (λ (l : List (List Bool)). drop 1 l) left_is

  first_follows : Follows e.circuit e.representatives e.settings steps (Vectors list)
  first_follows = inl (record {
    left = some_left;
    given = ap Vectors (g.given ∙ ap (one_vector e.circuit) (sym vector_is));
  })

  list_wide : AreVectors e.circuit list.list
  list_wide =
      let P : List Bool → Type 0 = λ (v : List Bool). length v ≡ e.circuit.inputs in
      subst (λ (r : Rows). AreVectors e.circuit r.list) (sym g.given) (All-cons P g.vector [] g.wide (All-nil P))

  -- an engine that gives one of the first vectors may make that step next, and stands for the steps with it
  pub first_made : MakesStep e new steps (Vectors list)
  first_made =
      let long = length-append steps (Vectors list ∷ []) in
      let more : length steps + 1 ≡ length (steps ++ Vectors list ∷ []) = omega (arith, long) in
      record {
        follows = first_follows;
        stands = stands_longer e new steps s list g.graded e.first_awaiting g.rest g.after first_follows
            (sym rest_is ∙ ap (λ (k : ℕ). drop k (all_first e)) more) (omega arith)
            (λ k l a. s.done k l
            (awaited_before e.circuit e.representatives e.settings steps (Vectors list) k a)) list_wide;
      }

  -- nothing is asked of a list that gives one of the first vectors
  pub first_means : MeansOfStep e steps (Vectors list)
  first_means = λ all. let some = some_left in absurd (omega (arith, all, some))

-- ---- a list

module _ (e new : EngineView) (steps : List Step) (s : EngineStandsFor e steps) (list : Rows)
    (g : GivesList e new list) where
  abbrev with_list : List Step
  with_list = steps ++ Vectors list ∷ []

  list_follows : Follows e.circuit e.representatives e.settings steps (Vectors list)
  list_follows = inr (record {
    after = all_given e steps s g.none_left;
    fault = g.fault;
    next = is_next e steps s g.fault g.next;
    invariant = e.named_invariant;
    found = s.found;
    given = (g.work.after (vectors_of_steps steps) s.graded).given;
  })

  -- the list detects the fault after the vectors of the steps
  holds : DetectsAfter e.circuit (fault_at e.circuit g.fault) e.settings.start (vectors_of_steps steps) list
  holds = (g.work.after (vectors_of_steps steps) s.graded).holds

  -- a list that is given for the next fault is useful: with it the vectors detect that fault from the start
  pub list_useful : MeansOfStep e steps (Vectors list)
  list_useful = λ all. record {
    fault = g.fault;
    awaited = (is_next e steps s g.fault g.next).awaits;
    vector = holds.vector;
    output = holds.output;
    detects = holds.detects;
  }

  detected_now : ¬ AwaitsVerdict e.circuit e.representatives e.settings with_list g.fault
  detected_now a =
      subst (λ (list : List (List Bool)). IsFirstFrom e.circuit (fault_at e.circuit g.fault) e.settings.start list None)
      (vectors_more steps (Vectors list)) a.undetected holds.vector holds.output holds.detects

  list_done : (k : ℕ) → k < g.fault + 1 → ¬ AwaitsVerdict e.circuit e.representatives e.settings with_list k
  list_done k l a = elim (le_or_lt g.fault k) [
    | inl from ↦
        let at : k ≡ g.fault = omega (arith, from, l) in
        detected_now (subst (AwaitsVerdict e.circuit e.representatives e.settings with_list) at a)
    | inr under ↦ (is_next e steps s g.fault g.next).least k under
        (awaited_before e.circuit e.representatives e.settings steps (Vectors list) k a)
  ]

  -- an engine that gives a list for the next fault may make that step next, and stands for the steps with it
  pub list_made : MakesStep e new steps (Vectors list)
  list_made =
      let from = g.next.from in
      record {
        follows = list_follows;
        stands = stands_longer e new steps s list g.graded (g.fault + 1) e.rest g.after list_follows
            (none_more e steps s (Vectors list) g.none_left) (omega (arith, from)) list_done holds.wide;
      }

-- ---- an entry

-- the entry of another fault changes nothing
kind_stays : (entries : List Numbered) (fault : ℕ) (made : recorded.Entry) (i : ℕ) → i ≢ fault
    → (kind : Option EntryKind) → IsKindIn entries i kind → IsKindIn (entries ++ numbered fault made ∷ []) i kind
kind_stays entries fault made i other None h = λ has. elim (has_cases entries fault made i has) [
  | inl before ↦ h before
  | inr same ↦ other same
]
kind_stays entries fault made i other (Some kind) h =
    (h.0, Contains-append_left entries (numbered fault made ∷ []) (numbered i h.0) h.1, h.2)

-- The start allows the state that an entry names: it is the start with 0 where this is unknown.
work_is_allowed : (c : Netlist) (fault : Fault) (start : List Tern) (budget : ℕ) (invariant : Invariant)
    → IsNamedInvariant c start budget invariant → (made : recorded.Entry)
    → IsWork c fault budget invariant (work.Entry made) → AllowsEntry start made
work_is_allowed c fault start budget invariant found (entries.Untestable z tokens) given = tt
work_is_allowed c fault start budget invariant found (entries.UntestableFrom state clauses z tokens) given =
    subst (Allows start) (sym (given.under.same_state ∙ found.state)) (some_allowed start)
work_is_allowed c fault start budget invariant found (entries.UndetectableBySets rows) given = tt
work_is_allowed c fault start budget invariant found (entries.UndetectableByCubes cubes steps) given = tt
work_is_allowed c fault start budget invariant found (entries.Aborted told walk aim walks) given = tt

-- so does that of the deep work
deep_is_allowed : (c : Netlist) (fault : Fault) (settings : Settings) (states : window.Start) (invariant : Invariant)
    → IsNamedInvariant c settings.start settings.budget invariant → (made : recorded.Entry)
    → IsDeepWork c fault settings states invariant (work.Entry made) → AllowsEntry settings.start made
deep_is_allowed c fault settings states invariant found (entries.Untestable z tokens) given = tt
deep_is_allowed c fault settings states invariant found (entries.UntestableFrom state clauses z tokens) given =
    work_is_allowed c fault settings.start settings.budget invariant found
    (entries.UntestableFrom state clauses z tokens) given
deep_is_allowed c fault settings states invariant found (entries.UndetectableBySets rows) given = tt
deep_is_allowed c fault settings states invariant found (entries.UndetectableByCubes cubes steps) given = tt
deep_is_allowed c fault settings states invariant found (entries.Aborted told walk aim walks) given = tt

is_allowed : (search : Search) (c : Netlist) (fault : Fault) (settings : Settings) (before : List (List Bool))
    (invariant : Invariant) → IsNamedInvariant c settings.start settings.budget invariant → (made : recorded.Entry)
    → IsWorkBy search c fault settings before invariant (work.Entry made) → AllowsEntry settings.start made
is_allowed Plain c fault settings before invariant found made given =
    work_is_allowed c fault settings.start settings.budget invariant found made given
is_allowed Deep c fault settings before invariant found made given =
    deep_is_allowed c fault settings (states_reached c fault settings.start before) invariant found made given

module _ (e new : EngineView) (steps : List Step) (s : EngineStandsFor e steps) (fault : ℕ) (made : recorded.Entry)
    (g : GivesEntry e new fault made) where
  abbrev more : List Step
  more = steps ++ Entry fault made ∷ []

  entry_follows : Follows e.circuit e.representatives e.settings steps (Entry fault made)
  entry_follows = inr (record {
    after = all_given e steps s g.none_left;
    fault = fault;
    next = is_next e steps s fault g.next;
    invariant = e.named_invariant;
    found = s.found;
    given = (refl, (g.work.after (vectors_of_steps steps) s.graded).given);
  })

  abbrev kinds_now : List (Option EntryKind)
  kinds_now = set e.kinds fault (Some (kind_of made))

  kinds_more : (i : ℕ) → i < length e.representatives
      → IsKindIn (entries_of steps ++ numbered fault made ∷ []) i (get_or kinds_now i None)
  kinds_more i l = elim (eqb_tells i fault) [
    | inl t ↦
        let kind = Some (kind_of made) in
        subst (λ (k : ℕ). IsKindIn (entries_of steps ++ numbered fault made ∷ []) k (get_or kinds_now k None))
        (sym t.1) (subst (IsKindIn (entries_of steps ++ numbered fault made ∷ []) fault)
        (sym (get_or-set_same e.kinds fault kind None g.room))
        (made, contains_last (entries_of steps) (numbered fault made), refl))
    | inr t ↦
        subst (IsKindIn (entries_of steps ++ numbered fault made ∷ []) i)
        (sym (get_or-set_other e.kinds fault i (Some (kind_of made)) None t.1))
        (kind_stays (entries_of steps) fault made i t.1 (kind_at e i) (s.kinds i l))
  ]

  entry_done : (k : ℕ) → k < fault + 1 → ¬ AwaitsVerdict e.circuit e.representatives e.settings more k
  entry_done k l a = elim (le_or_lt fault k) [
    | inl from ↦
        let at : k ≡ fault = omega (arith, from, l) in
        a.without_entry (subst (HasEntry (entries_of more)) (sym at) (has_last steps fault made))
    | inr under ↦ (is_next e steps s fault g.next).least k under
        (awaited_before e.circuit e.representatives e.settings steps (Entry fault made) k a)
  ]

  entry_entered : (k : ℕ) → HasEntry (entries_of steps ++ numbered fault made ∷ []) k → k < fault + 1
  entry_entered k h = elim (has_cases (entries_of steps) fault made k h) [
    | inl before ↦ let below = s.entered k before in let from = g.next.from in omega (arith, below, from)
    | inr same ↦ omega (arith, same)
  ]

  -- what holds of each entry by its fault holds of one more
  all_more : (P : ℕ → recorded.Entry → Type 0)
      → All (λ (n : Numbered). P (n.number - 1) n.entry) (entries_of steps) → P fault made
      → All (λ (n : Numbered). P (n.number - 1) n.entry) (entries_of steps ++ numbered fault made ∷ [])
  all_more P are is =
      let Q : Numbered → Type 0 = λ (n : Numbered). P (n.number - 1) n.entry in
      let at : fault ≡ fault + 1 - 1 = omega arith in
      All-append Q (entries_of steps) (numbered fault made ∷ []) are
      (All-cons Q (numbered fault made) [] (subst (λ (k : ℕ). P k made) at is) (All-nil Q))

  entry_holds : EntryHolds e.circuit e.settings fault made
  entry_holds = (
    (g.work.after (vectors_of_steps steps) s.graded).holds,
    is_allowed e.settings.search e.circuit (fault_at e.circuit fault) e.settings (vectors_of_steps steps)
        e.named_invariant s.found made (g.work.after (vectors_of_steps steps) s.graded).given,
  )

  entry_stands : EngineStandsFor (record e { kinds = kinds_now; first_awaiting = fault + 1 }) more
  entry_stands =
      let same = sym (entries_more steps (Entry fault made)) in
      record {
        latches = s.latches;
        are = one_more steps (Entry fault made) s.are entry_follows;
        rest = none_more e steps s (Entry fault made) g.none_left;
        graded = subst (HasGraded e) (sym (vectors_with_entry steps fault made)) s.graded;
        kinds = λ i l. subst (λ (entries : List Numbered). IsKindIn entries i (get_or kinds_now i None)) same
            (kinds_more i l);
        done = entry_done;
        entered = λ k h.
            entry_entered k (subst (λ (entries : List Numbered). HasEntry entries k) (sym same) h);
        wide = subst (AreVectors e.circuit) (sym (vectors_with_entry steps fault made)) s.wide;
        pass = subst (AllHold e.circuit e.settings) same
            (all_more (EntryHolds e.circuit e.settings) s.pass entry_holds);
        found = s.found;
        holds = s.holds;
        enough = subst (AreEnough e.circuit e.settings.budget e.named_invariant.clauses) same
            (all_more (λ k made. IsEnough e.circuit (fault_at e.circuit k) e.settings.budget e.named_invariant.clauses
            (work.Entry made)) s.enough (g.work.after (vectors_of_steps steps) s.graded).enough);
      }

  -- an engine that gives an entry for the next fault may make that step next, and stands for the steps with it
  pub entry_made : MakesStep e new steps (Entry fault made)
  entry_made = record {
    follows = entry_follows;
    stands = subst (λ (v : EngineView). EngineStandsFor v more) (sym g.after) entry_stands;
  }

-- ---- the end

-- an engine that ends is finished: no fault awaits its verdict, and it stands for the steps as they are
pub end_made : (e new : EngineView) (steps : List Step) → EngineStandsFor e steps → Ends e new
    → Makes e new steps Finished
end_made e new steps s g =
    let last = none_awaits e steps s g.none in
    let at : EngineStandsFor (record e { first_awaiting = length e.representatives }) steps =
    record {
      latches = s.latches;
      are = s.are;
      rest = s.rest;
      graded = s.graded;
      kinds = s.kinds;
      done = λ i l. last i;
      entered = λ i h. let below = s.entered i h in let within = g.within in omega (arith, below, within);
      wide = s.wide;
      pass = s.pass;
      found = s.found;
      holds = s.holds;
      enough = s.enough;
    } in (
      record { given = all_given e steps s g.none_left; none_awaits = last },
      subst (λ (v : EngineView). EngineStandsFor v steps) (sym g.after) at,
    )

-- ---- any step

-- an engine that advances by a step may make it after its steps and stands for them with it, or is finished
pub makes : (old new : EngineView) (steps : List Step) → EngineStandsFor old steps → (step : Step)
    → Advances old new step → Makes old new steps step
makes old new steps s (Vectors list) (inl g) = first_made old new steps s list g
makes old new steps s (Vectors list) (inr g) = list_made old new steps s list g
makes old new steps s (Entry fault made) g = entry_made old new steps s fault made g
makes old new steps s Finished g = end_made old new steps s g

-- a list by which an engine advances after the first vectors is useful, and an entry passes
pub means : (old new : EngineView) (steps : List Step) → EngineStandsFor old steps → (step : Step)
    → Advances old new step → MeansOfStep old steps step
means old new steps s (Vectors list) (inl g) = first_means old new steps s list g
means old new steps s (Vectors list) (inr g) = list_useful old new steps s list g
means old new steps s (Entry fault made) g = entry_holds old new steps s fault made g
means old new steps s Finished g = tt

same_by : (old new : EngineView) (grader : ClassGraderView) (kinds : List (Option EntryKind)) (place : ℕ)
    (rest : List (List Bool)) → new ≡ record old { grader = grader; kinds = kinds; first_awaiting = place; rest = rest }
    → HasSameWork old new
same_by old new grader kinds place rest is = record {
  circuit = ap (λ (v : EngineView). v.circuit) is;
  representatives = ap (λ (v : EngineView). v.representatives) is;
  settings = ap (λ (v : EngineView). v.settings) is;
}

-- a step leaves the circuit, the representatives and the settings of an engine as they are
pub same_work : (old new : EngineView) (step : Step) → Advances old new step → HasSameWork old new
same_work old new (Vectors list) (inl g) = same_by old new new.grader old.kinds old.first_awaiting g.rest g.after
same_work old new (Vectors list) (inr g) = same_by old new new.grader old.kinds (g.fault + 1) old.rest g.after
same_work old new (Entry fault made) g =
    same_by old new old.grader (set old.kinds fault (Some (kind_of made))) (fault + 1) old.rest g.after
same_work old new Finished g = same_by old new old.grader old.kinds (length old.representatives) old.rest g.after

-- one of the first vectors less, or a place further
fewer_left : (old new : EngineView) (vector : List Bool) → old.rest ≡ vector ∷ new.rest → new.first_awaiting ≡ old.first_awaiting
    → new.representatives ≡ old.representatives → remaining new < remaining old
fewer_left old new vector left place same =
    let one : length old.rest ≡ length (vector ∷ new.rest) = ap (λ (l : List (List Bool)). length l) left in
    let long : length new.representatives ≡ length old.representatives = ap length same in
    omega (arith, one, place, long)

fewer_faults : (old new : EngineView) (fault : ℕ) → IsNextUndetected old fault → new.rest ≡ old.rest
    → new.first_awaiting ≡ fault + 1 → new.representatives ≡ old.representatives → remaining new < remaining old
fewer_faults old new fault next left place same =
    let long : length new.representatives ≡ length old.representatives = ap length same in
    let rest = ap (λ (l : List (List Bool)). length l) left in
    let from = next.from in
    let inside = next.inside in
    omega (arith, from, inside, rest, place, long)

-- each step but the end leaves fewer steps to come
pub nears : (old new : EngineView) (step : Step) → Advances old new step → step ≢ Finished
    → remaining new < remaining old
nears old new (Vectors list) (inl g) other =
    fewer_left old new g.vector
    (g.left ∙ ap (λ (l : List (List Bool)). g.vector ∷ l) (sym (ap (λ (v : EngineView). v.rest) g.after)))
    (ap (λ (v : EngineView). v.first_awaiting) g.after) (ap (λ (v : EngineView). v.representatives) g.after)
nears old new (Vectors list) (inr g) other =
    fewer_faults old new g.fault g.next (ap (λ (v : EngineView). v.rest) g.after)
    (ap (λ (v : EngineView). v.first_awaiting) g.after) (ap (λ (v : EngineView). v.representatives) g.after)
nears old new (Entry fault made) g other =
    fewer_faults old new fault g.next (ap (λ (v : EngineView). v.rest) g.after)
    (ap (λ (v : EngineView). v.first_awaiting) g.after) (ap (λ (v : EngineView). v.representatives) g.after)
nears old new Finished g other = absurd (other refl)

-- ---- what is said

said_with : (c : Netlist) (start : List Tern) (steps : List Step) (i : ℕ) (kind : Option EntryKind)
    → IsUndetectedWith c start steps i kind → IsSaid c start steps i (said_by kind)
said_with c start steps i None is = is
said_with c start steps i (Some kind.Untestable) is = is
said_with c start steps i (Some kind.Undetectable) is = is
said_with c start steps i (Some kind.Aborted) is = is

-- what is said of a representative that no vectors detect is what the kind of its entry says, if it has one
pub said_is : (e : EngineView) (steps : List Step) → EngineStandsFor e steps → (i : ℕ) → i < length e.representatives
    → IsOwn e.circuit e.representatives i → None ≡ place_at e.grader.places i
    → (kind : Option EntryKind) → kind_at e i ≡ kind → IsSaid e.circuit e.settings.start steps i (said_by kind)
said_is e steps s i l own here kind at =
    let is : IsUndetectedWith e.circuit e.settings.start steps i kind = record {
      undetected = subst (IsFirstFrom e.circuit (fault_at e.circuit i) e.settings.start (vectors_of_steps steps))
          (sym here) (first_graded e (vectors_of_steps steps) s.graded i own);
      kind_is = subst (IsKindIn (entries_of steps) i) at (s.kinds i l);
    } in
    said_with e.circuit e.settings.start steps i kind is

-- the place that is kept for a representative is the first where the vectors of the steps detect it
pub said_detected : (e : EngineView) (steps : List Step) → EngineStandsFor e steps → (i : ℕ) (place : Place)
    → IsOwn e.circuit e.representatives i → Some place ≡ place_at e.grader.places i
    → IsFirstFrom e.circuit (fault_at e.circuit i) e.settings.start (vectors_of_steps steps) (Some place)
said_detected e steps s i place own here =
    subst (IsFirstFrom e.circuit (fault_at e.circuit i) e.settings.start (vectors_of_steps steps)) (sym here)
    (first_graded e (vectors_of_steps steps) s.graded i own)

-- ---- what the fields say of the value

module _ (e now : EngineView) (listed : List Fault) (marks : List Bool) (is : IsEngine e listed marks) (at : e ≡ now)
  where
    known : IsEngine now listed marks
    known = subst (λ (v : EngineView). IsEngine v listed marks) at is

    -- a fault that the list of representatives gives at its own index represents its class
    pub own_of : (i r : ℕ) → i < length now.representatives → r ≡ get_or e.representatives i 0 → r ≡ i
        → IsOwn now.circuit now.representatives i
    own_of i r l here own =
        let every = known.classes.every in
        record {
          listed = omega (arith, l, every);
          own = eq-eqb (get_or now.representatives i 0) i
              (ap (λ (v : EngineView). get_or v.representatives i 0) (sym at) ∙ (sym here ∙ own));
        }

    -- a fault that is marked is to be worked on
    pub chosen_of : (i : ℕ) (mark : Bool) → i < length now.representatives → mark ≡ get_or marks i mark → mark ≡ true
        → IsChosen now.representatives now.settings i
    chosen_of i mark l got is =
        let each = known.marks.each in
        (known.marks.chosen i l).0
        (get_or_default marks i false mark (omega (arith, l, each)) ∙ (sym got ∙ is))

    -- the index of a representative is within the list of kinds
    pub room_of : (i : ℕ) → IsOwn now.circuit now.representatives i → i < length now.kinds
    room_of i own =
        let every = known.classes.every in
        let kinds = known.kinds in
        let below = own.listed in
        omega (arith, every, kinds, below)

    -- the index of a representative is within the list of representatives
    pub count_of : (i : ℕ) → IsOwn now.circuit now.representatives i → i < length now.representatives
    count_of i own = let every = known.classes.every in let below = own.listed in omega (arith, every, below)

    -- the kind that is read at a representative's index is the one that the engine keeps for it
    pub kept_kind : (i : ℕ) (kind : Option EntryKind) → IsOwn now.circuit now.representatives i
        → kind ≡ get_or e.kinds i kind → kind_at now i ≡ kind
    kept_kind i kind own is =
        get_or_default now.kinds i None kind (room_of i own)
        ∙ (ap (λ (v : EngineView). get_or v.kinds i kind) (sym at) ∙ sym is)

    -- the fault that is read at an index of the listed faults is the circuit's fault of that index
    pub fault_of : (i : ℕ) (f : Fault) → f ≡ get_or listed i no_fault → f ≡ fault_at now.circuit i
    fault_of i f got = got ∙ ap (λ (l : List Fault). get_or l i no_fault) known.faults

    -- the states of the grader are those to which the vectors that are graded lead
    pub state_of : (fault : Netlist → Option Fault) (list : List (List Bool)) (state : List Tern)
        → ((start : List Tern) (list : List (List Bool)) → ClassGraderStandsFor e.grader start list
        → state ≡ state_from e.grader.machines.circuit (fault e.grader.machines.circuit) start list)
        → HasGraded now list → state ≡ state_from now.circuit (fault now.circuit) now.settings.start list
    state_of fault list state reached graded =
        let here : HasGraded e list = subst (λ (v : EngineView). HasGraded v list) (sym at) graded in
        reached e.settings.start list here.stands
        ∙ (ap (λ (c : Netlist). state_from c (fault c) e.settings.start list) here.circuit
        ∙ ap (λ (v : EngineView). state_from v.circuit (fault v.circuit) v.settings.start list) at)

    -- they have a value for each latch
    pub state_each : (state : List Tern) → IsStart e.grader.machines.circuit state → IsStart now.circuit state
    state_each state each =
        subst (λ (v : EngineView). IsStart v.circuit state) at
        (subst (λ (c : Netlist). IsStart c state) is.circuit each)

    -- what holds of the work on a listed fault, with bases of the engine's circuit
    of_work : (P : Netlist → Fault → Settings → Invariant → Type 0) (bases : Netlist) (i : ℕ) (f : Fault)
        → bases ≡ e.circuit → f ≡ get_or listed i no_fault → P bases f e.settings e.named_invariant
        → P now.circuit (fault_at now.circuit i) now.settings now.named_invariant
    of_work P bases i f b got h =
        subst (λ (v : EngineView). P v.circuit (fault_at now.circuit i) v.settings v.named_invariant) at
        (subst (λ (f : Fault). P e.circuit f e.settings e.named_invariant) (fault_of i f got)
        (subst (λ (n : Netlist). P n f e.settings e.named_invariant) b h))

    module _ (bases : Netlist) (i : ℕ) (f : Fault) (b : bases ≡ e.circuit) (got : f ≡ get_or listed i no_fault) where
      abbrev fault : Fault
      fault = fault_at now.circuit i

      -- what the plain work gives, where the search is plain
      pub plain_on : now.settings.search ≡ Plain → (w : Work) → IsWork bases f e.settings.budget e.named_invariant w
          → WorkHolds bases f e.settings.budget w
          → IsEnough bases f e.settings.budget e.named_invariant.clauses w → IsWorkOn now i w
      plain_on plain w answer holds enough = record {
        width = λ list given. (subst (WorkHolds now.circuit fault now.settings.budget) given here).width;
        after = λ before graded. record {
          given = subst
              (λ (search : Search). IsWorkBy search now.circuit fault now.settings before now.named_invariant w)
              (sym plain) (of_work (λ n f s invariant. IsWork n f s.budget invariant w) bases i f b got answer);
          holds = plain_after now.circuit fault now.settings known.latches before w here;
          enough = of_work (λ n f s invariant. IsEnough n f s.budget invariant.clauses w) bases i f b got enough;
        };
      } where
        here : WorkHolds now.circuit fault now.settings.budget w
        here = of_work (λ n f s invariant. WorkHolds n f s.budget w) bases i f b got holds

      -- a list that the deep work gives has a bit for each input
      deep_width : (good faulty : List Tern) (list : Rows)
          → DeepWorkHolds now.circuit fault now.settings good faulty (work.List list) → list.width ≡ now.circuit.inputs
      deep_width good faulty list (inl always) = always.width
      deep_width good faulty list (inr ahead) = ahead.vectors.width

      -- what the deep work gives from the states reached, where the search is deep
      pub deep_on : now.settings.search ≡ Deep → (good faulty : List Tern)
          → ((list : List (List Bool)) → HasGraded now list → good ≡ state_from now.circuit None now.settings.start list)
          → ((list : List (List Bool)) → HasGraded now list
          → faulty ≡ state_from now.circuit (Some fault) now.settings.start list) → (w : Work)
          → IsDeepWork bases f e.settings (window.state_pair good faulty) e.named_invariant w
          → DeepWorkHolds bases f e.settings good faulty w
          → IsEnough bases f e.settings.budget e.named_invariant.clauses w → IsWorkOn now i w
      deep_on deep good faulty good_is faulty_is w answer holds enough = record {
        width = λ list given.
            deep_width good faulty list (subst (DeepWorkHolds now.circuit fault now.settings good faulty) given here);
        after = λ before graded. record {
          given = subst
              (λ (search : Search). IsWorkBy search now.circuit fault now.settings before now.named_invariant w)
              (sym deep)
              (subst (λ (states : window.Start). IsDeepWork now.circuit fault now.settings states now.named_invariant w)
              (λ k. window.state_pair (good_is before graded k) (faulty_is before graded k))
              (of_work (λ n f s invariant. IsDeepWork n f s (window.state_pair good faulty) invariant w) bases i f b got
              answer));
          holds = deep_after now.circuit fault now.settings known.latches before good faulty (good_is before graded)
              (faulty_is before graded) w here;
          enough = of_work (λ n f s invariant. IsEnough n f s.budget invariant.clauses w) bases i f b got enough;
        };
      } where
        here : DeepWorkHolds now.circuit fault now.settings good faulty w
        here = of_work (λ n f s invariant. DeepWorkHolds n f s good faulty w) bases i f b got holds
