-- Where the status under clauses is open, the choice is legal; where all is decided, the status isn't open.
use Rattle.std.proofs.Common.{◌≡◌, ◌<◌, ◌+◌, ℕ, List, [], ◌∷◌, Bool, true, false, not, ◌&&◌, Option, Some, None, length, refl, sym, ◌∙◌, ap, inl, inr, arith, subst}
use Rattle.std.specs.Prelude.{is_some, leb, ltb}
use Rattle.std.specs.List.{find, list_any, list_all}
use Rattle.std.proofs.lemmas.Bool.{and_cases, and_from, and_parts, le-leb, lt-ltb, ltb-true, not-true, or_left, or_parts, or_right}
use Rattle.ht_tern.specs.declared.tern.Tern.{Tern}
use Rattle.ht_net.specs.Circuit.Netlist.{Netlist, first_gate_net}
use Rattle.ht_tree.specs.declared.token.Assign3.{Assign3}
use Rattle.ht_tree.specs.declared.token.Choice.{Choice}
use Rattle.ht_tree.specs.declared.token.Status3.{Status3}
use Rattle.ht_tree.specs.declared.token.Status3.TheVariants as status3
use Rattle.ht_tree.specs.declared.window.Status.TheVariants.{Sure, Open}
use Rattle.ht_tree.specs.declared.window.Spot.TheVariants.{State}
use Rattle.ht_tree.specs.Walk.Walks.{decides}
use Rattle.ht_tree.specs.Window.Windows.{Start, one_frame, unknown, state_pair, back, SearchWindow, first_input, is_undetermined}
use Rattle.ht_tree.specs.Window.Places.{set_at, spot_net}
use Rattle.ht_tree.specs.Window.WindowStatus.{status_at}
use Rattle.ht_tree.specs.Window.Variables.{DecidesAll, IsLegalChoice, is_latch, may_two, two_of_start}
use Rattle.ht_tree.specs.Window.WalkBack.{pick_of, walk_back}
use Rattle.ht_tree.proofs.BeginLaws.{some_frame, spot_undetermined, undetermined_meets, open_alone}
use Rattle.ht_tree.proofs.DecidedLaws.{decides_value}
use Rattle.ht_tree.proofs.FirstLaws.{FoundFirst, FoundPassing, find_first, find_passing}
use Rattle.ht_tree.proofs.PickLaws.{net_has_choice, open_has_choice, none_legal}
use Rattle.ht_tree.specs.declared.clause.Literal.{Literal}
use Rattle.ht_tree.specs.Clause.Clauses.{AreKnown, is_decided_against, is_decided_to, latch_value, path_breaks, path_meets}
use Rattle.ht_tree.specs.Clause.ClauseWindows.{ClauseWindow, IsClauseWindow, IsSought, Sought, breach, difference, is_one_frame, may_miss, must_miss, sought_status, status_under}
use Rattle.ht_tree.specs.Clause.ClauseSearches.{back_from, choice_if_open, choice_or, pick_under, sought_choice, to_clause, to_literal}
use Rattle.ht_records.proofs.StatusLaws.{breach_open, breach_sure, open_under}

-- what is known of lists by their tests
none_found : {X : Type 0} → (test : X → Bool) (xs : List X) → list_any test xs ≡ false → find test xs ≡ None
none_found test [] h = refl
none_found test (x ∷ xs) h =
    let parts = or_parts (test x) (list_any test xs) h in
    let rest = none_found test xs parts.1 in
    rw parts.0 rest

some_fails : {X : Type 0} → (test : X → Bool) (xs : List X) → list_all test xs ≡ false
    → list_any (λ x. not (test x)) xs ≡ true
some_fails test [] h = cc
some_fails test (x ∷ xs) h = elim (and_cases (test x) (list_all test xs) h) [
  | inl e ↦ or_left (not (test x)) (list_any (λ x. not (test x)) xs) (ap not e)
  | inr e ↦ or_right (not (test x)) (list_any (λ x. not (test x)) xs) (some_fails test xs e)
]

each_fails : {X : Type 0} → (test : X → Bool) (xs : List X) → list_any test xs ≡ false
    → list_all (λ x. not (test x)) xs ≡ true
each_fails test [] h = refl
each_fails test (x ∷ xs) h =
    let parts = or_parts (test x) (list_any test xs) h in
    and_from (not (test x)) (list_all (λ x. not (test x)) xs) (ap not parts.0) (each_fails test xs parts.1)

two_of_latch : (c : Netlist) (s : Start) (j : ℕ) → is_one_frame s ≡ true → j < length c.dffs
    → two_of_start c s (c.inputs + j) ≡ true
two_of_latch c (one_frame z) j is inside =
    or_left (is_latch c (c.inputs + j)) _
    (and_from (leb c.inputs (c.inputs + j)) (ltb (c.inputs + j) (first_gate_net c))
    (le-leb c.inputs (c.inputs + j) (omega arith)) (lt-ltb (c.inputs + j) (first_gate_net c) (omega (arith, inside))))
two_of_latch c unknown j is inside = cc
two_of_latch c (state_pair good faulty) j is inside = cc
two_of_latch c (back cube limit) j is inside = cc

must_determined : (may more : Bool) → (may && not more) ≡ true → more ≡ false
must_determined true true h = cc
must_determined true false h = refl
must_determined false more h = cc

undecided_by : (bit : Bool) (v : Option Tern) → is_decided_against bit v ≡ false → not (is_decided_to bit v) ≡ true
    → is_some v ≡ false
undecided_by bit None h k = refl
undecided_by bit (Some v) h k = let no : true ≡ false = sym k ∙ h in cc

module _ (w : ClauseWindow) (path : List Assign3) (is : IsClauseWindow w) where
  abbrev v : SearchWindow
  v = w.window

  abbrev c : Netlist
  c = w.window.circuit

  abbrev Inside : Literal → Type 0
  Inside l = l.dff < length c.dffs

  -- the walk back from the next state of a literal's latch
  back_legal : (l : Literal) → Inside l → is_undetermined (set_at v path 0 (State l.dff)) ≡ true
      → IsLegalChoice v path (walk_back v path 0 (spot_net c (State l.dff)) (not l.value))
  back_legal l inside h =
      net_has_choice v path 0 (spot_net c (State l.dff)) (not l.value) is.window
      (some_frame c v.fault v.frames v.start is.window.start) (is.window.circuit.data_known l.dff inside)
      (spot_undetermined v path is.window.circuit (some_frame c v.fault v.frames v.start is.window.start) 0
      (State l.dff) (ltb-true _ _ h))

  -- the first undecided literal of a clause that is neither met nor broken
  literal_legal : (literals : List Literal) → AreKnown c literals → path_meets c path literals ≡ false
      → path_breaks c path literals ≡ false → IsLegalChoice v path (to_clause c path (Some literals))
  literal_legal literals known unmet unbroken =
      let against : Literal → Bool = λ l. is_decided_against l.value (latch_value c path l) in
      let away : Literal → Bool = λ l. not (is_decided_to l.value (latch_value c path l)) in
      let free : Literal → Bool = λ l. not (decides path (c.inputs + l.dff)) in
      let found : FoundPassing Inside free literals = find_passing Inside against away free literals known
      (λ l a b. ap not (decides_value path (c.inputs + l.dff)
      ∙ undecided_by l.value (latch_value c path l) a b)) unbroken
      (each_fails (λ (l : Literal). is_decided_to l.value (latch_value c path l)) literals unmet) in
      let l = found.member in
      let legal : may_two v (c.inputs + l.dff) ≡ true =
      or_right (ltb (c.inputs + l.dff) (first_input v v.frames)) _
      (two_of_latch c v.start l.dff is.one_frame found.known) in
      subst (λ (o : Option Literal). IsLegalChoice v path (to_literal c o)) (sym found.is)
      (legal, not-true (decides path (c.inputs + l.dff)) found.passes)

  -- the first clause that isn't met
  clause_legal : list_any (path_breaks c path) w.clauses ≡ false → list_all (path_meets c path) w.clauses ≡ false
      → IsLegalChoice v path (to_clause c path (find (λ literals. not (path_meets c path literals)) w.clauses))
  clause_legal unbroken unmet =
      let found : FoundFirst (AreKnown c) (path_breaks c path) (λ literals. not (path_meets c path literals)) w.clauses =
      find_first (AreKnown c) (path_breaks c path) (λ literals. not (path_meets c path literals)) w.clauses is.known
      (none_found (path_breaks c path) w.clauses unbroken) (some_fails (path_meets c path) w.clauses unmet) in
      subst (λ (o : Option (List Literal)). IsLegalChoice v path (to_clause c path o)) (sym found.is)
      (literal_legal found.member found.known (not-true (path_meets c path found.member) found.may_is) found.must_is)

  -- what is looked for is open: its own choice
  sought_legal : (s : Sought) → IsSought c s → sought_status v path s ≡ status3.Open → (other : Choice)
      → IsLegalChoice v path (choice_or other (sought_choice v path s))
  sought_legal difference known h other =
      subst (λ (s : Status3). IsLegalChoice v path (choice_or other (choice_if_open s (pick_of v path)))) (sym h)
      (open_has_choice v path is.window (open_alone (status_at v path) h))
  sought_legal (breach literals) known h other =
      let o = breach_open v path literals h in
      let undetermined : Literal → Bool = λ l. is_undetermined (set_at v path 0 (State l.dff)) in
      let found : FoundPassing Inside undetermined literals =
      find_passing Inside (must_miss v path) (may_miss v path) undetermined literals known
      (λ l a b. undetermined_meets (may_miss v path l) (undetermined l) a b) o.0 o.1 in
      subst (λ (o : Option Literal). IsLegalChoice v path (choice_or other (back_from v path o))) (sym found.is)
      (back_legal found.member found.known found.passes)

  none_undetermined : (literals : List Literal) → list_all (must_miss v path) literals ≡ true
      → find (λ (l : Literal). is_undetermined (set_at v path 0 (State l.dff))) literals ≡ None
  none_undetermined [] h = refl
  none_undetermined (l ∷ literals) h =
      let parts = and_parts (must_miss v path l) (list_all (must_miss v path) literals) h in
      let here = must_determined (may_miss v path l) (is_undetermined (set_at v path 0 (State l.dff))) parts.0 in
      let rest = none_undetermined literals parts.1 in
      rw here rest

  -- what is looked for is shown: no choice of its own
  sought_none : (s : Sought) → sought_status v path s ≡ status3.Sure → sought_choice v path s ≡ None
  sought_none difference h = ap (λ (s : Status3). choice_if_open s (pick_of v path)) h
  sought_none (breach literals) h =
      ap (back_from v path) (none_undetermined literals (breach_sure v path literals h))

  -- where the status under clauses is open, the chosen variable is legal in its kind, and the path doesn't decide it
  pub open_legal : status_under w path ≡ status3.Open → IsLegalChoice v path (pick_under w path)
  open_legal h =
      let o = open_under w path h in
      let other = to_clause c path (find (λ literals. not (path_meets c path literals)) w.clauses) in
      elim (o.why) [
        | inl seeks ↦ sought_legal w.sought is.sought seeks other
        | inr sure ↦ subst (λ (o : Option Choice). IsLegalChoice v path (choice_or other o))
            (sym (sought_none w.sought sure.0)) (clause_legal o.unbroken sure.1)
      ]

-- where a path decides all variables, the status under clauses isn't open
pub decided_not_open : (w : ClauseWindow) (path : List Assign3) → IsClauseWindow w → DecidesAll w.window path
    → status_under w path ≡ status3.Open → ⊥
decided_not_open w path is all h = none_legal w.window path all (pick_under w path) (open_legal w path is h)
