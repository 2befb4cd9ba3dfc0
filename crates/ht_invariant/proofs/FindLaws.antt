-- What the rounds leave is an invariant.
use Rattle.std.proofs.Common.{◌≡◌, ◌<◌, ◌≤◌, ◌+◌, ◌-◌, ◌∙◌, ℕ, suc, zero, List, [], ◌∷◌, ◌++◌, map, min, Bool, true, false, Option, Some, None, length, get_or, refl, sym, ap, subst, arith, append_assoc}
use Rattle.std.specs.Prelude.{flat_map}
use Rattle.std.specs.List.{All, filter, list_all, range_with_len}
use Rattle.std.proofs.lemmas.Bool.{and_from, and_parts, lt-ltb}
use Rattle.std.proofs.lemmas.List.{length-take, map-append}
use Rattle.std.proofs.lemmas.List.Elements.{All-cons, All-filter, All-head, All-nil, All-tail, All-take, filter_passes}
use Rattle.ht_net.specs.Circuit.Netlist.{Netlist}
use Rattle.ht_net.specs.Detect.Detection.{IsState}
use Rattle.ht_tree.specs.declared.token.Token.{Token}
use Rattle.ht_tree.specs.Walk.Walks.{IsComplete}
use Rattle.ht_tree.proofs.FirstLaws.{All-flat_map, All-range_with_len}
use Rattle.ht_tree.specs.declared.clause.Literal.{Literal}
use Rattle.ht_tree.specs.declared.clause.Clause.{Clause}
use Rattle.ht_tree.specs.Clause.Clauses.{IsClause, IsSecond, literals_of, literals_of_each, meets, meets_each, second_of}
use Rattle.ht_tree.specs.Clause.ClauseWindows.{closing_window, judge_under}
use Rattle.ht_tree.specs.Clause.Invariants.{IsClosedUnder, IsInvariant, max_clauses}
use Rattle.ht_invariant.specs.Trials.{knows, knows_each}
use Rattle.ht_invariant.specs.ClosingRounds.{AreClosingAnswers, AreClosingRounds, IsClosingRound, clauses_kept}
use Rattle.ht_invariant.specs.FoundClauses.{FindsClauses, candidates_at, candidates_of, clause_of, first_clauses, is_met_by_each, literal, of_two, reach, state_after, tried_frames, tried_states}

-- a clause of the circuit that the state meets, whatever its walk
pub record IsMetClause (c : Netlist) (state : List Bool) (k : Clause) : Type 0 where
  pub clause : IsClause c k
  pub met : meets state (literals_of k) ≡ true

module _ (c : Netlist) where
  known_second : (first : ℕ) (o : Option Literal) → IsSecond c first o → knows c (second_of o) ≡ true
  known_second first None h = refl
  known_second first (Some l) h = and_from _ true (lt-ltb _ _ h.1) refl

  known_clause : (k : Clause) → IsClause c k → knows c (literals_of k) ≡ true
  known_clause k h = and_from _ _ (lt-ltb _ _ h.first) (known_second k.first.dff k.second h.second)

  -- clauses of a circuit speak of its flip-flops only
  pub each_known : (clauses : List Clause) → All (IsClause c) clauses → knows_each c clauses ≡ true
  each_known [] h = refl
  each_known (k ∷ clauses) h =
      and_from _ _ (known_clause k (All-head (IsClause c) k clauses h))
      (each_known clauses (All-tail (IsClause c) k clauses h))

  module _ (state : List Bool) where
    met_kept : (clauses : List Clause) (walks : List (Option (List Token))) → All (IsMetClause c state) clauses
        → All (IsMetClause c state) (clauses_kept clauses walks)
    met_kept [] walks h = All-nil (IsMetClause c state)
    met_kept (k ∷ clauses) [] h = All-nil (IsMetClause c state)
    met_kept (k ∷ clauses) (None ∷ walks) h = met_kept clauses walks (All-tail (IsMetClause c state) k clauses h)
    met_kept (k ∷ clauses) (Some tokens ∷ walks) h =
        let g = All-head (IsMetClause c state) k clauses h in
        All-cons (IsMetClause c state) (record k { tokens = tokens }) (clauses_kept clauses walks)
        (record { clause = record { first = g.clause.first; second = g.clause.second }; met = g.met })
        (met_kept clauses walks (All-tail (IsMetClause c state) k clauses h))

  few_kept : (clauses : List Clause) (walks : List (Option (List Token)))
      → length (clauses_kept clauses walks) ≤ length clauses
  few_kept [] walks = omega arith
  few_kept (k ∷ clauses) [] = omega arith
  few_kept (k ∷ clauses) (None ∷ walks) = let l = few_kept clauses walks in omega (arith, l)
  few_kept (k ∷ clauses) (Some tokens ∷ walks) = let l = few_kept clauses walks in omega (arith, l)

  -- a clause with a complete walk of its closing window under literals
  abbrev pub ClosedIn : List (List Literal) → Clause → Type 0
  ClosedIn all k = IsComplete (judge_under (closing_window c all (literals_of k))) k.tokens

  module _ (budget : ℕ) where
    last_closed : (before clauses : List Clause) (walks : List (Option (List Token))) (all : List (List Literal))
        → all ≡ literals_of_each (before ++ clauses) → AreClosingAnswers c budget before clauses walks
        → length (clauses_kept clauses walks) ≡ length clauses
        → (literals_of_each (clauses_kept clauses walks) ≡ literals_of_each clauses)
        × All (ClosedIn all) (clauses_kept clauses walks)
    last_closed before [] [] all is h none = (refl, All-nil (ClosedIn all))
    last_closed before [] (walk ∷ walks) all is h none = absurd h
    last_closed before (k ∷ clauses) [] all is h none = absurd h
    last_closed before (k ∷ clauses) (None ∷ walks) all is h none =
        let l = few_kept clauses walks in absurd (omega (arith, l, none))
    last_closed before (k ∷ clauses) (Some tokens ∷ walks) all is h none =
        let y : Clause = record k { tokens = tokens } in
        let same : literals_of_each ((before ++ y ∷ []) ++ clauses) ≡ literals_of_each (before ++ k ∷ clauses) =
        ap literals_of_each (append_assoc before (y ∷ []) clauses)
        ∙ (map-append literals_of before (y ∷ clauses) ∙ sym (map-append literals_of before (k ∷ clauses))) in
        let rest = last_closed (before ++ y ∷ []) clauses walks all (is ∙ sym same) h.1 (omega (arith, none)) in
        let closed : ClosedIn all y =
        subst (λ (ls : List (List Literal)). IsComplete (judge_under (closing_window c ls (literals_of k))) tokens)
        (sym is) h.0.walk in (
          ap (λ (ls : List (List Literal)). literals_of k ∷ ls) rest.0,
          All-cons (ClosedIn all) y (clauses_kept clauses walks) closed rest.1,
        )

    round_few : (clauses kept : List Clause) → IsClosingRound c budget clauses kept → length kept ≤ length clauses
    round_few clauses kept h =
        let e = ap length h.stay in
        let l = few_kept clauses h.walks in
        omega (arith, e, l)

    round_met : (state : List Bool) (clauses kept : List Clause) → IsClosingRound c budget clauses kept
        → All (IsMetClause c state) clauses → All (IsMetClause c state) kept
    round_met state clauses kept h are_met =
        subst (All (IsMetClause c state)) (sym h.stay) (met_kept state clauses h.walks are_met)

    round_closed : (clauses kept : List Clause) → IsClosingRound c budget clauses kept → length kept ≡ length clauses
        → All (IsClosedUnder c kept) kept
    round_closed clauses kept h none =
        let last = last_closed [] clauses h.walks (literals_of_each clauses) refl h.answers
        (sym (ap length h.stay) ∙ none) in
        let same : literals_of_each clauses ≡ literals_of_each kept =
        sym (ap literals_of_each h.stay ∙ last.0) in
        subst (λ (ls : List (List Literal)). All (ClosedIn ls) kept) same
        (subst (All (ClosedIn (literals_of_each clauses))) (sym h.stay) last.1)

    -- the clauses that the rounds keep are met by the state, no more than before, and closed under each other
    pub rounds_hold : (state : List Bool) (n : ℕ) (clauses kept : List Clause)
        → AreClosingRounds c budget n clauses kept → All (IsMetClause c state) clauses
        → All (IsMetClause c state) kept × ((length kept ≤ length clauses) × All (IsClosedUnder c kept) kept)
    rounds_hold state zero clauses kept h are_met = (
      round_met state clauses kept h.0 are_met,
      (round_few clauses kept h.0, round_closed clauses kept h.0 h.1),
    )
    rounds_hold state (suc n) clauses kept h are_met =
        let next = h.0 in
        let rest = rounds_hold state n next kept h.1.2 (round_met state clauses next h.1.0 are_met) in
        let l = rest.1.0 in
        let m = h.1.1 in
        (rest.0, (omega (arith, l, m), rest.1.1))

each_met : (c : Netlist) (state : List Bool) (clauses : List Clause) → All (IsMetClause c state) clauses
    → meets_each (literals_of_each clauses) state ≡ true
each_met c state [] h = refl
each_met c state (k ∷ clauses) h =
    and_from _ _ (All-head (IsMetClause c state) k clauses h).met
    (each_met c state clauses (All-tail (IsMetClause c state) k clauses h))

met_clauses : (c : Netlist) (state : List Bool) (clauses : List Clause) → All (IsMetClause c state) clauses
    → All (IsClause c) clauses
met_clauses c state [] h = All-nil (IsClause c)
met_clauses c state (k ∷ clauses) h =
    All-cons (IsClause c) k clauses (All-head (IsMetClause c state) k clauses h).clause
    (met_clauses c state clauses (All-tail (IsMetClause c state) k clauses h))

module _ (c : Netlist) (state : List Bool) (held : IsState c state) where
  two_clauses : (i j : ℕ) → i < j → j < length state → All (IsClause c) (of_two i j)
  two_clauses i j less inside =
      let one : (v w : Bool) → IsClause c (clause_of (literal i v) (Some (literal j w))) =
      λ v w. record { first = omega (arith, held, less, inside); second = (less, omega (arith, held, inside)) } in
      let a : List Clause = clause_of (literal i true) (Some (literal j true)) ∷ [] in
      let b : List Clause = clause_of (literal i true) (Some (literal j false)) ∷ a in
      let d : List Clause = clause_of (literal i false) (Some (literal j true)) ∷ b in
      All-cons (IsClause c) (clause_of (literal i false) (Some (literal j false))) d (one false false)
      (All-cons (IsClause c) (clause_of (literal i false) (Some (literal j true))) b (one false true)
      (All-cons (IsClause c) (clause_of (literal i true) (Some (literal j false))) a (one true false)
      (All-cons (IsClause c) (clause_of (literal i true) (Some (literal j true))) [] (one true true)
      (All-nil (IsClause c)))))

  at_clauses : (i : ℕ) → i < length state → All (IsClause c) (candidates_at state i)
  at_clauses i inside =
      let count = min reach (length state - (i + 1)) in
      All-cons (IsClause c) (clause_of (literal i (get_or state i false)) None)
      (flat_map (of_two i) (range_with_len (i + 1) count))
      (record { first = omega (arith, held, inside); second = tt })
      (All-flat_map (IsClause c) (of_two i) (range_with_len (i + 1) count)
      (All-from i count (omega arith)))
    where
      All-from : (i count : ℕ) → i + 1 + count ≤ length state
          → All (λ j. All (IsClause c) (of_two i j)) (range_with_len (i + 1) count)
      All-from i zero h = All-nil (λ j. All (IsClause c) (of_two i j))
      All-from i (suc count) h = by (i + 1) (suc count) (omega arith) h
        where
          by : (a n : ℕ) → i < a → a + n ≤ length state
              → All (λ j. All (IsClause c) (of_two i j)) (range_with_len a n)
          by a zero less h = All-nil (λ j. All (IsClause c) (of_two i j))
          by a (suc n) less h =
              All-cons (λ j. All (IsClause c) (of_two i j)) a (range_with_len (a + 1) n)
              (two_clauses i a less (omega (arith, h))) (by (a + 1) n (omega (arith, less)) (omega (arith, h)))

  all_clauses : All (IsClause c) (candidates_of state)
  all_clauses =
      All-flat_map (IsClause c) (candidates_at state) (range_with_len 0 (length state))
      (All-range_with_len (λ i. All (IsClause c) (candidates_at state i)) 0 (length state)
      (λ i l. at_clauses i (omega (arith, l))))

  -- the first of the tried states is the named one
  met_first : (k : Clause) → is_met_by_each (tried_states c state) k ≡ true → meets state (literals_of k) ≡ true
  met_first k h =
      let at : tried_frames + 1 ≡ suc tried_frames = omega arith in
      let test : List Bool → Bool = λ s. meets s (literals_of k) in
      let all : list_all test (map (state_after c state) (range_with_len 0 (suc tried_frames))) ≡ true =
      ap (λ (n : ℕ). list_all test (map (state_after c state) (range_with_len 0 n))) (sym at) ∙ h in
      (and_parts _ _ all).0

  both : (clauses : List Clause) → All (IsClause c) clauses
      → All (λ k. is_met_by_each (tried_states c state) k ≡ true) clauses → All (IsMetClause c state) clauses
  both [] h p = All-nil (IsMetClause c state)
  both (k ∷ clauses) h p =
      All-cons (IsMetClause c state) k clauses
      (record {
        clause = All-head (IsClause c) k clauses h;
        met = met_first k (All-head (λ k. is_met_by_each (tried_states c state) k ≡ true) k clauses p);
      })
      (both clauses (All-tail (IsClause c) k clauses h)
      (All-tail (λ k. is_met_by_each (tried_states c state) k ≡ true) k clauses p))

  -- the candidates with which the rounds begin are clauses of the circuit, and the state meets them
  pub first_met : All (IsMetClause c state) (first_clauses c state)
  first_met =
      let test = is_met_by_each (tried_states c state) in
      All-take (IsMetClause c state) max_clauses (filter test (candidates_of state))
      (both (filter test (candidates_of state)) (All-filter test (IsClause c) (candidates_of state) all_clauses)
      (filter_passes test (candidates_of state)))

  -- the candidates with which the rounds begin speak of the circuit's flip-flops only
  pub first_known : knows_each c (first_clauses c state) ≡ true
  first_known = each_known c (first_clauses c state) (met_clauses c state (first_clauses c state) first_met)

  -- the clauses that the rounds leave of a state's candidates are an invariant, if there are any
  pub found_invariant : (budget : ℕ) (clauses : List Clause) → FindsClauses c budget state clauses
      → 0 < length clauses → IsInvariant c state clauses
  found_invariant budget clauses h some =
      let r = rounds_hold c budget state h.dropping (first_clauses c state) clauses h.rounds first_met in
      let l = r.1.0 in
      let t = length-take max_clauses (filter (is_met_by_each (tried_states c state)) (candidates_of state)) in
      record {
        held = held;
        some = some;
        few = omega (arith, l, t);
        known = met_clauses c state clauses r.0;
        met = each_met c state clauses r.0;
        closed = r.1.1;
      }
