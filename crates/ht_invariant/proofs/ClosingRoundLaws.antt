-- The searches of a round, one by one.
use Rattle.std.proofs.Common.{◌≡◌, ◌<◌, ◌≤◌, ◌+◌, ◌∙◌, ℕ, suc, List, [], ◌∷◌, ◌++◌, Bool, true, Option, Some, None, length, get_or, set, take, drop, refl, sym, ap, subst, arith, append_assoc, length-append}
use Rattle.std.specs.List.{remove}
use Rattle.std.proofs.lemmas.Bool.{and_parts, and_from}
use Rattle.std.proofs.lemmas.List.{append-nil, drop_all, drop_more, drop-set-lt, drop_at, take_all, take_at, take_more_set, take-append-drop, length-set, length-take-le}
use Rattle.std.proofs.lemmas.List.Folds.{list_all-append}
use Rattle.ht_net.specs.Circuit.Netlist.{Netlist}
use Rattle.ht_tree.specs.declared.token.Token.{Token}
use Rattle.ht_tree.specs.declared.clause.Clause.{Clause}
use Rattle.ht_tree.specs.Clause.Clauses.{literals_of}
use Rattle.ht_invariant.specs.Trials.{knows, knows_each}
use Rattle.ht_invariant.specs.UnderWay.{IsUnderWay, LeadsToRound}
use Rattle.ht_invariant.specs.ClosingRounds.{AreClosingRounds, IsClosingAnswer, IsClosingRound, closing_guide, clause_kept, clauses_kept}

module _ (c : Netlist) where
  abbrev known : Clause → Bool
  known k = knows c (literals_of k)

  -- the flip-flops of a clause among others
  knows_parts : (before : List Clause) (k : Clause) (rest : List Clause) → knows_each c (before ++ k ∷ rest) ≡ true
      → (knows_each c before ≡ true) × ((known k ≡ true) × (knows_each c rest ≡ true))
  knows_parts before k rest h =
      let p = and_parts (knows_each c before) (knows_each c (k ∷ rest))
      (sym (list_all-append known before (k ∷ rest)) ∙ h) in
      (p.0, and_parts (known k) (knows_each c rest) p.1)

  knows_join : (before rest : List Clause) → knows_each c before ≡ true → knows_each c rest ≡ true
      → knows_each c (before ++ rest) ≡ true
  knows_join before rest h k = list_all-append known before rest ∙ and_from _ _ h k

  module _ (budget : ℕ) (initial : List Clause) where
    lead_one : (before : List Clause) (k : Clause) (rest : List Clause) (walk : Option (List Token))
        → IsClosingAnswer (closing_guide c (before ++ k ∷ rest) k) budget walk
        → LeadsToRound c budget initial before (k ∷ rest)
        → LeadsToRound c budget initial (before ++ clause_kept k walk) rest
    lead_one before k rest walk answer lead walks h =
        subst (IsClosingRound c budget initial)
        (sym (append_assoc before (clause_kept k walk) (clauses_kept rest walks))) (lead (walk ∷ walks) (answer, h))

    -- where no clause is left to search, the clauses done are what the round makes of the first ones
    pub lead_end : (before : List Clause) → LeadsToRound c budget initial before []
        → IsClosingRound c budget initial before
    lead_end before lead = subst (IsClosingRound c budget initial) (append-nil before) (lead [] tt)

module _ (c : Netlist) (budget : ℕ) (initial clauses : List Clause) (i : ℕ)
    (way : IsUnderWay c budget initial clauses i) where
  -- where all clauses of a round are done, they are what it makes of the first ones
  pub round_ends : length clauses ≤ i → IsClosingRound c budget initial clauses
  round_ends all =
      lead_end c budget initial clauses
      (subst (λ (before : List Clause). LeadsToRound c budget initial before []) (take_all i clauses all)
      (subst (LeadsToRound c budget initial (take i clauses)) (drop_all i clauses all) way.leads))

  module _ (inside : i < length clauses) (k : Clause) (is : k ≡ get_or clauses i k) where
    abbrev before : List Clause
    before = take i clauses

    abbrev rest : List Clause
    rest = drop (i + 1) clauses

    split : drop i clauses ≡ k ∷ rest
    split = drop_more clauses i k inside ∙ ap (λ (x : Clause). x ∷ rest) (sym is)

    whole : before ++ k ∷ rest ≡ clauses
    whole = ap (λ (xs : List Clause). before ++ xs) (sym split) ∙ take-append-drop i clauses

    before_long : length before ≡ i
    before_long = length-take-le i clauses (omega (arith, inside))

    parts : (knows_each c before ≡ true) × ((known c k ≡ true) × (knows_each c rest ≡ true))
    parts = knows_parts c before k rest (ap (knows_each c) whole ∙ way.known_each)

    lead_here : (walk : Option (List Token)) → IsClosingAnswer (closing_guide c clauses k) budget walk
        → LeadsToRound c budget initial (before ++ clause_kept k walk) rest
    lead_here walk answer =
        lead_one c budget initial before k rest walk
        (subst (λ (all : List Clause). IsClosingAnswer (closing_guide c all k) budget walk) (sym whole) answer)
        (subst (LeadsToRound c budget initial before) split way.leads)

    -- the clause stays, with its walk
    pub clause_stays : (tokens : List Token) (new : List Clause) → new ≡ set clauses i (record k { tokens = tokens })
        → IsClosingAnswer (closing_guide c clauses k) budget (Some tokens) → IsUnderWay c budget initial new (i + 1)
    clause_stays tokens new new_is answer =
        let y : Clause = record k { tokens = tokens } in
        let front : take (i + 1) new ≡ before ++ y ∷ [] =
        ap (take (i + 1)) new_is ∙ take_more_set clauses i y inside in
        let back : drop (i + 1) new ≡ rest =
        ap (drop (i + 1)) new_is ∙ drop-set-lt (i + 1) clauses i y (omega arith) in
        let long = ap length new_is ∙ length-set clauses i y in
        let few = way.few in
        record {
          within = omega (arith, long, inside);
          few = omega (arith, long, few);
          known_each =
              ap (knows_each c) (sym (take-append-drop (i + 1) new) ∙ (λ n. front n ++ back n))
              ∙ knows_join c (before ++ y ∷ []) rest
              (knows_join c before (y ∷ []) parts.0 (and_from (known c y) true parts.1.0 refl)) parts.1.1;
          leads = subst (λ (b : List Clause). LeadsToRound c budget initial b (drop (i + 1) new)) (sym front)
              (subst (LeadsToRound c budget initial (before ++ y ∷ [])) (sym back) (lead_here (Some tokens) answer));
        }

    -- the clause is dropped
    pub clause_drops : (new : List Clause) → new ≡ remove clauses i
        → IsClosingAnswer (closing_guide c clauses k) budget None → IsUnderWay c budget initial new i
    clause_drops new new_is answer =
        let at : suc i ≡ i + 1 = omega arith in
        let joined : new ≡ before ++ rest = new_is ∙ ap (λ (n : ℕ). before ++ drop n clauses) at in
        let front : take i new ≡ before = ap (take i) joined ∙ take_at before rest i before_long in
        let back : drop i new ≡ rest = ap (drop i) joined ∙ drop_at before rest i before_long in
        let long = ap length joined ∙ length-append before rest in
        let all = sym (ap length whole) ∙ length-append before (k ∷ rest) in
        let b = before_long in
        let few = way.few in
        record {
          within = omega (arith, long, b);
          few = omega (arith, long, all, few);
          known_each = ap (knows_each c) joined ∙ knows_join c before rest parts.0 parts.1.1;
          leads = subst (λ (b : List Clause). LeadsToRound c budget initial b (drop i new)) (sym front)
              (subst (LeadsToRound c budget initial before) (sym back)
              (subst (λ (b : List Clause). LeadsToRound c budget initial b rest) (append-nil before)
              (lead_here None answer)));
        }

-- The rounds so far: what they come to from here, they come to from the first clauses.
abbrev pub RoundsLead : Netlist → ℕ → List Clause → List Clause → Type 0
RoundsLead c budget initial clauses = (n : ℕ) (kept : List Clause) → AreClosingRounds c budget n clauses kept
    → (m : ℕ) × AreClosingRounds c budget m initial kept

-- after a round that drops a clause, what the rounds come to is still what they come to from the first clauses
pub rounds_go_on : (c : Netlist) (budget : ℕ) (initial clauses next : List Clause) → RoundsLead c budget initial clauses
    → IsClosingRound c budget clauses next → length next < length clauses → RoundsLead c budget initial next
rounds_go_on c budget initial clauses next lead round fewer n kept h = lead (suc n) kept (next, (round, fewer, h))
