-- What the rounds of a refutation from a state mean.
use Rattle.std.proofs.Common.{◌≡◌, ◌<◌, ◌≤◌, ◌+◌, ◌*◌, ◌∙◌, ℕ, List, [], ◌∷◌, ◌++◌, Bool, true, length, sym, ap, arith}
use Rattle.std.specs.List.{list_all}
use Rattle.ht_net.specs.declared.fault.Fault.{Fault}
use Rattle.ht_net.specs.Circuit.Netlist.{IsCircuit, Netlist}
use Rattle.ht_tree.specs.declared.clause.Clause.{Clause}
use Rattle.ht_tree.specs.declared.clause.Literal.{Literal}
use Rattle.ht_tree.specs.declared.token.Token.{Token}
use Rattle.ht_tree.specs.declared.told.Told.{Told}
use Rattle.ht_tree.specs.Walk.Walks.{Node}
use Rattle.ht_tree.specs.Window.Decisions.{is_in}
use Rattle.ht_tree.specs.Walk.Searches.{Closes, Guide, SpendsAt, node_at}
use Rattle.ht_tree.specs.Walk.Budgets.{refutation_cost}
use Rattle.ht_tree.specs.Record.ToldChains.{AreChained, is_output, path_by, states_of}
use Rattle.ht_tree.specs.Clause.Clauses.{AreKnownClauses, literals_of_each}
use Rattle.ht_tree.specs.Clause.ClauseWindows.{judge_under, window_under}
use Rattle.ht_tree.specs.Clause.Invariants.{IsInvariant}
use Rattle.ht_tree.specs.Record.RefutationsFrom.{RefutesFrom}
use Rattle.ht_tree.specs.Record.ToldUnder.{TellsUnder}
use Rattle.ht_records.proofs.FromLaws.{refuted_from}
use Rattle.ht_records.proofs.MeetLaws.{clauses_known}
use Rattle.ht_records.proofs.StatusLaws.{sure_under}
use Rattle.ht_records.proofs.ChainLaws.{chain_lies_in_under, chain_to_output_under}
use Rattle.ht_records.proofs.GrowLaws.{chained_more}
use Rattle.ht_records.proofs.UnderLaws.{guide_under_same, meets_by_values, refuting_enough}
use Rattle.ht_window.specs.Starts.{marked}
use Rattle.ht_oneframe.specs.Rounds.{FindsFrame, SpendsIn}
use Rattle.ht_oneframe.proofs.FoundLaws.{chained_each, ends_push, frame_same, path_tells, told_values}
use Rattle.ht_oneframe.proofs.LegalLaws.{top_legal}
use Rattle.ht_oneframe.proofs.MarkLaws.{marked_below, marked_rises}
use Rattle.ht_oneframe.proofs.RoundLaws.{AreRounds, DependsOnMembers, same_set}
use Rattle.ht_invariant.specs.FromStates.{FindsMembers, LieInEverySealIn, RefutesLeastFrom, SpendsUnder, TellsOutputUnder, guide_from}

-- the token that a search has no room for is the first beyond its budget
spends_exactly : (g : Guide) (budget : ℕ) (tokens : List Token) (n : Node) → SpendsAt g budget 1 tokens n
    → length tokens ≡ budget
spends_exactly g budget tokens n h =
    let within : length tokens * 1 ≤ budget = h.keeps.within in
    let full : budget < length tokens * 1 + 1 = h.spent in
    omega (arith, within, full)

module _ (c : Netlist) (fault : Fault) (clauses : List (List Literal)) where
  -- the guide of a set under clauses depends on the members of the set only
  pub depends : DependsOnMembers (guide_from c fault clauses)
  depends z more same = guide_under_same c fault clauses z more same

  -- the set of the marks so far
  pub finds_members : (budget : ℕ) (marks : List Bool) (chain : List Told)
      → AreRounds c fault (guide_from c fault clauses) budget marks chain → (z : List ℕ) → z ≡ marked 0 marks
      → FindsMembers c fault clauses budget z
  finds_members budget marks chain rounds z is = record {
    chain = chain;
    states = rounds.states;
    rises = marked_rises marks z is;
    same = λ j. ap (λ (xs : List ℕ). is_in xs j) is
        ∙ same_set c fault (guide_from c fault clauses) budget marks chain rounds j;
  }

  module _ (budget : ℕ) (circuit : IsCircuit c) where
    -- what a search tells is a told frame under the clauses
    pub frame_tells_under : (z : List ℕ) (told : Told) → FindsFrame c fault (guide_from c fault clauses) budget z told
        → TellsUnder c fault clauses z told
    frame_tells_under z told h =
        let w = window_under c fault z clauses in
        let legal = top_legal c fault z (judge_under w).status h.tokens (node_at h.path) h.found.walk.fit h.found.top in
        let values = told_values c fault z told h.path circuit legal h.sets in
        record {
          tells = path_tells c fault z told h.path circuit legal h.sets h.sure;
          met = ap (λ (test : List Literal → Bool). list_all test clauses)
              (meets_by_values c (path_by told.sets) h.path values) ∙ (sure_under w h.path h.found.found.sure).0;
        }

    chain_tells_under : (chain : List Told)
        → AreChained (FindsFrame c fault (guide_from c fault clauses) budget) [] chain
        → AreChained (TellsUnder c fault clauses) [] chain
    chain_tells_under chain h =
        chained_each (FindsFrame c fault (guide_from c fault clauses) budget) (TellsUnder c fault clauses)
        frame_tells_under [] chain h

    module _ (known : AreKnownClauses c clauses) (z : List ℕ) (members : FindsMembers c fault clauses budget z) where
      -- the flip-flops of the set are in each set that seals the fault as long as the clauses are met
      pub members_lie : LieInEverySealIn c fault clauses z
      members_lie more seal j in_z =
          chain_lies_in_under c fault clauses members.chain more circuit known
          (chain_tells_under members.chain members.states.found) seal j (sym (members.same j) ∙ in_z)

      -- a frame found at an output tells it under the clauses, so no set seals the fault as long as they are met
      pub output_is_told : (told : Told) → is_output told.place ≡ true
          → FindsFrame c fault (guide_from c fault clauses) budget z told → TellsOutputUnder c fault clauses z told
      output_is_told told output found =
          let g = guide_from c fault clauses in
          let chain = members.chain in
          let more = chained_more (FindsFrame c fault g budget) [] chain told members.states.found members.states.hidden
          (frame_same c fault g budget z (states_of chain) told members.same
          (depends z (states_of chain) members.same) found) in
          record {
            tells = frame_tells_under z told found;
            output = output;
            lie = members_lie;
            unsealed = λ set. chain_to_output_under c fault clauses (chain ++ told ∷ []) set circuit known
                (chain_tells_under (chain ++ told ∷ []) more) (ends_push chain told members.states.hidden ∙ output);
          }

      -- a search of the set that spends the budget leaves an open walk of as many tokens as the budget has
      pub budget_is_spent : (tokens : List Token) → SpendsIn (guide_from c fault clauses) budget z tokens
          → SpendsUnder c fault clauses budget z tokens
      budget_is_spent tokens spends = record {
        lie = members_lie;
        walk = spends.1.walk;
        exact = spends_exactly (guide_from c fault clauses z) budget tokens (node_at spends.0) spends.1;
      }

  -- a budget that a search under clauses spends is less than a refutation costs
  pub spends_little : (budget : ℕ) (z : List ℕ) (tokens : List Token) → IsCircuit c → AreKnownClauses c clauses
      → SpendsIn (guide_from c fault clauses) budget z tokens → ¬ (refutation_cost c ≤ budget)
  spends_little budget z tokens circuit known spends large =
      refuting_enough c fault z clauses budget tokens (node_at spends.0) circuit known large spends.1

-- the set of a search that closed is the least
pub set_is_least_from : (c : Netlist) (fault : Fault) (state : List Bool) (clauses : List Clause) (budget : ℕ)
    (marks : List Bool) (z : List ℕ) (tokens : List Token) → IsCircuit c → IsInvariant c state clauses
    → length marks ≡ length c.dffs → z ≡ marked 0 marks → FindsMembers c fault (literals_of_each clauses) budget z
    → Closes (guide_from c fault (literals_of_each clauses) z) budget 1 tokens
    → RefutesLeastFrom c fault state clauses z tokens
set_is_least_from c fault state clauses budget marks z tokens circuit invariant long is members closes =
    let refutes : RefutesFrom c fault state clauses z tokens = record {
      invariant = invariant;
      rises = members.rises;
      known = λ i l. let e = marked_below marks z is i l in omega (arith, e, long);
      complete = closes.walk;
    } in
    record {
      refutes = refutes;
      untestable = refuted_from c fault state clauses z tokens circuit refutes;
      least = members_lie c fault (literals_of_each clauses) budget circuit (clauses_known c clauses invariant.known) z
          members;
    }
