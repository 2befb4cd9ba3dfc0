-- Windows under clauses that are searched alike: of sets with the same members, and by paths with the same values; and
-- the budget that is enough for them.
use Rattle.std.specs.List.{find, list_all, list_any}
use Rattle.std.proofs.Common.{◌≡◌, ◌≤◌, ◌+◌, ◌^◌, ℕ, List, false, not, cond, refl, arith}
use Rattle.std.proofs.Math.Pow.{pow_mono}
use Rattle.ht_net.specs.Circuit.Netlist.{IsCircuit, Netlist}
use Rattle.ht_net.specs.declared.fault.Fault.{Fault}
use Rattle.ht_tree.specs.Walk.Budgets.{refutation_cost}
use Rattle.ht_tree.specs.Window.Decisions.{decided_value, is_in}
use Rattle.ht_tree.specs.Walk.Searches.{SpendsAt}
use Rattle.ht_tree.specs.Window.Variables.{variable_count}
use Rattle.ht_tree.specs.Walk.Walks.{Node, path_of}
use Rattle.ht_tree.specs.Window.WindowStatus.{without_place}
use Rattle.ht_tree.specs.declared.token.Assign3.{Assign3}
use Rattle.ht_tree.specs.declared.token.Status3.TheVariants.{Dead}
use Rattle.ht_tree.specs.declared.token.Token.{Token}
use Rattle.ht_tree.proofs.DifferenceCountLaws.{few_variables}
use Rattle.ht_records.proofs.SetLaws.{pick_same, status_same, two_same}
use Rattle.ht_tree.specs.declared.clause.Literal.{Literal}
use Rattle.ht_tree.specs.Clause.Clauses.{AreKnownClauses, is_decided_against, is_decided_to, path_breaks, path_meets}
use Rattle.ht_tree.specs.Clause.ClauseWindows.{ClauseWindow, open_if_sure, window_under}
use Rattle.ht_tree.specs.Clause.ClauseSearches.{choice_if_open, choice_or, guide_under, to_clause}
use Rattle.ht_records.proofs.CountLaws.{clause_search_enough}

module _ (c : Netlist) (fault : Fault) (clauses : List (List Literal)) (z z' : List ℕ)
    (same : (j : ℕ) → is_in z j ≡ is_in z' j) where
  -- searches under clauses of sets with the same flip-flops go by the same guide
  pub guide_under_same : guide_under (window_under c fault z clauses) ≡ guide_under (window_under c fault z' clauses)
  guide_under_same = (λ k. record {
    judge = record {
      status = λ n. cond (list_any (path_breaks c (path_of n)) clauses) Dead
          (cond (list_all (path_meets c (path_of n)) clauses)
          (without_place (status_same c fault z z' same (path_of n) k))
          (open_if_sure (without_place (status_same c fault z z' same (path_of n) k))));
      two = λ n var. two_same c fault z z' same var k;
      three = λ n var. false;
      before = λ n. false;
    };
    choice = λ n. choice_or (to_clause c (path_of n) (find (λ literals. not (path_meets c (path_of n) literals)) clauses))
        (choice_if_open (without_place (status_same c fault z z' same (path_of n) k))
        (pick_same c fault z z' same (path_of n) k));
  })

-- whether a path meets or breaks a clause depends on the values that it decided
module _ (c : Netlist) (p q : List Assign3) (same : (var : ℕ) → decided_value p var ≡ decided_value q var) where
  -- paths that decided the same values meet the same clauses
  pub meets_by_values : path_meets c p ≡ path_meets c q
  meets_by_values =
      (λ k literals. list_any (λ (l : Literal). is_decided_to l.value (same (c.inputs + l.dff) k)) literals)

  -- paths that decided the same values break the same clauses
  pub breaks_by_values : path_breaks c p ≡ path_breaks c q
  breaks_by_values =
      (λ k literals. list_all (λ (l : Literal). is_decided_against l.value (same (c.inputs + l.dff) k)) literals)

-- a budget for all one-frame windows is enough for those under clauses
pub refuting_enough : (c : Netlist) (fault : Fault) (z : List ℕ) (clauses : List (List Literal)) (budget : ℕ)
    (tokens : List Token) (n : Node) → IsCircuit c → AreKnownClauses c clauses → refutation_cost c ≤ budget
    → ¬ SpendsAt (guide_under (window_under c fault z clauses)) budget 1 tokens n
refuting_enough c fault z clauses budget tokens n circuit known h =
    let w : ClauseWindow = window_under c fault z clauses in
    let few = few_variables w.window in
    let less : 2 ^ (variable_count w.window + 1) ≤ refutation_cost c = pow_mono (omega (arith, few)) in
    clause_search_enough w budget tokens n
    (record { window = record { circuit = circuit; start = refl }; one_frame = refl; sought = tt; known = known })
    (omega (arith, less, h))
