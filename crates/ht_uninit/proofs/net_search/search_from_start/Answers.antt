use Rattle.std.proofs.Common.{◌∙◌, ap, sym, subst}
use Rattle.std.proofs.lemmas.Result.{IfOk-weaker}
use Rattle.ht_search.proofs.WindowStepLaws.{window_node}
use Rattle.ht_search.specs.Outcomes.{IsOutcome}
use Rattle.ht_tree.specs.Walk.Searches.{node_at}
use Rattle.ht_tree.specs.Walk.Walks.{Node}
use Rattle.ht_uninit.specs.HeldStates.{HeldNet, guide_for}
use Rattle.ht_uninit.specs.Rounds.{IsOutput}
use Rattle.ht_uninit.proofs.net_search.search_from_start.Goals as goal

pub search-requires-clause-start : goal.search-requires-clause-start
search-requires-clause-start c = window_node c.args.problem.now.held.path ∙ ap node_at c.requires

pub returns-clause-circuit : goal.returns-clause-circuit
returns-clause-circuit c =
    IfOk-weaker c.said.result _ _ (λ out is. ap (λ (s : HeldNet). s.circuit) c.search.ensures.subject) c.said.ensures

pub returns-clause-members : goal.returns-clause-members
returns-clause-members c =
    IfOk-weaker c.said.result _ _ (λ out is. ap (λ (s : HeldNet). s.members) c.search.ensures.subject) c.said.ensures

pub returns-clause-out : goal.returns-clause-out
returns-clause-out c =
    let same = c.search.ensures.subject in
    let path = c.search.new.problem.held.path in
    let at_path = subst (λ (n : Node). IsOutcome (guide_for (record {
      circuit = c.args.problem.now.held.circuit;
      members = c.args.problem.now.held.members;
      net = c.args.problem.now.net.0;
    })) c.args.budget 1 n c.in_ok-outcome.outcome) (window_node path) c.in_ok-outcome.ensures.outcome in
    IfOk-weaker c.said.result _ _ (λ out is.
    subst (λ (s : HeldNet). IsOutput s.circuit c.args.budget s.members s.net out) same
    (is c.args.budget c.search.new.problem.net.0
    (subst (λ (s : HeldNet). IsOutcome (guide_for s) c.args.budget 1 (node_at path) c.in_ok-outcome.outcome) (sym same)
    at_path))) c.said.ensures
