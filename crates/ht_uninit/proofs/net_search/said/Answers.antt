use Rattle.std.proofs.Common.{sym, subst}
use Rattle.ht_search.specs.Outcomes.{IsOutcome}
use Rattle.ht_tree.specs.Walk.Searches.{node_at}
use Rattle.ht_uninit.specs.HeldSearches.{ClosesUnknown, SpendsHeld}
use Rattle.ht_uninit.specs.HeldWindows.{held_guide}
use Rattle.ht_uninit.proofs.net_search.said.Goals as goal

pub returns-in-Closed : goal.returns-in-Closed
returns-in-Closed c = λ budget x h.
    let v = c.args.held.now in
    subst (ClosesUnknown v.circuit budget v.members x) (sym c.from_vec.ensures)
    (subst (IsOutcome (held_guide v.circuit v.members x) budget 1 (node_at v.path)) c.in-Closed.is h)

pub returns-in-Found : goal.returns-in-Found
returns-in-Found c = λ budget x h.
    let v = c.args.held.now in
    record {
      tokens = c.in-Found.tokens.items;
      path = v.path;
      found = subst (IsOutcome (held_guide v.circuit v.members x) budget 1 (node_at v.path)) c.in-Found.is h;
      listed = c.in_ok-sets-in-Found.ensures;
    }

pub returns : goal.returns
returns c = λ budget x h.
    let v = c.args.held.now in
    subst (SpendsHeld v.circuit budget v.members x) (sym c.from_vec-in-Spent.ensures)
    (v.path, subst (IsOutcome (held_guide v.circuit v.members x) budget 1 (node_at v.path)) c.in-Spent.is h)
