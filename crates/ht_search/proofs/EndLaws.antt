-- How a search ends.
use Rattle.std.proofs.Common.{◌≡◌, ◌<◌, ◌+◌, ◌*◌, ℕ, length, reverse, arith}
use Rattle.ht_tree.specs.Walk.Walks.{IsOpen, root_stack, stack_after}
use Rattle.ht_tree.specs.Walk.Searches.{Guide, Keeps, IsFound, SpendsAt}
use Rattle.ht_search.specs.declared.problem.Point.{Point}
use Rattle.ht_search.specs.declared.progress.SearchProgress.{SearchProgress}
use Rattle.ht_search.specs.Routes.{Route}
use Rattle.ht_search.specs.Progressed.{IsWalked}
use Rattle.ht_search.proofs.WaitLaws.{is_on_top, top_is}

module _ (g : Guide) (start : Point) (now : Route) (p : SearchProgress) (w : IsWalked g start now p) (unit budget : ℕ)
    (weight : length p.tokens.items * unit + p.left ≡ budget) where
  keeps_so_far : Keeps g budget unit p.tokens.items
  keeps_so_far = record { chosen = w.chosen; within = let k = length p.tokens.items * unit in omega arith }

  is_open : IsOpen g.judge p.tokens.items
  is_open = record {
    fit = w.fit;
    unfinished = λ none.
        let t = top_is g.judge start now (reverse p.untried.items) (stack_after root_stack p.tokens.items) w.stack in
        let e = t.1 in cc;
  }

  -- a search that hasn't found what it looks for and whose budget has no room for one more token is spent
  pub spends : (¬ IsFound g.judge now.here.node) → p.left < unit → SpendsAt g budget unit p.tokens.items now.here.node
  spends asks few = record {
    walk = is_open;
    keeps = keeps_so_far;
    top = is_on_top g.judge start now (reverse p.untried.items) (stack_after root_stack p.tokens.items) w.stack;
    asks = asks;
    spent = let k = length p.tokens.items * unit in omega arith;
  }
