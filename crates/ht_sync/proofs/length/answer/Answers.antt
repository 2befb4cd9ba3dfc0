use Rattle.std.proofs.Common.{List, sym, subst}
use Rattle.ht_tree.specs.Walk.Searches.{Closes, SpendsAt, node_at}
use Rattle.ht_tree.specs.declared.token.Token.{Token}
use Rattle.ht_sync.specs.SyncWindows.{sync_guide}
use Rattle.ht_sync.proofs.length.answer.Goals as goal

pub returns-in-Closed : goal.returns-in-Closed
returns-in-Closed c = λ budget outcome.
    let frames = c.args.trial.now.frames in
    let guide = sync_guide c.args.trial.now.window.window.circuit frames in
    subst (λ (ts : List Token). Closes guide budget frames ts) (sym c.from_vec.ensures)
    (rw c.in-Closed.is at outcome)

pub returns-in-Spent : goal.returns-in-Spent
returns-in-Spent c = λ budget outcome.
    let frames = c.args.trial.now.frames in
    let guide = sync_guide c.args.trial.now.window.window.circuit frames in
    let n = node_at c.args.trial.now.window.decisions in (
      n,
      subst (λ (ts : List Token). SpendsAt guide budget frames ts n) (sym c.from_vec-in-Spent.ensures)
          (rw c.in-Spent.is at outcome),
    )

pub returns : goal.returns
returns c = λ budget outcome.
    record {
      tokens = c.in-Found.tokens.items;
      path = c.args.trial.now.window.decisions;
      found = rw c.in-Found.is at outcome;
      listed = c.in_ok-list-in-Found.ensures;
    }
