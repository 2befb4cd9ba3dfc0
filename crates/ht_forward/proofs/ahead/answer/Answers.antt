use Rattle.std.proofs.Common.{◌∙◌, List, ap, sym, subst, arith}
use Rattle.ht_tree.specs.Walk.Searches.{Closes, SpendsAt, guide_of, node_at}
use Rattle.ht_tree.specs.Window.Windows.{SearchWindow, token_weight}
use Rattle.ht_tree.specs.Window.WindowStatus.{status_at, without_place}
use Rattle.ht_tree.specs.declared.token.Token.{Token}
use Rattle.ht_tree.proofs.DifferenceLaws.{window_stays}
use Rattle.ht_forward.proofs.ahead.answer.Goals as goal

pub sure_frame-requires-clause-sure : goal.sure_frame-requires-clause-sure
sure_frame-requires-clause-sure c =
    let ds = c.args.window.now.decisions in
    let stays = window_stays c.args.window.now.window (node_at ds) c.requires.seeks in
    let found = rw c.in-Found.is at c.requires.outcome.1 in
    ap (λ (w : SearchWindow). without_place (status_at w ds)) (sym stays) ∙ found.found.sure

pub overflow_add-sure_frame : goal.overflow_add-sure_frame
overflow_add-sure_frame c =
    let known = c.sure_frame.ensures.known in
    let few = c.requires.few in
    omega (arith, known, few)

pub list-requires : goal.list-requires
list-requires c =
    let known = c.sure_frame.ensures.known in
    omega (arith, known)

pub returns-in-Closed : goal.returns-in-Closed
returns-in-Closed c = λ budget outcome.
    let w = c.args.window.now.window in
    subst (λ (ts : List Token). Closes (guide_of w) budget (token_weight w) ts) (sym c.from_vec.ensures)
    (rw c.in-Closed.is at outcome)

pub returns-in-Spent : goal.returns-in-Spent
returns-in-Spent c = λ budget outcome.
    let w = c.args.window.now.window in
    let path = c.args.window.now.decisions in (
      path,
      subst (λ (ts : List Token). SpendsAt (guide_of w) budget (token_weight w) ts (node_at path))
          (sym c.from_vec-in-Spent.ensures) (rw c.in-Spent.is at outcome),
    )

pub returns : goal.returns
returns c = λ budget outcome.
    record {
      tokens = c.in-Found.tokens.items;
      path = c.args.window.now.decisions;
      frame = c.sure_frame.result;
      spot = c.sure_frame.ensures.sure.0;
      found = rw c.in-Found.is at outcome;
      sure = c.sure_frame.ensures.sure.1;
      known = c.sure_frame.ensures.known;
      listed = c.in_ok-list-in-Found.ensures;
    }
