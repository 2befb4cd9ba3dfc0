use Rattle.std.proofs.lemmas.Grind.{common_steps}
use Rattle.std.proofs.Common.{◌∙◌, Some, sym, subst, arith}
use Rattle.ht_net.specs.Circuit.Netlist.{Netlist}
use Rattle.ht_tree.specs.Window.Windows.{IsStart}
use Rattle.ht_window.specs.Starts.{start_of}
use Rattle.ht_forward.specs.Sweeps.{SweepSpends, sweep_guide, window_of}
use Rattle.ht_forward.proofs.FoundLaws.{found_within}
use Rattle.ht_forward.proofs.LengthsLaws.{closes_more, frames_few}
use Rattle.ht_forward.proofs.SweepLaws.{sweep_spends}
use Rattle.ht_forward.proofs.sweeping.search_windows.Goals as goal

pub search_ahead-requires-clause-start : goal.search_ahead-requires-clause-start
search_ahead-requires-clause-start c =
    let count = c.lengths.invariant.1.count in
    subst (λ (n : Netlist). IsStart n (Some c.args.fault) c.lengths.frames (start_of c.args.start.now))
    (sym c.lengths.invariant.0) (c.requires.start c.lengths.frames (omega (arith, count)))

pub search_ahead-requires-clause-few : goal.search_ahead-requires-clause-few
search_ahead-requires-clause-few c =
    frames_few (sweep_guide c.args.bases.now.circuit c.args.fault (start_of c.args.start.now)) c.args.budget
    c.lengths.frames c.lengths.left c.lengths.walks.items c.lengths.invariant.1 c.requires.budget

pub returns-in-Found-clause-short : goal.returns-in-Found-clause-short
returns-in-Found-clause-short c =
    let circuit = c.args.bases.now.circuit in
    let start = start_of c.args.start.now in
    found_within (window_of circuit c.args.fault start c.lengths.frames) c.lengths.left c.in-Found.list
    (rw c.in-Found.is at (rw c.lengths.invariant.0 at c.in_ok-list.ensures.answer)) _
    (frames_few (sweep_guide circuit c.args.fault start) c.args.budget c.lengths.frames c.lengths.left
    c.lengths.walks.items c.lengths.invariant.1 c.requires.budget)

pub returns-in-Spent-clause-answer : goal.returns-in-Spent-clause-answer
returns-in-Spent-clause-answer c =
    let spent = rw c.in-Spent.is at (rw c.lengths.invariant.0 at c.in_ok-list.ensures.answer) in
    let start = start_of c.args.start.now in
    subst (SweepSpends c.args.bases.now.circuit c.args.fault start c.args.budget)
    (sym (c.from_vec.ensures ∙ c.in_ok-push-in-Spent.ensures.items))
    (sweep_spends c.args.bases.now.circuit c.args.fault start c.args.budget c.lengths.frames c.lengths.left
    c.lengths.walks.items c.lengths.invariant.1 c.in-Spent.tokens spent)

pub lengths-preserved : goal.lengths-preserved
lengths-preserved c =
    let closed = rw c.in-Closed.is at (rw c.lengths.invariant.0 at c.in_ok-list.ensures.answer) in (
      c.search_ahead.ensures.circuit ∙ c.lengths.invariant.0,
      closes_more c.lengths.invariant.1 closed c.as_slice.ensures c.in_ok-push-in-Closed.ensures.items,
    )

pub overflow_add-frames : goal.overflow_add-frames
overflow_add-frames c = grind (arith, common_steps)
