use Rattle.std.proofs.lemmas.Grind.{common_steps}
use Rattle.std.proofs.Common.{◌∙◌, sym, subst, arith}
use Rattle.ht_forward.proofs.LengthsLaws.{closes_more, frames_few}
use Rattle.ht_forward.specs.LengthAnswers.{FindsAfter}
use Rattle.ht_forward.proofs.LengthFinds.{finds_after}
use Rattle.ht_forward.proofs.lengths.search_lengths.Goals as goal

pub search-requires-clause-few : goal.search-requires-clause-few
search-requires-clause-few g c =
    frames_few (g.S.LengthSearch.guide (g.S.LengthSearch.subject c.args.search.now)) c.args.budget c.lengths.frames
    c.lengths.left c.lengths.walks.items c.lengths.invariant.1 c.requires

pub returns-in-Found-clause-answer : goal.returns-in-Found-clause-answer
returns-in-Found-clause-answer g c =
    let s = g.S.LengthSearch.subject c.args.search.now in
    let guide = g.S.LengthSearch.guide s in
    let Finds = g.S.LengthSearch.Finds s in
    subst (FindsAfter guide Finds c.args.budget c.in-Found.list) (sym c.from_vec.ensures)
    (finds_after guide Finds c.args.budget c.lengths.frames c.lengths.left c.in-Found.list c.lengths.walks.items
    c.lengths.invariant.1 c.requires (rw c.in-Found.is at (rw c.lengths.invariant.0 at c.in_ok-list.ensures.answer)))

pub lengths-preserved : goal.lengths-preserved
lengths-preserved g c =
    let closed = rw c.in-Closed.is at (rw c.lengths.invariant.0 at c.in_ok-list.ensures.answer) in (
      c.search.ensures.subject ∙ c.lengths.invariant.0,
      closes_more c.lengths.invariant.1 closed c.as_slice.ensures c.in_ok-push-in-Closed.ensures.items,
    )

pub overflow_add-frames : goal.overflow_add-frames
overflow_add-frames g c = grind (arith, common_steps)
