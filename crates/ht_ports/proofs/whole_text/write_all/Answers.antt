use Rattle.std.proofs.Common.{rules}
use Rattle.std.proofs.lemmas.List.{take_rest}
use Rattle.ht_ports.proofs.CallLaws.{writes_trans, added_part}
use Rattle.ht_ports.proofs.whole_text.write_all.Goals as goal

pub loop-done-preserved : goal.loop-done-preserved
loop-done-preserved g c =
    let added = rw take_rest at c.in_ok-done.ensures.added in (
      search rules,
      writes_trans _ _ _ _ c.loop-done.invariant.1 c.in_ok-done.ensures.frame,
      added_part _ _ _ _ _ _ _
          c.loop-done.invariant.2 added,
    )
