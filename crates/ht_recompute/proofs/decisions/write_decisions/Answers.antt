use Rattle.std.proofs.Common.{◌++◌, ◌∷◌, [], List, get_or, take, sym, subst, arith}
use Rattle.std.proofs.lemmas.List.{take_more}
use Rattle.ht_tree.specs.declared.token.Assign3.{Assign3}
use Rattle.ht_recompute.specs.Written.{IsWritten}
use Rattle.ht_recompute.proofs.DecisionLaws.{no_decision, still_written, more_written}
use Rattle.ht_recompute.proofs.decisions.write_decisions.Goals as goal
use Rattle.ht_recompute.proofs.decisions.write_decisions.Goals.{then-var-decisions, else-var-decisions}

pub loop-decision-preserved : goal.loop-decision-preserved
loop-decision-preserved c =
    let now = c.loop-decision in
    let d = get_or c.args.path.now now.decision-index no_decision in
    let more = take_more c.args.path.now now.decision-index no_decision c.loop-decision-test.true in
    let new = c.if-var-decisions.decisions in
    let known : IsWritten new (take now.decision-index c.args.path.now ++ d ∷ []) =
    elim c.if-var-decisions.branch [
      | then-var-decisions w ↦ more_written now.decisions new (take now.decision-index c.args.path.now) d
          w.if-var-decisions.true w.decisions-is now.invariant.written
      | else-var-decisions w ↦ still_written now.decisions new (take now.decision-index c.args.path.now) d
          w.if-var-decisions.false w.decisions-is now.invariant.written
    ] in
    record {
      written = subst (λ (path : List Assign3). IsWritten new path) (sym more) known;
      room = let a = c.if-var-decisions.auto.decisions in let b = now.invariant.room in omega (arith, a, b);
    }
