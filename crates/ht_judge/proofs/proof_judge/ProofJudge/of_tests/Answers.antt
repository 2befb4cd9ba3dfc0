use Rattle.std.proofs.Common.{◌∙◌, sym}
use Rattle.ht_judge.proofs.FollowLaws.{follows_tests}
use Rattle.ht_judge.proofs.proof_judge.ProofJudge.of_tests.Goals as goal

pub returns-clause-stands : goal.returns-clause-stands
returns-clause-stands c = λ content start budget first.
    follows_tests c.begin.result c.args.circuit.now c.args.classes.now content c.args.start.now c.args.detections.now
    c.begin.ensures.live c.begin.ensures.follows c.begin.ensures.circuit c.begin.ensures.classes start
    c.begin.ensures.start (budget ∙ sym c.begin.ensures.budget) (c.begin.ensures.saids ∙ c.in_ok-saids.ensures)
    c.begin.ensures.reader first
