use Rattle.std.proofs.Common.{◌++◌, ◌∷◌, [], ◌∙◌, List, ℕ, rules, ◌≡◌, ◌≤◌, ◌+◌, length, arith}
use Rattle.ht_inputs.proofs.Common.{JobBasis, StandsForProofs, before_proofs, max_text_bytes}
use Rattle.ht_inputs.proofs.ProofsFileLaws.{denied_is_wrong, judged_by, judged_is_fine}
use Rattle.ht_inputs.proofs.proofs_file.ProofJudgeLineJudge.take.Goals as goal
use Rattle.ht_inputs.proofs.proofs_file.ProofJudgeLineJudge.take.Goals.{In_ok-line}

-- the judge stands for one line more
later : (c : In_ok-line) (basis : JobBasis) (before : List (List ℕ)) → StandsForProofs c.args.self.now basis before
    → c.args._number ≤ max_text_bytes → c.args._number ≡ length before + 1
    → StandsForProofs c.line.new.self basis (before ++ c.args.line.now ∷ [])
later c basis before stands within number =
    let judged = judged_by basis.follows _ _ _ _ c.in_ok-line.ensures.judged c.in_ok-line.ensures.followed in record {
      circuit = judged.circuit ∙ stands.circuit;
      representatives = judged.representatives ∙ stands.representatives;
      judges = judged.taken (before_proofs basis.content) before stands.judges (omega (arith, number, within));
    }

pub returns-clause-stands : goal.returns-clause-stands
returns-clause-stands c = λ basis before stands number within.
    later (goal.at.returns-clause-stands c).In_ok-line basis before stands within number

pub returns-clause-fine : goal.returns-clause-fine
returns-clause-fine c = λ basis before stands number within. judged_is_fine c.line.new.self basis before
    c.args.line.now (later (goal.at.returns-clause-fine c).In_ok-line basis before stands within number)

pub returns-in_err-line-clause-wrong : goal.returns-in_err-line-clause-wrong
returns-in_err-line-clause-wrong c = λ basis before stands number within.
    let judged = judged_by basis.follows _ _ _ _ c.in_err-line.ensures.judged c.in_err-line.ensures.followed in
    let wrong = denied_is_wrong c.args.self.now basis before c.args.line.now stands c.in_err-line.field-0.0
    (judged.cause (before_proofs basis.content) before stands.judges (omega (arith, number, within))) in
    search (rules, wrong)
