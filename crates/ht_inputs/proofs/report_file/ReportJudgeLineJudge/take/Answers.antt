use Rattle.std.proofs.Common.{◌++◌, ◌∷◌, [], ◌∙◌, List, ℕ, rules, ◌≡◌, ◌≤◌, ◌+◌, length}
use Rattle.ht_inputs.proofs.Common.{JobBasis, StandsForReport, max_text_bytes}
use Rattle.ht_inputs.proofs.ReportFileLaws.{denied_is_wrong, judged_is_fine}
use Rattle.ht_inputs.proofs.report_file.ReportJudgeLineJudge.take.Goals as goal
use Rattle.ht_inputs.proofs.report_file.ReportJudgeLineJudge.take.Goals.{In_ok-line}

-- the judge stands for one line more
later : (c : In_ok-line) (basis : JobBasis) (before : List (List ℕ)) → StandsForReport c.args.self.now basis before
    → c.args._number ≤ max_text_bytes → c.args._number ≡ length before + 1
    → StandsForReport c.line.new.self basis (before ++ c.args.line.now ∷ [])
later c basis before stands within number = record {
  well_formed = stands.well_formed;
  circuit = c.in_ok-line.ensures.circuit ∙ stands.circuit;
  representatives = c.in_ok-line.ensures.representatives ∙ stands.representatives;
  judges = c.in_ok-line.ensures.taken basis.content.start basis.content.list before stands.judges;
}

pub returns-clause-stands : goal.returns-clause-stands
returns-clause-stands c = λ basis before stands number within.
    later (goal.at.returns-clause-stands c).In_ok-line basis before stands within number

pub returns-clause-fine : goal.returns-clause-fine
returns-clause-fine c = λ basis before stands number within. judged_is_fine c.line.new.self basis before
    c.args.line.now (later (goal.at.returns-clause-fine c).In_ok-line basis before stands within number)

pub returns-in_err-line-clause-wrong : goal.returns-in_err-line-clause-wrong
returns-in_err-line-clause-wrong c = λ basis before stands number within.
    let wrong = denied_is_wrong c.args.self.now basis before c.args.line.now stands c.in_err-line.field-0.0
    (c.in_err-line.ensures.cause basis.content.start basis.content.list before stands.judges) in
    search (rules, wrong)
