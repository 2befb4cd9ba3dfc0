use Rattle.std.proofs.Common.{◌≡◌, ◌∙◌, Err, ap, rules}
use Rattle.ht_judge.specs.JudgingSteps.{due_by}
use Rattle.ht_judge.proofs.FollowLaws.{due_stops_following, ended_stops_following, line_followed}
use Rattle.ht_judge.proofs.ProofLaws.{due_stops, ended_stops, line_taken}
use Rattle.ht_judge.proofs.proof_judge.ProofJudge.judge_line.Goals as goal

pub returns-in_err-judge_ended-clause-judged : goal.returns-in_err-judge_ended-clause-judged
returns-in_err-judge_ended-clause-judged c =
    let same : c.from_residual.result ≡ Err c.in_err-judge_ended.field-0.0 = search rules in
    rw (← c.self.view_is) (rw same (λ reader line called. ended_stops c.self.inside reader line c.args.ended.now called
    c.follow.new.saids.items c.follow.ensures.fixed c.in_err-judge_ended.field-0.0
    c.in_err-judge_ended.ensures.judged))

pub returns-in_err-judge_ended-clause-followed : goal.returns-in_err-judge_ended-clause-followed
returns-in_err-judge_ended-clause-followed c =
    let same : c.from_residual.result ≡ Err c.in_err-judge_ended.field-0.0 = search rules in
    rw (← c.self.view_is) (rw same (λ reader line called. ended_stops_following c.self.inside reader line
    c.args.ended.now called c.follow.new.saids.items c.follow.ensures.followed c.self.invariant
    c.in_err-judge_ended.field-0.0 c.in_err-judge_ended.ensures.judged))

pub returns-in_err-judge_due-clause-judged : goal.returns-in_err-judge_due-clause-judged
returns-in_err-judge_due-clause-judged c =
    let same : c.from_residual-in_err-judge_due.result ≡ Err c.in_err-judge_due.field-0.0 = search rules in
    rw (← c.self.view_is) (rw same (λ reader line called. due_stops c.self.inside reader line c.args.ended.now called
    c.follow.new.saids.items c.follow.ensures.fixed c.in_ok-judge_ended.field-0 c.in_ok-judge_ended.ensures.judged
    c.self.invariant c.stands-stand.result c.stands-stand.ensures c.due_count.result
    (c.due_count.ensures ∙ ap (due_by c.self.inside.follows c.stands-stand.result) c.len.ensures)
    c.in_err-judge_due.field-0.0 c.in_err-judge_due.ensures))

pub returns-in_err-judge_due-clause-followed : goal.returns-in_err-judge_due-clause-followed
returns-in_err-judge_due-clause-followed c =
    let same : c.from_residual-in_err-judge_due.result ≡ Err c.in_err-judge_due.field-0.0 = search rules in
    rw (← c.self.view_is) (rw same (λ reader line called. due_stops_following c.self.inside reader line
    c.args.ended.now called c.follow.new.saids.items c.follow.ensures.followed c.self.invariant c.stands-stand.result
    c.due_count.result (c.due_count.ensures ∙ ap (due_by c.self.inside.follows c.stands-stand.result) c.len.ensures)
    c.in_err-judge_due.field-0.0 c.in_err-judge_due.ensures))

pub returns-clause-judged : goal.returns-clause-judged
returns-clause-judged c =
    rw (← c.self.view_is) (λ reader line called. line_taken c.self.inside reader line c.args.ended.now called
    c.follow.new.saids.items c.follow.ensures.fixed c.in_ok-judge_ended.field-0 c.in_ok-judge_ended.ensures.judged
    c.self.invariant c.stands-stand.result c.stands-stand.ensures c.due_count.result
    (c.due_count.ensures ∙ ap (due_by c.self.inside.follows c.stands-stand.result) c.len.ensures)
    c.last_number-self-inside.result c.in_ok-judge_due.field-0 c.last_number-self-inside.ensures c.in_ok-judge_due.ensures)

pub returns-clause-followed : goal.returns-clause-followed
returns-clause-followed c =
    rw (← c.self.view_is) (λ reader line called. line_followed c.self.inside reader line c.args.ended.now called
    c.follow.new.saids.items c.follow.ensures.followed c.self.invariant c.in_ok-judge_ended.field-0
    c.in_ok-judge_ended.ensures.judged c.last_number-self-inside.result)
