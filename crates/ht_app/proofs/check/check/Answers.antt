use Rattle.std.proofs.Common.{refl, rules}
use Rattle.ht_app.proofs.EndLaws.{ends_by, ends_unread}
use Rattle.ht_app.proofs.check.check.Goals as goal

pub returns-in_err-judge : goal.returns-in_err-judge
returns-in_err-judge g c =
    let ends = ends_unread c.in_err-judge.ensures.stopped in search (rules, ends)

pub returns : goal.returns
returns g c = ends_by c.in_ok-judge.ensures.made ((refl, λ file. absurd file), tt) c.put.ensures.does
