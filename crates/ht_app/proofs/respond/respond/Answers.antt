use Rattle.std.proofs.Common.{Bool, List, [], ℕ, refl, rules}
use Rattle.std.specs.Prelude.{Option}
use Rattle.ht_app.proofs.Common.{PermitsAll, response_acts, writing}
use Rattle.ht_app.proofs.EndLaws.{ends_by, ends_unread}
use Rattle.ht_app.proofs.respond.respond.Goals as goal
use Rattle.ht_words.specs.Jobs.{asked_by}
use Rattle.ht_words.specs.declared.job.Job.TheVariants as job_of

permitted : (netlist tests out : List ℕ) (number : Option ℕ) (start : Option (List ℕ)) (lines : Bool)
    (body said last : List ℕ) → PermitsAll (writing (asked_by (job_of.Respond netlist tests out number start lines))) []
    (response_acts out body said last)
permitted netlist tests out number start lines body said last = (
  (refl, refl),
  ((refl, λ file. refl), ((refl, λ file. absurd file), ((refl, λ file. refl), tt))),
)

pub returns-in_err-texts : goal.returns-in_err-texts
returns-in_err-texts g c =
    let ends = ends_unread (rw (c.as_str.ensures, c.as_str-2.ensures) at
    (c.in_err-texts.ensures c.args.out.now)).stopped in
    search (rules, ends)

pub returns : goal.returns
returns g c =
    let t = c.in_ok-texts.texts in
    ends_by (rw (c.as_str.ensures, c.as_str-2.ensures) at (c.in_ok-texts.ensures c.args.out.now)).made
    (permitted c.args.netlist.now c.args.tests.now c.args.out.now c.args.number c.args.start.now c.args.lines
    t.body.items
    t.said.items t.last.items)
    (rw (c.as_str-3.ensures, c.deref.ensures.value, c.deref-2.ensures.value, c.deref-3.ensures.value)
    at c.write_report.ensures)
