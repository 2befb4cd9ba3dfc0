use Rattle.std.proofs.Common.{List, [], ℕ, refl, rules}
use Rattle.ht_app.proofs.Common.{PermitsAll, sync_acts, writing}
use Rattle.ht_app.proofs.EndLaws.{ends_by, ends_unread}
use Rattle.ht_app.proofs.synchronize.synchronize.Goals as goal
use Rattle.ht_words.specs.Jobs.{asked_by}
use Rattle.ht_words.specs.declared.job.Job.TheVariants as job_of

permitted : (netlist tests out : List ℕ) (budget : ℕ) (list body said last : List ℕ)
    → PermitsAll (writing (asked_by (job_of.Sync netlist tests out budget))) []
    (sync_acts tests out list body said last)
permitted netlist tests out budget list body said last = (
  (refl, refl),
  (
    (refl, refl),
    ((refl, λ file. refl), ((refl, λ file. refl), ((refl, λ file. absurd file), ((refl, λ file. refl), tt)))),
  ),
)

pub returns-in_err-texts : goal.returns-in_err-texts
returns-in_err-texts g c =
    let ends = ends_unread (rw c.as_str.ensures at (c.in_err-texts.ensures c.args.tests.now c.args.out.now)).stopped in
    search (rules, ends)

pub returns : goal.returns
returns g c =
    let t = c.in_ok-texts.texts in
    ends_by (rw c.as_str.ensures at (c.in_ok-texts.ensures c.args.tests.now c.args.out.now)).made
    (permitted c.args.netlist.now c.args.tests.now c.args.out.now c.args.budget t.tests.items t.body.items
    t.said.items t.last.items) (rw (c.as_str-2.ensures, c.as_str-3.ensures) at c.write_texts.ensures)
