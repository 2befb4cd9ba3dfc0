use Rattle.std.proofs.Common.{◌≡◌, ◌≢◌, List, ℕ, [], refl, subst}
use Rattle.std.specs.Prelude.{Ok}
use Rattle.ht_app.proofs.Common.{Act, Does, OutPort, ending}
use Rattle.ht_ports.specs.declared.ports.OutPort.TheVariants.{Report}
use Rattle.ht_app.proofs.WritingLaws.{tries_none}
use Rattle.ht_app.proofs.output.end_file.Goals as goal

no_ending : (port : OutPort) (total : List ℕ) → port ≢ Report → [] ≡ ending port total
no_ending Report total other = absurd (other refl)
no_ending port total other = refl

pub returns-in-Report : goal.returns-in-Report
returns-in-Report g c = rw c.in-Report.is (rw c.in-Report.is at c.put.ensures.does)

pub returns-in_default : goal.returns-in_default
returns-in_default g c = subst (λ (l : List Act). Does l (Ok tt) (g.D.Desk.view c.args.desk.now)
    (g.D.Desk.view c.args.desk.now)) (no_ending c.args.port c.args.total.now c.in_default.not-Report)
    (record { tries = tries_none; only = tt })
