use Rattle.std.proofs.Common.{[], ◌∷◌, drop, rules}
use Rattle.ht_ports.specs.declared.ports.OutPort.TheVariants.{Tests}
use Rattle.ht_texts.specs.Tests.{test_text}
use Rattle.ht_app.proofs.Common.{put}
use Rattle.ht_app.proofs.WritingLaws.{runs_out_first}
use Rattle.ht_app.proofs.generate.lists.put_rest.Goals as goal

pub returns-in_err-text-clause-tries : goal.returns-in_err-text-clause-tries
returns-in_err-text-clause-tries g c =
    let a = g.D.Desk.view c.args.desk.now in
    let tries = runs_out_first (Unit {0}) (put Tests (test_text (drop c.args.from c.args.list.now.list)) ∷ []) a in
    search (rules, tries)
