use Rattle.std.proofs.Common.{sym, subst}
use Rattle.ht_asked.specs.declared.depth.Depth.{Depth}
use Rattle.ht_app.specs.Generating.{WritesTo}
use Rattle.ht_app.proofs.generate.run_search.Goals as goal

pub returns-in-Plain : goal.returns-in-Plain
returns-in-Plain g c = subst (λ (d : Depth). WritesTo d c.args.options.now.work c.args.files.now c.args.circuit.now
    c.args.settings.now c.run_engine.result (g.D.Desk.view c.args.desk.now) (g.D.Desk.view c.run_engine.new.desk))
    (sym c.in-Plain.is) c.run_engine.ensures

pub returns-in-Deep : goal.returns-in-Deep
returns-in-Deep g c = subst (λ (d : Depth). WritesTo d c.args.options.now.work c.args.files.now c.args.circuit.now
    c.args.settings.now c.run_engine-in-Deep.result (g.D.Desk.view c.args.desk.now)
    (g.D.Desk.view c.run_engine-in-Deep.new.desk)) (sym c.in-Deep.is) c.run_engine-in-Deep.ensures

pub returns-in-Full : goal.returns-in-Full
returns-in-Full g c = subst (λ (d : Depth). WritesTo d c.args.options.now.work c.args.files.now c.args.circuit.now
    c.args.settings.now c.run_full.result (g.D.Desk.view c.args.desk.now) (g.D.Desk.view c.run_full.new.desk))
    (sym c.in-Full.is) c.run_full.ensures
