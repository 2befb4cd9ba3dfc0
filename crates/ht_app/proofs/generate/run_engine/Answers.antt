use Rattle.std.proofs.Common.{[], rules}
use Rattle.ht_app.specs.Outputs.{AreGenerated, IsGeneratedOf}
use Rattle.ht_app.proofs.GenLaws.{begun_acts, no_steps, stops_in_steps}
use Rattle.ht_app.proofs.WritingLaws.{runs_out_first}
use Rattle.ht_app.proofs.generate.run_engine.Goals as goal

pub returns-in_err-engine : goal.returns-in_err-engine
returns-in_err-engine g c =
    let settings = c.args.settings.now in
    let circuit = c.args.circuit.now in
    let stops = stops_in_steps c.args.files.now settings (AreGenerated circuit settings)
    (IsGeneratedOf circuit settings) (no_steps c.requires.classes)
    (runs_out_first (Unit {0}) (begun_acts c.args.files.now settings []) (g.D.Desk.view c.args.desk.now)) in
    search (rules, stops)

pub returns : goal.returns
returns g c = rw c.in_ok-engine.ensures.settings at c.write_files-written.ensures
