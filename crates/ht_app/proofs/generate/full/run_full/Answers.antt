use Rattle.std.proofs.Common.{[], List, ℕ, rules}
use Rattle.std.specs.Prelude.{Err}
use Rattle.ht_net.specs.Circuit.Netlist.{Netlist}
use Rattle.ht_engine.proofs.ChosenLaws.{classes_listed}
use Rattle.ht_engine.specs.Steps.{first_vectors}
use Rattle.ht_files.specs.Searched.{AreFound}
use Rattle.ht_inputs.specs.declared.run_error.RunError.TheVariants.{NoMemory}
use Rattle.ht_app.proofs.Common.{AreClasses, DeskView, RunFiles, Settings}
use Rattle.ht_app.specs.Generating.{WritesAll}
use Rattle.ht_app.specs.Outputs.{IsSearchedOf}
use Rattle.ht_app.proofs.GenLaws.{begun_acts, stops_in_steps}
use Rattle.ht_app.proofs.SearchedLaws.{lists_are_found, no_lists}
use Rattle.ht_app.proofs.WritingLaws.{runs_out_first}
use Rattle.ht_app.proofs.generate.full.run_full.Goals as goal

-- memory runs out before the first file
unmade : (files : RunFiles) (circuit : Netlist) (settings : Settings) (work : ℕ) {representatives : List ℕ}
    → AreClasses circuit representatives → (a : DeskView)
    → WritesAll files settings (AreFound circuit settings) (IsSearchedOf work circuit settings) (Err NoMemory) a a
unmade files circuit settings work classes a =
    stops_in_steps files settings (AreFound circuit settings) (IsSearchedOf work circuit settings)
    (lists_are_found classes (no_lists (first_vectors circuit settings)))
    (runs_out_first (Unit {0}) (begun_acts files settings []) a)

pub returns-in_err-first : goal.returns-in_err-first
returns-in_err-first g c =
    let stops = unmade c.args.files.now c.args.circuit.now c.args.settings.now c.args.work c.requires.classes
    (g.D.Desk.view c.args.desk.now) in
    search (rules, stops)

pub mark_chosen-requires : goal.mark_chosen-requires
mark_chosen-requires g c = classes_listed c.args.circuit.now c.args.listed.now.classes c.requires.classes

pub returns-in_err-marks : goal.returns-in_err-marks
returns-in_err-marks g c =
    let stops = unmade c.args.files.now c.args.circuit.now c.args.settings.now c.args.work c.requires.classes
    (g.D.Desk.view c.args.desk.now) in
    search (rules, stops)

pub returns-in_err-search : goal.returns-in_err-search
returns-in_err-search g c =
    let stops = unmade c.args.files.now c.args.circuit.now c.args.settings.now c.args.work c.requires.classes
    (g.D.Desk.view c.args.desk.now) in
    search (rules, stops)
