use Rattle.std.proofs.Common.{◌∙◌, ap, length, sym, rules, arith}
use Rattle.std.specs.Prelude.{Some}
use Rattle.ht_inputs.proofs.Common.{Extra}
use Rattle.ht_inputs.specs.Jobs.{turn_of}
use Rattle.ht_inputs.proofs.ReadingLaws.{no_room, skipped}
use Rattle.ht_inputs.proofs.StartFileLaws.{start_step, step_stops}
use Rattle.ht_inputs.proofs.start_file.read_stated.Goals as goal

-- ---- a start is stated

pub returns-in-Some-clause-read : goal.returns-in-Some-clause-read
returns-in-Some-clause-read g c = λ job basis first may reads same before.
    start_step may (reads ∙ c.in-Some.is ∙ ap Some (sym c.as_str.ensures)) before c.read_start_file.ensures.frame
    (length c.args.circuit.now.dffs) (ap (λ n. length n.dffs) same) c.read_start_file.result
    c.read_start_file.ensures.read

pub returns-in-Some-clause-stopped : goal.returns-in-Some-clause-stopped
returns-in-Some-clause-stopped g c = λ job basis first may reads same before.
    step_stops may (reads ∙ c.in-Some.is ∙ ap Some (sym c.as_str.ensures)) before c.read_start_file.ensures.frame
    c.read_start_file.result (c.read_start_file.ensures.stops job basis may same)

-- ---- none is stated

pub returns-in_ok-unknown_start-in-None-clause-read : goal.returns-in_ok-unknown_start-in-None-clause-read
returns-in_ok-unknown_start-in-None-clause-read g c = λ job basis first may reads same before from.
    skipped before Extra (ap (turn_of Extra) may) (reads ∙ c.in-None.is) (before.netlist (omega arith))

pub returns-in_err-unknown_start-in-None-clause-stopped : goal.returns-in_err-unknown_start-in-None-clause-stopped
returns-in_err-unknown_start-in-None-clause-stopped g c = λ job basis first may reads same before.
    let ends = no_room before in search (rules, ends)
