use Rattle.std.proofs.Common.{◌≡◌, ◌≤◌, ◌∙◌, ◌^◌, ◌-◌, ap, sym, subst, ℕ, List, Bool, length, arith}
use Rattle.std.specs.Prelude.{None, Some, Result, Ok, Err, IfErr, IfOk, if◌then◌else◌}
use Rattle.ht_ports.specs.declared.ports.InPort.TheVariants.{Tests}
use Rattle.ht_net.specs.Circuit.Netlist.{Netlist}
use Rattle.ht_inputs.proofs.Common.{Asked, DeskView, EndsReading, HasReadTo, InCall, IsTestText, JobBasis}
use Rattle.ht_inputs.proofs.Common.{Rows, RunError, SaysBasis, TestsStop, WasRead, input_name, max_text_bytes}
use Rattle.ht_asked.specs.Table.{Kind, gen}
use Rattle.ht_asked.specs.Table.{takes_start}
use Rattle.ht_inputs.specs.Inputs.{HasFault, SaysVectors}
use Rattle.ht_inputs.specs.Jobs.{judges, turn_of, takes_few}
use Rattle.ht_inputs.specs.Refusals.{IsWrongTest}
use Rattle.ht_inputs.specs.Reading.{AreVectorsUpTo}
use Rattle.ht_inputs.proofs.ReadingLaws.{one_more, read_so, skipped, stops_there, tests_stop}
use Rattle.ht_inputs.proofs.vectors_file.read_first.Goals as goal

-- `gen` reads its first vectors after the start
at_tests : {kind : Kind} → kind ≡ gen → turn_of Tests (takes_start kind) ≡ 2
at_tests is_gen = ap (λ (k : Kind). turn_of Tests (takes_start k)) is_gen

-- ---- a file is named

module _ (job : Asked) (is_gen : job.command ≡ gen) {basis : JobBasis} {first old new : DeskView} {name : List ℕ}
    (reads : input_name job Tests ≡ Some name) (before : HasReadTo job basis 2 first old) (call : InCall Tests old new)
    (c : Netlist) (same : basis.circuit ≡ c) where
  goes_on : (result : Result Rows RunError) → IfOk result (λ list. length list.list ≤ max_text_bytes)
      → IfOk result (λ list. WasRead Tests name (AreVectorsUpTo c (2 ^ 64 - 1) list.list) old)
      → IfOk result (λ list. basis.content.list ≡ list.list → HasReadTo job basis 3 first new)
  goes_on (Ok list) few read = λ is.
      one_more before (at_tests is_gen) reads call (before.netlist (omega arith)) (read_so (SaysBasis job basis Tests)
      (λ text are. subst (λ (k : Kind). SaysVectors (takes_few k job.numbers.runs) basis text) (sym is_gen)
      (subst (λ (l : List (List Bool)). IsTestText basis.circuit text l) (sym is)
      (subst (λ (n : Netlist). IsTestText n text list.list) (sym same) (are.all (omega (arith, few)))))) read)
  goes_on (Err e) few read = tt

  stops : HasFault job basis.circuit → (result : Result Rows RunError) → IfErr result
      (TestsStop c (2 ^ 64 - 1) name old new)
      → IfErr result (EndsReading job first new)
  stops fault (Ok list) stop = tt
  stops fault (Err e) stop = stops_there before (at_tests is_gen) reads call (λ late. fault) e
      (tests_stop job basis (2 ^ 64 - 1) name old new
      (λ line. ap (λ (k : Kind). if judges k then None else Some Tests) is_gen)
      (λ line text early. subst (λ (k : Kind). IsWrongTest (takes_few k job.numbers.runs) basis.circuit text line)
      (sym is_gen)) e
      (subst (λ (n : Netlist). TestsStop n (2 ^ 64 - 1) name old new e) (sym same) stop))

pub returns-in-Some-clause-read : goal.returns-in-Some-clause-read
returns-in-Some-clause-read g c = λ job basis first is_gen reads same before.
    goes_on job is_gen (reads ∙ c.in-Some.is ∙ ap Some (sym c.as_str.ensures)) before
    c.read_tests.ensures.frame c.args.circuit.now same c.read_tests.result c.read_tests.ensures.few
    c.read_tests.ensures.read

pub returns-in-Some-clause-stopped : goal.returns-in-Some-clause-stopped
returns-in-Some-clause-stopped g c = λ job basis first is_gen reads same fault before.
    stops job is_gen (reads ∙ c.in-Some.is ∙ ap Some (sym c.as_str.ensures)) before
    c.read_tests.ensures.frame c.args.circuit.now same fault c.read_tests.result c.read_tests.ensures.stops

-- ---- none is named

pub returns-in-None-clause-read : goal.returns-in-None-clause-read
returns-in-None-clause-read g c = λ job basis first is_gen reads same before is.
    skipped before Tests (at_tests is_gen) (reads ∙ c.in-None.is) (before.netlist (omega arith))
