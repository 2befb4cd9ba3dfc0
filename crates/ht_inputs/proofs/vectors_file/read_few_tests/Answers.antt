use Rattle.std.proofs.Common.{◌≡◌, ◌≤◌, ◌<◌, ◌+◌, ℕ, Bool, true, length, refl, ap, subst, sym, rules, arith}
use Rattle.std.specs.Prelude.{None, Option, Some, if◌then◌else◌}
use Rattle.ht_asked.specs.Table.{Kind, compact}
use Rattle.ht_net.specs.Circuit.Netlist.{Netlist}
use Rattle.ht_ports.specs.declared.ports.InPort.TheVariants.{Tests}
use Rattle.ht_inputs.specs.Jobs.{judges, takes_few}
use Rattle.ht_inputs.specs.Refusals.{IsWrongTest}
use Rattle.ht_compact.specs.TestsToCompact.{HasTooManyVectors, IsTestTextToCompact}
use Rattle.ht_compact.specs.declared.compaction.TheConstants.{MAX_COMPACTED}
use Rattle.ht_inputs.proofs.Common.{TestsStop}
use Rattle.ht_inputs.proofs.ReadingLaws.{read_so, tests_stop}
use Rattle.ht_inputs.proofs.vectors_file.read_few_tests.Goals as goal

-- what takes few vectors judges no proofs
not_judged : (kind : Kind) (runs : Option ℕ) → takes_few kind runs ≡ true
    → (if judges kind then None else Some Tests) ≡ Some Tests
not_judged compact runs few = refl
not_judged kind runs few = cc

pub returns-in_err-list-clause-stops : goal.returns-in_err-list-clause-stops
returns-in_err-list-clause-stops g c = λ job basis few same.
    let a = g.D.Desk.view c.args.desk.now in
    let b = g.D.Desk.view c.read_tests.new.desk in
    let e = c.in_err-list.field-0.0 in
    let stops = tests_stop job basis (MAX_COMPACTED + 1) c.args.name.now a b
    (λ line. not_judged job.command job.numbers.runs few)
    (λ line text early wrong. subst (λ (few : Bool). IsWrongTest few basis.circuit text line) (sym few)
    (record { malformed = wrong; early = early })) e
    (subst (λ (n : Netlist). TestsStop n (MAX_COMPACTED + 1) c.args.name.now a b e) (sym same)
    c.in_err-list.ensures.stops) in
    search (rules, stops)

pub returns-then-len-gt-MAX_COMPACTED-clause-stops : goal.returns-then-len-gt-MAX_COMPACTED-clause-stops
returns-then-len-gt-MAX_COMPACTED-clause-stops g c = λ job basis few same.
    let many : MAX_COMPACTED < length c.in_ok-list.list.list =
    omega (arith, c.len.ensures, c.if-len-gt-MAX_COMPACTED.true) in (
      ap (λ (b : Bool). if b then Some Tests else None) few,
      read_so (HasTooManyVectors basis.circuit) (λ text are. subst (λ (n : Netlist). HasTooManyVectors n text)
          (sym same)
          (record {
            list = c.in_ok-list.list.list;
            first = are.first;
            many = omega (arith, c.in_ok-list.ensures.upto, many);
          })) c.in_ok-list.ensures.read,
    )

pub returns-clause-read : goal.returns-clause-read
returns-clause-read g c =
    let few : length c.in_ok-list.list.list ≤ MAX_COMPACTED =
    omega (arith, c.len.ensures, c.if-len-gt-MAX_COMPACTED.false) in
    read_so (λ text. IsTestTextToCompact c.args.circuit.now text c.in_ok-list.list.list)
    (λ text are. record { vectors = are.all (omega (arith, few)); few = few }) c.in_ok-list.ensures.read
