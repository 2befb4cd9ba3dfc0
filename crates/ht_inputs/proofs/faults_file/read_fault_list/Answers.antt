use Rattle.std.proofs.Common.{◌≡◌, [], refl, subst, sym, rules, arith}
use Rattle.ht_texts.specs.FaultListTexts.{AreFaultLines}
use Rattle.ht_inputs.proofs.Common.{JobBasis}
use Rattle.ht_inputs.proofs.FaultsFileLaws.{StandsForFaults, fault_count, faults_are_read, faults_stop}
use Rattle.ht_inputs.proofs.ReadingLaws.{basis_of}
use Rattle.ht_inputs.proofs.faults_file.read_fault_list.Given as given
use Rattle.ht_inputs.proofs.faults_file.read_fault_list.Goals as goal
use Rattle.ht_inputs.proofs.faults_file.read_fault_list.Goals.{After-new}

-- no line was read
start : (g : given.Over) (c : After-new g) (basis : JobBasis) → fault_count basis ≡ c.args.count
    → StandsForFaults c.args.count c.new.result.items basis []
start g c basis same =
    let none : c.new.result.items ≡ [] = search rules in (
      sym same,
      subst (AreFaultLines c.args.count []) (sym none) (record {
        texts = refl;
        listed = λ k d below. absurd (omega arith);
        rises = record { next = λ i below. absurd (omega (arith, below)) };
      }),
    )

pub returns-in_err-read_lines-clause-stops : goal.returns-in_err-read_lines-clause-stops
returns-in_err-read_lines-clause-stops g c = λ job basis same.
    let start = start g (goal.at.returns-in_err-read_lines-clause-stops g c).After-new basis same in
    let stops = faults_stop job basis c.args.name.now (g.D.Desk.view c.args.desk.now)
    (g.D.Desk.view c.read_lines.new.desk) {e = c.in_err-read_lines.field-0.0}
    (omega (arith, same, c.ranges.count.fits)) (c.in_err-read_lines.ensures.stops basis start) in
    search (rules, stops)

pub returns-clause-read : goal.returns-clause-read
returns-clause-read g c = λ n same.
    let basis = basis_of n [] [] in
    let read = c.in_ok-read_lines.ensures.stands basis
    (start g (goal.at.returns-clause-read g c).After-new basis same) in
    let whole = faults_are_read c.read_lines.new.judge.count c.read_lines.new.judge.numbers.items basis read in
    search (rules, whole)
