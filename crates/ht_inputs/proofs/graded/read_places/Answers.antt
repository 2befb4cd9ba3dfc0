use Rattle.std.proofs.Common.{◌≡◌, ◌^◌, ◌-◌, ℕ, List, subst, sym, arith}
use Rattle.ht_inputs.proofs.Common.{Asked, BadTests, DeskView, IsMalformedTest, IsTestText, JobBasis, ReadFault, ReadStops}
use Rattle.ht_inputs.proofs.Common.{RunError, TestsStop}
use Rattle.ht_net.specs.Circuit.Netlist.{Netlist}
use Rattle.ht_ports.specs.declared.ports.InPort.TheVariants.{Tests}
use Rattle.ht_inputs.specs.declared.run_error.RunError.TheVariants.{NoMemory}
use Rattle.ht_inputs.specs.Grading.{DeniesTests, denied_tests}
use Rattle.ht_inputs.proofs.ReadingLaws.{read_so}
use Rattle.ht_inputs.proofs.graded.read_places.Goals as goal

-- what ends the reading of tests ends the job that denies them
denied_stops : (job : Asked) (basis : JobBasis) (c : Netlist) (name : List ℕ) (a b : DeskView) → DeniesTests job
    → basis.circuit ≡ c → (e : RunError) → TestsStop c (2 ^ 64 - 1) name a b e
    → ReadStops job basis Tests name a b (denied_tests e)
denied_stops job basis c name a b denies same (BadTests line) s = (
  denies line,
  read_so (λ text. IsMalformedTest basis.circuit text line) (λ text.
      subst (λ (n : Netlist). IsMalformedTest n text line) (sym same)) s.0,
)
denied_stops job basis c name a b denies same ReadFault s = s
denied_stops job basis c name a b denies same NoMemory s = tt
denied_stops job basis c name a b denies same e s = absurd s

pub returns-in-Err-clause-stops : goal.returns-in-Err-clause-stops
returns-in-Err-clause-stops g c = λ job basis denies same.
    let stops = denied_stops job basis c.args.circuit.now c.args.name.now (g.D.Desk.view c.args.desk.now)
    (g.D.Desk.view c.read_tests.new.desk) denies same c.in-Err.error c.in-Err.ensures.stops in
    rw c.denied.ensures stops

pub returns-clause-read : goal.returns-clause-read
returns-clause-read g c = record {
  list = c.in-Ok.list.list;
  few = c.in-Ok.ensures.few;
  widths = c.in-Ok.ensures.widths;
  read = read_so (λ text. IsTestText c.args.circuit.now text c.in-Ok.list.list)
      (λ text are. are.all (omega (arith, c.in-Ok.ensures.few))) c.in-Ok.ensures.read;
  first = c.in_ok-places.ensures.first;
}
