use Rattle.std.proofs.Common.{◌≡◌, ◌≤◌, ◌∙◌, ◌^◌, ◌-◌, ℕ, List, Bool, true, false, length, ap, refl, subst, sym, arith}
use Rattle.std.specs.Prelude.{None, Some, Result, Ok, Err, IfErr, IfOk, if◌then◌else◌}
use Rattle.ht_asked.specs.Asked.{Asked}
use Rattle.ht_asked.specs.Table.{Kind, compact}
use Rattle.ht_net.specs.Circuit.Netlist.{Netlist}
use Rattle.ht_ports.specs.declared.ports.InPort.TheVariants.{Tests}
use Rattle.ht_inputs.specs.Inputs.{AreTests}
use Rattle.ht_inputs.specs.Jobs.{judges, takes_few}
use Rattle.ht_inputs.specs.Reading.{AreVectorsUpTo, ReadStops}
use Rattle.ht_inputs.specs.Refusals.{IsWrongTest}
use Rattle.ht_inputs.proofs.Common.{DeskView, JobBasis, Rows, RunError, TestsStop, WasRead, max_text_bytes}
use Rattle.ht_inputs.proofs.ReadingLaws.{read_so, tests_stop}
use Rattle.ht_inputs.proofs.vectors_file.read_tests_to_compact.Goals as goal

-- ---- few vectors

pub returns-then-few-clause-stops : goal.returns-then-few-clause-stops
returns-then-few-clause-stops g c = λ job basis is_compact few same.
    c.read_few_tests.ensures.stops job basis (few ∙ c.if-few.true) same

pub returns-then-few-clause-read : goal.returns-then-few-clause-read
returns-then-few-clause-read g c = subst (λ (few : Bool). IfOk c.read_few_tests.result
    (λ list. WasRead Tests c.args.name.now (λ text. AreTests few c.args.circuit.now text list.list)
    (g.D.Desk.view c.args.desk.now))) (sym c.if-few.true) c.read_few_tests.ensures.read

-- ---- any vectors

read_all : (few : Bool) → few ≡ false → (c : Netlist) (name : List ℕ) (desk : DeskView) (result : Result Rows RunError)
    → IfOk result (λ list. length list.list ≤ max_text_bytes)
    → IfOk result (λ list. WasRead Tests name (AreVectorsUpTo c (2 ^ 64 - 1) list.list) desk)
    → IfOk result (λ list. WasRead Tests name (λ text. AreTests few c text list.list) desk)
read_all few is c name desk (Ok list) short read = read_so (λ text. AreTests few c text list.list)
    (λ text are. subst (λ (b : Bool). AreTests b c text list.list) (sym is) (are.all (omega (arith, short)))) read
read_all few is c name desk (Err e) short read = tt

all_stop : (job : Asked) (basis : JobBasis) → job.command ≡ compact → takes_few job.command job.numbers.runs ≡ false
    → (c : Netlist) → basis.circuit ≡ c → (name : List ℕ) (a b : DeskView) (result : Result Rows RunError)
    → IfErr result (TestsStop c (2 ^ 64 - 1) name a b) → IfErr result (ReadStops job basis Tests name a b)
all_stop job basis is_compact few c same name a b (Ok list) stop = tt
all_stop job basis is_compact few c same name a b (Err e) stop = tests_stop job basis (2 ^ 64 - 1) name a b
    (λ line. ap (λ (k : Kind). if judges k then None else Some Tests) is_compact)
    (λ line text early wrong. subst (λ (f : Bool). IsWrongTest f basis.circuit text line) (sym few) wrong) e
    (subst (λ (n : Netlist). TestsStop n (2 ^ 64 - 1) name a b e) (sym same) stop)

pub returns-else-few-clause-read : goal.returns-else-few-clause-read
returns-else-few-clause-read g c = read_all c.args.few c.if-few.false c.args.circuit.now
    c.args.name.now (g.D.Desk.view c.args.desk.now) c.read_tests.result c.read_tests.ensures.few
    c.read_tests.ensures.read

pub returns-else-few-clause-stops : goal.returns-else-few-clause-stops
returns-else-few-clause-stops g c = λ job basis is_compact few same.
    all_stop job basis is_compact (few ∙ c.if-few.false) c.args.circuit.now same c.args.name.now
    (g.D.Desk.view c.args.desk.now) (g.D.Desk.view c.read_tests.new.desk) c.read_tests.result
    c.read_tests.ensures.stops
