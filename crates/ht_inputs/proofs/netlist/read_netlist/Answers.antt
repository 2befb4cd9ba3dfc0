use Rattle.std.proofs.Common.{arith, [], List, ℕ, refl, subst, sym, rules, ◌≡◌, ◌≢◌, ◌≤◌, length}
use Rattle.ht_inputs.proofs.Common.{Asked, DeskView, HasNetlist, HasReadTo, IsGoodNetlist, IsNetlistOf, JobBasis}
use Rattle.ht_inputs.proofs.Common.{ReadStops, SaysBasis, WasRead, max_netlist_bytes}
use Rattle.ht_bench.specs.Text.{Refuses, IsOfNoCircuit}
use Rattle.ht_ports.specs.declared.ports.InPort.TheVariants.{Netlist, Tests}
use Rattle.ht_inputs.specs.Errors.{run_error_of}
use Rattle.std.specs.Prelude.{Bool, false, true}
use Rattle.ht_inputs.specs.Inputs.{IsStated}
use Rattle.ht_inputs.specs.Jobs.{may_state_start, turn_of}
use Rattle.ht_inputs.proofs.ReadingLaws.{basis_of, no_circuit, nothing_read, one_more, read_so, stops_there}
use Rattle.ht_inputs.proofs.netlist.read_netlist.Goals.{In_ok-circuit, Start}
use Rattle.ht_bench.specs.declared.error.BenchError.{BenchError}
use Rattle.ht_bench.specs.declared.error.BenchError.TheVariants.{NoMemory}
use Rattle.ht_inputs.specs.Refusals.{IsRefused}
use Rattle.ht_inputs.proofs.netlist.read_netlist.Given as given
use Rattle.ht_inputs.proofs.netlist.read_netlist.Goals as goal
use Rattle.ht_net.specs.Circuit.Netlist as net

-- the reader refuses the text of the file
pub record IsReadInVain (name : List ℕ) (a : DeskView) (text : List ℕ) (error : BenchError) : Type 0 where
  pub read : WasRead Netlist name (λ t. text ≡ t) a
  pub short : length text ≤ max_netlist_bytes
  pub refused : Refuses text error
  pub none : IsOfNoCircuit text error

module _ (name : List ℕ) (a b : DeskView) (text : List ℕ) (job : Asked) (basis : JobBasis) where
  refuses : (error : BenchError) → error ≢ NoMemory → IsReadInVain name a text error
      → ((c : net.Netlist) → ¬ IsNetlistOf text c) → WasRead Netlist name (IsRefused error) a
  refuses error other vain none = record {
    there = vain.read.there;
    told = λ t is. subst (IsRefused error) (vain.read.told t is)
        (record { short = vain.short; refused = vain.refused; none = none; not_memory = other });
  }

  pub netlist_refused : (error : BenchError) → IsReadInVain name a text error
      → ReadStops job basis Netlist name a b (run_error_of error)
  netlist_refused NoMemory vain = tt
  netlist_refused error vain = (refl, refuses error (λ e. cc) vain vain.none)

-- no fault has to be found before the netlist
not_tests : {A : Type 0} (starts : Bool) → turn_of Tests starts ≤ 0 → A
not_tests true late = absurd (omega (arith, late))
not_tests false late = absurd (omega (arith, late))

-- before it is opened
unread : (g : given.Over) (c : Start g) (job : Asked) (basis : JobBasis) → IsStated job basis
    → HasReadTo job basis 0 (g.D.Desk.view c.args.desk.now) (g.D.Desk.view c.args.desk.now)
unread g c job basis stated = nothing_read job basis (g.D.Desk.view c.args.desk.now) stated
    (λ name. g.met.D.Desk.steady_tells c.args.desk.now name)

pub returns-in_err-text-clause-stops : goal.returns-in_err-text-clause-stops
returns-in_err-text-clause-stops g c = λ job is.
    let basis = basis_of no_circuit [] [] in
    let stops = stops_there (unread g (goal.at.returns-in_err-text-clause-stops g c).Start job basis
    (λ none. refl)) refl is
    c.in_err-text.ensures.frame (not_tests (may_state_start job)) c.in_err-text.field-0.0
    (c.in_err-text.ensures.stops job basis) in
    search (rules, stops)

pub returns-in_err-circuit-clause-stops : goal.returns-in_err-circuit-clause-stops
returns-in_err-circuit-clause-stops g c = λ job is.
    let basis = basis_of no_circuit [] [] in
    let read = c.in_ok-text.ensures in
    let error = c.in_err-circuit.field-0.0 in
    let refused = subst (λ (t : List ℕ). Refuses t error) c.deref.ensures.value c.in_err-circuit.ensures.refusal in
    let none = subst (λ (t : List ℕ). IsOfNoCircuit t error) c.deref.ensures.value c.in_err-circuit.ensures.excludes in
    let stops = stops_there (unread g (goal.at.returns-in_err-circuit-clause-stops g c).Start job basis
    (λ none. refl)) refl is
    read.frame (not_tests (may_state_start job)) (run_error_of error)
    (netlist_refused c.args.name.now (g.D.Desk.view c.args.desk.now)
    (g.D.Desk.view c.read_text.new.desk) c.in_ok-text.text.items job basis error
    (record { read = read.read; short = read.within; refused = refused; none = none })) in
    search (rules, stops)

good : (g : given.Over) (c : In_ok-circuit g) → IsGoodNetlist c.in_ok-text.text.items c.in_ok-circuit.circuit
good g c = record {
  stands = subst (λ (t : List ℕ). IsNetlistOf t c.in_ok-circuit.circuit) c.deref.ensures.value
      c.in_ok-circuit.ensures.circuit;
  short = c.in_ok-text.ensures.within;
}

pub returns-clause-netlist : goal.returns-clause-netlist
returns-clause-netlist g c = (c.in_ok-text.text.items, good g (goal.at.returns-clause-netlist g c).In_ok-circuit)

pub returns-clause-read : goal.returns-clause-read
returns-clause-read g c = λ job basis is stated same says.
    let at = goal.at.returns-clause-read g c in
    let good = good g at.In_ok-circuit in
    one_more (unread g at.Start job basis stated) refl is c.in_ok-text.ensures.frame
    (subst HasNetlist (sym same) (c.in_ok-text.text.items, good))
    (read_so (SaysBasis job basis Netlist) (λ text told. says text
    (subst (λ (t : List ℕ). IsGoodNetlist t c.in_ok-circuit.circuit) told good)) c.in_ok-text.ensures.read)
