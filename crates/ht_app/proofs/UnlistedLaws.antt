-- A fault that isn't one of the circuit: no output is made, and a run ends with one status.
use Rattle.std.proofs.Common.{◌≡◌, ◌⊎◌, inl, inr, refl}
use Rattle.std.specs.Prelude.{Option, Some, None, ℕ, List}
use Rattle.ht_app.proofs.Common.{AcceptsInputs, Act, DeskView, HasCause, JobBasis, MakesOutput, RunError}
use Rattle.ht_app.proofs.Common.{WriteFault, exit_status}
use Rattle.ht_ports.specs.declared.ports.InPort.TheVariants.{Netlist}
use Rattle.ht_net.specs.Circuit.Netlist as net
use Rattle.ht_net.specs.declared.fault.Fault.{Fault}
use Rattle.ht_inputs.specs.declared.run_error.RunError.TheVariants.{NoMemory}
use Rattle.ht_inputs.specs.Inputs.{HasFault, IsListed}
use Rattle.ht_inputs.specs.Refusals.{HasNoSuchFault}
use Rattle.ht_inputs.proofs.FaultLaws.{stops_unlisted, unlisted_accepts}
use Rattle.ht_app.specs.Outputs.{BeginsOutput, IsMachineOf}
use Rattle.ht_words.specs.Jobs.{asked_by}
use Rattle.ht_words.specs.declared.job.Job.{Job}
use Rattle.ht_words.specs.declared.job.Job.TheVariants as job_of

-- a machine that a number names is that of a fault of the circuit, or the good one
pub machine_listed : (c : net.Netlist) (number : Option ℕ) (fault : Option Fault) → IsMachineOf c number fault
    → IsListed c number
machine_listed c None fault machine = tt
machine_listed c (Some number) fault machine = machine.0

-- an output is made only where the circuit has it
made_listed : (j : Job) (basis : JobBasis) (acts : List Act) → MakesOutput (asked_by j) basis acts
    → HasFault (asked_by j) basis.circuit
made_listed (job_of.Respond netlist tests out number start lines) basis acts (name, named, made) =
    machine_listed basis.circuit number made.fault made.machine
made_listed j basis acts made = tt

begun_listed : (j : Job) (basis : JobBasis) (acts : List Act) → BeginsOutput (asked_by j) basis acts
    → HasFault (asked_by j) basis.circuit
begun_listed (job_of.Respond netlist tests out number start lines) basis acts begun = absurd begun
begun_listed j basis acts begun = tt

-- if the fault that a job names isn't the circuit's, no output is made
pub unlisted_done : (j : Job) (a : DeskView) (basis : JobBasis) (acts : List Act) → HasNoSuchFault (asked_by j) a
    → AcceptsInputs (asked_by j) basis a → ¬ MakesOutput (asked_by j) basis acts
unlisted_done j a basis acts lacks accepts made =
    unlisted_accepts j a lacks basis (accepts.each Netlist) (made_listed j basis acts made)

-- if the fault that a job names isn't the circuit's, its error has status 12, 4 (read fault) or 6 (no memory)
pub unlisted_status : (j : Job) (a b : DeskView) (e : RunError) → HasCause (asked_by j) a b e
    → HasNoSuchFault (asked_by j) a → (exit_status e ≡ 12) ⊎ (exit_status e ≡ 4) ⊎ (exit_status e ≡ 6)
unlisted_status j a b WriteFault h lacks = absurd (unlisted_accepts j a lacks h.basis (h.inputs.each Netlist)
    (elim h.makes [
      | inl made ↦ made_listed j h.basis h.acts made
      | inr begun ↦ begun_listed j h.basis h.acts begun
    ]))
unlisted_status j a b NoMemory h lacks = inr (inr refl)
unlisted_status j a b e h lacks = stops_unlisted j a b e h lacks
