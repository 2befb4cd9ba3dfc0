-- How a run ends, and why.
use Rattle.std.specs.Prelude.{◌≡◌, ◌≢◌, ◌⊎◌, ℕ, List, [], ◌++◌, length, take, codes, Some, None, Option}
use Rattle.std.specs.Io.KnownBytes.{append_known}
use Rattle.ht_ports.specs.Causes.{Rose}
use Rattle.ht_ports.specs.Desk.{DeskView, IsAfter, Writes}
use Rattle.ht_ports.specs.declared.ports.OutPort.TheVariants.{Err}
use Rattle.ht_ports.specs.Numbered.{numbered}
use Rattle.ht_bench.specs.RefusalText.{refusal_text}
use Rattle.ht_valid.specs.declared.trouble.Trouble.TheVariants.{Tests, Report, Proofs, Fault}
use Rattle.ht_asked.specs.Asked.{Asked}
use Rattle.ht_asked.specs.Usage.{usage_line}
use Rattle.ht_inputs.specs.declared.run_error.RunError.{RunError}
use Rattle.ht_inputs.specs.declared.run_error.RunError.TheVariants.{Denied, Usage, TooLong, Refused, ReadFault, WriteFault, NoMemory, BadStart, BadTests, TooManyVectors, BadResponses, NoSuchFault, BadFaults}
use Rattle.ht_inputs.specs.Errors.{exit_status}
use Rattle.ht_inputs.specs.Inputs.{AcceptsInputs, JobBasis}
use Rattle.ht_inputs.specs.Reading.{LacksMemory, StopsReading}
use Rattle.ht_app.specs.Acts.{Act, Did, Stops, act_port}
use Rattle.ht_app.specs.Outputs.{BeginsOutput, MakesOutput}

-- ---- done

-- The inputs were accepted, and the output was made of what they say.
pub record IsDone (job : Asked) (old new : DeskView) : Type 0 where
  pub basis : JobBasis
  pub inputs : AcceptsInputs job basis old
  pub acts : List Act
  pub makes : MakesOutput job basis acts
  pub did : Did acts old new

-- the words ask for a job, and it is done
abbrev pub AskedIsDone : Option Asked → DeskView → DeskView → Type 0
AskedIsDone asked old new = (job : Asked) × (asked ≡ Some job) × IsDone job old new

-- ---- a failed write, or want of memory

-- A write failed, after the inputs were accepted, and the output stops there. It wasn't one on Err, so that a run whose
-- line on Err can't be written has its status all the same.
pub record FailsToWrite (job : Asked) (old new : DeskView) : Type 0 where
  pub basis : JobBasis
  pub inputs : AcceptsInputs job basis old
  pub acts : List Act
  pub makes : MakesOutput job basis acts ⊎ BeginsOutput job basis acts
  pub stops : Stops acts old new
  pub not_err : act_port stops.act ≢ Err

-- Memory ran out after some first acts were done whole.
pub record StopsForMemory (job : Asked) (old new : DeskView) : Type 0 where
  pub basis : JobBasis
  pub inputs : AcceptsInputs job basis old
  pub acts : List Act
  pub begins : BeginsOutput job basis acts
  pub count : ℕ
  pub did : Did (take count acts) old new

-- ---- the causes

-- Why the work of a job ends by an error. Memory may run out at any time: before anything is written, at a file or
-- after them, or while the output is begun. Any other error but a failed write is one of reading.
abbrev pub HasCause : Asked → DeskView → DeskView → RunError → Type 0
HasCause job old new WriteFault = FailsToWrite job old new
HasCause job old new NoMemory =
    (Did [] old new × LacksMemory job old new) ⊎ StopsForMemory job old new
HasCause job old new error = StopsReading job old new error

-- The same where words ask for a job or for none. Where they have no form, the desk isn't touched; memory may run out
-- before they are read.
abbrev pub AskedHasCause : Option Asked → DeskView → DeskView → RunError → Type 0
AskedHasCause asked old new Usage = (asked ≡ None) × (new ≡ old)
AskedHasCause None old new NoMemory = new ≡ old
AskedHasCause asked old new error = (job : Asked) × (asked ≡ Some job) × HasCause job old new error

-- ---- what is said of them

-- the line on Err, by the error
abbrev pub err_line : RunError → List ℕ
err_line (Denied (Tests line)) = numbered (codes "denied: tests line ") line (codes "\n")
err_line (Denied (Report line)) = numbered (codes "denied: report line ") line (codes "\n")
err_line (Denied (Proofs line)) = numbered (codes "denied: proofs line ") line (codes "\n")
err_line (Denied (Fault number)) = numbered (codes "denied: fault ") number (codes "\n")
err_line Usage = usage_line
err_line TooLong = codes "netlist: too long\n"
err_line (Refused error) = codes "netlist: " ++ (refusal_text error ++ codes "\n")
err_line ReadFault = codes "read fault\n"
err_line WriteFault = codes "write fault\n"
err_line NoMemory = codes "no memory\n"
err_line (BadStart line) = numbered (codes "start: line ") line (codes "\n")
err_line (BadTests line) = numbered (codes "tests: line ") line (codes "\n")
err_line TooManyVectors = codes "tests: too many vectors\n"
err_line (BadResponses line) = numbered (codes "responses: line ") line (codes "\n")
err_line (NoSuchFault faults) = numbered (codes "fault: above ") faults (codes "\n")
err_line (BadFaults line) = numbered (codes "faults: line ") line (codes "\n")

-- The work ended by an error that has its cause, and only then the run said so: Err gets the error's line, or a front
-- of it where a write on Err failed, and nothing else changes.
pub record EndsBy (asked : Option Asked) (status : ℕ) (old new : DeskView) : Type 0 where
  pub error : RunError
  pub is : status ≡ exit_status error
  -- the desk as the work left it, which said nothing on Err
  pub worked : DeskView
  pub after : IsAfter old worked
  pub quiet : worked.written Err ≡ old.written Err
  pub cause : AskedHasCause asked old worked error
  pub line : Writes Err worked new
  pub count : ℕ
  pub added : new.written Err ≡ append_known (worked.written Err) (take count (err_line error))
  pub whole : (count ≡ length (err_line error)) ⊎ Rose (worked.out_faults Err) (new.out_faults Err)
