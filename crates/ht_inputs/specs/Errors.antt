-- Why a run ends without its work, and its status.
use Rattle.std.specs.Prelude.{ℕ}
use Rattle.ht_bench.specs.declared.error.BenchError.{BenchError}
use Rattle.ht_bench.specs.declared.error.BenchError.TheVariants as bench
use Rattle.ht_judge.specs.declared.judge_error.JudgeError.{JudgeError}
use Rattle.ht_judge.specs.declared.judge_error.JudgeError.TheVariants as judge
use Rattle.ht_inputs.specs.declared.run_error.RunError.{RunError}
use Rattle.ht_inputs.specs.declared.run_error.RunError.TheVariants.{Denied, Usage, TooLong, Refused, ReadFault, WriteFault, NoMemory, BadStart, BadTests, TooManyVectors, BadResponses, NoSuchFault, BadFaults}

-- why a netlist that isn't read ends a run
abbrev pub run_error_of : BenchError → RunError
run_error_of bench.NoMemory = NoMemory
run_error_of error = Refused error

-- why a judge that takes no further line ends a run
abbrev pub judged_error_of : JudgeError → RunError
judged_error_of (judge.Denied trouble) = Denied trouble
judged_error_of judge.NoMemory = NoMemory

-- the status that a run ends with
abbrev pub exit_status : RunError → ℕ
exit_status (Denied trouble) = 1
exit_status Usage = 2
exit_status TooLong = 3
exit_status (Refused error) = 3
exit_status ReadFault = 4
exit_status WriteFault = 5
exit_status NoMemory = 6
exit_status (BadTests line) = 7
exit_status (BadStart line) = 8
exit_status TooManyVectors = 9
exit_status (BadResponses line) = 10
exit_status (NoSuchFault faults) = 12
exit_status (BadFaults line) = 13
