-- The words of a refusal, as the line on Err has them.
use Rattle.std.specs.Prelude.{ℕ, List, ◌++◌, codes, flat_map}
use Rattle.ht_ports.specs.Numbered.{numbered}
use Rattle.ht_net.specs.declared.error.Limit.{Limit}
use Rattle.ht_net.specs.declared.error.Limit.TheVariants as limit
use Rattle.ht_net.specs.Build.Named.{Name}
use Rattle.ht_bench.specs.declared.error.BenchError.{BenchError}
use Rattle.ht_bench.specs.declared.error.BenchError.TheVariants.{BadLine, BadName, BadKind, BadCount, Twice, TooMany, Undriven, Loop, NoMemory}

-- the words for a limit that a netlist goes beyond
abbrev pub limit_text : Limit → List ℕ
limit_text limit.Nets = codes "too many nets"
limit_text limit.Pins = codes "too many pins"
limit_text limit.Inputs = codes "too many inputs"
limit_text limit.Dffs = codes "too many flip-flops"

-- the names of a cycle, each after one space
abbrev pub loop_text : List Name → List ℕ
loop_text names = flat_map (λ (name : Name). codes " " ++ name) names

-- the line, which counts from 1, and the cause
abbrev pub at_line : ℕ → List ℕ → List ℕ
at_line line cause = numbered (codes "line ") line (codes ": ") ++ cause

-- why a text is no netlist, for example `line 3: second driver G5` or `line 7: loop G8 G9`
abbrev pub refusal_text : BenchError → List ℕ
refusal_text (BadLine line) = at_line line (codes "bad line")
refusal_text (BadName line) = at_line line (codes "bad name")
refusal_text (BadKind line) = at_line line (codes "bad kind")
refusal_text (BadCount line) = at_line line (codes "bad count")
refusal_text (Twice line name) = at_line line (codes "second driver " ++ name)
refusal_text (TooMany line what) = at_line line (limit_text what)
refusal_text (Undriven line name) = at_line line (codes "undriven " ++ name)
refusal_text (Loop line names) = at_line line (codes "loop" ++ loop_text names)
refusal_text NoMemory = codes "out of memory"
