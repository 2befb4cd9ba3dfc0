-- What a refusal of a text says, apart from the choice among cycles.
use Rattle.std.specs.Prelude.{Option, Some, None}
use Rattle.ht_bench.specs.declared.error.BenchError.{BenchError}
use Rattle.ht_bench.specs.declared.error.BenchError.TheVariants.{Loop, NoMemory}

-- The refusal itself, or none where it names a cycle; out of memory says nothing of the text.
abbrev pub text_refusal_of : BenchError → Option (Option BenchError)
text_refusal_of (Loop line names) = Some None
text_refusal_of NoMemory = None
text_refusal_of error = Some (Some error)
