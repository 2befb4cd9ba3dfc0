-- Why a line isn't added to a netlist in the making.
use Rattle.std.specs.Prelude.{◌≡◌, ℕ, ◌⊎◌, Option, Some}
use Rattle.ht_net.specs.declared.error.NetError.{NetError}
use Rattle.ht_net.specs.declared.error.NetError.TheVariants.{TooMany as NetTooMany}
use Rattle.ht_statement.specs.declared.error.LineRefusal.TheVariants.{BadLine as LineIsBad, BadName as NameIsBad, BadKind as KindIsBad, BadCount as CountIsBad}
use Rattle.ht_statement.specs.declared.error.StatementError.{StatementError}
use Rattle.ht_statement.specs.declared.error.StatementError.TheVariants.{Refused as LineRefused, NoMemory as LineNoMemory}
use Rattle.ht_bench.specs.declared.error.BenchError.{BenchError}
use Rattle.ht_bench.specs.declared.error.BenchError.TheVariants.{BadLine, BadName, BadKind, BadCount, Twice, TooMany, NoMemory}
use Rattle.ht_bench.specs.declared.add_error.AddError.{AddError}
use Rattle.ht_bench.specs.declared.add_error.AddError.TheVariants.{Refused, SecondDriver, Limit, NoMemory as AddNoMemory}

-- the error that there is; memory may run out at any line
abbrev pub IsAddError : AddError → Option AddError → Type 0
IsAddError error found = (error ≡ AddNoMemory) ⊎ (found ≡ Some error)

-- the refusal of a line for an error
abbrev pub error_at : AddError → ℕ → BenchError
error_at (Refused LineIsBad) line = BadLine line
error_at (Refused NameIsBad) line = BadName line
error_at (Refused KindIsBad) line = BadKind line
error_at (Refused CountIsBad) line = BadCount line
error_at (SecondDriver name) line = Twice line name
error_at (Limit what) line = TooMany line what
error_at AddNoMemory line = NoMemory

-- what a refusal of a builder says of the line, where it is no second driver
abbrev pub add_error_of : NetError → AddError
add_error_of (NetTooMany what) = Limit what
add_error_of _ = AddNoMemory

-- why a line isn't added, by why it isn't read
abbrev pub line_error_of : StatementError → AddError
line_error_of (LineRefused refusal) = Refused refusal
line_error_of LineNoMemory = AddNoMemory
