-- How a statement that borrows its names stands for the statement.
use Rattle.std.specs.Prelude.{ℕ, List, map}
use Rattle.std.specs.Borrow.{Bor}
use Rattle.ht_statement.specs.declared.statement.Statement.{Statement as Borrowed}
use Rattle.ht_statement.specs.declared.statement.Statement.TheVariants.{Nothing as BorrowedNothing, Input as BorrowedInput, Output as BorrowedOutput, Dff as BorrowedDff, Gate as BorrowedGate}
use Rattle.ht_statement.specs.Statement.{Statement, blank_line, input_line, output_line, dff_line, gate_line}

-- what borrowed texts contain
abbrev pub texts_of : List (Bor (List ℕ)) → List (List ℕ)
texts_of texts = map (λ t. t.now) texts

-- the statement that a stored one stands for
abbrev pub statement_of : Borrowed → Statement
statement_of BorrowedNothing = blank_line
statement_of (BorrowedInput name) = input_line name.now
statement_of (BorrowedOutput name) = output_line name.now
statement_of (BorrowedDff out data_pin) = dff_line out.now data_pin.now
statement_of (BorrowedGate out kind args) = gate_line out.now kind (texts_of args.items)
