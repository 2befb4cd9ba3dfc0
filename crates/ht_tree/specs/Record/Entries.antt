-- What an entry says of its fault, when it passes, which starts allow it, and what it means: a line for each form of an
-- entry.
use Rattle.std.specs.Prelude.{ℕ, List}
use Rattle.ht_tern.specs.declared.tern.Tern.{Tern}
use Rattle.ht_net.specs.declared.fault.Fault.{Fault}
use Rattle.ht_net.specs.Circuit.Netlist.{Netlist}
use Rattle.ht_net.specs.Detect.Detection.{Allows}
use Rattle.ht_net.specs.Detect.Undetectable.{IsUndetectable}
use Rattle.ht_cubes.specs.Passing.{RefutesByCubes}
use Rattle.ht_tree.specs.declared.entry.Entry.{Entry}
use Rattle.ht_tree.specs.declared.entry.Entry.TheVariants.{Untestable, UntestableFrom, UndetectableBySets, UndetectableByCubes, Aborted}
use Rattle.ht_tree.specs.declared.kind.EntryKind.{EntryKind}
use Rattle.ht_tree.specs.declared.kind.EntryKind.TheVariants as kinds
use Rattle.ht_tree.specs.Record.Refutations.{Refutes, IsUntestable}
use Rattle.ht_tree.specs.Record.RefutationsFrom.{RefutesFrom, IsUntestableFrom}
use Rattle.ht_tree.specs.Record.FamilyRows.{ClosesByRows}
use Rattle.ht_tree.specs.Record.AbortRecords.{AbortMeans, IsAbortRecord}

-- What an entry says: a fault has a refutation, or one from a named state, and is untestable; or a family of sets
-- closes or forbidden cubes refute it, and it is undetectable; or the budget was spent.
abbrev pub kind_of : Entry → EntryKind
kind_of (Untestable z tokens) = kinds.Untestable
kind_of (UntestableFrom state clauses z tokens) = kinds.Untestable
kind_of (UndetectableBySets rows) = kinds.Undetectable
kind_of (UndetectableByCubes cubes steps) = kinds.Undetectable
kind_of (Aborted told walk aim sweep) = kinds.Aborted

-- The entry of a fault passes for the stated start: it is a refutation, one from its state, a family that closes for the
-- start, cubes and steps that refute it from the start, or an abort record for the budget. The budget measures no other
-- form.
abbrev pub Passes : Netlist → List Tern → Fault → ℕ → Entry → Type 0
Passes c start fault budget (Untestable z tokens) = Refutes c fault z tokens
Passes c start fault budget (UntestableFrom state clauses z tokens) = RefutesFrom c fault state clauses z tokens
Passes c start fault budget (UndetectableBySets rows) = ClosesByRows c fault start rows
Passes c start fault budget (UndetectableByCubes cubes steps) = RefutesByCubes c fault start cubes steps
Passes c start fault budget (Aborted told walk aim sweep) =
    IsAbortRecord c fault budget (record { told = told; walk = walk; aim = aim; sweep = sweep })

-- The start allows the state that the entry names, if it names one: a refutation from a state says nothing of starts
-- that don't allow it.
abbrev pub AllowsEntry : List Tern → Entry → Type 0
AllowsEntry start (Untestable z tokens) = Unit {0}
AllowsEntry start (UntestableFrom state clauses z tokens) = Allows start state
AllowsEntry start (UndetectableBySets rows) = Unit {0}
AllowsEntry start (UndetectableByCubes cubes steps) = Unit {0}
AllowsEntry start (Aborted told walk aim sweep) = Unit {0}

-- what it means that an entry passes for the stated start
abbrev pub Means : Netlist → List Tern → Fault → Entry → Type 0
Means c start fault (Untestable z tokens) = IsUntestable c fault z
Means c start fault (UntestableFrom state clauses z tokens) = IsUntestableFrom c fault state clauses z
Means c start fault (UndetectableBySets rows) = IsUndetectable c fault start
Means c start fault (UndetectableByCubes cubes steps) = IsUndetectable c fault start
Means c start fault (Aborted told walk aim sweep) =
    AbortMeans c fault (record { told = told; walk = walk; aim = aim; sweep = sweep })
