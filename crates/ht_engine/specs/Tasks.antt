-- What is said of the rounds of refutation of a task, and of the attempt at the told frame of one: its fault and budget
-- go along, and its invariant or its circuit.
use Rattle.std.specs.Prelude.{◌≡◌, [], ◌∷◌, Option}
use Rattle.ht_net.specs.Circuit.Netlist.{Netlist}
use Rattle.ht_net.specs.Frames.Rows.{Rows}
use Rattle.ht_tree.specs.declared.entry.Entry.{Entry}
use Rattle.ht_tree.specs.Record.AimedAttempts.{back_limit, told_cube}
use Rattle.ht_forward.specs.declared.ahead.Ahead.{Ahead}
use Rattle.ht_justify.specs.declared.justification.Back.{Back}
use Rattle.ht_justify.specs.Answers.{BackHolds, IsListBack}
use Rattle.ht_engine.specs.declared.attempt.Attempted.{Attempted}
use Rattle.ht_engine.specs.declared.attempt.Task.{Task}
use Rattle.ht_engine.specs.declared.work.FaultTask.{FaultTask}
use Rattle.ht_engine.specs.declared.work.Rounds.{Rounds}
use Rattle.ht_engine.specs.Attempts.{AheadOfHolds, AttemptHolds, FindsAhead, FindsBoth, IsAheadOf, IsAttempted, IsBackOf, IsFrameSpot, IsListAheadOf}
use Rattle.ht_engine.specs.Enough.{RoundsSuffice}
use Rattle.ht_engine.specs.FaultWork.{AreRounds, IsFromEntry}
use Rattle.ht_engine.specs.ToldFrames.{IsFrameOf}

-- ---- the rounds of refutation

-- what the rounds come to
abbrev pub AreTaskRounds : Netlist → FaultTask → Rounds → Type 0
AreTaskRounds c t = AreRounds c t.fault t.budget t.invariant.now

-- what they are enough for
abbrev pub TaskRoundsSuffice : Netlist → FaultTask → Rounds → Type 0
TaskRoundsSuffice c t = RoundsSuffice c t.fault t.budget t.invariant.now.clauses

-- what the rounds under the clauses of the invariant give
abbrev pub IsTaskFromEntry : Netlist → FaultTask → Option Entry → Type 0
IsTaskFromEntry c t = IsFromEntry c t.fault t.budget t.invariant.now

-- ---- the attempt

-- the searches that lead to the end of the attempt
abbrev pub IsTaskAttempt : Task → Attempted → Type 0
IsTaskAttempt t = IsAttempted t.circuit.now t.fault t.budget (t.told.now ∷ [])

-- what its end means
abbrev pub TaskAttemptHolds : Task → Attempted → Type 0
TaskAttemptHolds t = AttemptHolds t.circuit.now t.fault t.budget (t.told.now ∷ [])

-- its frame has the latches that the told one needs, and its vector
abbrev pub IsTaskFrame : Task → Type 0
IsTaskFrame t = IsFrameOf t.circuit.now t.told.now t.frame

-- the task is of this circuit, its frame is told at an output or at a next state, and has what the told one needs
pub record IsTaskOf (c : Netlist) (t : Task) : Type 0 where
  pub circuit : c ≡ t.circuit.now
  pub place : IsFrameSpot t.told.now.place
  pub frame : IsTaskFrame t

-- what the search ahead comes to
abbrev pub IsTaskAhead : Task → Ahead → Type 0
IsTaskAhead t = IsAheadOf t.circuit.now t.fault t.budget t.told.now t.told.now.place

-- what that means
abbrev pub TaskAheadHolds : Task → Ahead → Type 0
TaskAheadHolds t = AheadOfHolds t.circuit.now t.fault t.budget t.told.now

-- what the search back comes to
abbrev pub IsTaskBack : Task → Back → Type 0
IsTaskBack t = IsBackOf t.circuit.now t.budget t.told.now

-- what that means
abbrev pub TaskBackHolds : Task → Back → Type 0
TaskBackHolds t = BackHolds t.circuit.now (told_cube t.circuit.now t.told.now) back_limit t.budget

-- the list ahead is found
abbrev pub FindsTaskAhead : Task → Rows → Type 0
FindsTaskAhead t = FindsAhead t.circuit.now t.fault t.budget t.told.now

-- a list ahead of the frame
abbrev pub IsTaskListAhead : Task → Rows → Type 0
IsTaskListAhead t = IsListAheadOf t.circuit.now t.fault t.told.now

-- both lists are found
abbrev pub FindsTaskBoth : Task → Rows → Rows → Type 0
FindsTaskBoth t = FindsBoth t.circuit.now t.fault t.budget t.told.now

-- a list back from the frame
abbrev pub IsTaskListBack : Task → Rows → Type 0
IsTaskListBack t = IsListBack t.circuit.now (told_cube t.circuit.now t.told.now) back_limit
