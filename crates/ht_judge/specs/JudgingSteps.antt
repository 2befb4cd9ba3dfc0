-- What the calls that a line of proofs makes find: of the entry that it ends, and of the entries that are due with it.
use Rattle.std.specs.Prelude.{◌≡◌, ◌≢◌, ◌<◌, ◌≤◌, ◌+◌, ◌-◌, ℕ, List, [], Bool, true, false, length, min, Option, Some, None, Result, Ok, Err, IsOk}
use Rattle.ht_net.specs.Circuit.Netlist.{Netlist}
use Rattle.ht_faults.specs.Classes.{is_representative}
use Rattle.ht_texts.specs.declared.said.Said.{Said}
use Rattle.ht_texts.specs.declared.said.Said.TheVariants.{Detected}
use Rattle.ht_texts.specs.Verdicts.{said_at}
use Rattle.ht_entries.specs.declared.numbered.Numbered.{Numbered}
use Rattle.ht_entries.specs.declared.reader_state.Stand.{Stand}
use Rattle.ht_entries.specs.declared.reader_state.Stand.TheVariants.{Head, Entry, End}
use Rattle.ht_entries.specs.ReaderStands.{ProofCalled, ProofReaderView}
use Rattle.ht_entries.specs.declared.text_error.TextError.{TextError}
use Rattle.ht_entries.specs.declared.text_error.TextError.TheVariants as read
use Rattle.ht_tree.specs.declared.kind.EntryKind.{EntryKind}
use Rattle.ht_tree.specs.Record.Entries.{kind_of}
use Rattle.ht_valid.specs.ValidFiles.{Content, IsBacking, NeedsEntry, said_by_kind}
use Rattle.ht_valid.specs.declared.trouble.Trouble.TheVariants.{Proofs, Fault}
use Rattle.ht_judge.specs.declared.judge_error.JudgeError.{JudgeError}
use Rattle.ht_judge.specs.declared.judge_error.JudgeError.TheVariants.{Denied, NoMemory}
use Rattle.ht_judge.specs.ProofJudging.{ProofJudgeView, ProofJudged}

-- what stops a reader stops its judge
abbrev pub stopped_by : TextError → JudgeError
stopped_by (read.BadText line) = Denied (Proofs line)
stopped_by read.NoMemory = NoMemory

-- ---- what a judge takes from an entry

-- a number, from 1, is that of a representative
pub record IsOwnNumber (representatives : List ℕ) (number : ℕ) : Type 0 where
  pub counted : (0 < number) × (number ≤ length representatives)
  pub own : is_representative representatives (number - 1) ≡ true

-- What is said of a fault once its entry of this kind is whole: that it is detected stays, and else it is what the entry
-- says.
abbrev pub said_with : EntryKind → Said → Said
said_with kind (Detected place) = Detected place
said_with kind said = said_by_kind kind

-- The verdict of the entry's fault is the one that comes with the entry, and all others are as before.
pub record TakesVerdict (e : Numbered) (old new : List Said) : Type 0 where
  pub taken : said_at new (e.number - 1) ≡ said_with (kind_of e.entry) (said_at old (e.number - 1))
  pub others : (i : ℕ) → i + 1 ≢ e.number → said_at new i ≡ said_at old i

-- Where the line ended an entry of a representative, its verdict is taken; where it ended none, nothing changes.
abbrev pub FollowsEnded : List ℕ → Option Numbered → List Said → List Said → Type 0
FollowsEnded representatives None old new = new ≡ old
FollowsEnded representatives (Some e) old new = IsOwnNumber representatives e.number → TakesVerdict e old new

-- ---- the entry that a line ends

-- the start, the budget and the verdicts, with no vectors and no entries
abbrev pub claimed : ProofJudgeView → Content
claimed v = record { start = v.start; list = []; budget = v.budget; saids = v.saids; entries = [] }

-- The entry doesn't back what is said of its fault, or memory ran out.
abbrev pub DeniesEntry : ProofJudgeView → Numbered → JudgeError → Type 0
DeniesEntry v e (Denied (Fault number)) =
    (number ≡ e.number) × (¬ IsBacking v.circuit v.representatives (claimed v) e)
DeniesEntry v e (Denied other) = ⊥
DeniesEntry v e NoMemory = Unit {0}

-- the entry is judged: it backs what is said of its fault, or is denied
abbrev pub JudgesEntry : ProofJudgeView → Numbered → Result (Unit {0}) JudgeError → Type 0
JudgesEntry v e (Ok u) = IsBacking v.circuit v.representatives (claimed v) e
JudgesEntry v e (Err error) = DeniesEntry v e error

-- where there is none, nothing is judged
abbrev pub JudgesEnded : ProofJudgeView → Option Numbered → Result (Unit {0}) JudgeError → Type 0
JudgesEnded v None result = IsOk result
JudgesEnded v (Some e) result = JudgesEntry v e result

-- ---- the entries that are due

-- the faults, by number from 0, whose entries are due are the first ones: how many of so many
abbrev pub due_of : Stand → ℕ → ℕ
due_of Head count = 0
due_of (Entry number) count = min (number - 1) count
due_of End count = count

-- No entry is due where the verdicts follow the proofs.
abbrev pub due_by : Bool → Stand → ℕ → ℕ
due_by true stand count = 0
due_by false stand count = due_of stand count

-- the number of the last entry that was begun, after a line
abbrev pub begun_by : Stand → ℕ → ℕ
begun_by Head before = before
begun_by (Entry number) before = number
begun_by End before = before

-- an entry is needed for this representative
pub record IsNeeded (representatives : List ℕ) (saids : List Said) (i : ℕ) : Type 0 where
  pub own : is_representative representatives i ≡ true
  pub needs : NeedsEntry (said_at saids i)

-- the least number from one on and below another for which an entry is needed
pub record IsFirstNeeded (representatives : List ℕ) (saids : List Said) (from to i : ℕ) : Type 0 where
  pub inside : (from ≤ i) × (i < to)
  pub needed : IsNeeded representatives saids i
  pub first : (k : ℕ) → from ≤ k → k < i → ¬ IsNeeded representatives saids k

-- The least entry that is needed from the last one that was begun on is denied.
abbrev pub DeniesDue : ProofJudgeView → ℕ → JudgeError → Type 0
DeniesDue v due (Denied (Fault number)) =
    (0 < number) × IsFirstNeeded v.representatives v.saids v.last_number due (number - 1)
DeniesDue v due (Denied other) = ⊥
DeniesDue v due NoMemory = ⊥

-- from the number of the last entry that was begun on no entry is needed that is due, or the least one is denied
abbrev pub JudgesDue : ProofJudgeView → ℕ → Result (Unit {0}) JudgeError → Type 0
JudgesDue v due (Ok u) = (k : ℕ) → v.last_number ≤ k → k < due → ¬ IsNeeded v.representatives v.saids k
JudgesDue v due (Err error) = DeniesDue v due error

-- ---- the line

-- What judging leaves, whatever line the reader took before, where that ended this entry or none.
abbrev pub JudgesTaken : (ProofJudgeView → Content → List (List ℕ) → Type 0)
    → (Netlist → List ℕ → Content → List (List ℕ) → List ℕ → ℕ → Type 0) → ProofJudgeView → ProofJudgeView
    → Option Numbered → Result (Unit {0}) JudgeError → Type 0
JudgesTaken Judges IsTrouble old new ended result = (reader : ProofReaderView) (line : List ℕ)
    → ProofCalled reader old.reader line (Ok ended)
    → ProofJudged Judges IsTrouble (record old { reader = reader }) new line result
