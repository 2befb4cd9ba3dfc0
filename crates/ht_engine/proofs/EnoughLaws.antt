-- What the work on a fault means leaves no other answer where the budget is enough.
use Rattle.std.proofs.Common.{◌≡◌, ◌≤◌, ◌<◌, ℕ, List, [], ◌∷◌, Bool, true, Option, Some, None, length, refl, subst, arith}
use Rattle.ht_net.specs.declared.fault.Fault.{Fault}
use Rattle.ht_net.specs.Detect.Detection.{Detects, IsStart, unknown_state}
use Rattle.ht_net.specs.Circuit.Netlist.{IsCircuit, Netlist}
use Rattle.ht_net.specs.Detect.Silence.{Sealed}
use Rattle.ht_net.proofs.MoreToldLaws.{unknown_is_start}
use Rattle.ht_tree.specs.declared.clause.Clause.{Clause}
use Rattle.ht_tree.specs.declared.clause.Literal.{Literal}
use Rattle.ht_tree.specs.declared.entry.Entry.{Entry}
use Rattle.ht_tree.specs.declared.entry.Entry.TheVariants.{Untestable, UntestableFrom, UndetectableBySets, UndetectableByCubes, Aborted}
use Rattle.ht_tree.specs.declared.kind.EntryKind.TheVariants as kinds
use Rattle.ht_tree.specs.declared.token.Token.{Token}
use Rattle.ht_tree.specs.declared.told.Told.{Told}
use Rattle.ht_tree.specs.Record.AbortRecords.{IsAbortRecord, IsLastWalk}
use Rattle.ht_tree.specs.Walk.Budgets.{refutation_cost, sweep_cost}
use Rattle.ht_tree.specs.Clause.Clauses.{literals_of_each}
use Rattle.ht_tree.specs.Record.Entries.{Passes}
use Rattle.ht_tree.specs.Record.FamilyRows.{family_of}
use Rattle.ht_tree.specs.Clause.SealedInClauses.{SealedIn}
use Rattle.ht_tree.specs.Record.ToldChains.{ends_at_output, states_of}
use Rattle.ht_tree.specs.Window.Windows as window
use Rattle.ht_records.proofs.AbortLaws.{enough_undetected, passing_means}
use Rattle.ht_records.proofs.ChainLaws.{chain_to_output}
use Rattle.ht_records.proofs.RunFamilyLaws.{closed_undetected}
use Rattle.ht_records.proofs.ShortWalkLaws.{one_frame_unspent}
use Rattle.ht_invariant.specs.declared.finding.Invariant.{Invariant}
use Rattle.ht_engine.specs.declared.settings.Settings.{Settings}
use Rattle.ht_engine.specs.declared.work.Work.{Work}
use Rattle.ht_engine.specs.declared.work.Work.TheVariants as work
use Rattle.ht_engine.specs.DeepWork.{IsOpenWork}
use Rattle.ht_engine.specs.Enough.{IsEnough, IsList, IsRefutation}
use Rattle.ht_engine.specs.FaultWork.{IsFromEntry, IsListWork, IsOpenFault, IsWork, PassesAlways, WorkHolds}

-- ---- what is sealed

-- what is sealed where no clause has to be met is sealed
pub sealed_by_none : (c : Netlist) (fault : Fault) (z : ℕ → Bool) → SealedIn c fault z [] → Sealed c fault z
sealed_by_none c fault z seal = record {
  outputs = λ vector state state' wide is is' agree. seal.outputs vector state state' wide is is' refl agree;
  stays = λ vector state state' wide is is' agree. seal.stays vector state state' wide is is' refl agree;
}

-- what is sealed is sealed as long as any clauses are met
pub sealed_under : (c : Netlist) (fault : Fault) (z : ℕ → Bool) (clauses : List (List Literal)) → Sealed c fault z
    → SealedIn c fault z clauses
sealed_under c fault z clauses seal = record {
  outputs = λ vector state state' wide is is' meets agree. seal.outputs vector state state' wide is is' agree;
  stays = λ vector state state' wide is is' meets agree. seal.stays vector state state' wide is is' agree;
}

undetectable_is_other : kinds.Undetectable ≡ kinds.Untestable → ⊥
undetectable_is_other is = cc

-- the kind of an aborted fault isn't that of an untestable one
pub aborted_is_other : kinds.Aborted ≡ kinds.Untestable → ⊥
aborted_is_other is = cc

-- an entry passes for the start of the settings
abbrev pub EntryPasses : Netlist → Fault → Settings → Work → Type 0
EntryPasses c fault settings (work.List list) = Unit {0}
EntryPasses c fault settings (work.Entry entry) = Passes c settings.start fault settings.budget entry

module _ (c : Netlist) (fault : Fault) (budget : ℕ) (circuit : IsCircuit c) where
  -- ---- what the rounds of refutation leave open

  ends : (chain : List Told) (walk : Option (List Token)) → refutation_cost c ≤ budget
      → IsLastWalk c fault budget chain walk → ends_at_output chain ≡ true
  ends chain None large is = is
  ends chain (Some tokens) large is =
      absurd (one_frame_unspent c fault (states_of chain) budget tokens circuit large is.1)

  -- no set seals a fault that the rounds leave open with a budget for the one-frame windows
  pub open_unsealed : (told : List Told) (walk : Option (List Token)) → IsOpenFault c fault budget told walk
      → refutation_cost c ≤ budget → (z : ℕ → Bool) → ¬ Sealed c fault z
  open_unsealed told walk left large z =
      chain_to_output c fault told z circuit left.chain (ends told walk large left.last)

  -- so it is where the rounds under the clauses leave it open too
  pub open_unsealed_in : (told : List Told) (walk : Option (List Token)) → IsOpenFault c fault budget told walk
      → (clauses : List Clause) → refutation_cost c ≤ budget → (z : ℕ → Bool)
      → (0 < length clauses → ¬ SealedIn c fault z (literals_of_each clauses))
      → ¬ SealedIn c fault z (literals_of_each clauses)
  open_unsealed_in told walk left [] large z under seal =
      open_unsealed told walk left large z (sealed_by_none c fault z seal)
  open_unsealed_in told walk left (clause ∷ clauses) large z under seal = under (omega arith) seal

  -- ---- what the work gives

  -- an entry that says that the fault is untestable is enough
  refuted_undetected : (entry : Entry) → PassesAlways c fault budget entry → IsRefutation (work.Entry entry)
      → (list : List (List Bool)) (t o : ℕ) → ¬ Detects c fault list t o
  refuted_undetected (Untestable z tokens) passes is = (passing_means c (unknown_state c) fault budget
      (Untestable z tokens) circuit (unknown_is_start c) (passes (unknown_state c))).undetected
  refuted_undetected (UntestableFrom state clauses z tokens) passes is = (passing_means c (unknown_state c) fault budget
      (UntestableFrom state clauses z tokens) circuit (unknown_is_start c) (passes (unknown_state c))).undetected
  refuted_undetected (UndetectableBySets rows) passes is = absurd (undetectable_is_other is)
  refuted_undetected (UndetectableByCubes cubes steps) passes is = absurd (undetectable_is_other is)
  refuted_undetected (Aborted told walk aim walks) passes is = absurd (aborted_is_other is)

  -- any budget is enough for an entry that says untestable and passes whatever the start
  pub enough_refuted : (clauses : List Clause) (entry : Entry) → PassesAlways c fault budget entry
      → IsRefutation (work.Entry entry) → IsEnough c fault budget clauses (work.Entry entry)
  enough_refuted clauses entry passes is = record {
    sealed = λ large z seal. is;
    sealed_in = λ large z seal. is;
    short = λ d list t o few detects large. absurd (refuted_undetected entry passes is list t o detects);
  }

  -- what few vectors detect is detected by a list where the budget is enough
  abbrev pub FindsShort : Work → Type 0
  FindsShort w = (d : ℕ) (list : List (List Bool)) (t o : ℕ) → length list ≤ d → Detects c fault list t o
      → sweep_cost c.inputs d ≤ budget → IsList w

  -- if d vectors detect the fault and the budget is enough for d frames, the attempt or the sweep finds a list
  pub short_found : (w : Work) → IsListWork c fault budget w → WorkHolds c fault budget w → FindsShort w
  short_found (work.List list) is holds d list' t o few detects large = tt
  short_found (work.Entry (Untestable z tokens)) is holds d list t o few detects large = is
  short_found (work.Entry (UntestableFrom state clauses z tokens)) is holds d list t o few detects large = is
  short_found (work.Entry (UndetectableBySets rows)) is holds d list t o few detects large = is
  short_found (work.Entry (UndetectableByCubes cubes steps)) is holds d list t o few detects large = is
  short_found (work.Entry (Aborted told walk aim walks)) is holds d list t o few detects large = enough_undetected c
      fault budget d (record { told = told; walk = walk; aim = aim; sweep = walks }) circuit large
      (holds (unknown_state c)) list few t o detects

  -- so it is in the deep work: what a family that closes refutes no list detects
  pub deep_found : (settings : Settings) (states : window.Start) → IsStart c settings.start → settings.budget ≡ budget
      → (w : Work) → IsOpenWork c fault settings states w → EntryPasses c fault settings w → FindsShort w
  deep_found settings states latches same (work.List list) is holds d list' t o few detects large = tt
  deep_found settings states latches same (work.Entry (Untestable z tokens)) is holds d list t o few detects large =
      absurd is.1
  deep_found settings states latches same (work.Entry (UntestableFrom state clauses z tokens)) is holds d list t o few
      detects large =
      absurd is.1
  deep_found settings states latches same (work.Entry (UndetectableBySets rows)) is holds d list t o few detects large =
      closed_undetected c fault settings.start (family_of settings.start rows) is.rows_are.least.closes latches list t o
      detects
  deep_found settings states latches same (work.Entry (UndetectableByCubes cubes steps)) is holds d list t o few detects
      large =
      absurd is.1
  deep_found settings states latches same (work.Entry (Aborted told walk aim walks)) is holds d list t o few detects large =
      enough_undetected c fault budget d (record { told = told; walk = walk; aim = aim; sweep = walks }) circuit large
      (subst (λ (b : ℕ). IsAbortRecord c fault b (record { told = told; walk = walk; aim = aim; sweep = walks })) same
      holds) list few t o detects

  -- where the rounds leave open only what isn't sealed as long as the clauses are met, the budget is enough for all
  pub enough_open : (clauses : List Clause) (w : Work)
      → (refutation_cost c ≤ budget → (z : ℕ → Bool) → ¬ SealedIn c fault z (literals_of_each clauses)) → FindsShort w
      → IsEnough c fault budget clauses w
  enough_open clauses w unsealed short = record {
    sealed = λ large z seal. absurd (unsealed large z (sealed_under c fault z (literals_of_each clauses) seal));
    sealed_in = λ large z seal. absurd (unsealed large z seal);
    short = short;
  }

-- the entry that the rounds under clauses give is a refutation
pub entry_refutes : (c : Netlist) (fault : Fault) (budget : ℕ) (invariant : Invariant) (entry : Entry)
    → IsFromEntry c fault budget invariant (Some entry) → IsRefutation (work.Entry entry)
entry_refutes c fault budget invariant (Untestable z tokens) is = absurd is
entry_refutes c fault budget invariant (UntestableFrom state clauses z tokens) is = refl
entry_refutes c fault budget invariant (UndetectableBySets rows) is = absurd is
entry_refutes c fault budget invariant (UndetectableByCubes cubes steps) is = absurd is
entry_refutes c fault budget invariant (Aborted told walk aim walks) is = absurd is

-- what these rounds give is what the work gives
pub entry_is_work : (c : Netlist) (fault : Fault) (budget : ℕ) (invariant : Invariant) (told : List Told)
    (walk : Option (List Token)) → IsOpenFault c fault budget told walk → (entry : Entry)
    → IsFromEntry c fault budget invariant (Some entry) → IsWork c fault budget invariant (work.Entry entry)
entry_is_work c fault budget invariant told walk left (Untestable z tokens) is = absurd is
entry_is_work c fault budget invariant told walk left (UntestableFrom state clauses z tokens) is =
    record { told = told; walk = walk; rounds = left.rounds; under = is }
entry_is_work c fault budget invariant told walk left (UndetectableBySets rows) is = absurd is
entry_is_work c fault budget invariant told walk left (UndetectableByCubes cubes steps) is = absurd is
entry_is_work c fault budget invariant told walk left (Aborted told' walk' aim walks) is = absurd is
