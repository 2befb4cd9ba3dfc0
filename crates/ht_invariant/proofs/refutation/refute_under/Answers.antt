use Rattle.std.proofs.Common.{◌≡◌, ◌∙◌, ℕ, List, Bool, [], false, length, get_or, refl, ap, sym, subst, arith}
use Rattle.std.proofs.lemmas.List.{length-replicate}
use Rattle.ht_net.specs.Circuit.Netlist.{IsCircuit, Netlist}
use Rattle.ht_tree.specs.Walk.Searches.{Closes}
use Rattle.ht_tree.specs.Record.ToldChains.{is_output}
use Rattle.ht_tree.specs.Clause.Clauses.{AreKnownClauses, literals_of_each}
use Rattle.ht_window.specs.Starts.{marked}
use Rattle.ht_records.proofs.MeetLaws.{clauses_known}
use Rattle.ht_oneframe.specs.Rounds.{FindsFrame, IsRound, SpendsIn}
use Rattle.ht_oneframe.proofs.RoundLaws.{TellsMore, told_round}
use Rattle.ht_invariant.specs.FromStates.{FindsMembers, guide_from}
use Rattle.ht_invariant.specs.Trials.{knows_each}
use Rattle.ht_invariant.proofs.FindLaws.{each_known}
use Rattle.ht_invariant.proofs.FromLaws.{budget_is_spent, depends, finds_members, frame_tells_under, output_is_told, set_is_least_from, spends_little}
use Rattle.ht_invariant.proofs.MarkLaws.{none_set}
use Rattle.ht_invariant.proofs.refutation.refute_under.Goals as goal
use Rattle.ht_invariant.proofs.refutation.refute_under.Goals.{In-Told, In_ok-marks, In_ok-tokens}

-- the circuit of the bases is well formed, and the clauses are its own
valid : (c : In_ok-marks) → IsCircuit c.args.bases.now.circuit
valid c = rw c.circuit-circuit.ensures.circuit at c.nets.ensures.circuit

known : (c : In_ok-marks) → AreKnownClauses c.args.bases.now.circuit (literals_of_each c.args.clauses.now)
known c = clauses_known c.args.bases.now.circuit c.args.clauses.now c.requires

-- what this round came to, and the set of the rounds before it under another name
round : (c : In_ok-tokens) → IsRound c.args.bases.now.circuit c.args.fault
    (guide_from c.args.bases.now.circuit c.args.fault (literals_of_each c.args.clauses.now)) c.args.budget
    (marked 0 c.rounds.marks.items) c.in_ok-tokens.field-0
round c = rw c.deref.ensures.value at (rw c.rounds.invariant.0 at c.in_ok-tokens.ensures.round)

members : (c : In_ok-tokens) (z : List ℕ) → z ≡ marked 0 c.rounds.marks.items
    → FindsMembers c.args.bases.now.circuit c.args.fault (literals_of_each c.args.clauses.now) c.args.budget z
members c = finds_members c.args.bases.now.circuit c.args.fault (literals_of_each c.args.clauses.now) c.args.budget
    c.rounds.marks.items c.rounds.invariant.1.0 c.rounds.invariant.1.1

-- the frame that a round told, and what it makes of the rounds before it
found : (c : In-Told) → FindsFrame c.args.bases.now.circuit c.args.fault
    (guide_from c.args.bases.now.circuit c.args.fault (literals_of_each c.args.clauses.now)) c.args.budget
    (marked 0 c.rounds.marks.items) c.in-Told.told
found c = rw c.deref.ensures.value at (rw c.in-Told.is at (rw c.rounds.invariant.0 at c.in_ok-tokens.ensures.round))

told : (c : In-Told) → TellsMore c.args.bases.now.circuit c.args.fault
    (guide_from c.args.bases.now.circuit c.args.fault (literals_of_each c.args.clauses.now)) c.args.budget
    c.rounds.marks.items c.rounds.invariant.1.0 c.in-Told.told
told c =
    let n = c.args.bases.now.circuit in
    let f = c.args.fault in
    let ls = literals_of_each c.args.clauses.now in
    let b = c.args.budget in
    let marks = c.rounds.marks.items in
    let told = c.in-Told.told in
    let valid : IsCircuit n = rw c.circuit-circuit.ensures.circuit at c.nets.ensures.circuit in
    told_round n f (guide_from n f ls) b marks c.rounds.invariant.1.0 c.rounds.invariant.1.1 (depends n f ls) told
    (frame_tells_under n f ls b valid (marked 0 marks) told (found c)).tells.place (found c)

pub rounds-init : goal.rounds-init
rounds-init c =
    let marks = c.in_ok-marks.ensures in
    let count = c.dffs.result in
    let long = ap (λ (n : Netlist). length n.dffs) c.circuit-circuit.ensures.circuit in (
      refl,
      (
        [],
        record {
          long = ap length marks ∙ (length-replicate count false ∙ (c.dffs.ensures ∙ long));
          same = λ j. ap (λ (xs : List Bool). get_or xs j false) marks ∙ none_set count j;
          states = record { found = tt; hidden = refl };
        },
      ),
    )

pub search_under-requires-clause-known : goal.search_under-requires-clause-known
search_under-requires-clause-known c =
    let n = c.args.bases.now.circuit in
    ap (λ (m : Netlist). knows_each m c.args.clauses.now) c.rounds.invariant.0
    ∙ each_known n c.args.clauses.now c.requires

pub returns-in-Closed-clause-answer : goal.returns-in-Closed-clause-answer
returns-in-Closed-clause-answer c =
    let is = c.in_ok-z-in-Closed.ensures ∙ ap (marked 0) c.deref-in-Closed.ensures.value in
    let closes = rw c.in-Closed.is at (round (goal.at.returns-in-Closed-clause-answer c).In_ok-tokens) in (
      members (goal.at.returns-in-Closed-clause-answer c).In_ok-tokens c.in_ok-z-in-Closed.z is,
      subst (λ (z : List ℕ). Closes
          (guide_from c.args.bases.now.circuit c.args.fault (literals_of_each c.args.clauses.now) z) c.args.budget 1
          c.in-Closed.tokens) (sym is) closes,
    )

pub returns-in-Closed-clause-holds : goal.returns-in-Closed-clause-holds
returns-in-Closed-clause-holds c =
    let h = returns-in-Closed-clause-answer c in
    let is = c.in_ok-z-in-Closed.ensures ∙ ap (marked 0) c.deref-in-Closed.ensures.value in
    λ state invariant. set_is_least_from c.args.bases.now.circuit c.args.fault state c.args.clauses.now c.args.budget
    c.rounds.marks.items c.in_ok-z-in-Closed.z c.in-Closed.tokens
    (valid (goal.at.returns-in-Closed-clause-holds c).In_ok-marks) invariant c.rounds.invariant.1.1.long is h.0 h.1

pub returns-in-Spent-clause-answer : goal.returns-in-Spent-clause-answer
returns-in-Spent-clause-answer c =
    let is = c.in_ok-z-in-Spent.ensures ∙ ap (marked 0) c.deref-in-Spent.ensures.value in
    let spends = rw c.in-Spent.is at (round (goal.at.returns-in-Spent-clause-answer c).In_ok-tokens) in (
      members (goal.at.returns-in-Spent-clause-answer c).In_ok-tokens c.in_ok-z-in-Spent.z is,
      subst (λ (z : List ℕ). SpendsIn
          (guide_from c.args.bases.now.circuit c.args.fault (literals_of_each c.args.clauses.now)) c.args.budget z
          c.in-Spent.tokens) (sym is) spends,
    )

pub returns-in-Spent-clause-holds : goal.returns-in-Spent-clause-holds
returns-in-Spent-clause-holds c =
    let at = (goal.at.returns-in-Spent-clause-holds c).In_ok-marks in
    let h = returns-in-Spent-clause-answer c in
    λ state invariant. budget_is_spent c.args.bases.now.circuit c.args.fault (literals_of_each c.args.clauses.now)
    c.args.budget (valid at) (known at) c.in_ok-z-in-Spent.z h.0 c.in-Spent.tokens h.1

pub returns-in-Spent-clause-enough : goal.returns-in-Spent-clause-enough
returns-in-Spent-clause-enough c =
    let at = (goal.at.returns-in-Spent-clause-enough c).In_ok-marks in
    λ large z seal. spends_little c.args.bases.now.circuit c.args.fault (literals_of_each c.args.clauses.now)
    c.args.budget c.in_ok-z-in-Spent.z c.in-Spent.tokens (valid at) (known at) (returns-in-Spent-clause-answer c).1
    large

pub index_mut-requires : goal.index_mut-requires
index_mut-requires c =
    let inside = ((told (goal.at.index_mut-requires c).In-Told).state c.in-State.j c.in-State.is).known in
    let marks = c.rounds.marks in
    omega (arith, inside)

pub rounds-smaller : goal.rounds-smaller
rounds-smaller c = ((told (goal.at.rounds-smaller c).In-Told).state c.in-State.j c.in-State.is).fewer

pub rounds-preserved : goal.rounds-preserved
rounds-preserved c = (
  c.search_under.ensures.circuit ∙ c.rounds.invariant.0,
  (_, ((told (goal.at.rounds-preserved c).In-Told).state c.in-State.j c.in-State.is).rounds),
)

pub returns-in-Output-clause-answer : goal.returns-in-Output-clause-answer
returns-in-Output-clause-answer c =
    let is = c.in_ok-z-in-Output.ensures ∙ ap (marked 0) c.deref-in-Output.ensures.value in (
      members (goal.at.returns-in-Output-clause-answer c).In_ok-tokens c.in_ok-z-in-Output.z is,
      ap is_output c.in-Output.is,
      subst (λ (z : List ℕ). FindsFrame c.args.bases.now.circuit c.args.fault
          (guide_from c.args.bases.now.circuit c.args.fault (literals_of_each c.args.clauses.now)) c.args.budget z
          c.in-Told.told) (sym is) (found (goal.at.returns-in-Output-clause-answer c).In-Told),
    )

pub returns-in-Output-clause-holds : goal.returns-in-Output-clause-holds
returns-in-Output-clause-holds c =
    let at = (goal.at.returns-in-Output-clause-holds c).In_ok-marks in
    let h = returns-in-Output-clause-answer c in
    λ state invariant. output_is_told c.args.bases.now.circuit c.args.fault (literals_of_each c.args.clauses.now)
    c.args.budget (valid at) (known at) c.in_ok-z-in-Output.z h.0 c.in-Told.told h.1 h.2

pub returns-in-Output-clause-enough : goal.returns-in-Output-clause-enough
returns-in-Output-clause-enough c =
    let at = (goal.at.returns-in-Output-clause-enough c).In_ok-marks in
    let h = returns-in-Output-clause-answer c in
    λ large z. (output_is_told c.args.bases.now.circuit c.args.fault (literals_of_each c.args.clauses.now)
    c.args.budget (valid at) (known at) c.in_ok-z-in-Output.z h.0 c.in-Told.told h.1 h.2).unsealed z

pub unreachable-requires : goal.unreachable-requires
unreachable-requires c = (told (goal.at.unreachable-requires c).In-Told).no_cube c.in-Cube.is
