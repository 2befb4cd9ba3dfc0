use Rattle.std.proofs.Common.{◌<◌, length, subst, arith}
use Rattle.ht_net.specs.Circuit.Netlist.{Netlist}
use Rattle.ht_forward.specs.LengthAnswers.{FindsAfter}
use Rattle.ht_forward.specs.Lengths.{SpendEach}
use Rattle.ht_sync.specs.SyncSearches.{FindsSyncList}
use Rattle.ht_sync.specs.SyncWindows.{sync_guide}
use Rattle.ht_sync.proofs.AnswerLaws.{enough_finds, found_is_answer, found_is_shortest, found_list_synchronizes}
use Rattle.ht_sync.proofs.AnswerLaws.{spent_is_record}
use Rattle.ht_sync.proofs.synchronizing.sync.Goals as goal
use Rattle.ht_sync.proofs.synchronizing.sync.Goals.{In-Found}

-- the circuit has a flip-flop, and the search finds the list in it
some : (c : In-Found) → 0 < length c.args.circuit.now.dffs
some c = omega (arith, c.if-dffs-eq0.false, c.dffs.ensures)

found : (c : In-Found) → FindsAfter (sync_guide c.args.circuit.now) (FindsSyncList c.args.circuit.now) c.args.budget
    c.in-Found.list c.in-Found.walks
found c =
    subst (λ (n : Netlist). FindsAfter (sync_guide n) (FindsSyncList n) c.args.budget c.in-Found.list c.in-Found.walks)
    c.in_ok-new.ensures (rw c.in-Found.is at c.in_ok-lengths.ensures.answer)

pub end_state-requires-clause-synchronizes : goal.end_state-requires-clause-synchronizes
end_state-requires-clause-synchronizes c =
    let at = (goal.at.end_state-requires-clause-synchronizes c).In-Found in
    found_list_synchronizes c.args.circuit.now c.args.budget c.in-Found.list c.in-Found.walks (some at) (found at)

pub returns-in-Found-clause-answer : goal.returns-in-Found-clause-answer
returns-in-Found-clause-answer c =
    let at = (goal.at.returns-in-Found-clause-answer c).In-Found in
    found_is_answer c.args.circuit.now c.args.budget c.in-Found.list c.in-Found.walks (some at) (found at)
    c.in_ok-state-in-Found.state c.in_ok-state-in-Found.ensures

pub returns-in-Found-clause-holds : goal.returns-in-Found-clause-holds
returns-in-Found-clause-holds c =
    let at = (goal.at.returns-in-Found-clause-holds c).In-Found in
    found_is_shortest c.args.circuit.now c.args.budget c.in-Found.list c.in-Found.walks (some at) (found at)
    c.in_ok-state-in-Found.state c.in_ok-state-in-Found.ensures

pub returns-clause-answer : goal.returns-clause-answer
returns-clause-answer c =
    let none = c.if-dffs-eq0.false in
    let dffs = c.dffs.ensures in
    record {
      some = omega (arith, none, dffs);
      spends = subst (λ (n : Netlist). SpendEach (sync_guide n) c.args.budget c.in-Spent.walks) c.in_ok-new.ensures
          (rw c.in-Spent.is at c.in_ok-lengths.ensures.answer);
    }

pub returns-clause-holds : goal.returns-clause-holds
returns-clause-holds c =
    spent_is_record c.args.circuit.now c.args.budget c.in-Spent.walks (returns-clause-answer c)

pub returns-clause-enough : goal.returns-clause-enough
returns-clause-enough c = λ d list enough few h.
    enough_finds c.args.circuit.now c.args.budget c.in-Spent.walks (returns-clause-answer c) d list
    enough few h
