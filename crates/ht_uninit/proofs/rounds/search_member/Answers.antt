use Rattle.std.proofs.Common.{◌≡◌, ◌<◌, ◌∙◌, ◌+◌, ℕ, List, true, length, ap, arith, refl, sym, subst}
use Rattle.std.proofs.lemmas.Result.{IfOk-weaker}
use Rattle.ht_faults.specs.Sites.{data_net}
use Rattle.ht_net.specs.declared.net.NetId.{NetId}
use Rattle.ht_net.specs.Circuit.Netlist.{Netlist}
use Rattle.ht_tree.specs.Window.Decisions.{is_in}
use Rattle.ht_uninit.specs.declared.record.Removed.{Removed}
use Rattle.ht_uninit.specs.declared.record.Removed.TheVariants.{Free, Spent}
use Rattle.ht_uninit.specs.declared.rounds.Rounds.{Rounds}
use Rattle.ht_uninit.specs.HeldWindows.{without}
use Rattle.ht_uninit.specs.RoundStates.{IsAt, IsRemoved}
use Rattle.ht_uninit.specs.Rounds.{IsOutput, IsRemoval, removed_dff}
use Rattle.ht_uninit.proofs.OutputLaws.{net_inside, output_here}
use Rattle.ht_uninit.proofs.RoundLaws.{at_keeps, at_passes, at_removes, dff_inside, dff_walk}
use Rattle.ht_uninit.proofs.rounds.search_member.Goals as goal
use Rattle.ht_uninit.proofs.rounds.search_member.Goals.{In_ok-searched}

-- flip-flop j is a member
member : (c : In_ok-searched) → is_in c.args.rounds.held.members c.args.j ≡ true
member c = sym c.is_member-stranger.ensures ∙ c.if-stranger.false

-- the window that the search leaves is of the circuit
circuit_is : (c : In_ok-searched) → c.in_ok-searched.searched.held.circuit ≡ c.args.circuit.now
circuit_is c = c.in_ok-searched.ensures.circuit ∙ c.requires.at.circuit

-- what the search came to
output : (c : In_ok-searched) → IsOutput c.args.circuit.now c.args.budget c.args.rounds.held.members
    (data_net c.args.circuit.now c.args.j) c.in_ok-searched.searched.out
output c =
    output_here c.args.circuit.now c.args.budget c.args.rounds.held.members c.args.rounds.held c.requires.at.circuit refl
    c.dff_data-net.result (data_net c.args.circuit.now c.args.j) (ap (λ (n : NetId). n.0) c.dff_data-net.ensures)
    c.in_ok-searched.searched.out c.in_ok-searched.ensures.out

inside : (c : In_ok-searched) → c.args.j < length c.in_ok-searched.searched.held.circuit.dffs
inside c = subst (λ (n : Netlist). c.args.j < length n.dffs) (sym (circuit_is c)) c.requires.member

-- the rounds after the removal of flip-flop j, for a reason that holds
removed_at : (c : In_ok-searched) (why : Removed) (r : Rounds) → removed_dff why ≡ c.args.j
    → IsRemoval c.args.circuit.now c.args.budget c.args.rounds.held.members why
    → IsRemoved (record {
      held = c.in_ok-searched.searched.held;
      removed = c.args.rounds.removed;
      walks = c.args.rounds.walks;
      before = c.args.rounds.before;
    }) c.args.j why r
    → IsAt c.args.circuit.now c.args.budget r.before (c.args.j + 1) r.held r.removed.items r.walks.items
removed_at c why r dff holds is =
    subst (λ (before : ℕ). IsAt c.args.circuit.now c.args.budget before (c.args.j + 1) r.held r.removed.items
    r.walks.items) (sym is.before)
    (at_removes _ _ _ _ _ _ _ c.requires.at r.held (is.circuit ∙ circuit_is c) is.fresh c.requires.member (member c)
    (is.members ∙ ap (λ (u : List ℕ). without u c.args.j) c.in_ok-searched.ensures.members) why dff holds _ is.removed
    _ is.walks)

pub is_member-stranger-requires : goal.is_member-stranger-requires
is_member-stranger-requires c = dff_inside _ _ _ _ _ _ _ c.requires.at c.requires.member

pub returns-then-stranger-clause-at : goal.returns-then-stranger-clause-at
returns-then-stranger-clause-at c =
    at_passes _ _ _ _ _ _ _ c.requires.at c.requires.member (sym c.is_member-stranger.ensures ∙ c.if-stranger.true)

pub search_net-requires-clause-net : goal.search_net-requires-clause-net
search_net-requires-clause-net c =
    net_inside c.args.circuit.now c.args.rounds.held c.requires.at.circuit c.dff_data-net.result
    (data_net c.args.circuit.now c.args.j) (ap (λ (n : NetId). n.0) c.dff_data-net.ensures)
    (c.nets.ensures.circuit.data_known c.args.j c.requires.member)

pub search_net-requires-clause-path : goal.search_net-requires-clause-path
search_net-requires-clause-path c = c.requires.at.fresh

pub index_mut-requires : goal.index_mut-requires
index_mut-requires c =
    let walks = c.args.rounds.walks in
    let l = dff_walk _ _ _ _ _ _ _ c.requires.at c.requires.member in
    omega (arith, l)

pub returns-in-Mute-clause-at : goal.returns-in-Mute-clause-at
returns-in-Mute-clause-at c =
    let s = (goal.at.returns-in-Mute-clause-at c).In_ok-searched in
    let x = data_net c.args.circuit.now c.args.j in
    at_keeps _ _ _ _ _ _ _ c.requires.at c.in_ok-searched.searched.held (circuit_is s) c.in_ok-searched.ensures.path
    c.requires.member (member s) c.in_ok-searched.ensures.members c.in-Mute.tokens
    (subst (IsOutput c.args.circuit.now c.args.budget c.args.rounds.held.members x) c.in-Mute.is (output s)) _ refl

pub remove-requires-clause-member : goal.remove-requires-clause-member
remove-requires-clause-member c = inside (goal.at.remove-requires-clause-member c).In_ok-searched

pub remove-requires-clause-walks : goal.remove-requires-clause-walks
remove-requires-clause-walks c = dff_walk _ _ _ _ _ _ _ c.requires.at c.requires.member

pub returns-in-Seen : goal.returns-in-Seen
returns-in-Seen c =
    let s = (goal.at.returns-in-Seen c).In_ok-searched in
    record {
      before = IfOk-weaker c.remove.result _ _ (λ r is. is.before) c.remove.ensures;
      at = IfOk-weaker c.remove.result _ _ (λ r is. removed_at s (Free c.args.j c.in-Seen.sets) r refl
          (subst (IsOutput c.args.circuit.now c.args.budget c.args.rounds.held.members
          (data_net c.args.circuit.now c.args.j)) c.in-Seen.is (output s)) is) c.remove.ensures;
    }

pub remove-requires-in-Open-clause-member : goal.remove-requires-in-Open-clause-member
remove-requires-in-Open-clause-member c = inside (goal.at.remove-requires-in-Open-clause-member c).In_ok-searched

pub remove-requires-in-Open-clause-walks : goal.remove-requires-in-Open-clause-walks
remove-requires-in-Open-clause-walks c = dff_walk _ _ _ _ _ _ _ c.requires.at c.requires.member

pub returns-in-Open : goal.returns-in-Open
returns-in-Open c =
    let s = (goal.at.returns-in-Open c).In_ok-searched in
    record {
      before = IfOk-weaker c.remove-in-Open.result _ _ (λ r is. is.before) c.remove-in-Open.ensures;
      at = IfOk-weaker c.remove-in-Open.result _ _ (λ r is. removed_at s (Spent c.args.j c.in-Open.tokens) r refl
          (subst (IsOutput c.args.circuit.now c.args.budget c.args.rounds.held.members
          (data_net c.args.circuit.now c.args.j)) c.in-Open.is (output s)) is) c.remove-in-Open.ensures;
    }
