use Rattle.std.proofs.Common.{◌≡◌, ◌<◌, List, length, get_or, sym, ◌∙◌, ap, arith, subst}
use Rattle.ht_net.specs.declared.fault.Fault.{Fault}
use Rattle.ht_faults.specs.Sites.{IsFaultSite, faults_of}
use Rattle.ht_faults.specs.FaultList.{no_fault}
use Rattle.ht_faults.specs.Classes.{fault_at}
use Rattle.ht_faults.proofs.MemberLaws.{fault_site}
use Rattle.ht_faults.proofs.LeaderLaws.{are_leaders}
use Rattle.ht_faults.proofs.leaders.find_leaders.Goals as goal

pub leader_of-requires-clause-site : goal.leader_of-requires-clause-site
leader_of-requires-clause-site c =
    let n = c.args.circuit.now in
    let count : length c.args.faults.now ≡ length (faults_of n) = ap (λ (l : List Fault). length l) c.requires in
    let is : c.get.result ≡ fault_at n c.loop-i.i = c.get.ensures ∙ ap
    (λ (l : List Fault). get_or l c.loop-i.i no_fault) c.requires in
    let inside : c.loop-i.i < length (faults_of n) = let a = c.loop-i-test.true in let b = c.len-i-end.ensures
    in omega arith in
    subst (λ (f : Fault). IsFaultSite n f.site) (sym is) (fault_site n c.loop-i.i inside)

pub returns-clause-leaders : goal.returns-clause-leaders
returns-clause-leaders c =
    let n = c.args.circuit.now in
    let count : length c.args.faults.now ≡ length (faults_of n) = ap (λ (l : List Fault). length l) c.requires in
    let all : c.loop-i.i ≡ length (faults_of n) = let a = c.loop-i-test.false in let b = c.len-i-end.ensures
    in let z = c.loop-i.auto.i-end in omega arith in
    are_leaders n c.in_ok-stem_leaders.ensures.circuit c.in_ok-stem_leaders.stem_leaders.items
    c.in_ok-stem_leaders.ensures.members
    c.in_ok-stem_leaders.ensures.joins
    c.loop-i.leaders.items (c.loop-i.invariant.long ∙ all) (λ i l. c.loop-i.invariant.united i (omega arith))
