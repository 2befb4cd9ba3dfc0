use Rattle.std.proofs.Common.{◌≡◌, List, false, length, rules, sym, subst}
use Rattle.std.specs.Prelude.{is_some}
use Rattle.std.specs.Option.{ForSome}
use Rattle.ht_net.specs.Circuit.Netlist.{Netlist}
use Rattle.ht_group.specs.declared.diffs.Diff.{Diff}
use Rattle.ht_compact.specs.DetectedFaults.{IsMissed}
use Rattle.ht_compact.specs.GradedLists.{AreOpenBelow, MayRun, shorter}
use Rattle.ht_compact.specs.Runs.{HaveEnded}
use Rattle.ht_compact.proofs.GradedLaws.{are_settled, is_none, other_places}
use Rattle.ht_compact.proofs.trial.leave_out_unless_lost.Goals as goal

pub run-requires-clause-may : goal.run-requires-clause-may
run-requires-clause-may c =
    subst (λ (n : Netlist). MayRun n c.args.graded.now c.args.part.from c.args.part.to) (sym c.requires.circuit)
    c.requires.may

pub returns-then-is_some-clause-lost : goal.returns-then-is_some-clause-lost
returns-then-is_some-clause-lost c =
    let graded = c.args.graded.now in
    subst (λ (n : Netlist). ForSome c.in_ok-lost.lost (IsMissed n graded.wanted.items
    (shorter graded c.args.part.from c.args.part.to))) c.requires.circuit c.in_ok-lost.ensures.lost

pub leave_out-requires-clause-ended : goal.leave_out-requires-clause-ended
leave_out-requires-clause-ended c =
    let open_then : is_some c.in_ok-lost.lost ≡ false = search rules in
    subst (λ (n : Netlist). HaveEnded n c.args.graded.now c.args.part.from c.args.part.to c.run.new.self)
    c.requires.circuit (c.in_ok-lost.ensures.ended (is_none c.in_ok-lost.lost open_then))

pub leave_out-requires-clause-places : goal.leave_out-requires-clause-places
leave_out-requires-clause-places c =
    let places = c.deref-2.result.now in
    let from = c.args.part.from in
    let histories = c.deref.result.now in
    let are : AreOpenBelow histories from (length histories) places =
    subst (AreOpenBelow histories from (length histories)) (sym c.deref-2.ensures.value) c.in_ok-all.ensures in
    other_places places c.in_ok-run.run'.runners.items c.run.new.self.runners.items c.in_ok-run.ensures.every
    c.in_ok-run.ensures.places c.in_ok-lost.ensures.places are.rises

pub leave_out-requires-clause-settled : goal.leave_out-requires-clause-settled
leave_out-requires-clause-settled c =
    let graded = c.args.graded.now in
    let places = c.deref-2.result.now in
    let from = c.args.part.from in
    let histories = graded.histories.items in
    let are : AreOpenBelow histories from (length histories) places =
    subst (AreOpenBelow histories from (length histories)) (sym c.deref-2.ensures.value)
    (subst (λ (l : List (List (List Diff))). AreOpenBelow l from (length l) c.in_ok-all.all.items)
    c.deref.ensures.value c.in_ok-all.ensures) in
    are_settled c.args.circuit.now graded from c.args.part.to places c.in_ok-run.run'.runners.items
    c.run.new.self.runners.items c.requires.may c.requires.all c.in_ok-run.ensures.every c.in_ok-run.ensures.places
    c.in_ok-lost.ensures.places are.each
