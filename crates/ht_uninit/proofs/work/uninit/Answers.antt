use Rattle.std.proofs.Common.{◌∙◌, List, Bool, ap, arith, map, subst}
use Rattle.ht_uninit.specs.declared.record.Out3.{Out3}
use Rattle.ht_uninit.specs.Exposed.{TellsHidden, begins_unmarked}
use Rattle.ht_uninit.specs.Records.{UninitState}
use Rattle.ht_uninit.specs.Rounds.{mutes_of}
use Rattle.ht_uninit.proofs.OutputLaws.{whole_record}
use Rattle.ht_uninit.proofs.RecordLaws.{record_holds}
use Rattle.ht_uninit.proofs.work.uninit.Goals as goal

pub search_outputs-requires-clause-circuit : goal.search_outputs-requires-clause-circuit
search_outputs-requires-clause-circuit c = c.in_ok-rounds.ensures.circuit

pub search_outputs-requires-clause-path : goal.search_outputs-requires-clause-path
search_outputs-requires-clause-path c = c.in_ok-rounds.ensures.fresh

pub returns-clause-answer : goal.returns-clause-answer
returns-clause-answer c =
    let n = c.args.circuit.now in
    let marks = c.in_ok-marks.marks.items in
    let r : UninitState = record {
      removed = c.in_ok-rounds.rounds.removed.items;
      walks = c.in_ok-rounds.rounds.walks.items;
      outs = c.in_ok-outs.outs.items;
      hidden = c.in_ok-hidden.hidden.items;
    } in
    whole_record n c.args.budget c.args.faults.now c.args.which.now r marks
    c.in_ok-rounds.rounds.held c.in_ok-rounds.ensures c.in_ok-outs.ensures.every c.in_ok-outs.ensures.outs
    (subst (λ (outs : List Out3). TellsHidden n (mutes_of outs) marks) c.deref.ensures.value
    c.in_ok-marks.ensures.hidden)
    (c.in_ok-hidden.ensures
    ∙ ap (λ (ms : List Bool). map (begins_unmarked n c.args.faults.now ms) c.args.which.now) c.deref-2.ensures.value)

pub returns-clause-holds : goal.returns-clause-holds
returns-clause-holds c = record_holds _ _ _ _ (returns-clause-answer c)

pub invariant_of-result : goal.invariant_of-result
invariant_of-result c =
    let few = c.in_ok-rounds.ensures.few in
    let dffs = c.nets.ensures.circuit.few_dffs in
    record { few = omega (arith, few, dffs) }
