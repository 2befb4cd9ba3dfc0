use Rattle.std.proofs.Common.{◌<◌, ◌∙◌, ◌-◌, List, length, All, subst, sym, arith}
use Rattle.std.proofs.lemmas.List.Elements.{All-get_or}
use Rattle.ht_group.specs.declared.diffs.Diff.{Diff}
use Rattle.ht_group.specs.LatchWords.{HasDifferences}
use Rattle.ht_group.proofs.PutLaws.{none_put, put_more, all_put}
use Rattle.ht_group.proofs.machines.put_differences.Goals as goal

pub loop-i-init : goal.loop-i-init
loop-i-init c = record {
  good = λ i. c.args.sources.now.good;
  put = none_put c.args.circuit.now c.args.schedule.now.ranks.items c.args.k c.entries-entries.result.now
      c.args.sources.now c.args.pending.now c.requires.words c.requires.marks c.requires.plain;
}

pub loop-i-preserved : goal.loop-i-preserved
loop-i-preserved c =
    let n = c.args.circuit.now in
    let entries = c.entries-entries.result.now in
    let known = subst (λ (l : List Diff). All (λ (d : Diff). d.latch < length c.args.circuit.now.dffs) l)
    (sym c.entries-entries.ensures) c.requires.known in
    let latch = All-get_or (λ (d : Diff). d.latch < length c.args.circuit.now.dffs) entries (c.loop-i.i - 1) _
    (omega (arith, c.loop-i-test.true, c.loop-i.auto.i)) known in
    record {
      good = c.put_difference.ensures.good ∙ c.loop-i.invariant.good;
      put = put_more n c.args.schedule.now.ranks.items c.args.k entries c.args.sources.now c.args.pending.now
          c.loop-i.sources.words c.put_difference.new.sources.words c.loop-i.pending c.put_difference.new.pending
          c.loop-i.i
          _ c.loop-i-test.true c.loop-i.auto.i c.requires.lane latch
          (c.requires.schedule.ranks.small _ (omega (arith, latch))) c.put_difference.ensures.count
          c.put_difference.ensures.lanes c.put_difference.ensures.pending c.loop-i.invariant.put;
    }

pub returns-clause-put : goal.returns-clause-put
returns-clause-put c =
    let n = c.args.circuit.now in
    let s = c.args.schedule.now in
    subst (λ (l : List Diff). HasDifferences n s c.args.k l c.args.sources.now c.args.pending.now c.loop-i.sources.words
    c.loop-i.pending) c.entries-entries.ensures
    (all_put n s c.args.k c.entries-entries.result.now c.args.sources.now c.args.pending.now c.loop-i.sources.words
    c.loop-i.pending c.loop-i.i c.requires.schedule (omega (arith, c.loop-i-test.false)) c.requires.lane
    c.requires.words
    c.requires.plain c.loop-i.invariant.put)
