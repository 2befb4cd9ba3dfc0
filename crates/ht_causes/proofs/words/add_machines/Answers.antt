use Rattle.std.proofs.Common.{◌<◌, ◌+◌, ◌∙◌, List, length, get_or, sym, ap, subst, arith}
use Rattle.std.proofs.lemmas.List.{get_or_default}
use Rattle.ht_net.specs.declared.fault.Fault.{Fault}
use Rattle.ht_net.specs.Circuit.Netlist.{Netlist}
use Rattle.ht_faults.specs.FaultList.{no_fault}
use Rattle.ht_group.specs.GroupView.{AreLatches, HasSite}
use Rattle.ht_causes.specs.declared.track.Track.{Track}
use Rattle.ht_causes.specs.Tracks.{no_track}
use Rattle.ht_causes.proofs.ListedLaws.{listed_site}
use Rattle.ht_causes.proofs.WordShownLaws.{added_more, added_none}
use Rattle.ht_causes.proofs.words.add_machines.Goals as goal

pub loop-k-init : goal.loop-k-init
loop-k-init c = added_none c.args.group.now c.args.tracks.now c.args.leads.now c.args.from c.requires.none

pub add-requires-clause-site : goal.add-requires-clause-site
add-requires-clause-site c =
    let n = c.args.group.now.circuit in
    let l = c.args.from + c.loop-k.k in
    let i = get_or c.args.leads.now l 0 in
    let inside : l < length c.args.leads.now = omega (arith, c.requires.room, c.loop-k-test.true) in
    let count = ap (λ (q : List Fault). length q) c.requires.faults in
    let is = c.get.ensures ∙ ap (λ (q : List Fault). get_or q i no_fault) c.requires.faults in
    subst (λ (m : Netlist). HasSite m c.get.result.site) (sym c.loop-k.invariant.circuit)
    (subst (λ (f : Fault). HasSite n f.site) (sym is)
    (listed_site n i (omega (arith, c.requires.leads l inside, count))))

pub add-requires-clause-known : goal.add-requires-clause-known
add-requires-clause-known c =
    let l = c.args.from + c.loop-k.k in
    let i = get_or c.args.leads.now l 0 in
    let inside : l < length c.args.leads.now = omega (arith, c.requires.room, c.loop-k-test.true) in
    let here = get_or_default c.args.tracks.now i c.index-tracks-i.result no_track
    (omega (arith, c.requires.leads l inside, c.requires.tracks)) in
    subst (λ (m : Netlist). AreLatches m (get_or c.args.tracks.now i c.index-tracks-i.result).diffs)
    (sym c.loop-k.invariant.circuit)
    (subst (λ (x : Track). AreLatches c.args.group.now.circuit x.diffs) (sym here) (c.requires.known i))

pub loop-k-preserved : goal.loop-k-preserved
loop-k-preserved c =
    let g = c.args.group.now in
    let l = c.args.from + c.loop-k.k in
    let i = get_or c.args.leads.now l 0 in
    let inside : l < length c.args.leads.now = omega (arith, c.requires.room, c.loop-k-test.true) in
    let is = c.get.ensures ∙ ap (λ (q : List Fault). get_or q i no_fault) c.requires.faults in
    let here = get_or_default c.args.tracks.now i c.index-tracks-i.result no_track
    (omega (arith, c.requires.leads l inside, c.requires.tracks)) in
    added_more g.circuit g.vector g.latches c.args.tracks.now c.args.leads.now c.args.from c.loop-k.k c.loop-k.group
    c.add.new.self c.get.result (get_or c.args.tracks.now i c.index-tracks-i.result).diffs is
    (ap (λ (x : Track). x.diffs) here) c.in_ok-add.ensures.ok c.loop-k.invariant
