use Rattle.std.proofs.Common.{◌∙◌, true, false, List, length, replicate, sym, ap, subst, rules, arith}
use Rattle.std.proofs.lemmas.List.{length-replicate}
use Rattle.ht_net.specs.declared.fault.Fault.{Fault}
use Rattle.ht_faults.specs.Sites.{faults_of}
use Rattle.ht_stems.specs.ArrivalsView.{ArrivalsView}
use Rattle.ht_group.specs.GroupView.{AreLatches}
use Rattle.ht_causes.specs.declared.track.Track.{Track}
use Rattle.ht_causes.specs.Tracks.{no_track}
use Rattle.ht_causes.proofs.TrackLaws.{none_kept_yet, none_tracked, track_none}
use Rattle.ht_causes.proofs.run.Run.new.Goals as goal

pub returns-in-Ok-clause-ready : goal.returns-in-Ok-clause-ready
returns-in-Ok-clause-ready c =
    let n = c.args.circuit.now in
    let count = ap (λ (l : List Fault). length l) c.requires.faults in
    let tracks = c.in_ok-tracks.tracks.items in
    let are = c.in_ok-tracks.ensures ∙ ap (λ k. replicate k no_track) (c.len-3.ensures ∙ count) in
    record {
      group = c.in_ok-group.ensures.circuit;
      arrivals = ap (λ (a : ArrivalsView). a.circuit) c.in-Ok.ensures;
      table = search rules;
      latch_count = search rules;
      live_count = c.in_ok-live.ensures.count ∙ count;
      track_count = ap (λ (l : List Track). length l) are ∙ length-replicate (length (faults_of n)) no_track;
      read_count = ap (λ l. length l) c.in_ok-read.ensures
          ∙ (length-replicate c.len.result false ∙ (c.len.ensures ∙ count));
      holds_count = ap (λ l. length l) c.in_ok-holds.ensures
          ∙ (length-replicate c.len-2.result true ∙ (c.len-2.ensures ∙ count));
      within = λ i. subst (λ (x : Track). AreLatches n x.diffs) (sym (track_none n tracks are i))
          (λ k d less. absurd (omega arith));
      kept = none_kept_yet n c.in_ok-live.live.items c.in_ok-read.read.items c.in_ok-holds.holds.items tracks
          c.len.result are c.in_ok-read.ensures;
      nothing = c.none-in-Ok.ensures;
    }

pub returns-in-Ok-clause-begun : goal.returns-in-Ok-clause-begun
returns-in-Ok-clause-begun c = λ list.
    let n = c.args.circuit.now in
    let count = ap (λ (l : List Fault). length l) c.requires.faults in
    let are = c.in_ok-tracks.ensures ∙ ap (λ k. replicate k no_track) (c.len-3.ensures ∙ count) in
    record {
      latches = c.in_ok-latches.ensures.items;
      tracked = none_tracked n c.args.classes.now c.args.start.now list c.in_ok-live.live.items
          c.in_ok-tracks.tracks.items are (λ i known. c.in_ok-live.ensures.each i (omega (arith, known, count)));
    }
