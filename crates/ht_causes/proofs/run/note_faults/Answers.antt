use Rattle.std.proofs.Common.{◌<◌, ◌∙◌, None, length, get_or, ap, arith}
use Rattle.std.proofs.lemmas.List.{get_or_default, length-set}
use Rattle.ht_faults.specs.Classes.{fault_at}
use Rattle.ht_stems.specs.Arrivals.{net_of_line}
use Rattle.ht_group.specs.NetValues.{good_value}
use Rattle.ht_causes.specs.declared.track.Track.{Track}
use Rattle.ht_causes.specs.Tracks.{no_track, shown_in, with_frame}
use Rattle.ht_causes.proofs.TrackLaws.{kept_as, kept_one, noted_as, noted_one, noted_still}
use Rattle.ht_causes.proofs.run.note_faults.Goals.{then-is_due+in_ok-note_fault, else-is_due}
use Rattle.ht_causes.proofs.run.note_faults.Goals as goal

pub loop-i-preserved : goal.loop-i-preserved
loop-i-preserved c =
    let circuit = c.args.circuit.now in
    let g = c.args.group.now in
    let t = c.args.t in
    let lanes = c.args.lanes.now in
    let shown = c.args.shown.now in
    let live = c.args.live.now in
    let tracks = c.args.tracks.now in
    let n = c.loop-i.i in
    let so_far = c.loop-i.invariant in
    let inside : n < length c.args.faults.now = omega arith in
    let in_live : n < length c.loop-i.live = omega arith in
    let in_read : n < length c.loop-i.read = omega (arith, so_far.read) in
    let in_holds : n < length c.loop-i.holds = omega (arith, so_far.holds) in
    let in_tracks : n < length c.loop-i.tracks = omega arith in
    elim c.if-is_due.branch [
      | then-is_due+in_ok-note_fault w ↦
          let told = w.in_ok-note_fault.ensures in
          let old = w.index-tracks-k.result in
          let track = w.note_fault.new.track in
          let carried = good_value g (net_of_line circuit (fault_at circuit n).site).0 in
          let stuck = (fault_at circuit n).value in
          let before = get_or_default c.loop-i.tracks n old no_track in_tracks in
          let is = told.noted
          ∙ (ap (λ (x : Track). with_frame t carried stuck x (get_or c.loop-i.tracks n old)) w.shown_in-seen.ensures
          ∙ ap (with_frame t carried stuck (shown_in shown (get_or lanes n None))) before) in
          record {
            noted = noted_one circuit g t lanes shown live tracks n c.loop-i.live c.if-is_due.live c.loop-i.tracks
                c.if-is_due.tracks track w.note_fault.new.live (c.is_due.ensures.due w.if-is_due.true) in_live
                in_tracks is w.tracks-is told.live w.live-is so_far.noted;
            kept = kept_as _ _ _ _ c.if-is_due.live c.if-is_due.read c.if-is_due.holds c.if-is_due.tracks w.live-is
                w.read-is w.holds-is w.tracks-is
                (kept_one c.loop-i.live c.loop-i.read c.loop-i.holds c.loop-i.tracks n track w.note_fault.new.live
                w.note_fault.new.read w.note_fault.new.holds in_live in_read in_holds in_tracks told.live told.read
                told.holds so_far.kept);
            read = ap (λ l. length l) w.read-is ∙ (length-set c.loop-i.read n w.note_fault.new.read ∙ so_far.read);
            holds = ap (λ l. length l) w.holds-is ∙ (length-set c.loop-i.holds n w.note_fault.new.holds ∙ so_far.holds);
          }
      | else-is_due w ↦ record {
        noted = noted_as circuit g t lanes shown _ live tracks c.loop-i.live c.if-is_due.live c.loop-i.tracks
            c.if-is_due.tracks w.live-is w.tracks-is
            (noted_still circuit g t lanes shown live tracks n c.loop-i.live c.loop-i.read c.loop-i.holds
            c.loop-i.tracks so_far.kept (c.is_due.ensures.calm w.if-is_due.false) (c.requires.calm n inside)
            so_far.noted);
        kept = kept_as c.loop-i.live c.loop-i.read c.loop-i.holds c.loop-i.tracks c.if-is_due.live c.if-is_due.read
            c.if-is_due.holds c.if-is_due.tracks w.live-is w.read-is w.holds-is w.tracks-is so_far.kept;
        read = ap (λ l. length l) w.read-is ∙ so_far.read;
        holds = ap (λ l. length l) w.holds-is ∙ so_far.holds;
      }
    ]
