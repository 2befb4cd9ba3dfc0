use Rattle.std.proofs.Common.{◌<◌, ◌+◌, ◌∙◌, ℕ, List, Bool, Option, None, false, length, get_or, sym, ap, subst, arith}
use Rattle.std.specs.Vec.{with_items}
use Rattle.std.proofs.lemmas.List.{with_items_is}
use Rattle.ht_tern.specs.declared.tern.Tern.{Tern}
use Rattle.ht_net.specs.declared.fault.Fault.{Fault}
use Rattle.ht_faults.specs.Sites.{faults_of}
use Rattle.ht_stems.specs.ArrivalsView.{ArrivalsView}
use Rattle.ht_group.specs.GroupView.{GroupView}
use Rattle.ht_proofs.specs.declared.stems.Firsts.{Firsts}
use Rattle.ht_causes.specs.declared.track.Track.{Track}
use Rattle.ht_causes.specs.Tracks.{AreTracked, AreTracksWithin, track_at}
use Rattle.ht_causes.proofs.TrackLaws.{assigned_frame, frame_run, kept_as, lane_known, noted_of, noted_within, run_as}
use Rattle.ht_causes.proofs.run.Run.apply.Goals as goal

pub run_leads-requires-clause-leads : goal.run_leads-requires-clause-leads
run_leads-requires-clause-leads c =
    let n = c.args.circuit.now in
    let run = c.args.self.now in
    let g = c.start.new.self in
    let leads = c.in_ok-lanes.lanes.leads.items in
    let lanes = c.in_ok-lanes.lanes.by_fault.items in
    let count = ap (λ (l : List Fault). length l) c.requires.faults in
    let assigned = assigned_frame n c.args.vector.now c.deref.result.now run.group g run.arrivals c.refill.new.self
    c.good_values.result.now c.args.faults.now run.live.items c.deref-2.result.now run.tracks.items
    c.deref-4.result.now leads lanes c.requires.ready.group c.requires.ready.arrivals c.requires.faults
    c.deref-2.ensures.value c.deref-4.ensures.value c.start.ensures c.good_values.ensures.values c.refill.ensures
    c.in_ok-lanes.ensures.lanes in
    subst (λ (x : List ℕ). (l : ℕ) → l < length x → get_or x l 0 < length c.args.faults.now)
    (sym c.deref-6.ensures.value) (λ l less. omega (arith, assigned.known l less, count))

pub note_faults-requires-clause-lanes : goal.note_faults-requires-clause-lanes
note_faults-requires-clause-lanes c =
    let n = c.args.circuit.now in
    let run = c.args.self.now in
    let g = c.start.new.self in
    let leads = c.in_ok-lanes.lanes.leads.items in
    let lanes = c.in_ok-lanes.lanes.by_fault.items in
    let count = ap (λ (l : List Fault). length l) c.requires.faults in
    let assigned = assigned_frame n c.args.vector.now c.deref.result.now run.group g run.arrivals c.refill.new.self
    c.good_values.result.now c.args.faults.now run.live.items c.deref-2.result.now run.tracks.items
    c.deref-4.result.now leads lanes c.requires.ready.group c.requires.ready.arrivals c.requires.faults
    c.deref-2.ensures.value c.deref-4.ensures.value c.start.ensures c.good_values.ensures.values c.refill.ensures
    c.in_ok-lanes.ensures.lanes in
    ap (λ (l : List (Option ℕ)). length l) c.deref-7.ensures.value ∙ (assigned.count ∙ sym count)

pub note_faults-requires-clause-known : goal.note_faults-requires-clause-known
note_faults-requires-clause-known c =
    let n = c.args.circuit.now in
    let run = c.args.self.now in
    let g = c.start.new.self in
    let leads = c.in_ok-lanes.lanes.leads.items in
    let lanes = c.in_ok-lanes.lanes.by_fault.items in
    let count = ap (λ (l : List Fault). length l) c.requires.faults in
    let assigned = assigned_frame n c.args.vector.now c.deref.result.now run.group g run.arrivals c.refill.new.self
    c.good_values.result.now c.args.faults.now run.live.items c.deref-2.result.now run.tracks.items
    c.deref-4.result.now leads lanes c.requires.ready.group c.requires.ready.arrivals c.requires.faults
    c.deref-2.ensures.value c.deref-4.ensures.value c.start.ensures c.good_values.ensures.values c.refill.ensures
    c.in_ok-lanes.ensures.lanes in
    let shown = c.in_ok-shown.shown.items in
    let ran = run_as n g.vector g.latches c.args.t run.tracks.items c.deref-5.result.now leads c.deref-6.result.now
    shown c.deref-5.ensures.value c.deref-6.ensures.value c.in_ok-shown.ensures.run in
    λ i l is at.
    omega (
      arith,
      ap (λ (x : List Track). length x) c.deref-8.ensures.value,
      lane_known n g.vector g.latches run.live.items run.tracks.items leads lanes assigned c.args.t (length leads) shown
          ran c.requires.ready.live_count i l
          (sym (ap (λ (x : List Bool). get_or x i false) c.deref_mut-2.ensures.value) ∙ is)
          (sym (ap (λ (x : List (Option ℕ)). get_or x i None) c.deref-7.ensures.value) ∙ at),
    )

pub note_faults-requires-clause-calm : goal.note_faults-requires-clause-calm
note_faults-requires-clause-calm c =
    let n = c.args.circuit.now in
    let run = c.args.self.now in
    let g = c.start.new.self in
    let leads = c.in_ok-lanes.lanes.leads.items in
    let lanes = c.in_ok-lanes.lanes.by_fault.items in
    let count = ap (λ (l : List Fault). length l) c.requires.faults in
    let assigned = assigned_frame n c.args.vector.now c.deref.result.now run.group g run.arrivals c.refill.new.self
    c.good_values.result.now c.args.faults.now run.live.items c.deref-2.result.now run.tracks.items
    c.deref-4.result.now leads lanes c.requires.ready.group c.requires.ready.arrivals c.requires.faults
    c.deref-2.ensures.value c.deref-4.ensures.value c.start.ensures c.good_values.ensures.values c.refill.ensures
    c.in_ok-lanes.ensures.lanes in
    λ i less is none.
    ap (λ (x : List Track). (track_at x i).diffs) c.deref_mut-5.ensures.value
    ∙ assigned.calm i (omega (arith, less, count))
    (sym (ap (λ (x : List Bool). get_or x i false) c.deref_mut-2.ensures.value) ∙ is)
    (sym (ap (λ (x : List (Option ℕ)). get_or x i None) c.deref-7.ensures.value) ∙ none)

pub returns-clause-ready : goal.returns-clause-ready
returns-clause-ready c =
    let n = c.args.circuit.now in
    let run = c.args.self.now in
    let g = c.start.new.self in
    let leads = c.in_ok-lanes.lanes.leads.items in
    let lanes = c.in_ok-lanes.lanes.by_fault.items in
    let count = ap (λ (l : List Fault). length l) c.requires.faults in
    let assigned = assigned_frame n c.args.vector.now c.deref.result.now run.group g run.arrivals c.refill.new.self
    c.good_values.result.now c.args.faults.now run.live.items c.deref-2.result.now run.tracks.items
    c.deref-4.result.now leads lanes c.requires.ready.group c.requires.ready.arrivals c.requires.faults
    c.deref-2.ensures.value c.deref-4.ensures.value c.start.ensures c.good_values.ensures.values c.refill.ensures
    c.in_ok-lanes.ensures.lanes in
    let shown = c.in_ok-shown.shown.items in
    let ran = run_as n g.vector g.latches c.args.t run.tracks.items c.deref-5.result.now leads c.deref-6.result.now
    shown c.deref-5.ensures.value c.deref-6.ensures.value c.in_ok-shown.ensures.run in
    let noted = noted_of n c.run_leads.new.group c.args.t lanes c.deref-7.result.now shown c.deref-8.result.now
    (length c.args.faults.now) (length (faults_of n)) run.live.items c.deref_mut-2.result.now run.tracks.items
    c.deref_mut-5.result.now c.note_faults.new.live c.note_faults.new.tracks c.deref-7.ensures.value
    c.deref-8.ensures.value count c.deref_mut-2.ensures.value c.deref_mut-5.ensures.value
    c.in_ok-note_faults.ensures.noted in
    let latches_is = with_items_is run.latches c.read_latches.new.latches
    (omega (
      arith,
      c.read_latches.auto.latches,
      ap (λ (l : List Tern). length l) c.deref_mut-6.ensures.value,
      run.latches.ok.0,
    )) in
    let live_is = with_items_is run.live c.note_faults.new.live (omega (arith, noted.on_count, run.live.ok.0)) in
    let tracks_is = with_items_is run.tracks c.note_faults.new.tracks
    (omega (arith, noted.track_count, run.tracks.ok.0)) in
    let read_long = c.note_faults.ensures.read ∙ ap (λ (l : List Bool). length l) c.deref_mut-3.ensures.value in
    let read_is = with_items_is run.read c.note_faults.new.read (omega (arith, read_long, run.read.ok.0)) in
    let holds_long = c.note_faults.ensures.holds ∙ ap (λ (l : List Bool). length l) c.deref_mut-4.ensures.value in
    let holds_is = with_items_is run.holds c.note_faults.new.holds (omega (arith, holds_long, run.holds.ok.0)) in
    let firsts_long = c.assign_lanes.ensures.table ∙ ap (λ (l : List Firsts). length l) c.deref_mut.ensures.value in
    let firsts_is = with_items_is run.firsts c.assign_lanes.new.firsts
    (omega (arith, firsts_long, run.firsts.ok.0)) in
    let ready = c.requires.ready in
    record {
      group = c.in_ok-shown.ensures.frame.circuit;
      arrivals = ap (λ (a : ArrivalsView). a.circuit) c.assign_lanes.ensures.same
          ∙ (ap (λ (a : ArrivalsView). a.circuit) c.refill.ensures ∙ ready.arrivals);
      table = ap (λ (l : List Firsts). length l) firsts_is ∙ (firsts_long ∙ ready.table);
      latch_count = ap (λ (l : List Tern). length l) latches_is
          ∙ (c.read_latches.auto.latches
          ∙ (ap (λ (l : List Tern). length l) c.deref_mut-6.ensures.value ∙ ready.latch_count));
      live_count = ap (λ (l : List Bool). length l) live_is ∙ (noted.on_count ∙ ready.live_count);
      track_count = ap (λ (l : List Track). length l) tracks_is ∙ (noted.track_count ∙ ready.track_count);
      read_count = ap (λ (l : List Bool). length l) read_is ∙ (read_long ∙ ready.read_count);
      holds_count = ap (λ (l : List Bool). length l) holds_is ∙ (holds_long ∙ ready.holds_count);
      within = subst (AreTracksWithin n) (sym tracks_is)
          (noted_within n g.vector g.latches c.args.t c.run_leads.new.group lanes leads shown run.live.items
          c.note_faults.new.live run.tracks.items c.note_faults.new.tracks assigned ran noted ready.within);
      kept = kept_as c.note_faults.new.live c.note_faults.new.read c.note_faults.new.holds c.note_faults.new.tracks
          _ _ _ _ live_is read_is holds_is tracks_is c.in_ok-note_faults.ensures.kept;
      nothing = ready.nothing;
    }

pub returns-clause-run : goal.returns-clause-run
returns-clause-run c =
    let n = c.args.circuit.now in
    let run = c.args.self.now in
    let g = c.start.new.self in
    let leads = c.in_ok-lanes.lanes.leads.items in
    let lanes = c.in_ok-lanes.lanes.by_fault.items in
    let count = ap (λ (l : List Fault). length l) c.requires.faults in
    let assigned = assigned_frame n c.args.vector.now c.deref.result.now run.group g run.arrivals c.refill.new.self
    c.good_values.result.now c.args.faults.now run.live.items c.deref-2.result.now run.tracks.items
    c.deref-4.result.now leads lanes c.requires.ready.group c.requires.ready.arrivals c.requires.faults
    c.deref-2.ensures.value c.deref-4.ensures.value c.start.ensures c.good_values.ensures.values c.refill.ensures
    c.in_ok-lanes.ensures.lanes in
    let shown = c.in_ok-shown.shown.items in
    let ran = run_as n g.vector g.latches c.args.t run.tracks.items c.deref-5.result.now leads c.deref-6.result.now
    shown c.deref-5.ensures.value c.deref-6.ensures.value c.in_ok-shown.ensures.run in
    let noted = noted_of n c.run_leads.new.group c.args.t lanes c.deref-7.result.now shown c.deref-8.result.now
    (length c.args.faults.now) (length (faults_of n)) run.live.items c.deref_mut-2.result.now run.tracks.items
    c.deref_mut-5.result.now c.note_faults.new.live c.note_faults.new.tracks c.deref-7.ensures.value
    c.deref-8.ensures.value count c.deref_mut-2.ensures.value c.deref_mut-5.ensures.value
    c.in_ok-note_faults.ensures.noted in
    let latches_is = with_items_is run.latches c.read_latches.new.latches
    (omega (
      arith,
      c.read_latches.auto.latches,
      ap (λ (l : List Tern). length l) c.deref_mut-6.ensures.value,
      run.latches.ok.0,
    )) in
    let live_is = with_items_is run.live c.note_faults.new.live (omega (arith, noted.on_count, run.live.ok.0)) in
    let tracks_is = with_items_is run.tracks c.note_faults.new.tracks
    (omega (arith, noted.track_count, run.tracks.ok.0)) in
    λ representatives start list inside at before.
    let both = frame_run n representatives start list c.args.t c.args.vector.now run.latches.items
    c.read_latches.new.latches g.vector g.latches c.run_leads.new.group lanes leads shown run.live.items
    c.note_faults.new.live run.tracks.items c.note_faults.new.tracks inside at
    (ap (λ (x : GroupView). x.vector) c.start.ensures)
    (ap (λ (x : GroupView). x.latches) c.start.ensures ∙ c.deref.ensures.value) before.latches
    c.in_ok-shown.ensures.frame assigned ran noted c.read_latches.ensures before.tracked in
    record {
      latches = latches_is ∙ both.0;
      tracked = subst (λ (x : List Bool). AreTracked n representatives start list (c.args.t + 1) x
          (with_items run.tracks c.note_faults.new.tracks).items) (sym live_is)
          (subst (AreTracked n representatives start list (c.args.t + 1) c.note_faults.new.live) (sym tracks_is)
          both.1);
    }
