use Rattle.std.proofs.Common.{◌≡◌, ◌<◌, ◌∙◌, ◌+◌, false, ◌++◌, ◌∷◌, [], List, length, get_or, refl, sym, ap, subst, arith, rules}
use Rattle.std.proofs.lemmas.List.{get_or_read}
use Rattle.ht_net.specs.declared.fault.Fault.{Fault}
use Rattle.ht_faults.specs.FaultList.{no_fault}
use Rattle.ht_faults.specs.Sites.{faults_of}
use Rattle.ht_faults.specs.Classes.{fault_at}
use Rattle.ht_stems.specs.Arrivals.{HasLine}
use Rattle.ht_stems.specs.ArrivalsView.{ArrivalsView}
use Rattle.ht_causes.specs.Tracks.{no_track, track_at}
use Rattle.ht_causes.specs.Seats.{seat_lane, seat_leads}
use Rattle.ht_causes.proofs.AssignLaws.{assigned_as, assigned_none, seat_more, seated_as}
use Rattle.ht_causes.proofs.ListedLaws.{listed_line}
use Rattle.ht_causes.proofs.assign.assign_lanes.Goals as goal

pub find_seat-seat-requires-clause-line : goal.find_seat-seat-requires-clause-line
find_seat-seat-requires-clause-line c =
    let n = c.args.arrivals.now.circuit in
    let count = ap (λ (l : List Fault). length l) c.requires.faults in
    subst (λ (a : ArrivalsView). HasLine a.circuit c.get.result.site) (sym c.loop-i.invariant.same)
    (subst (λ (f : Fault). HasLine n f.site)
    (sym (c.get.ensures ∙ ap (λ (l : List Fault). get_or l c.loop-i.i no_fault) c.requires.faults))
    (listed_line n c.loop-i.i (omega (arith, count, c.loop-i-test.true))))

pub loop-i-init : goal.loop-i-init
loop-i-init c = record {
  same = refl;
  table = refl;
  assigned = λ vector good values.
      assigned_as c.args.arrivals.now.circuit vector good c.args.live.now c.args.tracks.now 0 [] _ [] _ _
      c.new-leads.ensures.items c.in_ok-by_fault.ensures.items
      (assigned_none c.args.arrivals.now.circuit vector good c.args.live.now c.args.tracks.now
      (length c.args.firsts.now) c.clear_firsts.new.firsts c.clear_firsts.ensures);
}

pub loop-i-preserved : goal.loop-i-preserved
loop-i-preserved c =
    let a = c.args.arrivals.now in
    let n = a.circuit in
    let i = c.loop-i.i in
    let leads = c.loop-i.leads.items in
    let lanes = c.loop-i.by_fault.items in
    let live = c.args.live.now in
    let tracks = c.args.tracks.now in
    let seat = c.find_seat-seat.result in
    let after = c.find_seat-seat.new.firsts in
    let count = ap (λ (l : List Fault). length l) c.requires.faults in
    let inside : i < length (faults_of n) = omega (arith, count, c.loop-i-test.true) in
    let is = c.get.ensures ∙ ap (λ (l : List Fault). get_or l i no_fault) c.requires.faults in
    let here = get_or_read tracks i c.index-tracks-k.result (omega (arith, inside, count, c.requires.tracks))
    c.index-tracks-k.is no_track in
    let long : c.len.result ≡ length leads = search rules in
    record {
      same = c.find_seat-seat.ensures.same ∙ c.loop-i.invariant.same;
      table = c.find_seat-seat.ensures.table ∙ c.loop-i.invariant.table;
      assigned = λ vector good values.
          assigned_as n vector good live tracks (i + 1) (seat_leads seat i leads) _
          (lanes ++ seat_lane seat (length leads) ∷ []) _ after c.in_ok-take_seat.ensures.leads
          c.in_ok-take_seat.ensures.lanes
          (seat_more n vector good live tracks i lanes leads c.loop-i.firsts after seat inside
          (c.loop-i.invariant.assigned vector good values)
          (seated_as c.loop-i.arrivals a vector good c.get.result (fault_at n i) (get_or live i false)
          c.index-tracks-k.result (track_at tracks i) c.loop-i.firsts c.len.result (length leads) seat after
          c.loop-i.invariant.same is here long (c.find_seat-seat.ensures.seated vector good) values));
    }
