use Rattle.std.proofs.Common.{◌≡◌, ◌∙◌, ◌<◌, ◌+◌, Bool, List, [], length, get_or, take, ap, arith, subst, sym}
use Rattle.std.proofs.lemmas.List.{with_items_is}
use Rattle.ht_tern.specs.declared.tern.Tern.{Tern}
use Rattle.ht_net.specs.Detect.Detection.{state_from, terns_of}
use Rattle.ht_net.specs.Frames.Faults.{tern_rules}
use Rattle.ht_net.specs.Frames.Frame.{next_state}
use Rattle.ht_serial.specs.ObservationView.{ObservationView}
use Rattle.ht_dictionary.specs.Traces.{AreFrames, AreNetValues}
use Rattle.ht_dictionary.proofs.TraceLaws.{frames_more, state_more}
use Rattle.ht_dictionary.proofs.frames.trace.Goals as goal

pub loop-t-preserved : goal.loop-t-preserved
loop-t-preserved c =
    let n = c.args.circuit.now in
    let fault = c.args.fault in
    let start = c.args.start.now in
    let list = c.args.list.now.list in
    let t = c.loop-t.t in
    let r = tern_rules fault in
    let row = c.in_ok-row.row.items in
    let inside : t < length list = omega arith in
    let held = c.deref_mut.ensures.value ∙ c.loop-t.invariant.latches in
    let left = with_items_is c.loop-t.latches c.run_frame.new.latches (omega arith) in
    let room = with_items_is c.loop-t.pins c.run_frame.new.pins (omega arith) in
    record {
      latches = left ∙ c.in_ok-row.ensures.next
          ∙ ap (next_state n r (terns_of c.get.result.now)) held
          ∙ ap (λ (v : List Bool). next_state n r (terns_of v) (state_from n fault start (take t list)))
          c.get.ensures.row
          ∙ sym (state_more n fault start list t inside);
      pins = ap (λ (l : List Tern). length l) room ∙ omega (arith, c.loop-t.invariant.pins);
      width = ap (λ (o : ObservationView). o.width) c.in_ok-push.ensures.ok ∙ c.loop-t.invariant.width;
      frames = subst (λ (o : ObservationView). AreFrames n fault start list (t + 1) o.rows)
          (sym c.in_ok-push.ensures.ok)
          (frames_more n fault start list t c.loop-t.shown.rows row c.loop-t.invariant.frames
          (subst (λ (l : List Tern). AreNetValues n fault (terns_of (get_or list t [])) l row) held
          (subst (λ (v : List Bool). AreNetValues n fault (terns_of v) c.deref_mut.result.now row) c.get.ensures.row
          c.in_ok-row.ensures.values)));
    }
