use Rattle.std.proofs.Common.{◌≡◌, ◌∙◌, sym, ap}
use Rattle.ht_net.specs.declared.net.NetId.{NetId}
use Rattle.ht_net.specs.declared.fault.Site.TheVariants.{DffPin}
use Rattle.ht_faults.specs.Sites.{is_fanout, is_site}
use Rattle.ht_faults.proofs.SiteLaws.{one_kept, one_left}
use Rattle.ht_faults.proofs.sites.add_data_pins.Goals as goal
use Rattle.ht_faults.proofs.sites.add_data_pins.Goals.{then-has_fanout+in_ok-push, else-has_fanout}

pub loop-dff-preserved : goal.loop-dff-preserved
loop-dff-preserved c =
    let n = c.args.circuit.now in
    let test : c.has_fanout.result ≡ is_site n (DffPin c.loop-dff.dff) = c.has_fanout.ensures ∙ ap
    (λ (x : NetId). is_fanout n x.0) c.dff_data.ensures in
    elim c.if-has_fanout.branch [
      | then-has_fanout+in_ok-push w ↦ rw (w.sites-is)
          (one_kept (is_site n) (λ j. DffPin j) c.args.sites.now.items c.loop-dff.sites.items w.push.new.self.items
          c.loop-dff.dff c.loop-dff.invariant w.in_ok-push.ensures.items (sym test ∙ w.if-has_fanout.true))
      | else-has_fanout w ↦ rw (w.sites-is)
          (one_left (is_site n) (λ j. DffPin j) c.args.sites.now.items c.loop-dff.sites.items c.loop-dff.dff
          c.loop-dff.invariant (sym test ∙ w.if-has_fanout.false))
    ]
