use Rattle.std.proofs.Common.{◌≡◌, ◌∙◌, sym, ap, List, get_or}
use Rattle.ht_net.specs.declared.net.NetId.{NetId}
use Rattle.ht_net.specs.declared.fault.Site.TheVariants.{GatePin}
use Rattle.ht_net.specs.Circuit.Netlist.{no_net}
use Rattle.ht_faults.specs.Sites.{is_fanout, is_site}
use Rattle.ht_faults.proofs.SiteLaws.{one_kept, one_left}
use Rattle.ht_faults.proofs.sites.add_pins.Goals as goal
use Rattle.ht_faults.proofs.sites.add_pins.Goals.{then-has_fanout+in_ok-push, else-has_fanout}

pub loop-i-preserved : goal.loop-i-preserved
loop-i-preserved c =
    let n = c.args.circuit.now in
    let g = c.args.gate in
    let test : c.has_fanout.result ≡ is_site n (GatePin g c.loop-i.i) = c.has_fanout.ensures ∙ ap
    (λ (l : List NetId). is_fanout n (get_or l c.loop-i.i no_net).0) c.gate_args-arg-items.ensures.args in
    elim c.if-has_fanout.branch [
      | then-has_fanout+in_ok-push w ↦ rw (w.sites-is)
          (one_kept (is_site n) (λ i. GatePin g i) c.args.sites.now.items c.loop-i.sites.items w.push.new.self.items
          c.loop-i.i c.loop-i.invariant w.in_ok-push.ensures.items (sym test ∙ w.if-has_fanout.true))
      | else-has_fanout w ↦ rw (w.sites-is)
          (one_left (is_site n) (λ i. GatePin g i) c.args.sites.now.items c.loop-i.sites.items c.loop-i.i
          c.loop-i.invariant (sym test ∙ w.if-has_fanout.false))
    ]
