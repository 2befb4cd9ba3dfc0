use Rattle.std.proofs.Common.{◌∙◌, sym}
use Rattle.ht_recompute.proofs.NetSetLaws.{fault_changed}
use Rattle.ht_recompute.proofs.net_sets.change_fault.Goals as goal

pub returns-then-ne : goal.returns-then-ne
returns-then-ne c =
    let once = c.touch_fault.ensures in
    let touched = c.touch_fault-then-ne.ensures in
    fault_changed c.args.circuit.now c.args.schedule.now c.args.before c.args.after c.args.pending.now
    c.touch_fault.new.pending c.touch_fault-then-ne.new.pending once.stuck once.more touched.stuck touched.more
    (touched.marks ∙ sym c.requires.marks)
