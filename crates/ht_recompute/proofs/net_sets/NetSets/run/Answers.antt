use Rattle.std.proofs.Common.{◌∙◌, List, ap}
use Rattle.ht_pairs.specs.Pairs.{Pair}
use Rattle.ht_net.specs.Frames.Frame.{data_values, values_at}
use Rattle.ht_tree.specs.Window.Windows.{pair_set_rules}
use Rattle.ht_recompute.specs.GateSets.{sets_of}
use Rattle.ht_recompute.proofs.FrameSetLaws.{frame_shown, frame_taken}
use Rattle.ht_recompute.proofs.net_sets.NetSets.run.Goals as goal

pub returns-clause-latches : goal.returns-clause-latches
returns-clause-latches c =
    let n = c.args.under.now.circuit.now in
    let r = pair_set_rules c.args.under.now.fault in
    c.capture.ensures
    ∙ (ap (λ (l : List (List Pair)). data_values r (sets_of l) 0 n.dffs) c.deref-2.ensures.value
    ∙ frame_taken n c.args.under.now.fault c.args.vector.now c.args.latches.now c.settle.new.self.values.items
    c.requires.nets.quiet.schedule.circuit c.settle.ensures.sets)

pub returns-clause-outputs : goal.returns-clause-outputs
returns-clause-outputs c =
    let n = c.args.under.now.circuit.now in
    c.show.ensures
    ∙ (ap (λ (l : List (List Pair)). values_at (sets_of l) n.outputs) c.deref.ensures.value
    ∙ frame_shown n c.args.under.now.fault c.args.vector.now c.args.latches.now c.settle.new.self.values.items
    c.requires.nets.quiet.schedule.circuit c.settle.ensures.sets)
