use Rattle.std.proofs.Common.{◌≡◌, ◌∙◌, [], List, Option, None, get_or, ap, arith}
use Rattle.std.proofs.lemmas.List.{with_items_is}
use Rattle.ht_tern.specs.declared.tern.Tern.{Tern}
use Rattle.ht_pairs.specs.Pairs.{Pair}
use Rattle.ht_pairs.specs.Decided.{same_pairs}
use Rattle.ht_net.specs.Frames.Frame.{frame_outputs, next_state}
use Rattle.ht_tree.specs.Window.Windows.{pair_set_rules}
use Rattle.ht_tree.proofs.MemberLaws.{listed_by}
use Rattle.ht_recompute.specs.FrameSetsOf.{FrameState, frame_after, inputs_by}
use Rattle.ht_recompute.specs.KeptFramesOf.{KeptState}
use Rattle.ht_recompute.proofs.frame_sets.FrameSets.run.Goals as goal

pub returns : goal.returns
returns c =
    let a = c.self.inside in
    let n = a.kept.circuit in
    let r = pair_set_rules a.fault in
    let ds : List (Option Tern) = c.args.decisions.now in
    let V : List (List Pair) = c.write_inputs.new.vector in
    let L : List (List Pair) = c.run.new.latches in
    let O : List (List Pair) = c.run.new.outputs in
    let inputs = c.self.invariant.ends.vector in
    let wide : V ≡ inputs_by ds c.args.first n.inputs =
    listed_by (λ var. same_pairs (get_or ds var None)) c.args.first n.inputs V [] (omega (arith, inputs))
    (λ k below. c.write_inputs.ensures k (omega (arith, inputs, below))) in
    let circuit = ap (λ (k : KeptState). k.circuit) c.run.ensures.same in
    let v = c.deref.ensures.value ∙ (with_items_is a.ends.vector V (omega arith) ∙ wide) in
    let l = c.deref_mut-2.ensures.value in
    let latches = with_items_is a.ends.latches L (omega arith)
    ∙ (c.run.ensures.latches ∙ (λ i. next_state n r (v i) (l i))) in
    let outputs = with_items_is a.ends.outputs O (omega arith)
    ∙ (c.run.ensures.outputs ∙ (λ i. frame_outputs n r (v i) (l i))) in
    (λ i. record { circuit = circuit i; fault = a.fault; latches = latches i; outputs = outputs i })
    ∙ ap (λ (f : FrameState). frame_after f (inputs_by ds c.args.first f.circuit.inputs)) c.self.view_is
