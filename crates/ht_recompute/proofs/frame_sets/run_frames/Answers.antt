use Rattle.std.proofs.Common.{◌≡◌, ◌*◌, ◌+◌, ◌-◌, ◌∙◌, ℕ, ap, flat_map}
use Rattle.std.specs.List.{range_with_len}
use Rattle.ht_net.specs.Circuit.Netlist.{Netlist}
use Rattle.ht_recompute.specs.declared.differences.Differences.{Differences}
use Rattle.ht_recompute.specs.Differences.{differences_in, in_either}
use Rattle.ht_recompute.specs.FrameSetsOf.{outputs_of_frame}
use Rattle.ht_recompute.proofs.DifferenceLaws.{one_more_frame}
use Rattle.ht_recompute.proofs.FrameSetLaws.{ran_frame}
use Rattle.ht_recompute.proofs.frame_sets.run_frames.Goals as goal

pub loop-f-preserved : goal.loop-f-preserved
loop-f-preserved c =
    let now = c.loop-f in
    let s = c.args.frame.now in
    let ds = c.args.decisions.now in
    let inputs : c.inputs-inputs.result ≡ s.circuit.inputs =
    c.inputs-inputs.ensures ∙ ap (λ (n : Netlist). n.inputs) c.circuit.ensures.circuit in
    let ran = ran_frame s now.frame c.run.new.self ds now.f _ now.invariant.circuit now.invariant.fault
    now.invariant.latches (ap (λ (n : ℕ). now.f * n) inputs) c.run.ensures in
    record {
      circuit = ran.circuit;
      fault = ran.fault;
      latches = ran.latches;
      shown = ap (λ (d : Differences). in_either d
          (differences_in (flat_map (outputs_of_frame s ds)
          (range_with_len (now.f + 1) (c.args.frames - (now.f + 1))))))
          c.and-shown.ensures
          ∙ (one_more_frame (outputs_of_frame s ds) now.shown c.differences.result now.f c.args.frames
          c.loop-f-test.true (c.differences.ensures ∙ ap differences_in ran.outputs)
          ∙ now.invariant.shown);
    }
