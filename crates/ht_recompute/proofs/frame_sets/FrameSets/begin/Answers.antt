use Rattle.std.proofs.Common.{◌≡◌, ◌<◌, ◌+◌, [], ◌∙◌, List, ℕ, length, get_or, ap, arith}
use Rattle.std.proofs.lemmas.List.{with_items_is}
use Rattle.ht_pairs.specs.Pairs.{Pair}
use Rattle.ht_net.specs.Circuit.Netlist.{Netlist}
use Rattle.ht_tree.proofs.MemberLaws.{listed_by}
use Rattle.ht_recompute.specs.WindowStarts.{first_latch_by, window_start, latches_by}
use Rattle.ht_recompute.proofs.frame_sets.FrameSets.begin.Goals as goal

pub returns : goal.returns
returns c =
    let a = c.self.inside in
    let n = a.kept.circuit in
    let start = c.args.start.now in
    let ds = c.args.decisions.now in
    let L : List (List Pair) = c.write_latches.new.latches in
    let held = c.self.invariant.ends.latches in
    let count : length c.deref_mut.result.now ≡ length n.dffs =
    let e = c.deref_mut.ensures.len in omega (arith, held, e) in
    let inputs : c.inputs-inputs.result ≡ n.inputs =
    c.inputs-inputs.ensures ∙ ap (λ (n : Netlist). n.inputs) c.circuit.ensures.circuit in
    let each : (j : ℕ) → j < length n.dffs → get_or L j []
    ≡ first_latch_by (window_start start) ds n.inputs (length n.dffs) (0 + j) =
    λ j below. let at : j ≡ 0 + j = omega arith in
    c.write_latches.ensures j (omega (arith, count, below))
    ∙ (λ i. first_latch_by (window_start start) ds (inputs i) (count i) (at i)) in
    let whole : L ≡ latches_by start ds n =
    listed_by (first_latch_by (window_start start) ds n.inputs (length n.dffs)) 0 (length n.dffs) L []
    (let e = count in omega (arith, e)) each in
    let items = with_items_is a.ends.latches L (omega arith) ∙ whole in
    (λ i. record {
      circuit = n;
      fault = a.fault;
      latches = items i;
      outputs = a.ends.outputs.items;
    })
    ∙ (λ i. record (c.self.view_is i) { latches = latches_by start ds (c.self.view_is i).circuit })
