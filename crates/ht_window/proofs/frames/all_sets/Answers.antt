use Rattle.std.proofs.lemmas.Grind.{common_steps, elements}
use Rattle.std.proofs.Common.{◌≡◌, ◌∙◌, ◌++◌, List, ap, arith, length}
use Rattle.std.proofs.lemmas.List.{with_items_is}
use Rattle.ht_pairs.specs.Pairs.{Pair}
use Rattle.ht_net.specs.Circuit.Netlist.{Netlist, net_count}
use Rattle.ht_window.proofs.AllSetsLaws.{first_frame, no_frame, one_more_frame}
use Rattle.ht_window.proofs.frames.all_sets.Goals as goal

pub loop-frame-init : goal.loop-frame-init
loop-frame-init c =
    let d = c.args.decisions.now in
    let circuit = c.circuit-circuit.ensures.circuit in
    let L : List (List Pair) = c.write_latches.new.latches in
    let kept = with_items_is c.in_ok-latches.latches L (omega arith) in
    let inputs = ap (λ (n : Netlist). n.inputs) circuit in
    let dffs = ap (λ (n : Netlist). length n.dffs) circuit in
    let nets = ap net_count circuit in
    record {
      vector = c.in_ok-vector.ensures ∙ (c.inputs.ensures ∙ inputs);
      dffs = ap length kept ∙ (let e = c.in_ok-latches.ensures in let n = c.dffs.ensures in omega (arith, e, n, dffs));
      latches = kept ∙ (c.write_latches.ensures ∙ first_frame d.window d.path);
      row = c.in_ok-row.ensures ∙ (c.nets-nets.ensures.count ∙ nets);
      pins = c.in_ok-pins.ensures;
      sets = no_frame d.window d.path c.in_ok-sets.sets.items c.in_ok-sets.ensures.items;
    }

pub loop-frame-preserved : goal.loop-frame-preserved
loop-frame-preserved c =
    let d = c.args.decisions.now in
    let l = c.loop-frame in
    let i = l.invariant in
    let r = c.run_frame in
    let V : List (List Pair) = r.new.vector in
    let L : List (List Pair) = r.new.latches in
    let R : List (List Pair) = r.new.row in
    let P : List (List Pair) = r.new.pins in
    let vector = with_items_is l.vector V (omega arith) in
    let latches = with_items_is l.latches L (omega arith) in
    let row = with_items_is l.row R (omega arith) in
    let pins = with_items_is l.pins P (omega arith) in
    let wide : length R ≡ net_count d.window.circuit = (let e = i.row in omega (arith, e)) in
    record {
      vector = ap length vector ∙ (let e = i.vector in omega (arith, e));
      dffs = ap length latches ∙ (let e = i.dffs in omega (arith, e));
      latches = latches ∙ r.ensures.latches;
      row = ap length row ∙ wide;
      pins = ap length pins ∙ (let e = i.pins in omega (arith, e));
      sets = one_more_frame d.window d.path l.frame l.sets.items R c.extend_from_slice.new.self.items
          (c.in_ok-extend_from_slice.ensures.items
          ∙ ap (λ (t : List (List Pair)). l.sets.items ++ t) (c.deref.ensures.value ∙ row))
          wide r.ensures.row i.sets;
    }

pub overflow_mul-frames : goal.overflow_mul-frames
overflow_mul-frames c = grind (arith, elements)

pub returns-in_err-sets-clause-count : goal.returns-in_err-sets-clause-count
returns-in_err-sets-clause-count c = grind (arith, common_steps)

pub write_latches-requires : goal.write_latches-requires
write_latches-requires c = grind (arith, common_steps)
