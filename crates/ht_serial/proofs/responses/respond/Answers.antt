use Rattle.std.proofs.Common.{◌<◌, ◌∙◌, List, [], length, ap, arith, sym}
use Rattle.std.proofs.lemmas.List.{take_all}
use Rattle.ht_tern.specs.declared.tern.Tern.{Tern}
use Rattle.ht_net.specs.Detect.Detection.{outputs_from}
use Rattle.ht_serial.specs.ObservationView.{ObservationView}
use Rattle.ht_serial.proofs.RowLaws.{of_rows, ran_more, rows_count, rows_wide, shown_more}
use Rattle.ht_serial.proofs.responses.respond.Goals as goal

pub push-requires : goal.push-requires
push-requires c =
    let n = c.args.circuit.now in
    let start = c.args.start.now in
    let list = c.args.list.now.list in
    let inside : c.loop-t.t < length list = omega arith in
    let ran = ran_more n c.args.fault start list c.loop-t.t c.loop-t.machine c.step.new.self c.get.result.now inside
    c.loop-t.invariant.machine c.get.ensures.row c.step.ensures in
    ap (λ (l : List Tern). length l) (c.in_ok-row.ensures ∙ ran.row)
    ∙ rows_wide n c.args.fault start list c.loop-t.t [] (omega (arith, rows_count n c.args.fault start list))
    ∙ sym (ap (λ (o : ObservationView). o.width) c.loop-t.invariant.shown)

pub loop-t-preserved : goal.loop-t-preserved
loop-t-preserved c =
    let n = c.args.circuit.now in
    let start = c.args.start.now in
    let list = c.args.list.now.list in
    let rows = outputs_from n c.args.fault start list in
    let inside : c.loop-t.t < length list = omega arith in
    let ran = ran_more n c.args.fault start list c.loop-t.t c.loop-t.machine c.step.new.self c.get.result.now inside
    c.loop-t.invariant.machine c.get.ensures.row c.step.ensures in
    record {
      machine = ran.next;
      shown = shown_more (length n.outputs) c.loop-t.t rows c.loop-t.shown c.push.new.self
          c.in_ok-row.row.items (omega (arith, rows_count n c.args.fault start list))
          c.loop-t.invariant.shown c.in_ok-push.ensures.ok (c.in_ok-row.ensures ∙ ran.row);
    }

pub returns : goal.returns
returns c =
    let n = c.args.circuit.now in
    let list = c.args.list.now.list in
    let rows = outputs_from n c.args.fault c.args.start.now list in
    c.loop-t.invariant.shown ∙ ap (of_rows (length n.outputs))
    (take_all c.loop-t.t rows (omega (arith, rows_count n c.args.fault c.args.start.now list)))
