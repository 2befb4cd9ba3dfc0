use Rattle.std.proofs.Common.{◌≡◌, ◌+◌, ◌-◌, ◌∙◌, List, Bool, ℕ, false, length, ap, arith}
use Rattle.std.proofs.lemmas.List.{length-set}
use Rattle.ht_net.specs.Circuit.Netlist.{first_gate_net}
use Rattle.ht_events.proofs.ScheduleLaws.{readers_known, readers_later, touched_as_before, rank_taken}
use Rattle.ht_tree.specs.Window.Windows.{pair_set_rules}
use Rattle.ht_recompute.proofs.NetSetLaws.{fired_quiet, gate_of_rank}
use Rattle.ht_recompute.proofs.net_sets.fire.Goals as goal

pub write_net-requires-clause-readers : goal.write_net-requires-clause-readers
write_net-requires-clause-readers c k d inside =
    let marks = ap (λ (l : List Bool). length l) c.remove.ensures in
    let same = length-set c.args.pending.now c.args.rank false in
    let u = c.args.under.now in
    let known = readers_known u.circuit.now u.schedule.now c.requires.quiet.schedule c.net-net.result
    c.row-readers.result.now c.row-readers.ensures k d inside in
    omega (arith, known, marks, same, c.requires.quiet.marks)

pub returns-clause-quiet : goal.returns-clause-quiet
returns-clause-quiet c =
    let u = c.args.under.now in
    let n = u.circuit.now in
    let s = u.schedule.now in
    let x = c.net-net.result in
    let g : ℕ = c.net-net.result - (c.inputs.result + c.dffs.result) in
    let high = gate_of_rank n s c.requires.quiet.schedule c.args.rank c.requires.gate c.requires.rank in
    let net_is : c.net-net.result
    ≡ first_gate_net c.args.under.now.circuit.now + (c.net-net.result - (c.inputs.result + c.dffs.result)) =
    omega (arith, high, c.net-net.ensures) in
    fired_quiet n s c.requires.quiet.schedule u.fault x c.args.values.now c.write_net.new.values c.write_net.new.pending
    c.row-readers.result.now c.row-readers.ensures c.write_net.ensures.sets c.write_net.ensures.readers
    c.args.pending.now c.remove.new.self c.args.rank g c.net-net.ensures net_is c.remove.ensures
    (c.write_net.ensures.set ∙ (c.stem-set.ensures
    ∙ ap ((pair_set_rules u.fault).stem x) c.gate_output.ensures))
    c.write_net.auto.values c.write_net.ensures.marks c.write_net.ensures.more c.requires.quiet

pub returns-clause-taken : goal.returns-clause-taken
returns-clause-taken c =
    let u = c.args.under.now in
    rank_taken c.args.pending.now c.remove.new.self c.write_net.new.pending c.row-readers.result.now c.args.rank
    c.remove.ensures c.write_net.ensures.rest (omega (arith, c.requires.rank, c.requires.quiet.marks))
    (readers_later u.circuit.now u.schedule.now c.requires.quiet.schedule c.net-net.result c.row-readers.result.now
    c.row-readers.ensures c.args.rank c.requires.rank c.net-net.ensures c.args.rank (omega arith))

pub returns-clause-before : goal.returns-clause-before
returns-clause-before c r below =
    let u = c.args.under.now in
    touched_as_before c.args.pending.now c.remove.new.self c.write_net.new.pending c.row-readers.result.now c.args.rank
    c.remove.ensures c.write_net.ensures.rest r (omega (arith, below))
    (readers_later u.circuit.now u.schedule.now c.requires.quiet.schedule c.net-net.result c.row-readers.result.now
    c.row-readers.ensures c.args.rank c.requires.rank c.net-net.ensures r (omega (arith, below)))
