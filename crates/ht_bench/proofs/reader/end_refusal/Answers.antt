use Rattle.ht_net.specs.Build.Finish.{no_name}
use Rattle.ht_bench.proofs.EndOfTextLaws.{net_is_mentioned, undriven_is}
use Rattle.ht_bench.proofs.NetCycleLaws.{some_net, first_is_driven, loop_found}
use Rattle.ht_bench.proofs.reader.end_refusal.Goals as goal

pub first_line-requires-clause-has : goal.first_line-requires-clause-has
first_line-requires-clause-has c =
    let free = rw c.in-Undriven.is at c.requires.refused in
    rw c.name-name.ensures (net_is_mentioned c.requires.read c.in-Undriven.name free.0)

pub returns-in_ok-name-in-Undriven : goal.returns-in_ok-name-in-Undriven
returns-in_ok-name-in-Undriven c =
    let free = rw c.in-Undriven.is at c.requires.refused in
    let first = rw c.name-name.ensures at c.in_ok-line-in-Undriven.ensures in
    rw (c.in_ok-name-in-Undriven.ensures, c.name-name.ensures)
    (undriven_is c.requires.read c.in-Undriven.name free c.in_ok-line-in-Undriven.line first)

pub name-requires : goal.name-requires
name-requires c =
    let refused = rw c.in-Loop.is at c.requires.refused in
    rw c.as_slice-nets.ensures
    (refused.1.known 0 no_name (some_net c.requires.read c.in-Loop.nets refused.1 refused.0))

pub first_line-requires-in-Loop-clause-has : goal.first_line-requires-in-Loop-clause-has
first_line-requires-in-Loop-clause-has c =
    let refused = rw c.in-Loop.is at c.requires.refused in
    rw (c.name.ensures, c.as_slice-nets.ensures) (first_is_driven c.requires.read c.in-Loop.nets refused.1 refused.0)

pub names_of-requires : goal.names_of-requires
names_of-requires c =
    let refused = rw c.in-Loop.is at c.requires.refused in
    rw c.as_slice-nets.ensures refused.1.known

pub returns-in_ok-names-in-Loop : goal.returns-in_ok-names-in-Loop
returns-in_ok-names-in-Loop c =
    let refused = rw c.in-Loop.is at c.requires.refused in
    let first = rw (c.name.ensures, c.as_slice-nets.ensures) at c.in_ok-line-in-Loop.ensures in
    rw (c.in_ok-names-in-Loop.ensures, c.as_slice-nets.ensures)
    (loop_found c.requires.read c.in-Loop.nets refused.1 refused.0 c.in_ok-line-in-Loop.line first)
