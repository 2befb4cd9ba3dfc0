use Rattle.std.proofs.Common.{◌≡◌, ◌<◌, ◌+◌, ℕ, List, get_or, subst, sym, arith}
use Rattle.ht_net.specs.Circuit.Netlist.{first_gate_net}
use Rattle.ht_events.specs.Ranks.{AreRanked}
use Rattle.ht_events.specs.Schedules.{ReadsFrom}
use Rattle.ht_events.proofs.ScheduleLaws.{rises_from}
use Rattle.ht_events.proofs.schedule.Schedule.new.Goals as goal

pub readers-requires-clause-rises : goal.readers-requires-clause-rises
readers-requires-clause-rises c =
    let of = c.args.circuit.now in
    let order = c.in_ok-order.order.items in
    let ranks = c.in_ok-order.ranks.items in
    let all : c.inputs.result + c.dffs.result ≡ first_gate_net of = omega (arith, c.inputs.ensures, c.dffs.ensures) in
    let ranked = subst (λ (n : ℕ). AreRanked of n order ranks) all c.in_ok-order.ensures.ranked in
    subst (λ (l : List ℕ). (y x : ℕ) → ReadsFrom of y x → get_or l x 0 < get_or l y 0) (sym c.deref.ensures.value)
    (rises_from of order ranks ranked)
