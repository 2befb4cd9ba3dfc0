use Rattle.std.proofs.Common.{rules, None}
use Rattle.ht_recompute.proofs.NetSetLaws.{all_pending}
use Rattle.ht_recompute.proofs.net_sets.NetSets.new.Goals as goal

pub returns : goal.returns
returns c s is = record {
  quiet = all_pending c.args.circuit.now s is None c.in_ok-all_gates.field-0 c.in_ok-vec.field-0.items (search rules)
      c.in_ok-all_gates.ensures.count c.in_ok-all_gates.ensures.all;
  pins = search rules;
}
