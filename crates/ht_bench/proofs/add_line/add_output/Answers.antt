use Rattle.std.proofs.Common.{arith}
use Rattle.std.proofs.lemmas.Grind.{common_steps}
use Rattle.ht_net.specs.Build.Draft.{draft_name}
use Rattle.ht_bench.proofs.AddLaws.{output_is}
use Rattle.ht_bench.proofs.add_line.add_output.Goals as goal

pub returns-clause-accepts : goal.returns-clause-accepts
returns-clause-accepts c =
    let d = c.mention.new.builder in
    let is = output_is d c.output.new.self (draft_name d c.in_ok-id.id) c.in_ok-output.ensures.known
    c.in_ok-output.ensures.new in
    grind (arith, common_steps)
