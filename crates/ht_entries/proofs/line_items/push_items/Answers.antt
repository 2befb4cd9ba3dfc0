use Rattle.std.proofs.lemmas.Grind.{common_steps, elements}
use Rattle.std.proofs.Common.{arith}
use Rattle.ht_entries.proofs.line_items.push_items.Goals as goal

pub returns-in_err-push : goal.returns-in_err-push
returns-in_err-push g c = grind (arith, elements)

pub returns : goal.returns
returns g c = grind (arith, common_steps)
