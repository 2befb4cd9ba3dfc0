use Rattle.std.proofs.Common.{◌<◌, ◌^◌, length, arith}
use Rattle.std.proofs.lemmas.Result.{IfOk-weaker}
use Rattle.ht_causes.proofs.CauseTextLaws.{causes_in}
use Rattle.ht_causes.proofs.causes.find_causes.Goals as goal

pub run_causes-causes-requires-clause-begun : goal.run_causes-causes-requires-clause-begun
run_causes-causes-requires-clause-begun c = c.in_ok-run.ensures.begun c.args.list.now.list

pub returns-clause-lines : goal.returns-clause-lines
returns-clause-lines c =
    let few : length c.args.list.now.list < 2 ^ 64 = omega arith in
    IfOk-weaker c.run_causes-causes.result _ _
    (λ causes are. causes_in c.args.circuit.now c.args.classes.now c.args.start.now c.args.list.now.list causes.items
    few are)
    c.run_causes-causes.ensures
