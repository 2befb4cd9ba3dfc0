use Rattle.std.proofs.Common.{arith, ◌≡◌, ◌++◌, ◌+◌, take, drop, take-append-drop}
use Rattle.std.proofs.lemmas.List.{drop-drop}
use Rattle.std.proofs.lemmas.Grind.{common_steps}
use Rattle.ht_desks.proofs.copy_front.copy_front.Goals as goal

pub returns-clause-copied : goal.returns-clause-copied
returns-clause-copied c =
    let n = c.min-count.result in
    let start = c.args.start in
    let xs = c.args.from.now in
    let whole : take n (drop start xs) ++ drop n (drop start xs) ≡ drop start xs = take-append-drop n (drop start xs) in
    let rest : drop n (drop start xs) ≡ drop (start + n) xs = drop-drop n start xs in
    grind (arith, common_steps)
