use Rattle.ht_justify.proofs.justification.begin.Goals as goal

pub returns-clause-windows : goal.returns-clause-windows
returns-clause-windows c = rw c.in_ok-own.ensures.handed at c.in_ok-windows.ensures
