use Rattle.std.proofs.Common.{◌∙◌}
use Rattle.ht_uninit.proofs.net_search.search_net.Goals as goal

pub returns-in-Ok-clause-circuit : goal.returns-in-Ok-clause-circuit
returns-in-Ok-clause-circuit c = c.undo_to.ensures.circuit ∙ c.in-Ok.ensures.circuit

pub returns-in-Ok-clause-members : goal.returns-in-Ok-clause-members
returns-in-Ok-clause-members c = c.undo_to.ensures.members ∙ c.in-Ok.ensures.members

pub returns-in-Ok-clause-path : goal.returns-in-Ok-clause-path
returns-in-Ok-clause-path c = c.undo_to.ensures.path

pub returns-in-Ok-clause-out : goal.returns-in-Ok-clause-out
returns-in-Ok-clause-out c = c.in-Ok.ensures.out
