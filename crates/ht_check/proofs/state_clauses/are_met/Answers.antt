use Rattle.std.proofs.Common.{◌∙◌, sym}
use Rattle.std.proofs.lemmas.List.Folds.{list_all-map}
use Rattle.ht_tree.specs.Clause.Clauses.{literals_of, meets}
use Rattle.ht_check.proofs.state_clauses.are_met.Goals as goal

pub returns : goal.returns
returns c = c.is_each_met.ensures ∙ sym (list_all-map (meets c.args.state.now) literals_of c.args.clauses.now)
