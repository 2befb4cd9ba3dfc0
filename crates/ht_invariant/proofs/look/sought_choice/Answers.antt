use Rattle.std.proofs.Common.{◌≡◌, ◌∙◌, ◌∷◌, true, ap, sym}
use Rattle.ht_tree.specs.Clause.Clauses.{second_of}
use Rattle.ht_invariant.specs.Trials.{knows, knows_sought}
use Rattle.ht_invariant.proofs.LookLaws.{found_walks}
use Rattle.ht_invariant.proofs.look.sought_choice.Goals as goal

pub back_from-requires-clause-walks : goal.back_from-requires-clause-walks
back_from-requires-clause-walks c =
    let s = c.args.window.now in
    let known : knows s.window.circuit (c.in-Breach.first ∷ second_of c.in-Breach.second) ≡ true =
    ap (knows_sought s.window.circuit) (sym c.in-Breach.is) ∙ c.requires.known in
    λ l is. found_walks s.window s.decisions c.circuit.ensures.valid.circuit c.requires.one
    (c.in-Breach.first ∷ second_of c.in-Breach.second) known l (sym c.undetermined_literal-literal.ensures ∙ is)
