use Rattle.std.proofs.Common.{◌≡◌, ◌≤◌, ℕ, Some, subst}
use Rattle.ht_relevant.specs.Distances.{number_of}
use Rattle.ht_relevant.proofs.away.begin_line.Goals as goal

pub returns-clause-begun : goal.returns-clause-begun
returns-clause-begun c = λ x xs leads.
    let found : Some c.in-Some.net ≡ Some x = c.in-Some.ensures.only x xs leads in
    let same : c.in-Some.net ≡ x = cc in
    subst (λ (y : ℕ). number_of c.put.new.self y ≤ c.put.new.self.distance) same c.in_ok-put.ensures.put
