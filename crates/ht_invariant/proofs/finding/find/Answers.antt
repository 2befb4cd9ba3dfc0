use Rattle.std.proofs.Common.{◌≡◌, ◌∙◌, List, ap, sym, subst}
use Rattle.ht_net.specs.Circuit.Netlist.{Netlist}
use Rattle.ht_tree.specs.Window.Windows.{SearchWindow}
use Rattle.ht_tree.specs.declared.clause.Clause.{Clause}
use Rattle.ht_invariant.specs.Trials.{knows_each}
use Rattle.ht_invariant.specs.ClosingRounds.{AreClosingRounds}
use Rattle.ht_invariant.specs.FoundClauses.{FindsClauses, first_clauses}
use Rattle.ht_invariant.proofs.FindLaws.{first_known, found_invariant}
use Rattle.ht_invariant.proofs.finding.find.Goals as goal

pub close_clauses-requires-clause-known : goal.close_clauses-requires-clause-known
close_clauses-requires-clause-known c =
    let circuit = ap (λ (w : SearchWindow). w.circuit) c.in_ok-window.ensures.window in
    let is = c.in_ok-clauses.ensures in
    (λ k. knows_each (circuit k) (is k)) ∙ first_known c.args.circuit.now c.args.state.now c.requires

pub returns-clause-holds : goal.returns-clause-holds
returns-clause-holds c =
    let n = c.args.circuit.now in
    let b = c.args.budget in
    let circuit = ap (λ (w : SearchWindow). w.circuit) c.in_ok-window.ensures.window in
    let is = c.in_ok-clauses.ensures in
    let h = c.in_ok-close_clauses.ensures in
    let old = c.in_ok-clauses.clauses.items in
    let new = c.close_clauses.new.clauses.items in
    let finds : FindsClauses n b c.args.state.now c.from_vec.result = record {
      dropping = h.0;
      rounds = subst (λ (ks : List Clause). AreClosingRounds n b h.0 (first_clauses n c.args.state.now) ks)
          (sym c.from_vec.ensures)
          (subst (λ (ks : List Clause). AreClosingRounds n b h.0 ks new) is
          (subst (λ (m : Netlist). AreClosingRounds m b h.0 old new) circuit h.1));
    } in
    λ some. found_invariant n c.args.state.now c.requires b c.from_vec.result finds some
