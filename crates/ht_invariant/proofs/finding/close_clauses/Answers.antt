use Rattle.std.proofs.Common.{◌≡◌, ◌∙◌, true, ap, sym, subst, arith}
use Rattle.ht_net.specs.Circuit.Netlist.{Netlist}
use Rattle.ht_tree.specs.Window.Windows.{SearchWindow}
use Rattle.ht_tree.specs.Clause.ClauseWindows.{good_window}
use Rattle.ht_invariant.specs.Trials.{knows_each}
use Rattle.ht_invariant.specs.ClosingRounds.{IsClosingRound}
use Rattle.ht_invariant.proofs.ClosingRoundLaws.{rounds_go_on}
use Rattle.ht_invariant.proofs.finding.close_clauses.Goals as goal

pub closing_round-requires-clause-good : goal.closing_round-requires-clause-good
closing_round-requires-clause-good c =
    subst (λ (w : SearchWindow). w ≡ good_window w.circuit) (sym c.rounds.invariant.0) c.requires.good

pub closing_round-requires-clause-known : goal.closing_round-requires-clause-known
closing_round-requires-clause-known c =
    subst (λ (w : SearchWindow). knows_each w.circuit c.rounds.clauses.items ≡ true) (sym c.rounds.invariant.0)
    c.rounds.invariant.2

pub rounds-preserved : goal.rounds-preserved
rounds-preserved c =
    let e = ap (λ (w : SearchWindow). w.circuit) c.rounds.invariant.0 in
    let old = c.rounds.clauses.items in
    let new = c.closing_round.new.clauses.items in
    let few = c.in_ok-after.ensures.few in (
      c.in_ok-after.ensures.window ∙ c.rounds.invariant.0,
      c.in_ok-after.ensures.decisions,
      subst (λ (n : Netlist). knows_each n new ≡ true) e c.in_ok-after.ensures.known,
      rounds_go_on c.args.window.window.circuit c.args.budget c.args.clauses.now.items old new c.rounds.invariant.3
          (subst (λ (n : Netlist). IsClosingRound n c.args.budget old new) e c.in_ok-after.ensures.round)
          (omega (arith, few)),
    )

pub returns-then-len-count : goal.returns-then-len-count
returns-then-len-count c =
    let e = ap (λ (w : SearchWindow). w.circuit) c.rounds.invariant.0 in
    let old = c.rounds.clauses.items in
    let new = c.closing_round.new.clauses.items in
    let few = c.in_ok-after.ensures.few in
    c.rounds.invariant.3 0 new
    (subst (λ (n : Netlist). IsClosingRound n c.args.budget old new) e c.in_ok-after.ensures.round, omega (arith, few))
