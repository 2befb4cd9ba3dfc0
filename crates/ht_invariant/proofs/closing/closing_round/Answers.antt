use Rattle.std.proofs.Common.{◌≡◌, ◌∙◌, ap, sym, subst, arith}
use Rattle.ht_net.specs.Circuit.Netlist.{Netlist}
use Rattle.ht_tree.specs.Window.Windows.{SearchWindow}
use Rattle.ht_invariant.specs.UnderWay.{IsUnderWay}
use Rattle.ht_invariant.proofs.ClosingRoundLaws.{round_ends}
use Rattle.ht_tree.specs.Clause.ClauseWindows.{good_window}
use Rattle.ht_invariant.proofs.closing.closing_round.Goals as goal

pub search_clause-requires-clause-good : goal.search_clause-requires-clause-good
search_clause-requires-clause-good c =
    subst (λ (w : SearchWindow). w ≡ good_window w.circuit) (sym c.each.invariant.0) c.requires.good

pub each-preserved : goal.each-preserved
each-preserved c =
    let e = ap (λ (w : SearchWindow). w.circuit) c.each.invariant.0 in
    let first = c.args.clauses.now.items in (
      c.in_ok-step.ensures.window ∙ c.each.invariant.0,
      c.in_ok-step.ensures.decisions,
      subst (λ (n : Netlist). IsUnderWay n c.args.budget first c.search_clause.new.clauses.items
          c.in_ok-step.step.next) e
          (c.in_ok-step.ensures.way first
          (subst (λ (n : Netlist). IsUnderWay n c.args.budget first c.each.clauses.items c.each.i) (sym e)
          c.each.invariant.2)),
    )

pub returns-clause-round : goal.returns-clause-round
returns-clause-round c =
    round_ends c.args.window.window.circuit c.args.budget c.args.clauses.now.items c.each.clauses.items c.each.i
    c.each.invariant.2 (omega arith)
