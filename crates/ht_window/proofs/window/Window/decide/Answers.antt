use Rattle.std.proofs.lemmas.Grind.{common_steps, elements}
use Rattle.std.proofs.Common.{◌++◌, ◌∷◌, [], ◌∙◌, Option, ap, sym, subst, ℕ, arith}
use Rattle.ht_tree.specs.declared.token.Assign3.{Assign3}
use Rattle.ht_tree.specs.Window.Windows.{SearchWindow}
use Rattle.ht_events.specs.Plans.{PlanState}
use Rattle.ht_relevant.specs.Near.{RelevantState}
use Rattle.ht_relevant.specs.Relevant.{IsRelevant}
use Rattle.ht_window.specs.Cells.{IsHistory}
use Rattle.ht_window.specs.Matters.{is_relevant}
use Rattle.ht_window.proofs.HistoryLaws.{cells_now, history_push}
use Rattle.ht_window.proofs.window.Window.decide.Goals as goal

pub follow-requires-clause-cells : goal.follow-requires-clause-cells
follow-requires-clause-cells c =
    let a = c.self.inside in
    cells_now a.held.standing.window (is_relevant a.held.relevant) a.held.standing.path a.marks.items a.held.cells
    c.self.invariant.history

pub invariant_of-self-in-Ok : goal.invariant_of-self-in-Ok
invariant_of-self-in-Ok c =
    let a = c.self.inside in
    let i = c.self.invariant in
    let f = c.in-Ok.ensures in
    let w = a.held.standing.window in
    let d : Assign3 = record { var = c.args.var; value = c.args.choice } in
    record {
      circuit = ap (λ (p : PlanState). p.circuit) f.plan ∙
          (i.circuit ∙ sym (ap (λ (w : SearchWindow). w.circuit) f.window));
      frames = ap (λ (p : PlanState). p.frames) f.plan ∙
          (i.frames ∙ sym (ap (λ (w : SearchWindow). w.frames) f.window));
      good = λ g. f.relevant ∙ i.good (ap (λ (v : SearchWindow). v.fault) (sym f.window) ∙ g);
      relevant = subst (λ (v : SearchWindow). IsRelevant v (is_relevant c.follow.new.held.relevant)) (sym f.window)
          (subst (λ (o : Option RelevantState). IsRelevant w (is_relevant o)) (sym f.relevant) i.relevant);
      history = subst (λ (v : SearchWindow). IsHistory v (is_relevant c.follow.new.held.relevant)
          c.follow.new.held.standing.path c.push.new.self.items c.follow.new.held.cells) (sym f.window)
          (subst (λ (o : Option RelevantState). IsHistory w (is_relevant o) c.follow.new.held.standing.path
          c.push.new.self.items c.follow.new.held.cells) (sym f.relevant)
          (history_push w (is_relevant a.held.relevant) a.held.standing.path c.follow.new.held.standing.path d
          a.marks.items c.push.new.self.items a.held.cells c.follow.new.held.cells
          f.path (c.in_ok-push.ensures.items ∙ ap (λ (m : ℕ). a.marks.items ++ m ∷ []) c.mark-mark.ensures) f.later
          f.trail f.cells i.history));
    }

pub undo-requires-clause-count : goal.undo-requires-clause-count
undo-requires-clause-count c = grind (arith, elements)

pub undo-requires-clause-mark : goal.undo-requires-clause-mark
undo-requires-clause-mark c = grind (arith, common_steps)
