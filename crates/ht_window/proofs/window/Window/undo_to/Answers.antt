use Rattle.std.proofs.Common.{◌∙◌, Option, ap, sym, subst, arith, length, refl}
use Rattle.ht_tree.specs.Window.Windows.{SearchWindow}
use Rattle.ht_relevant.specs.Near.{RelevantState}
use Rattle.ht_relevant.specs.Relevant.{IsRelevant}
use Rattle.ht_window.specs.Cells.{IsHistory}
use Rattle.ht_window.specs.Matters.{is_relevant}
use Rattle.ht_window.specs.States.{WindowState}
use Rattle.ht_window.proofs.HistoryLaws.{history_undo}
use Rattle.ht_window.proofs.MarkLaws.{mark_is, undone_is}
use Rattle.ht_window.proofs.window.Window.undo_to.Goals as goal

pub invariant_of-self : goal.invariant_of-self
invariant_of-self c =
    let a = c.self.inside in
    let w = a.held.standing.window in
    let i = c.self.invariant in
    let u = c.undo.ensures in
    let few = c.requires in
    let s = ap (λ (s : WindowState). length s.decisions) c.self.view_is in
    record {
      circuit = i.circuit ∙ sym (ap (λ (w : SearchWindow). w.circuit) u.window);
      frames = i.frames ∙ sym (ap (λ (w : SearchWindow). w.frames) u.window);
      good = λ g. u.relevant ∙ i.good (ap (λ (v : SearchWindow). v.fault) (sym u.window) ∙ g);
      relevant = subst (λ (v : SearchWindow). IsRelevant v (is_relevant c.undo.new.self.relevant)) (sym u.window)
          (subst (λ (o : Option RelevantState). IsRelevant w (is_relevant o)) (sym u.relevant) i.relevant);
      history = subst (λ (v : SearchWindow). IsHistory v (is_relevant c.undo.new.self.relevant)
          c.undo.new.self.standing.path c.truncate.new.self.items c.undo.new.self.cells) (sym u.window)
          (subst (λ (o : Option RelevantState). IsHistory w (is_relevant o) c.undo.new.self.standing.path
          c.truncate.new.self.items c.undo.new.self.cells) (sym u.relevant)
          (history_undo w (is_relevant a.held.relevant) a.held.standing.path c.undo.new.self.standing.path a.marks.items
          c.truncate.new.self.items a.held.cells c.undo.new.self.cells c.args.count c.mark_before-mark.result.0
          (omega (arith, few, s)) u.path c.truncate.ensures.items
          (c.mark_before-mark.ensures
          ∙ mark_is c.args.self.now w (is_relevant a.held.relevant) a.held.relevant a.held.standing.path a.marks.items
          a.held.cells i.history c.self.view_is c.args.count)
          u.values u.trail i.history));
    }

pub returns : goal.returns
returns c =
    let a = c.self.inside in
    let u = c.undo.ensures in
    undone_is c.args.self.now a.held.standing.window (is_relevant a.held.relevant) a.held.relevant a.held.standing.path
    a.marks.items a.held.cells c.self.invariant.history c.self.view_is
    c.undo.new.self.relevant c.undo.new.self.standing.window c.undo.new.self.standing.path c.truncate.new.self.items c.undo.new.self.cells.trail
    c.mark_before-mark.result.0 c.args.count c.args.count
    u.relevant u.window u.path c.truncate.ensures.items u.trail refl c.requires c.mark_before-mark.ensures
