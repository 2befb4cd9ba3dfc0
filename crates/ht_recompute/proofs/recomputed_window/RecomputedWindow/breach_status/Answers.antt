use Rattle.std.proofs.Common.{◌≡◌, ◌<◌, ◌∙◌, ℕ, List, [], Option, length, get_or, ap, refl, sym, subst, arith}
use Rattle.std.specs.List.{All}
use Rattle.std.proofs.lemmas.List.Elements.{All-head, All-tail}
use Rattle.ht_tern.specs.declared.tern.Tern.{Tern}
use Rattle.ht_pairs.specs.Pairs.{Pair}
use Rattle.ht_tree.specs.declared.window.Spot.TheVariants.{State}
use Rattle.ht_tree.specs.Window.Places.{set_at}
use Rattle.ht_tree.specs.Window.Windows.{SearchWindow}
use Rattle.ht_tree.specs.declared.clause.Literal.{Literal}
use Rattle.ht_tree.specs.Clause.Clauses.{literals_of, second_of}
use Rattle.ht_tree.specs.Clause.ClauseWindows.{breach_status}
use Rattle.ht_recompute.specs.FrameSetsOf.{FrameState}
use Rattle.ht_recompute.specs.RecomputedWindowOf.{window_of}
use Rattle.ht_recompute.specs.WrittenClauses.{IsKnownClause}
use Rattle.ht_recompute.proofs.ClauseLaws.{breach_is}
use Rattle.ht_recompute.proofs.StatusLaws.{place_is}
use Rattle.ht_recompute.proofs.BegunLaws.{frame_begun, frame_ran}
use Rattle.ht_recompute.proofs.recomputed_window.RecomputedWindow.breach_status.Goals as goal

pub returns-clause-status : goal.returns-clause-status
returns-clause-status c =
    let a = c.self.inside in
    let w : SearchWindow = window_of a in
    let path = c.args.path.now in
    let D : List (Option Tern) = c.write_decisions.new.decisions in
    let begun = frame_begun a _ D c.deref_mut.ensures.value c.write_decisions.ensures.room _ _
    c.self.invariant c.deref.ensures.value c.begin.ensures in
    let ran = frame_ran a _ D c.deref_mut.ensures.value c.write_decisions.ensures.room _ c.begin.new.self
    c.run.new.self c.deref-2.ensures.value c.run.ensures in
    let are : (j : ℕ) → j < length w.circuit.dffs → get_or c.latches.result.now j [] ≡ set_at w path 0 (State j) =
    λ j inside. ap (λ (t : List (List Pair)). get_or t j []) c.latches.ensures.latches
    ∙ place_is w path D a.start c.self.invariant.window.start refl c.self.invariant.start
    c.write_decisions.ensures.written begun.room c.begin.new.self begun.circuit begun.fault begun.latches
    (ap (λ (w : SearchWindow). w.frames) c.self.view_is ∙ c.requires.one) c.run.new.self ran (State j) inside in
    let known : IsKnownClause w.circuit c.args.clause.now =
    subst (λ (v : SearchWindow). IsKnownClause v.circuit c.args.clause.now) (sym c.self.view_is) c.requires.known in
    c.breach_status.ensures
    ∙ (breach_is w path c.latches.result.now are (literals_of c.args.clause.now) known
    ∙ ap (λ (v : SearchWindow). breach_status v path (literals_of c.args.clause.now)) c.self.view_is)

pub breach_status-requires : goal.breach_status-requires
breach_status-requires c =
    let count : length c.latches.result.now ≡ length c.args.self.now.circuit.dffs =
    c.latches.ensures.count ∙ (ap (λ (t : FrameState). length t.circuit.dffs) c.run.ensures
    ∙ (ap (λ (t : FrameState). length t.circuit.dffs) c.begin.ensures
    ∙ ap (λ (v : SearchWindow). length v.circuit.dffs) c.self.view_is)) in
    let clause = c.args.clause.now in
    let Inside : Literal → Type 0 = λ l. l.dff < length c.args.self.now.circuit.dffs in
    let others = All-tail Inside clause.first (second_of clause.second) c.requires.known in
    record {
      first = let l = All-head Inside clause.first (second_of clause.second) c.requires.known in
          omega (arith, count, l);
      second = λ literal is.
          let l = All-head Inside literal [] (subst (λ (o : Option Literal). All Inside (second_of o)) is others) in
          omega (arith, count, l);
    }
