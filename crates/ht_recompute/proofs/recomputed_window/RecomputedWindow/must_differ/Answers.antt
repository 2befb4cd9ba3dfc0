use Rattle.std.proofs.Common.{◌∙◌, List, Option, ap, refl, sym, subst}
use Rattle.std.specs.List.{list_all}
use Rattle.ht_tern.specs.declared.tern.Tern.{Tern}
use Rattle.ht_pairs.specs.Pairs.{differs}
use Rattle.ht_net.specs.Circuit.Netlist.{Netlist}
use Rattle.ht_tree.specs.Window.Places.{IsSpot, set_at}
use Rattle.ht_tree.specs.Window.Windows.{SearchWindow}
use Rattle.ht_recompute.specs.FrameSetsOf.{FrameState}
use Rattle.ht_recompute.specs.RecomputedWindowOf.{window_of}
use Rattle.ht_recompute.proofs.StatusLaws.{place_is}
use Rattle.ht_recompute.proofs.BegunLaws.{frame_begun, frame_ran}
use Rattle.ht_recompute.proofs.recomputed_window.RecomputedWindow.must_differ.Goals as goal

pub returns-clause-shown : goal.returns-clause-shown
returns-clause-shown c =
    let D : List (Option Tern) = c.write_decisions.new.decisions in
    let begun = frame_begun c.self.inside _ D c.deref_mut.ensures.value c.write_decisions.ensures.room _ _
    c.self.invariant c.deref.ensures.value c.begin.ensures in
    let known : IsSpot c.self.inside.frame.circuit c.args.place =
    subst (λ (w : SearchWindow). IsSpot w.circuit c.args.place) (sym c.self.view_is) c.requires.place in
    c.must_differ.ensures
    ∙ ap (list_all differs) (place_is (window_of c.self.inside) c.args.path.now D c.self.inside.start
    c.self.invariant.window.start refl c.self.invariant.start c.write_decisions.ensures.written begun.room
    c.begin.new.self begun.circuit begun.fault begun.latches
    (ap (λ (w : SearchWindow). w.frames) c.self.view_is ∙ c.requires.one) c.run.new.self
    (frame_ran c.self.inside _ D c.deref_mut.ensures.value c.write_decisions.ensures.room _ c.begin.new.self
    c.run.new.self c.deref-2.ensures.value c.run.ensures) c.args.place known
    ∙ ap (λ (w : SearchWindow). set_at w c.args.path.now 0 c.args.place) c.self.view_is)

pub must_differ-requires : goal.must_differ-requires
must_differ-requires c =
    let s : FrameState = c.begin.new.self in
    let circuit = ap (λ (t : FrameState). t.circuit) c.run.ensures ∙ ap (λ (t : FrameState). t.circuit) c.begin.ensures
    ∙ ap (λ (w : SearchWindow). w.circuit) c.self.view_is in
    subst (λ (n : Netlist). IsSpot n c.args.place) (sym circuit) c.requires.place
