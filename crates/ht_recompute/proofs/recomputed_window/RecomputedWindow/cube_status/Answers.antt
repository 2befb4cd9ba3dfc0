use Rattle.std.proofs.Common.{◌≡◌, ◌∙◌, ◌-◌, ◌≡◌, ℕ, List, Option, length, ap, sym, refl, arith, subst}
use Rattle.std.proofs.lemmas.List.{with_items_is}
use Rattle.ht_tern.specs.declared.tern.Tern.{Tern}
use Rattle.ht_net.specs.Circuit.Netlist.{Netlist}
use Rattle.ht_tree.specs.Walk.Walks.{path_of}
use Rattle.ht_tree.specs.Window.Nodes.{cube_at, start_at, window_at}
use Rattle.ht_tree.specs.Window.Windows.{SearchWindow, Start, back, IsStart}
use Rattle.ht_tree.specs.Window.WindowStatus.{status_at, without_place}
use Rattle.ht_recompute.specs.WindowStarts.{window_start}
use Rattle.ht_recompute.specs.FrameSetsOf.{FrameState}
use Rattle.ht_recompute.specs.RecomputedWindowOf.{window_of}
use Rattle.ht_recompute.specs.WantedLatches.{status_by_matches, matches_in, wanted_in}
use Rattle.ht_recompute.proofs.CubeLaws.{cube_status_is}
use Rattle.ht_recompute.proofs.StatusLaws.{cube_next}
use Rattle.ht_recompute.proofs.BegunLaws.{frame_begun, frame_ran}
use Rattle.ht_recompute.proofs.recomputed_window.RecomputedWindow.cube_status.Goals as goal

pub returns-clause-status : goal.returns-clause-status
returns-clause-status c =
    let a = c.self.inside in
    let w : SearchWindow = window_of a in
    let n = c.args.node.now in
    let path = path_of n in
    let given = c.args.cube.now in
    let cube = cube_at w.circuit given n in
    let left = c.args.limit - length n.windows in
    let there : SearchWindow = record w { start = back cube left } in
    let start_is : window_start a.start ≡ back given c.args.limit =
    ap (λ (w : SearchWindow). w.start) c.self.view_is ∙ c.requires in
    let fits : IsStart w.circuit w.fault w.frames (back given c.args.limit) =
    subst (λ (s : Start). IsStart w.circuit w.fault w.frames s) start_is c.self.invariant.window.start in
    let at : there ≡ window_at c.args.self.now n =
    ap (λ (s : Start). record w { start = start_at w.circuit n s }) (sym start_is)
    ∙ ap (λ (w : SearchWindow). window_at w n) c.self.view_is in
    let D : List (Option Tern) = c.enter_node.new.decisions in
    let begun = frame_begun a _ D c.deref_mut.ensures.value c.enter_node.ensures.room _ _ c.self.invariant
    c.deref.ensures.value c.begin.ensures in
    let ran = frame_ran a _ D c.deref_mut.ensures.value c.enter_node.ensures.room _ c.begin.new.self c.run.new.self
    c.deref-2.ensures.value c.run.ensures in
    let next =
    cube_next there path D a.start cube given left c.args.limit refl start_is fits.0 c.enter_node.ensures.written
    begun.room c.begin.new.self c.run.new.self begun.circuit begun.fault begun.latches ran in
    let sets = c.latches.ensures.latches ∙ next in
    let entered : c.enter_node.new.cube ≡ cube =
    c.enter_node.ensures.cube ∙ ap (λ (n : Netlist). cube_at n given c.args.node.now) c.circuit.ensures.circuit in
    let cube_is : c.deref-3.result.now ≡ cube =
    c.deref-3.ensures.value ∙ (with_items_is a.cube c.enter_node.new.cube (omega arith) ∙ entered) in
    let long : length cube ≡ length w.circuit.dffs =
    let e = ap length entered in
    let auto = c.enter_node.auto.cube in
    let own = ap length c.deref_mut-2.ensures.value in
    let held = c.self.invariant.cube in
    omega (arith, e, auto, own, held) in
    let count : length c.latches.result.now ≡ length w.circuit.dffs =
    c.latches.ensures.count ∙ (ap (λ (t : FrameState). length t.circuit.dffs) ran
    ∙ ap (λ (n : Netlist). length n.dffs) begun.circuit) in
    let left_is : c.saturating_sub-left.result ≡ left =
    c.saturating_sub-left.ensures ∙ ap (λ (k : ℕ). c.args.limit - k) c.depth.ensures in
    c.cube_status.ensures
    ∙ ((λ i. status_by_matches (matches_in (wanted_in (cube_is i) c.latches.result.now)) (left_is i))
    ∙ (cube_status_is there path cube left c.latches.result.now long count sets
    ∙ ap (λ (w : SearchWindow). without_place (status_at w path)) at))
