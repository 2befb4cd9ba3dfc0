use Rattle.std.proofs.Common.{◌≡◌, ◌-◌, ◌++◌, ◌∙◌, ℕ, ap, sym, arith}
use Rattle.std.specs.Prelude.{flat_map}
use Rattle.std.specs.List.{find, range_with_len}
use Rattle.ht_tree.specs.Window.Places.{output_places, state_places}
use Rattle.ht_window.specs.Seen.{shows_at}
use Rattle.ht_window.proofs.SeenLaws.{list_step}
use Rattle.ht_window.proofs.window.Window.first_place.Goals as goal

pub loop-frame-init : goal.loop-frame-init
loop-frame-init c =
    let s = c.args.self.now in
    let all : s.window.frames ≡ s.window.frames - 0 = omega arith in
    ap (λ (n : ℕ). find (shows_at s.window s.decisions c.args.look)
    (flat_map (output_places s.window.circuit) (range_with_len 0 n) ++ state_places s.window.circuit s.window.start)) all

pub returns-then-is_some-clause-first : goal.returns-then-is_some-clause-first
returns-then-is_some-clause-first c =
    let s = c.args.self.now in
    let end = c.frames-frame-end.ensures.frames in
    let t = c.loop-frame-test.true in
    sym ((list_step (shows_at s.window s.decisions c.args.look) (output_places s.window.circuit)
    (state_places s.window.circuit s.window.start) c.loop-frame.frame s.window.frames c.first_output-place.result
    (omega (arith, end, t)) c.first_output-place.ensures.first _ c.loop-frame.invariant).0
    (sym c.is_some.ensures ∙ c.if-is_some.true))

pub loop-frame-preserved : goal.loop-frame-preserved
loop-frame-preserved c =
    let s = c.args.self.now in
    let end = c.frames-frame-end.ensures.frames in
    let t = c.loop-frame-test.true in
    (list_step (shows_at s.window s.decisions c.args.look) (output_places s.window.circuit)
    (state_places s.window.circuit s.window.start) c.loop-frame.frame s.window.frames c.first_output-place.result
    (omega (arith, end, t)) c.first_output-place.ensures.first _ c.loop-frame.invariant).1
    (sym c.is_some.ensures ∙ c.if-is_some.false)
