use Rattle.std.proofs.Common.{◌≡◌, ◌<◌, ◌∙◌, ℕ, length, ap, sym, arith}
use Rattle.std.specs.List.{filter, range_with_len}
use Rattle.ht_tree.specs.Window.WindowStatus.{is_definite, value_at}
use Rattle.ht_window.specs.Seen.{cube_seen_of}
use Rattle.ht_window.proofs.SeenLaws.{next_set}
use Rattle.ht_window.proofs.CubeLaws.{latch_kept, latch_passed}
use Rattle.ht_window.proofs.window.Window.see_cube.Goals.{then-is_definite, else-is_definite}
use Rattle.ht_window.proofs.window.Window.see_cube.Goals as goal

pub loop-j-preserved : goal.loop-j-preserved
loop-j-preserved c =
    let s = c.args.self.now in
    let j = c.loop-j.j in
    let end = c.dffs-j-end.ensures in
    let t = c.loop-j-test.true in
    let inside : j < length s.window.circuit.dffs = omega (arith, end, t) in
    elim c.if-is_definite.branch [
      | then-is_definite w ↦ w.seen-is ∙ (w.with-seen.ensures
          ∙ latch_kept s.window s.decisions c.args.cube.now j c.value_at-value.result w.next_state.result c.loop-j.seen
          c.loop-j.invariant c.value_at-value.ensures (sym c.is_definite.ensures ∙ w.if-is_definite.true)
          (w.next_state.ensures ∙ next_set s.window s.decisions j c.requires.single inside))
      | else-is_definite w ↦ w.seen-is
          ∙ latch_passed s.window s.decisions c.args.cube.now j c.value_at-value.result c.loop-j.seen c.loop-j.invariant
          c.value_at-value.ensures (sym c.is_definite.ensures ∙ w.if-is_definite.false)
    ]

pub returns : goal.returns
returns c =
    let s = c.args.self.now in
    let end = c.dffs-j-end.ensures in
    let t = c.loop-j-test.false in
    let a = c.loop-j.auto.j-end in
    let all : c.loop-j.j ≡ length s.window.circuit.dffs = omega (arith, end, t, a) in
    c.loop-j.invariant ∙ ap
    (λ (k : ℕ). cube_seen_of s.window s.decisions c.args.cube.now
    (filter (λ j. is_definite (value_at c.args.cube.now j)) (range_with_len 0 k))) all
