use Rattle.std.proofs.Common.{◌≡◌, ◌-◌, ◌∙◌, ◌&&◌, ℕ, true, false, map, not, length, ap, sym, arith}
use Rattle.std.specs.List.{filter, find, range_with_len}
use Rattle.ht_tree.specs.declared.window.Spot.TheVariants.{State}
use Rattle.ht_tree.specs.Window.Decisions.{is_in}
use Rattle.ht_tree.specs.Window.Places.{set_at}
use Rattle.ht_window.specs.Starts.{marked}
use Rattle.ht_window.specs.Seen.{shows, shows_at}
use Rattle.ht_window.proofs.RestrictLaws.{outside_counts}
use Rattle.ht_window.proofs.SeenLaws.{state_step}
use Rattle.ht_window.proofs.window.Window.first_state.Goals.{else-not-is_set-via-then-not-is_set+else-state_shows, else-not-is_set-via-else-not-is_set}
use Rattle.ht_window.proofs.window.Window.first_state.Goals as goal

pub loop-j-init : goal.loop-j-init
loop-j-init c =
    let s = c.args.self.now in
    let all : length s.window.circuit.dffs ≡ length s.window.circuit.dffs - 0 = omega arith in
    ap (λ (n : ℕ). find (shows_at s.window s.decisions c.args.look)
    (map (λ j. record { frame = 0; spot = State j })
    (filter (λ j. not (is_in (marked 0 c.args.z.now) j)) (range_with_len 0 n)))) all

pub state_shows-requires-clause-counts : goal.state_shows-requires-clause-counts
state_shows-requires-clause-counts c =
    outside_counts c.args.self.now.window.start c.args.z.now c.requires.start c.loop-j.j
    (sym c.if-not-is_set.true ∙ c.is_set.ensures)

pub returns-then-state_shows-clause-first : goal.returns-then-state_shows-clause-first
returns-then-state_shows-clause-first c =
    let s = c.args.self.now in
    let end = c.dffs-j-end.ensures in
    let t = c.loop-j-test.true in
    let here = sym c.state_shows.ensures.shows ∙ c.if-state_shows.true in
    sym (state_step s.window s.decisions c.args.look c.args.z.now c.loop-j.j c.dffs-j-end.result c.is_set.result true end
    (omega (arith, t)) c.is_set.ensures
    ((λ i. not (c.if-not-is_set.true i) && shows c.args.look (set_at s.window s.decisions 0 (State c.loop-j.j))) ∙ here) _
    c.loop-j.invariant)

pub loop-j-preserved : goal.loop-j-preserved
loop-j-preserved c =
    let s = c.args.self.now in
    let end = c.dffs-j-end.ensures in
    let t = c.loop-j-test.true in
    let next : (not c.is_set.result && shows c.args.look (set_at s.window s.decisions 0 (State c.loop-j.j))) ≡ false =
    elim c.else-not-is_set.branch [
      | else-not-is_set-via-then-not-is_set+else-state_shows w ↦
          (λ i. not (w.if-not-is_set.true i) && shows c.args.look (set_at s.window s.decisions 0 (State c.loop-j.j)))
          ∙ (sym w.state_shows.ensures.shows ∙ w.if-state_shows.false)
      | else-not-is_set-via-else-not-is_set w ↦
          (λ i. not (w.if-not-is_set.false i) && shows c.args.look (set_at s.window s.decisions 0 (State c.loop-j.j)))
    ] in
    state_step s.window s.decisions c.args.look c.args.z.now c.loop-j.j c.dffs-j-end.result c.is_set.result false end
    (omega (arith, t)) c.is_set.ensures next _ c.loop-j.invariant
