use Rattle.std.proofs.Common.{◌≡◌, ◌-◌, ◌∙◌, ℕ, ap, sym, arith}
use Rattle.ht_window.specs.Matters.{is_relevant}
use Rattle.ht_window.specs.Seen.{shows}
use Rattle.ht_window.proofs.SeenLaws.{next_set, state_net, state_quiet}
use Rattle.ht_window.proofs.window.Window.state_shows.Goals as goal

pub returns-then-not-matters-clause-shows : goal.returns-then-not-matters-clause-shows
returns-then-not-matters-clause-shows c =
    let s = c.args.self.now in
    let net = state_net s.window c.circuit.result.now c.dff_data-net.result c.args.j c.circuit.ensures.circuit c.dff_data-net.ensures in
    state_quiet s.window (is_relevant s.relevant) c.relevance.ensures s.decisions c.args.look c.args.j
    c.requires.dff c.requires.counts
    (ap (λ (x : ℕ). is_relevant s.relevant 0 x) (sym net) ∙ (sym c.matters.ensures ∙ c.if-not-matters.true))

-- it matters in the first frame, which is the last
pub next_state-requires-clause-matters : goal.next_state-requires-clause-matters
next_state-requires-clause-matters c =
    let s = c.args.self.now in
    let net = state_net s.window c.circuit.result.now c.dff_data-net.result c.args.j c.circuit.ensures.circuit c.dff_data-net.ensures in
    let single = c.requires.single in
    let last : s.window.frames - 1 ≡ 0 = omega (arith, single) in
    (λ i. is_relevant s.relevant (last i) (sym net i)) ∙ (sym c.matters.ensures ∙ c.if-not-matters.false)

pub returns-clause-matters : goal.returns-clause-matters
returns-clause-matters c = λ h.
    let s = c.args.self.now in
    let net = state_net s.window c.circuit.result.now c.dff_data-net.result c.args.j c.circuit.ensures.circuit c.dff_data-net.ensures in
    ap (λ (x : ℕ). is_relevant s.relevant 0 x) (sym net)
    ∙ (sym c.matters.ensures ∙ c.if-not-matters.false)

pub returns-clause-shows : goal.returns-clause-shows
returns-clause-shows c =
    let s = c.args.self.now in
    let net = state_net s.window c.circuit.result.now c.dff_data-net.result c.args.j c.circuit.ensures.circuit c.dff_data-net.ensures in
    c.shows.ensures ∙ ap (shows c.args.look)
    (c.next_state.ensures ∙ next_set s.window s.decisions c.args.j c.requires.single c.requires.dff)
