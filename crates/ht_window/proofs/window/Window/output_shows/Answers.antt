use Rattle.std.proofs.Common.{◌∙◌, ℕ, ap, sym}
use Rattle.ht_tree.specs.Window.Windows.{cell_at}
use Rattle.ht_window.specs.Matters.{is_relevant}
use Rattle.ht_window.specs.Seen.{shows}
use Rattle.ht_window.proofs.SeenLaws.{output_net, output_quiet}
use Rattle.ht_window.proofs.window.Window.output_shows.Goals as goal

pub returns-then-not-matters-clause-shows : goal.returns-then-not-matters-clause-shows
returns-then-not-matters-clause-shows c =
    let s = c.args.self.now in
    let net = output_net s.window c.circuit.result.now c.output-net.result c.args.o c.circuit.ensures.circuit c.output-net.ensures in
    output_quiet s.window (is_relevant s.relevant) c.relevance.ensures s.decisions c.args.look c.args.frame
    c.args.o c.requires.frame c.requires.output
    (ap (λ (x : ℕ). is_relevant s.relevant c.args.frame x) (sym net)
    ∙ (sym c.matters.ensures ∙ c.if-not-matters.true))

pub returns-clause-matters : goal.returns-clause-matters
returns-clause-matters c = λ h.
    let s = c.args.self.now in
    let net = output_net s.window c.circuit.result.now c.output-net.result c.args.o c.circuit.ensures.circuit c.output-net.ensures in
    ap (λ (x : ℕ). is_relevant s.relevant c.args.frame x) (sym net)
    ∙ (sym c.matters.ensures ∙ c.if-not-matters.false)

pub returns-clause-shows : goal.returns-clause-shows
returns-clause-shows c =
    let s = c.args.self.now in
    let net = output_net s.window c.circuit.result.now c.output-net.result c.args.o c.circuit.ensures.circuit c.output-net.ensures in
    c.shows.ensures ∙ ap (shows c.args.look)
    (c.cell.ensures ∙ ap (cell_at s.window s.decisions c.args.frame) net)
