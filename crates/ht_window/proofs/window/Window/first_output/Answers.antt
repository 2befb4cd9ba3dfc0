use Rattle.std.proofs.Common.{◌≡◌, ◌-◌, ◌∙◌, ℕ, true, false, map, length, ap, sym, arith}
use Rattle.std.specs.List.{find, range_with_len}
use Rattle.ht_net.specs.Circuit.Netlist.{Netlist}
use Rattle.ht_tree.specs.declared.window.Spot.TheVariants.{Output}
use Rattle.ht_window.specs.Seen.{shows_at}
use Rattle.ht_window.proofs.SeenLaws.{output_step}
use Rattle.ht_window.proofs.window.Window.first_output.Goals as goal

pub loop-o-init : goal.loop-o-init
loop-o-init c =
    let s = c.args.self.now in
    let all : length s.window.circuit.outputs ≡ length s.window.circuit.outputs - 0 = omega arith in
    ap (λ (n : ℕ). find (shows_at s.window s.decisions c.args.look)
    (map (λ o. record { frame = c.args.frame; spot = Output o }) (range_with_len 0 n))) all

pub returns-then-output_shows-clause-first : goal.returns-then-output_shows-clause-first
returns-then-output_shows-clause-first c =
    let t = c.loop-o-test.true in
    let end = c.outputs-o-end.ensures ∙ ap (λ (n : Netlist). length n.outputs) c.circuit.ensures.circuit in
    sym (output_step c.args.self.now.window c.args.self.now.decisions c.args.look c.args.frame c.loop-o.o
    c.outputs-o-end.result true end (omega (arith, t))
    (sym c.if-output_shows.true ∙ c.output_shows.ensures.shows) _ c.loop-o.invariant)

pub loop-o-preserved : goal.loop-o-preserved
loop-o-preserved c =
    let t = c.loop-o-test.true in
    let end = c.outputs-o-end.ensures ∙ ap (λ (n : Netlist). length n.outputs) c.circuit.ensures.circuit in
    output_step c.args.self.now.window c.args.self.now.decisions c.args.look c.args.frame c.loop-o.o
    c.outputs-o-end.result false end (omega (arith, t))
    (sym c.if-output_shows.false ∙ c.output_shows.ensures.shows) _ c.loop-o.invariant
