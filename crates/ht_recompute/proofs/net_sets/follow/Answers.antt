use Rattle.std.proofs.Common.{◌≡◌, ◌-◌, ◌∙◌, ℕ, ap, arith}
use Rattle.ht_tree.specs.Window.Windows.{pair_set_rules}
use Rattle.ht_recompute.specs.GateSets.{sets_of}
use Rattle.ht_recompute.proofs.NetSetLaws.{settled_have}
use Rattle.ht_recompute.proofs.net_sets.follow.Goals as goal

pub returns-clause-sets : goal.returns-clause-sets
returns-clause-sets c =
    let n = c.args.under.now.circuit.now in
    let r = pair_set_rules c.args.under.now.fault in
    let vector = c.args.vector.now in
    let latches = c.args.latches.now in
    settled_have n c.requires.quiet.schedule.circuit c.args.under.now.fault vector latches c.settle_pending.new.values
    c.settle_pending.ensures.gates
    (λ x low.
    let at : x - 0 ≡ x = omega arith in
    c.settle_pending.ensures.sources x (omega (arith, low))
    ∙ (c.drive-2.ensures.below x (omega (arith, low))
    ∙ (c.drive.ensures.driven x (omega arith) (omega (arith, low))
    ∙ ap (λ (j : ℕ). r.stem x (sets_of vector j)) at)))
    (λ x from low.
    let at : x - c.inputs.result ≡ x - c.args.under.now.circuit.now.inputs = omega arith in
    c.settle_pending.ensures.sources x low
    ∙ (c.drive-2.ensures.driven x (omega (arith, from)) (omega (arith, low))
    ∙ ap (λ (j : ℕ). r.stem x (sets_of latches j)) at))
