use Rattle.std.specs.Prelude.{set}
use Rattle.std.proofs.Common.{◌∙◌, ℕ, true, ap, sym}
use Rattle.ht_group.proofs.TouchLaws.{forced_pending}
use Rattle.ht_group.proofs.machines.touch_forced_net.Goals as goal

pub returns-in-Some-clause-idle : goal.returns-in-Some-clause-idle
returns-in-Some-clause-idle c =
    forced_pending c.args.circuit.now c.args.schedule.now c.requires.schedule c.args.site c.in-Some.net
    (sym c.forced_net.ensures ∙ c.in-Some.is) c.args.pending.now c.insert.new.self c.requires.marks
    (c.insert.ensures ∙ ap (λ (n : ℕ). set c.args.pending.now n true) c.rank.ensures)
