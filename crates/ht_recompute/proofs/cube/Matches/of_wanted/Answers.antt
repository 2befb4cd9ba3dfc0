use Rattle.std.proofs.Common.{◌&&◌, ◌∙◌, Bool, sym, ap}
use Rattle.ht_recompute.proofs.WantedLaws.{one_wanted}
use Rattle.ht_recompute.proofs.cube.Matches.of_wanted.Goals as goal

pub returns-then-may : goal.returns-then-may
returns-then-may c =
    let s = c.is_single-single in
    one_wanted c.args.value c.args.set c.has-may.result s.result s.result
    (ap (λ (b : Bool). b && s.result) (sym c.if-may.true)) c.has-may.ensures s.ensures.single s.ensures.nonempty

pub returns-else-may : goal.returns-else-may
returns-else-may c =
    let s = c.is_single-single in
    one_wanted c.args.value c.args.set c.has-may.result s.result c.has-may.result
    (c.if-may.false ∙ ap (λ (b : Bool). b && s.result) (sym c.if-may.false)) c.has-may.ensures s.ensures.single
    s.ensures.nonempty
