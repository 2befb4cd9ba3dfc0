use Rattle.std.proofs.Common.{◌≡◌, ◌<◌, ◌∙◌, Some, length, ap, arith, subst, sym}
use Rattle.std.proofs.lemmas.List.{length-set}
use Rattle.ht_verdicts.specs.Standing.{Decides, VerdictsView}
use Rattle.ht_verdicts.specs.StandingOf.{verdicts_view}
use Rattle.ht_verdicts.proofs.DecideLaws.{one_more_decides}
use Rattle.ht_verdicts.proofs.verdicts.Verdicts.enter.Goals as goal

-- The entry is kept beside those that decide their faults.
pub invariant_of-self : goal.invariant_of-self
invariant_of-self c =
    let before = c.self.invariant in
    let fault = c.args.fault in
    let made = c.args.entry in
    let entries = c.self.inside.entries.items in
    let seen = ap (λ (v : VerdictsView). length v.representatives) c.self.view_is in
    let each = before.each in
    let inside = c.requires.inside in
    let room : fault < length entries = omega (arith, inside, seen, each) in
    let decides = subst (λ (v : VerdictsView). Decides v.circuit v.representatives v.start fault made)
    (sym c.self.view_is) c.requires.decides in
    record {
      classes = before.classes;
      circuit = before.circuit;
      same = before.same;
      each = length-set entries fault (Some made) ∙ before.each;
      latches = before.latches;
      decide = one_more_decides (verdicts_view c.self.inside) fault made room decides before.decide;
    }
