use Rattle.std.proofs.Common.{subst}
use Rattle.ht_valid.specs.ValidFiles.{Content, IsJustified}
use Rattle.ht_verdicts.specs.Standing.{VerdictsView}
use Rattle.ht_verdicts.specs.StandingOf.{verdicts_view}
use Rattle.ht_verdicts.specs.Contents.{IsContentOf}
use Rattle.ht_verdicts.proofs.JustifiedLaws.{justified}
use Rattle.ht_verdicts.proofs.verdicts.Verdicts.are_justified.Goals as goal

-- Each entry that is kept decides its fault.
pub returns : goal.returns
returns c =
    let kept = c.self.invariant in
    subst
    (λ (v : VerdictsView). (content : Content) → IsContentOf v content
    → IsJustified v.circuit v.representatives content) c.self.view_is
    (λ content files. justified (verdicts_view c.self.inside) content kept.circuit kept.same kept.decide files)
