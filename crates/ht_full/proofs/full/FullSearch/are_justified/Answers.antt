use Rattle.std.proofs.Common.{◌∙◌, ap, subst}
use Rattle.ht_valid.specs.ValidFiles.{Content, IsJustified}
use Rattle.ht_verdicts.specs.Standing.{VerdictsView}
use Rattle.ht_verdicts.specs.Contents.{IsContentOf}
use Rattle.ht_full.specs.Searches.{FullView}
use Rattle.ht_full.proofs.full.FullSearch.are_justified.Goals as goal

-- by the law of the verdicts
pub returns : goal.returns
returns c =
    subst
    (λ (v : VerdictsView). (content : Content) → IsContentOf v content
    → IsJustified v.circuit v.representatives content)
    (c.verdicts.ensures ∙ ap (λ (s : FullView). s.known.verdicts) c.self.view_is) c.are_justified.ensures
