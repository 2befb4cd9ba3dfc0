use Rattle.std.proofs.Common.{ℕ, [], ◌∷◌, subst}
use Rattle.std.specs.Prelude.{codes}
use Rattle.ht_texts.specs.Fronts.{Strips}
use Rattle.ht_texts.specs.Pieces.{word, pieces_text}
use Rattle.ht_texts.specs.Sites.{site_pieces}
use Rattle.ht_texts.specs.Tests.{bit_code}
use Rattle.ht_texts.proofs.FrontLaws.{strips_pieces}
use Rattle.ht_texts.proofs.read_fault.strip_stuck_line.Goals as goal

pub returns : goal.returns
returns c =
    let fault = c.args.fault in
    let value = subst (λ (code : ℕ). Strips (pieces_text (word (codes " s-a-") ∷ word (code ∷ []) ∷ []))
    c.strip_site-rest.result c.strip_pieces.result) c.character_of.ensures c.strip_pieces.ensures in
    strips_pieces (site_pieces c.args.circuit.now fault.site)
    (word (codes " s-a-") ∷ word (bit_code fault.value ∷ []) ∷ []) c.strip_site-rest.ensures value
