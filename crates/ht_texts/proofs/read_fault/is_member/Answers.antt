use Rattle.std.proofs.Common.{◌+◌, ◌++◌, ℕ, Some, subst}
use Rattle.std.specs.Fmt.{decimal}
use Rattle.std.specs.Prelude.{codes}
use Rattle.ht_texts.specs.Fronts.{IsRestAfter, Strips}
use Rattle.ht_texts.proofs.FrontLaws.{rest_of_text, no_rest, the_rest, whole_or_not, is_whole}
use Rattle.ht_texts.proofs.read_fault.is_member.Goals as goal
use Rattle.ht_texts.proofs.read_fault.is_member.Goals.{After-strip_pieces}

rest_is : (c : After-strip_pieces)
    → IsRestAfter (codes "as " ++ decimal (c.args.representative + 1)) c.args.text.now c.strip_pieces.result
rest_is c = rest_of_text (subst
    (λ (n : ℕ). Strips (codes "as " ++ decimal (n + 1)) (Some c.args.text) c.strip_pieces.result) c.from.ensures
    c.strip_pieces.ensures)

pub returns-in_default : goal.returns-in_default
returns-in_default c =
    let word = codes "as " ++ decimal (c.args.representative + 1) in
    let text = c.args.text.now in
    whole_or_not word text (no_rest word text c.strip_pieces.result c.in_default.is
    (rest_is (goal.at.returns-in_default c).After-strip_pieces))

pub returns : goal.returns
returns c =
    let word = codes "as " ++ decimal (c.args.representative + 1) in
    let text = c.args.text.now in
    is_whole word text c.in-Some.rest.now c.is_empty.result
    (the_rest word text c.strip_pieces.result c.in-Some.rest c.in-Some.is
    (rest_is (goal.at.returns c).After-strip_pieces))
    c.is_empty.ensures
