use Rattle.std.proofs.Common.{◌≡◌, ◌++◌, ◌∙◌, true, List, ℕ, get_or, refl, sym, ap}
use Rattle.std.specs.Prelude.{codes}
use Rattle.std.proofs.lemmas.Bool.{eq-eqb}
use Rattle.ht_faults.specs.Classes.{is_representative}
use Rattle.ht_texts.specs.Pieces.{add_pieces}
use Rattle.ht_texts.specs.Reports.{line_front}
use Rattle.ht_texts.proofs.PieceLaws.{added_both, line_added}
use Rattle.ht_causes.specs.CauseTexts.{cause_pieces}
use Rattle.ht_causes.proofs.causes_text.push_cause_line.Goals as goal

pub push_cause-requires : goal.push_cause-requires
push_cause-requires c =
    c.requires.within
    (eq-eqb (get_or c.args.classes.now c.args.i 0) c.args.i (sym c.of.ensures ∙ c.if-of-i.false))

pub returns : goal.returns
returns c =
    let text = c.args.text.now.items in
    let front = line_front c.args.circuit.now c.args.i in
    let outcome = cause_pieces c.args.circuit.now c.args.cause in
    let is : is_representative c.args.classes.now c.args.i ≡ true =
    eq-eqb (get_or c.args.classes.now c.args.i 0) c.args.i (sym c.of.ensures ∙ c.if-of-i.false) in
    c.in_ok-extend_from_slice.ensures.items
    ∙ ap (λ (t : List ℕ). t ++ codes "\n") (c.in_ok-push_cause.ensures
    ∙ ap (λ (t : List ℕ). add_pieces t outcome) c.in_ok-push_line_front.ensures ∙ added_both text front outcome)
    ∙ line_added text (front ++ outcome)
    ∙ rw is refl
