use Rattle.std.proofs.Common.{◌∙◌, ◌++◌, List, Option, ap, append-nil, sym}
use Rattle.std.specs.Option.{option_copied}
use Rattle.ht_tree.specs.declared.token.Token.{Token}
use Rattle.ht_uninit.specs.UninitTexts.{held_text}
use Rattle.ht_uninit.proofs.uninit_text.push_held_dff.Goals as goal

pub returns-in_ok-push_walk-in-Some : goal.returns-in_ok-push_walk-in-Some
returns-in_ok-push_walk-in-Some c =
    c.in_ok-push_walk-in-Some.ensures
    ∙ ap (λ (w : Option (List Token)). c.args.text.now.items ++ held_text c.args.j w)
    (sym (ap option_copied c.in-Some.is) ∙ c.held.ensures)

pub returns-in-None : goal.returns-in-None
returns-in-None c =
    sym (append-nil c.args.text.now.items)
    ∙ ap (λ (w : Option (List Token)). c.args.text.now.items ++ held_text c.args.j w)
    (sym (ap option_copied c.in-None.is) ∙ c.held.ensures)
