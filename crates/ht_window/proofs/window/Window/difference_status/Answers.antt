use Rattle.std.proofs.Common.{◌∙◌, Option, ap, sym}
use Rattle.std.specs.Prelude.{is_some}
use Rattle.ht_tree.specs.declared.window.WindowPlace.{WindowPlace}
use Rattle.ht_tree.specs.Window.Places.{may_differ_at, places_of}
use Rattle.ht_tree.specs.Window.WindowStatus.{sure_or}
use Rattle.ht_window.proofs.SeenLaws.{any_found}
use Rattle.ht_window.proofs.window.Window.difference_status.Goals as goal

pub returns-then-is_some : goal.returns-then-is_some
returns-then-is_some c =
    let s = c.args.self.now in
    let none = sym c.in-None.is ∙ c.first_place.ensures.first in
    let some = sym c.if-is_some.true ∙ (c.is_some.ensures ∙ (ap (λ (p : Option WindowPlace). is_some p)
    c.first_place-in-None.ensures.first ∙ any_found (may_differ_at s.window s.decisions) (places_of s.window))) in
    λ i. sure_or (none i) (some i)

pub returns-else-is_some : goal.returns-else-is_some
returns-else-is_some c =
    let s = c.args.self.now in
    let none = sym c.in-None.is ∙ c.first_place.ensures.first in
    let some = sym c.if-is_some.false ∙ (c.is_some.ensures ∙ (ap (λ (p : Option WindowPlace). is_some p)
    c.first_place-in-None.ensures.first ∙ any_found (may_differ_at s.window s.decisions) (places_of s.window))) in
    λ i. sure_or (none i) (some i)
