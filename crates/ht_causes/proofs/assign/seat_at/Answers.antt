use Rattle.std.proofs.Common.{◌∙◌, List, get_or, set, sym, ap, subst, arith}
use Rattle.std.proofs.lemmas.List.{get_or_default}
use Rattle.ht_proofs.specs.declared.stems.Firsts.{Firsts}
use Rattle.ht_proofs.specs.Followers.{first_in, no_firsts, with_first}
use Rattle.ht_causes.specs.declared.assign.Seat.TheVariants.{Next}
use Rattle.ht_causes.specs.Seats.{IsSeatAt, comes_first, comes_later}
use Rattle.ht_causes.proofs.assign.seat_at.Goals as goal

pub returns-in-Some : goal.returns-in-Some
returns-in-Some c =
    let table = c.args.firsts.now in
    let here = get_or_default table c.index.result _ no_firsts (omega (arith, c.requires, c.index.ensures))
    ∙ ap (λ n. get_or table n no_firsts) c.index.ensures in
    comes_later c.in-Some.lane
    (ap (λ (e : Firsts). first_in e c.args.value) (sym here) ∙ (sym c.at.ensures ∙ c.in-Some.is))

pub returns : goal.returns
returns c =
    let table = c.args.firsts.now in
    let x = c.args.net.0 in
    let here = get_or_default table c.index.result _ no_firsts (omega (arith, c.requires, c.index.ensures))
    ∙ ap (λ n. get_or table n no_firsts) c.index.ensures in
    let noted = ap (λ n. set table n c.with.result) c.index-2.ensures
    ∙ ap (λ (e : Firsts). set table x e)
    (c.with.ensures ∙ ap (λ (e : Firsts). with_first e c.args.value c.args.next) here) in
    subst (λ (t : List Firsts). IsSeatAt table x c.args.value c.args.next Next t) (sym noted) (comes_first c.requires)
