use Rattle.std.proofs.Common.{◌∙◌, List, true, false, set, sym, ap, subst}
use Rattle.ht_proofs.specs.declared.stems.Firsts.{Firsts}
use Rattle.ht_proofs.specs.declared.stems.Follower.{Follower}
use Rattle.ht_proofs.specs.Followers.{Joins, first_in, comes_later, comes_first, with_first}
use Rattle.ht_proofs.proofs.FollowerLaws.{entry_read, none_left}
use Rattle.ht_proofs.proofs.stems.Stems.is_first.Goals as goal

pub returns-in-Some-clause-joins : goal.returns-in-Some-clause-joins
returns-in-Some-clause-joins c =
    let table = c.args.self.now.firsts.items in
    let followers = c.args.self.now.followers.items in
    let x = c.args.net.0 in
    let v = c.args.value in
    let here = entry_read table c.index.result x c.index-2.result.now c.requires c.index.ensures c.index-2.ensures in
    subst (λ (l : List Follower). Joins x v c.args.i table followers false table l) (sym c.in_ok-push.ensures.items)
    (comes_later c.in-Some.first
    (ap (λ (e : Firsts). first_in e v) (sym here) ∙ (sym c.at.ensures ∙ c.in-Some.is)))

pub returns-clause-joins : goal.returns-clause-joins
returns-clause-joins c =
    let table = c.args.self.now.firsts.items in
    let followers = c.args.self.now.followers.items in
    let x = c.args.net.0 in
    let v = c.args.value in
    let here = entry_read table c.index.result x c.index-2.result.now c.requires c.index.ensures c.index-2.ensures in
    let noted = ap (λ n. set table n c.with.result) c.index-3.ensures
    ∙ ap (λ (e : Firsts). set table x e) (c.with.ensures ∙ ap (λ (e : Firsts). with_first e v c.args.i) here) in
    subst (λ (t : List Firsts). Joins x v c.args.i table followers true t followers) (sym noted)
    (comes_first c.requires
    (ap (λ (e : Firsts). first_in e v) (sym here)
    ∙ (sym c.at.ensures ∙ none_left c.at.result c.in_default.not-Some)))
