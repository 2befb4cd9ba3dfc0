use Rattle.std.proofs.lemmas.Grind.{common_steps}
use Rattle.std.proofs.Common.{◌≡◌, ◌<◌, ◌∙◌, List, Option, length, get_or, set, ap, sym, subst, arith}
use Rattle.ht_tree.specs.declared.token.Token.{Token}
use Rattle.ht_tree.specs.declared.clause.Clause.{Clause}
use Rattle.ht_invariant.specs.ClosingRounds.{IsClosingAnswer, closing_guide}
use Rattle.ht_invariant.proofs.ClosingRoundLaws.{clause_drops, clause_stays}
use Rattle.ht_invariant.proofs.closing.search_clause.Goals as goal
use Rattle.ht_invariant.proofs.closing.search_clause.Goals.{In_ok-closing}

-- the clause is one of the list
inside : (c : In_ok-closing) → c.args.i < length c.args.clauses.now.items
inside c =
    let long = ap length c.as_slice-all.ensures.value in
    let len = c.as_slice-all.ensures.len in
    let room = c.requires.inside in
    omega (arith, room, len, long)

is_own : (c : In_ok-closing) → c.index-all-i.result ≡ get_or c.args.clauses.now.items c.args.i c.index-all-i.result
is_own c =
    c.index-all-i.is ∙ ap (λ (xs : List Clause). get_or xs c.args.i c.index-all-i.result) c.as_slice-all.ensures.value

-- what its search answers under the list
answer : (c : In_ok-closing) → IsClosingAnswer
    (closing_guide c.args.window.window.circuit c.args.clauses.now.items c.index-all-i.result) c.args.budget
    c.in_ok-closing.closing.tokens
answer c = subst (λ (xs : List Clause). IsClosingAnswer
    (closing_guide c.args.window.window.circuit xs c.index-all-i.result) c.args.budget c.in_ok-closing.closing.tokens)
    c.as_slice-all.ensures.value c.in_ok-closing.ensures.answer

pub returns-in-Some-clause-way : goal.returns-in-Some-clause-way
returns-in-Some-clause-way c =
    let s = (goal.at.returns-in-Some-clause-way c).In_ok-closing in
    let n = c.args.window.window.circuit in
    let ks = c.args.clauses.now.items in
    let i = c.args.i in
    let k = c.index-all-i.result in
    let tokens = c.in-Some.tokens in
    let b = c.args.budget in
    let closed =
    subst (λ (o : Option (List Token)). IsClosingAnswer (closing_guide n ks k) b o) c.in-Some.is (answer s) in
    λ initial way. clause_stays n b initial ks i way (inside s) k (is_own s) tokens
    c.give_walk.new.clauses.items
    (c.give_walk.ensures k ∙ ap (λ (x : Clause). set ks i (record x { tokens = tokens })) (sym (is_own s))) closed

pub returns-in-None-clause-way : goal.returns-in-None-clause-way
returns-in-None-clause-way c =
    let s = (goal.at.returns-in-None-clause-way c).In_ok-closing in
    let n = c.args.window.window.circuit in
    let ks = c.args.clauses.now.items in
    let k = c.index-all-i.result in
    let b = c.args.budget in
    let open_end =
    subst (λ (o : Option (List Token)). IsClosingAnswer (closing_guide n ks k) b o) c.in-None.is (answer s) in
    λ initial way. clause_drops n b initial ks c.args.i way (inside s) k (is_own s)
    c.remove.new.self.items c.remove.ensures.items open_end

pub close-requires-clause-known : goal.close-requires-clause-known
close-requires-clause-known c = grind (arith, common_steps)
