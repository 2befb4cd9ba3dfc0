use Rattle.std.proofs.Common.{◌≡◌, ◌+◌, ◌∷◌, ◌∙◌, List, ap, sym, reverse, arith}
use Rattle.std.specs.Global.{Vec}
use Rattle.ht_tern.specs.declared.tern.Tern.TheVariants.{One, Unk}
use Rattle.ht_tree.specs.declared.token.Token.{Token}
use Rattle.ht_search.specs.declared.progress.Untried.{Untried}
use Rattle.ht_search.proofs.GoesLaws.{goes_two, goes_three}
use Rattle.ht_search.proofs.step.branch.Goals as goal

pub returns-in_ok-decide-in-Two-clause-goes : goal.returns-in_ok-decide-in-Two-clause-goes
returns-in_ok-decide-in-Two-clause-goes g c = λ start walked.
    let p = g.P.Problem in
    let w = c.in_ok-write-in-Two.ensures in
    let u = c.in_ok-put_off-in-Two.ensures in
    let v = c.in-Two.ensures in
    let same = ap (λ (t : Vec Token). t.items) u.tokens in
    let left : c.put_off.new.self.left + c.args.unit ≡ c.args.progress.now.left = omega (arith, u.left, w.left) in
    let other : Untried = record { point = c.mark-point.result; var = c.in-Two.var; value = c.from.result } in
    let waits = u.untried ∙ ap (λ (t : Vec Untried). other ∷ reverse t.items) w.untried in
    goes_two (p.guide (p.subject c.args.problem.now)) start (p.route c.args.problem.now) c.args.progress.now walked
    c.args.unit (p.route c.decide.new.self) c.put_off.new.self c.mark-point.result c.in-Two.var c.from.result
    c.from-in-Two.result
    c.in-Two.first (sym v.chosen) v.fits c.mark-point.ensures c.from.ensures c.from-in-Two.ensures
    c.in_ok-decide-in-Two.ensures.ok (same ∙ w.tokens) left waits

pub returns-in_ok-decide-in-Three-clause-goes : goal.returns-in_ok-decide-in-Three-clause-goes
returns-in_ok-decide-in-Three-clause-goes g c = λ start walked.
    let p = g.P.Problem in
    let w = c.in_ok-write-in-Three.ensures in
    let u = c.in_ok-put_off-in-Three.ensures in
    let o = c.in_ok-put_off-in-Three-2.ensures in
    let v = c.in-Three.ensures in
    let new = c.put_off-in-Three-2.new.self in
    let same = ap (λ (t : Vec Token). t.items) (o.tokens ∙ u.tokens) in
    let left : new.left + c.args.unit ≡ c.args.progress.now.left = omega (arith, o.left, u.left, w.left) in
    let unknown : Untried = record { point = c.mark-point.result; var = c.in-Three.var; value = Unk } in
    let one : Untried = record { point = c.mark-point.result; var = c.in-Three.var; value = One } in
    let waits = o.untried
    ∙ ap (λ (t : List Untried). one ∷ t) (u.untried ∙ ap (λ (t : Vec Untried). unknown ∷ reverse t.items) w.untried) in
    goes_three (p.guide (p.subject c.args.problem.now)) start (p.route c.args.problem.now) c.args.progress.now walked
    c.args.unit (p.route c.decide-in-Three.new.self) new c.mark-point.result c.in-Three.var (sym v.chosen) v.fits
    c.mark-point.ensures c.in_ok-decide-in-Three.ensures.ok (same ∙ w.tokens) left waits
