use Rattle.std.proofs.Common.{◌∙◌, ap, sym, refl, arith}
use Rattle.std.proofs.lemmas.List.{nil_from_length}
use Rattle.std.specs.Global.{Vec}
use Rattle.ht_search.specs.declared.progress.Untried.{Untried}
use Rattle.ht_search.specs.declared.progress.SearchProgress.{SearchProgress}
use Rattle.ht_search.proofs.GoesLaws.{goes_back, finishes}
use Rattle.ht_search.proofs.step.go_back.Goals as goal

pub returns-in-None-clause-finished : goal.returns-in-None-clause-finished
returns-in-None-clause-finished g c =
    let p = g.P.Problem in
    let w = c.in_ok-write.ensures in
    let now : SearchProgress =
    record { tokens = c.write.new.self.tokens; untried = c.pop.new.self; left = c.write.new.self.left } in
    let none = nil_from_length c.write.new.self.untried.items (omega (arith, c.in-None.ensures.cases.0)) in
    λ e. (
      refl,
      finishes (p.guide (p.subject c.args.problem.now)) c.args.start (p.route c.args.problem.now) c.args.progress.now
          c.requires.walked c.args.unit now (sym (ap (λ (v : Vec Untried). v.items) w.untried) ∙ none) c.requires.dead
          w.tokens w.left,
    )

pub returns-in_ok-decide-in-Some-clause-goes : goal.returns-in_ok-decide-in-Some-clause-goes
returns-in_ok-decide-in-Some-clause-goes g c =
    let p = g.P.Problem in
    let w = c.in_ok-write.ensures in
    let u = c.undo.ensures in
    let d = c.in_ok-decide-in-Some.ensures in
    let now : SearchProgress =
    record { tokens = c.write.new.self.tokens; untried = c.pop.new.self; left = c.write.new.self.left } in
    let items = sym (ap (λ (v : Vec Untried). v.items) w.untried) ∙ c.in-Some.ensures.items in
    λ e. goes_back (p.guide (p.subject c.args.problem.now)) c.args.start (p.route c.args.problem.now)
    c.args.progress.now c.requires.walked c.pop.new.self.items c.in-Some.next items c.args.unit (p.route
    c.undo.new.self)
    (p.route c.decide.new.self) now c.requires.dead u.route d.ok w.tokens w.left refl
