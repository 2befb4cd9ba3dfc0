use Rattle.std.proofs.Common.{◌≡◌, ◌∙◌, ◌∷◌, ◌++◌, [], List, Bool, ap, subst}
use Rattle.ht_net.specs.Frames.Rows.{Rows}
use Rattle.ht_proofs.specs.ClassGraderView.{ClassGraderStandsFor}
use Rattle.ht_engine.specs.EngineOf.{engine_of}
use Rattle.ht_engine.specs.EngineStands.{EngineView}
use Rattle.ht_engine.proofs.EngineLaws.{adds_graded}
use Rattle.ht_engine.proofs.engine.Engine.give_first.Goals as goal

pub returns-clause-kept : goal.returns-clause-kept
returns-clause-kept c =
    let one : c.push.new.self.list ≡ c.args.vector.items ∷ [] =
    ap (λ (r : Rows). r.list) c.in_ok-push.ensures.ok
    ∙ (ap (λ (r : Rows). r.list ++ c.deref.result.now ∷ []) c.new-one.ensures
    ∙ ap (λ (v : List Bool). v ∷ []) c.deref.ensures.value) in
    record {
      after = ap (λ (v : EngineView). record v { grader = c.apply.new.self }) c.self.view_is;
      graded = adds_graded (engine_of c.self.inside) c.args.self.now c.self.view_is c.apply.new.self
          c.in_ok-apply.ensures.same (c.args.vector.items ∷ [])
          (λ start before stands. subst (λ (more : List (List Bool)). ClassGraderStandsFor c.apply.new.self start
          (before ++ more)) one (c.in_ok-apply.ensures.added start before stands));
    }
