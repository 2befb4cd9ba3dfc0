use Rattle.std.proofs.Common.{◌≡◌, ◌∙◌, None, length, sym, ap, subst, arith}
use Rattle.std.specs.Option.{ForSome}
use Rattle.std.proofs.lemmas.List.{get_or_read}
use Rattle.ht_net.specs.Detect.Detection.{IsPlace}
use Rattle.ht_faults.specs.Sites.{faults_of}
use Rattle.ht_proofs.specs.Detections.{place_at}
use Rattle.ht_proofs.specs.ClassGraderView.{ClassGraderView}
use Rattle.ht_proofs.proofs.ClassGraderLaws.{verdict_on}
use Rattle.ht_proofs.proofs.class_grader.ClassGrader.verdict.Goals as goal
use Rattle.ht_proofs.proofs.class_grader.ClassGrader.verdict.Goals.{After-index}

-- the entry of the fault is read
entry : (c : After-index) → c.index.result.now ≡ place_at c.args.self.now.places c.args.i
entry c =
    let a = c.self.inside in
    let faults = ap (λ (g : ClassGraderView). length (faults_of g.machines.circuit)) c.self.view_is in
    get_or_read a.places.items c.args.i c.index.result.now (omega (
      arith,
      c.requires.fault,
      faults,
      c.self.invariant.classes.every,
      c.self.invariant.each,
    )) c.index.ensures None
    ∙ ap (λ (g : ClassGraderView). place_at g.places c.args.i) c.self.view_is

pub returns-clause-verdict : goal.returns-clause-verdict
returns-clause-verdict c = λ start list stands.
    verdict_on c.args.self.now start list c.args.i c.index.result.now c.requires.fault c.requires.representative
    (entry (goal.at.returns-clause-verdict c).After-index) stands

pub returns-clause-place : goal.returns-clause-place
returns-clause-place c =
    subst (λ p. ForSome p (IsPlace c.args.self.now.machines.circuit))
    (sym (entry (goal.at.returns-clause-place c).After-index))
    (subst (λ (g : ClassGraderView). ForSome (place_at g.places c.args.i) (IsPlace g.machines.circuit))
    c.self.view_is (c.self.invariant.known c.args.i))
