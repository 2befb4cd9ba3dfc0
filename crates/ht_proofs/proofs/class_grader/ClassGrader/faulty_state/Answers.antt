use Rattle.std.proofs.Common.{◌≡◌, ◌<◌, ◌∙◌, length, get_or, sym, ap, subst}
use Rattle.std.proofs.lemmas.Result.{IfOk-weaker}
use Rattle.ht_faults.specs.Classes.{own_representatives}
use Rattle.ht_proofs.specs.PackedView.{state_at}
use Rattle.ht_proofs.specs.ClassGraderView.{AreOfClasses, ClassGraderView}
use Rattle.ht_proofs.proofs.ClassGraderLaws.{state_after}
use Rattle.ht_proofs.proofs.class_grader.ClassGrader.faulty_state.Goals as goal

pub returns-clause-state : goal.returns-clause-state
returns-clause-state c =
    let k = c.place_among-k.result in
    let i = c.args.i in
    let faults = subst (λ (g : ClassGraderView). AreOfClasses g.machines g.representatives) c.self.view_is
    c.self.invariant.faults in
    let within = subst (λ (g : ClassGraderView). k < length (own_representatives g.representatives)) c.self.view_is
    c.place_among-k.ensures.within in
    let own = subst (λ (g : ClassGraderView). get_or (own_representatives g.representatives) k 0 ≡ i) c.self.view_is
    c.place_among-k.ensures.own in
    let live = ap (λ (g : ClassGraderView). g.live) (sym c.self.view_is) ∙ c.if-not-self.false in
    IfOk-weaker c.faulty_latches.result _ _
    (λ state is start list stands. is ∙ (ap (λ (g : ClassGraderView). state_at g.machines k) c.self.view_is
    ∙ state_after c.args.self.now faults i k within own start list c.requires.fault c.requires.representative
    c.requires.undetected live stands))
    c.faulty_latches.ensures.state
