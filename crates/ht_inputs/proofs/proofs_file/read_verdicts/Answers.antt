use Rattle.std.proofs.Common.{◌≡◌, ℕ, List, [], ◌∙◌, ap, Option, sym, subst}
use Rattle.std.specs.Prelude.{IfOk, None, Some, if◌then◌else◌}
use Rattle.std.proofs.lemmas.Result.{IfErr-weaker}
use Rattle.ht_inputs.proofs.Common.{AreFirstDetections, Content, ReadStops, Tern, before_proofs}
use Rattle.ht_ports.specs.declared.ports.InPort.TheVariants.{Proofs}
use Rattle.ht_asked.specs.Table.{Kind, report}
use Rattle.ht_inputs.specs.Jobs.{judges}
use Rattle.ht_inputs.specs.Refusals.{IsTroubleFor}
use Rattle.ht_net.specs.declared.place.Place.{Place}
use Rattle.ht_valid.specs.FirstTrouble.{IsFirstFault, IsFirstProofLine}
use Rattle.ht_inputs.specs.Grading.{HasDetections}
use Rattle.ht_inputs.specs.Judging.{VerdictsAreRead, report_basis}
use Rattle.ht_judge.specs.ProofJudging.{FollowsProofs}
use Rattle.ht_inputs.proofs.JudgedLaws.{same_circuit}
use Rattle.ht_inputs.proofs.ProofsFileLaws.{job_stops}
use Rattle.ht_inputs.proofs.proofs_file.read_verdicts.Given as given
use Rattle.ht_inputs.proofs.proofs_file.read_verdicts.Goals as goal
use Rattle.ht_inputs.proofs.proofs_file.read_verdicts.Goals.{In_ok-judge}

-- the judge stands for the beginning of proofs, by what the vectors show
begins : (g : given.Over) (c : In_ok-judge g) (content : Content) → content.start ≡ c.args.graded.now.start.items
    → content.budget ≡ c.args.budget → HasDetections c.args.graded.now content.start content.list
    → FollowsProofs c.in_ok-judge.judge (before_proofs content) []
begins g c content start budget first =
    let graded = c.args.graded.now in
    let same : content.start ≡ c.deref.result.now = start ∙ sym c.deref.ensures.value in
    c.in_ok-judge.ensures.stands (before_proofs content) same budget
    (subst (λ (l : List (Option Place)). AreFirstDetections graded.circuit graded.listed.classes c.deref.result.now
    content.list l) (sym c.deref-2.ensures.value)
    (subst (λ (s : List Tern). AreFirstDetections graded.circuit graded.listed.classes s content.list
    graded.places.items) same first))

at_proofs : {kind : Kind} → kind ≡ report → (if judges kind then Some Proofs else None) ≡ Some Proofs
at_proofs is = ap (λ (k : Kind). if judges k then Some Proofs else None) is

pub returns-clause-stops : goal.returns-clause-stops
returns-clause-stops g c = λ job content is_report same_budget start budget first.
    let at = (goal.at.returns-clause-stops g c).In_ok-judge in
    let graded = c.args.graded.now in
    let basis = report_basis graded.circuit graded.listed.classes content in
    let old = g.D.Desk.view c.args.desk.now in
    let new = g.D.Desk.view c.judge_proofs.new.desk in
    IfErr-weaker c.judge_proofs.result _ (ReadStops job basis Proofs c.args.name.now old new)
    (job_stops c.args.name.now basis old new job (λ line. at_proofs is_report) (λ number. at_proofs is_report)
    (λ text line first. subst (λ (k : Kind). IsFirstProofLine (IsTroubleFor k job.numbers.budget basis) text line)
    (sym is_report) (subst (λ (b : ℕ). IsFirstProofLine (IsTroubleFor report b basis) text line)
    (budget ∙ sym same_budget) first))
    (λ text number first. subst (λ (k : Kind). IsFirstFault (IsTroubleFor k job.numbers.budget basis) text number)
    (sym is_report) (subst (λ (b : ℕ). IsFirstFault (IsTroubleFor report b basis) text number)
    (budget ∙ sym same_budget) first)))
    (c.judge_proofs.ensures.stops basis (record {
      circuit = c.in_ok-judge.ensures.circuit;
      representatives = c.in_ok-judge.ensures.classes;
      judges = begins g at content start budget first;
    }))

pub returns-clause-read : goal.returns-clause-read
returns-clause-read g c = λ content start budget first.
    let at = (goal.at.returns-clause-read g c).In_ok-judge in
    same_circuit (λ circuit r. IfOk c.judge_proofs.result
    (VerdictsAreRead circuit r content c.args.name.now (g.D.Desk.view c.args.desk.now)))
    c.in_ok-judge.ensures.circuit c.in_ok-judge.ensures.classes
    (c.judge_proofs.ensures.followed content (begins g at content start budget first))
