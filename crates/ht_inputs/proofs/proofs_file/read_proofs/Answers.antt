use Rattle.std.proofs.Common.{◌≡◌, [], List, ◌∙◌, ap, subst, sym, rules}
use Rattle.ht_inputs.proofs.Common.{Content, Numbered, before_proofs, check_basis}
use Rattle.std.specs.Prelude.{None, Some, if◌then◌else◌}
use Rattle.ht_asked.specs.Table.{Kind, check}
use Rattle.ht_ports.specs.declared.ports.InPort.TheVariants.{Proofs}
use Rattle.ht_valid.specs.FirstTrouble.{IsFirstFault, IsFirstProofLine}
use Rattle.ht_inputs.specs.Jobs.{judges}
use Rattle.ht_inputs.specs.Refusals.{IsTroubleFor}
use Rattle.ht_inputs.specs.Judging.{AgreeWithTests, ProofsAreRead}
use Rattle.ht_judge.specs.ProofJudging.{JudgesProofs}
use Rattle.ht_inputs.proofs.JudgedLaws.{same_circuit}
use Rattle.ht_inputs.proofs.ProofsFileLaws.{job_stops}
use Rattle.ht_inputs.proofs.proofs_file.read_proofs.Given as given
use Rattle.ht_inputs.proofs.proofs_file.read_proofs.Goals as goal
use Rattle.ht_inputs.proofs.proofs_file.read_proofs.Goals.{After-new-judge}

-- the judge stands for the beginning of proofs of what the report claims
begins : (g : given.Over) (c : After-new-judge g) (content : Content) → content.start ≡ c.args.graded.now.start.items
    → content.budget ≡ c.args.claims.budget → content.saids ≡ c.args.claims.saids.items
    → JudgesProofs c.new-judge.result (before_proofs content) []
begins g c content start budget saids =
    let made = c.new-judge.ensures in
    made.stands (before_proofs content) (record {
      start = start ∙ sym c.deref.ensures.value ∙ sym made.start;
      budget = budget ∙ sym made.budget;
      saids = saids ∙ sym made.saids;
    })

at_proofs : {kind : Kind} → kind ≡ check → (if judges kind then Some Proofs else None) ≡ Some Proofs
at_proofs is = ap (λ (k : Kind). if judges k then Some Proofs else None) is

pub returns-in_err-judge_proofs-clause-stops : goal.returns-in_err-judge_proofs-clause-stops
returns-in_err-judge_proofs-clause-stops g c = λ job content is_check start budget saids.
    let at = (goal.at.returns-in_err-judge_proofs-clause-stops g c).After-new-judge in
    let basis = check_basis c.args.graded.now.circuit c.args.graded.now.listed.classes content in
    let stops = job_stops c.args.name.now basis (g.D.Desk.view c.args.desk.now) (g.D.Desk.view c.judge_proofs.new.desk)
    job (λ line. at_proofs is_check) (λ number. at_proofs is_check)
    (λ text line first. subst (λ (k : Kind). IsFirstProofLine (IsTroubleFor k job.numbers.budget basis) text line)
    (sym is_check) first)
    (λ text number first. subst (λ (k : Kind). IsFirstFault (IsTroubleFor k job.numbers.budget basis) text number)
    (sym is_check) first) c.in_err-judge_proofs.field-0.0
    (c.in_err-judge_proofs.ensures.stops basis (record {
      circuit = c.new-judge.ensures.circuit;
      representatives = c.new-judge.ensures.classes;
      judges = begins g at content start budget saids;
    })) in
    search (rules, stops)

pub returns-clause-read : goal.returns-clause-read
returns-clause-read g c = λ content start budget saids agrees.
    let at = (goal.at.returns-clause-read g c).After-new-judge in
    let made = c.new-judge.ensures in
    same_circuit (λ circuit r. (entries : List Numbered) × ProofsAreRead circuit r
    (record content { entries = entries })
    c.args.name.now (g.D.Desk.view c.args.desk.now)) made.circuit made.classes
    (c.in_ok-judge_proofs.ensures.claimed content (begins g at content start budget saids)
    (same_circuit (λ c r. AgreeWithTests c r content) (sym made.circuit) (sym made.classes) agrees))
