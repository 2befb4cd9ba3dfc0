use Rattle.std.proofs.Common.{◌≡◌, ◌∙◌, ◌^◌, ◌-◌, [], refl, subst, sym, rules}
use Rattle.std.specs.Prelude.{IfErr, IfOk, OnOk, Result}
use Rattle.std.proofs.lemmas.Result.{IfErr-weaker}
use Rattle.ht_inputs.proofs.Common.{Denied, JobBasis, JudgeError, LinesStop, RunError, StandsForFile, StandsForProofs}
use Rattle.ht_inputs.proofs.Common.{before_proofs, check_basis}
use Rattle.ht_ports.specs.declared.ports.InPort.TheVariants.{Proofs}
use Rattle.ht_entries.specs.declared.limits.TheConstants.{MAX_PROOF_LINE_BYTES}
use Rattle.ht_valid.specs.declared.trouble.Trouble.TheVariants as trouble
use Rattle.ht_judge.specs.declared.report_judge.Claims.{Claims}
use Rattle.ht_judge.specs.ProofJudging.{AreCompleteProofs, AreJustifyingProofs, ProofEndHasCause}
use Rattle.ht_inputs.specs.Judging.{IsWrongInProofs, ProofsStop, report_basis}
use Rattle.ht_inputs.proofs.JudgedLaws.{same_circuit, whole_file}
use Rattle.ht_inputs.proofs.ProofsFileLaws.{claimed_are_read, fewer_lines, followed_are_read, proofs_end, proofs_stop, reads_to}
use Rattle.ht_inputs.proofs.proofs_file.judge_proofs.Given as given
use Rattle.ht_inputs.proofs.proofs_file.judge_proofs.Goals as goal
use Rattle.ht_inputs.proofs.proofs_file.judge_proofs.Goals.{In_ok-read}

-- the judge stands for the lines that were read
taken : (g : given.Over) (c : In_ok-read g) (basis : JobBasis) → StandsForProofs c.args.judge basis []
    → StandsForFile (StandsForProofs c.read_lines-read.new.judge basis) (IsWrongInProofs basis) (2 ^ 64 - 1) Proofs
    c.args.name.now (g.D.Desk.view c.args.desk.now)
taken g c basis begins = subst (λ (r : Result (Unit {0}) RunError). OnOk r (StandsForFile
    (StandsForProofs c.read_lines-read.new.judge basis) (IsWrongInProofs basis) (2 ^ 64 - 1) Proofs c.args.name.now
    (g.D.Desk.view c.args.desk.now))) c.in_ok-read.was (c.read_lines-read.ensures.stands basis begins)

pub returns-in_err-read-clause-stops : goal.returns-in_err-read-clause-stops
returns-in_err-read-clause-stops g c = λ basis begins.
    let name = c.args.name.now in
    let a = g.D.Desk.view c.args.desk.now in
    let b = g.D.Desk.view c.read_lines-read.new.desk in
    let stops = subst (λ (r : Result (Unit {0}) RunError). IfErr r (ProofsStop basis name a b)) c.in_err-read.was
    (IfErr-weaker c.read_lines-read.result (LinesStop (IsWrongInProofs basis) (λ line. Denied (trouble.Proofs line))
    MAX_PROOF_LINE_BYTES (2 ^ 64 - 1) Proofs name a b) (ProofsStop basis name a b)
    (λ e stops. proofs_stop name basis a b {e = e} stops) (c.read_lines-read.ensures.stops basis begins)) in
    search (rules, stops)

pub returns-in_err-claims-clause-stops : goal.returns-in_err-claims-clause-stops
returns-in_err-claims-clause-stops g c = λ basis begins.
    let read = taken g (goal.at.returns-in_err-claims-clause-stops g c).In_ok-read basis begins in
    let (at, stands) = reads_to basis.follows _ (before_proofs basis.content) read.lines read.stands.judges in
    let cause = subst (λ (r : Result Claims JudgeError). IfErr r (ProofEndHasCause read.lines)) c.in_err-claims.was
    (c.end-claims.ensures.err read.lines at stands (fewer_lines read.lines at stands.read read.few)) in
    let stops = proofs_end c.args.name.now basis (g.D.Desk.view c.args.desk.now)
    (g.D.Desk.view c.read_lines-read.new.desk) read c.in_err-claims.field-0.0 cause in
    search (rules, stops)

pub returns-clause-claimed : goal.returns-clause-claimed
returns-clause-claimed g c = λ content begins agrees.
    let v = c.args.judge in
    let read = taken g (goal.at.returns-clause-claimed g c).In_ok-read (check_basis v.circuit v.representatives content)
    (record { circuit = refl; representatives = refl; judges = begins }) in
    let are = subst (λ (r : Result Claims JudgeError). IfOk r (λ claims. AreCompleteProofs
    c.read_lines-read.new.judge.circuit c.read_lines-read.new.judge.representatives (before_proofs content) read.lines))
    c.in_ok-claims.was (c.end-claims.ensures.ok (before_proofs content) read.lines read.stands.judges) in
    claimed_are_read v.circuit v.representatives content read.lines c.args.name.now (g.D.Desk.view c.args.desk.now)
    agrees (same_circuit (λ c r. AreCompleteProofs c r (before_proofs content) read.lines) read.stands.circuit
    read.stands.representatives are) (whole_file read)

pub returns-clause-followed : goal.returns-clause-followed
returns-clause-followed g c = λ content begins.
    let v = c.args.judge in
    let now = c.read_lines-read.new.judge in
    let claims = c.in_ok-claims.field-0 in
    let read = taken g (goal.at.returns-clause-followed g c).In_ok-read
    (report_basis v.circuit v.representatives content)
    (record { circuit = refl; representatives = refl; judges = begins }) in
    let budget = subst (λ (r : Result Claims JudgeError). IfOk r (λ claims. claims.budget ≡ now.budget))
    c.in_ok-claims.was c.end-claims.ensures.budget in
    let are = subst (λ (r : Result Claims JudgeError). IfOk r (λ claims. AreJustifyingProofs now.circuit
    now.representatives (record (before_proofs content) { saids = claims.saids.items }) read.lines)) c.in_ok-claims.was
    (c.end-claims.ensures.followed (before_proofs content) read.lines read.stands.judges) in
    followed_are_read v.circuit v.representatives content claims read.lines c.args.name.now
    (g.D.Desk.view c.args.desk.now) (budget ∙ sym read.stands.judges.budget)
    (same_circuit (λ c r. AreJustifyingProofs c r (record (before_proofs content) { saids = claims.saids.items })
    read.lines) read.stands.circuit read.stands.representatives are) (whole_file read)
