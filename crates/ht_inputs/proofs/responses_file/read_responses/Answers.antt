use Rattle.std.proofs.Common.{◌≡◌, ◌∙◌, List, [], length, map, sym, ap, subst, rules, arith}
use Rattle.std.specs.Prelude.{All}
use Rattle.std.proofs.lemmas.Result.{IfErr-weaker, IfOk-weaker}
use Rattle.ht_inputs.proofs.Common.{Extra, JobBasis, ObservationView, ReadStops, StandsForResponses, Tern}
use Rattle.ht_inputs.proofs.Common.{row_text}
use Rattle.ht_inputs.proofs.RowsLaws.{basis_for, responses_are_read, responses_end, responses_stop, vectors_are, width_is}
use Rattle.ht_inputs.proofs.responses_file.read_responses.Given as given
use Rattle.ht_inputs.proofs.responses_file.read_responses.Goals as goal
use Rattle.ht_inputs.proofs.responses_file.read_responses.Goals.{After-new}

-- no line was read
begins : (g : given.Over) (c : After-new g) (basis : JobBasis) → c.args.width ≡ length basis.circuit.outputs
    → c.args.vectors ≡ length basis.content.list
    → (c.args.width ≡ length basis.circuit.outputs) × (c.args.vectors ≡ length basis.content.list)
    × StandsForResponses c.new.result basis []
begins g c basis width vectors = (
  width,
  vectors,
  record {
    width = ap (λ (v : ObservationView). v.width) c.new.ensures ∙ width;
    few = omega (arith, ap (λ (v : ObservationView). length v.rows) c.new.ensures);
    lines_are = ap (λ (v : ObservationView). map row_text v.rows) (sym c.new.ensures);
    widths = subst (λ (v : ObservationView).
        All (λ (row : List Tern). length row ≡ length basis.circuit.outputs) v.rows) (sym c.new.ensures)
        (λ k d lt. absurd (omega arith));
  },
)

-- nor was one of a basis for so many vectors
begins_any : (g : given.Over) (c : After-new g)
    → (c.args.width ≡ length (basis_for c.args.width c.args.vectors).circuit.outputs)
    × (c.args.vectors ≡ length (basis_for c.args.width c.args.vectors).content.list)
    × StandsForResponses c.new.result (basis_for c.args.width c.args.vectors) []
begins_any g c = begins g c (basis_for c.args.width c.args.vectors) (width_is c.args.width c.args.vectors)
    (vectors_are c.args.width c.args.vectors)

pub returns-in_err-read_lines-clause-stops : goal.returns-in_err-read_lines-clause-stops
returns-in_err-read_lines-clause-stops g c = λ job basis states_none width vectors.
    let at = (goal.at.returns-in_err-read_lines-clause-stops g c).After-new in
    let stops = responses_stop job states_none c.args.name.now basis (g.D.Desk.view c.args.desk.now)
    (g.D.Desk.view c.read_lines.new.desk) {e = c.in_err-read_lines.field-0.0} (omega (arith, width, c.requires))
    (c.in_err-read_lines.ensures.stops basis (begins g at basis (sym width) (sym vectors))) in
    search (rules, stops)

pub whole-requires : goal.whole-requires
whole-requires g c =
    let read = c.in_ok-read_lines.ensures.stands (basis_for c.args.width c.args.vectors)
    (begins_any g (goal.at.whole-requires g c).After-new) in
    omega (arith, read.stands.2.few, vectors_are c.args.width c.args.vectors)

pub returns-clause-width : goal.returns-clause-width
returns-clause-width g c =
    let read = c.in_ok-read_lines.ensures.stands (basis_for c.args.width c.args.vectors)
    (begins_any g (goal.at.returns-clause-width g c).After-new) in
    IfOk-weaker c.whole.result _ (λ (all : ObservationView). all.width ≡ c.args.width)
    (λ all same. ap (λ (v : ObservationView). v.width) same ∙ read.stands.2.width ∙ sym
    (width_is c.args.width c.args.vectors))
    c.whole.ensures.same

pub returns-clause-read : goal.returns-clause-read
returns-clause-read g c =
    let read = c.in_ok-read_lines.ensures.stands (basis_for c.args.width c.args.vectors)
    (begins_any g (goal.at.returns-clause-read g c).After-new) in
    responses_are_read c.args.width c.args.vectors c.whole.result read read.stands.2 c.whole.ensures.same
    c.whole.ensures.each

pub returns-clause-stops : goal.returns-clause-stops
returns-clause-stops g c = λ job basis states_none width vectors.
    let read = c.in_ok-read_lines.ensures.stands basis
    (begins g (goal.at.returns-clause-stops g c).After-new basis (sym width) (sym vectors)) in
    let Stops = ReadStops job basis Extra c.args.name.now
    (g.D.Desk.view c.args.desk.now) (g.D.Desk.view c.read_lines.new.desk) in
    IfErr-weaker c.whole.result _ Stops (λ e missing. subst Stops (sym missing.1)
    (responses_end job states_none c.args.name.now basis (g.D.Desk.view c.args.desk.now)
    (g.D.Desk.view c.read_lines.new.desk) read read.stands.2 (omega (arith, missing.0, vectors))))
    c.whole.ensures.missing
