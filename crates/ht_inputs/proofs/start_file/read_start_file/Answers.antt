use Rattle.std.proofs.Common.{◌≡◌, ◌∙◌, [], ℕ, List, Vec, length, refl, sym, ap, subst, rules, arith}
use Rattle.std.specs.Prelude.{MatchOption}
use Rattle.std.specs.declared.alloc.Global.{Global}
use Rattle.std.proofs.lemmas.Result.{IfErr-weaker, IfOk-weaker}
use Rattle.ht_inputs.proofs.Common.{Extra, JobBasis, ReadStops, Tern, WasRead}
use Rattle.ht_net.specs.Detect.Detection.{IsStart}
use Rattle.ht_texts.specs.StartTexts.{IsStartLine, IsStartText}
use Rattle.ht_inputs.specs.Judging.{StandsForStart}
use Rattle.ht_inputs.proofs.JudgedLaws.{whole_file}
use Rattle.ht_inputs.proofs.ReadingLaws.{basis_of}
use Rattle.ht_inputs.proofs.StartFileLaws.{line_of, none_of, start_ends, start_read, start_stops}
use Rattle.ht_inputs.proofs.start_file.read_start_file.Given as given
use Rattle.ht_inputs.proofs.start_file.read_start_file.Goals as goal
use Rattle.ht_inputs.proofs.start_file.read_start_file.Goals.{In_ok-read_start}

-- no line was read
begins : (g : given.Over) (c : In_ok-read_start g) (basis : JobBasis) → basis.circuit ≡ c.args.circuit.now
    → (c.dffs-width.result ≡ length basis.circuit.dffs) × StandsForStart c.in_ok-read_start.field-0 basis []
begins g c basis same =
    let width : c.dffs-width.result ≡ length basis.circuit.dffs =
    c.dffs-width.ensures ∙ ap (λ n. length n.dffs) (sym same) in (
      width,
      record {
        line = subst (λ (w : ℕ). MatchOption c.in_ok-read_start.field-0
            ((values : List Tern) → ¬ IsStartLine w [] values) (λ values. IsStartLine w [] values.items)) width
            c.in_ok-read_start.ensures;
        only = omega arith;
      },
    )

pub returns-in_err-read_lines-clause-stops : goal.returns-in_err-read_lines-clause-stops
returns-in_err-read_lines-clause-stops g c = λ job basis may same.
    let start = begins g (goal.at.returns-in_err-read_lines-clause-stops g c).In_ok-read_start basis same in
    let stops = start_stops job may basis c.args.name.now (g.D.Desk.view c.args.desk.now)
    (g.D.Desk.view c.read_lines.new.desk) {e = c.in_err-read_lines.field-0.0}
    (omega (arith, ap (λ n. length n.dffs) same, c.requires.few_dffs))
    (c.in_err-read_lines.ensures.stops basis start) in
    search (rules, stops)

pub returns-clause-latches : goal.returns-clause-latches
returns-clause-latches g c =
    let basis : JobBasis = basis_of c.args.circuit.now [] [] in
    let read = c.in_ok-read_lines.ensures.stands basis
    (begins g (goal.at.returns-clause-latches g c).In_ok-read_start basis refl) in
    IfOk-weaker c.whole.result _ (λ (start : Vec Tern Global). IsStart c.args.circuit.now start.items)
    (λ values same. (line_of basis read.lines c.read_lines.new.judge.start values read.stands.1 same).count)
    c.whole.ensures.read

pub returns-clause-read : goal.returns-clause-read
returns-clause-read g c =
    let basis : JobBasis = basis_of c.args.circuit.now [] [] in
    let read = c.in_ok-read_lines.ensures.stands basis
    (begins g (goal.at.returns-clause-read g c).In_ok-read_start basis refl) in
    IfOk-weaker c.whole.result _ (λ (start : Vec Tern Global). WasRead Extra c.args.name.now
    (λ text. IsStartText (length c.args.circuit.now.dffs) text start.items) (g.D.Desk.view c.args.desk.now))
    (λ values same. start_read (length c.args.circuit.now.dffs) values.items read.lines c.args.name.now
    (g.D.Desk.view c.args.desk.now) (whole_file read)
    (line_of basis read.lines c.read_lines.new.judge.start values read.stands.1 same) read.stands.1.only)
    c.whole.ensures.read

pub returns-clause-stops : goal.returns-clause-stops
returns-clause-stops g c = λ job basis may same.
    let read = c.in_ok-read_lines.ensures.stands basis
    (begins g (goal.at.returns-clause-stops g c).In_ok-read_start basis same) in
    let Stops = ReadStops job basis Extra c.args.name.now (g.D.Desk.view c.args.desk.now)
    (g.D.Desk.view c.read_lines.new.desk) in
    IfErr-weaker c.whole.result _ Stops (λ e missing. subst Stops (sym missing.1)
    (start_ends job may basis c.args.name.now (g.D.Desk.view c.args.desk.now) (g.D.Desk.view c.read_lines.new.desk)
    read.lines
    (whole_file read) (none_of basis read.lines c.read_lines.new.judge.start read.stands.1 missing.0)))
    c.whole.ensures.none
