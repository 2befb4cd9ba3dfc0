use Rattle.std.proofs.Common.{◌≡◌, ◌∙◌, ℕ, List, [], Bool, length, map, sym, ap, subst, rules, arith}
use Rattle.std.specs.Prelude.{All}
use Rattle.std.proofs.lemmas.List.{length-map}
use Rattle.ht_inputs.proofs.Common.{JobBasis, Rows, StandsForFile, StandsForTests, vector_text}
use Rattle.ht_ports.specs.declared.ports.InPort.TheVariants.{Tests}
use Rattle.ht_inputs.proofs.ReadingLaws.{basis_of}
use Rattle.ht_inputs.proofs.RowsLaws.{IsNoVectorLine, tests_are_read, tests_stop_at}
use Rattle.ht_inputs.proofs.vectors_file.read_tests.Given as given
use Rattle.ht_inputs.proofs.vectors_file.read_tests.Goals as goal
use Rattle.ht_inputs.proofs.vectors_file.read_tests.Goals.{After-new, In_ok-read_lines}

-- no line was read
start : (g : given.Over) (c : After-new g) → StandsForTests c.new.result (basis_of c.args.circuit.now [] []) []
start g c = record {
  width = search rules;
  lines_are = ap (λ (v : Rows). map vector_text v.list) (sym c.new.ensures);
  widths = subst (λ (v : Rows). All (λ (vector : List Bool). length vector ≡ c.args.circuit.now.inputs) v.list)
      (sym c.new.ensures) (λ k d lt. absurd (omega arith));
}

pub returns-in_err-read_lines-clause-stops : goal.returns-in_err-read_lines-clause-stops
returns-in_err-read_lines-clause-stops g c =
    let basis = basis_of c.args.circuit.now [] [] in
    let stops = tests_stop_at basis {e = c.in_err-read_lines.field-0.0} c.requires.few_inputs
    (c.in_err-read_lines.ensures.stops basis
    (start g (goal.at.returns-in_err-read_lines-clause-stops g c).After-new)) in
    search (rules, stops)

-- the reader stands for the lines that were read
taken : (g : given.Over) (c : In_ok-read_lines g) → StandsForFile
    (StandsForTests c.read_lines.new.judge.list (basis_of c.args.circuit.now [] []))
    (IsNoVectorLine (basis_of c.args.circuit.now [] [])) c.args.most Tests c.args.name.now
    (g.D.Desk.view c.args.desk.now)
taken g c = c.in_ok-read_lines.ensures.stands (basis_of c.args.circuit.now [] [])
    (start g (goal.at.In_ok-read_lines g c).After-new)

-- there is one vector for each line
one_each : (v : Rows) (basis : JobBasis) (lines : List (List ℕ)) → StandsForTests v basis lines
    → length v.list ≡ length lines
one_each v basis lines stands = sym (length-map v.list vector_text) ∙ sym (ap length stands.lines_are)

pub returns-clause-upto : goal.returns-clause-upto
returns-clause-upto g c =
    let read = taken g (goal.at.returns-clause-upto g c).In_ok-read_lines in
    omega (arith, read.upto, one_each _ _ _ read.stands)

pub returns-clause-width : goal.returns-clause-width
returns-clause-width g c = (taken g (goal.at.returns-clause-width g c).In_ok-read_lines).stands.width

pub returns-clause-widths : goal.returns-clause-widths
returns-clause-widths g c = (taken g (goal.at.returns-clause-widths g c).In_ok-read_lines).stands.widths

pub returns-clause-few : goal.returns-clause-few
returns-clause-few g c =
    let read = taken g (goal.at.returns-clause-few g c).In_ok-read_lines in
    omega (arith, read.fits, one_each _ _ _ read.stands)

pub returns-clause-read : goal.returns-clause-read
returns-clause-read g c = tests_are_read (basis_of c.args.circuit.now [] []) c.read_lines.new.judge.list
    (taken g (goal.at.returns-clause-read g c).In_ok-read_lines)
