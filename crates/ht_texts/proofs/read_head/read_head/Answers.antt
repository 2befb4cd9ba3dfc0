use Rattle.std.proofs.Common.{◌++◌, ℕ, List, Some, refl, subst}
use Rattle.std.specs.Prelude.{codes}
use Rattle.std.specs.Fmt.{decimal}
use Rattle.ht_net.specs.Circuit.Netlist.{Netlist}
use Rattle.ht_texts.specs.Fronts.{IsRestAfter, Strips}
use Rattle.ht_texts.specs.Pieces.{Piece, pieces_text}
use Rattle.ht_texts.specs.Reports.{circuit_sizes, fault_sizes, head_line}
use Rattle.ht_texts.specs.SearchReports.{IsBudget}
use Rattle.ht_texts.proofs.FrontLaws.{strips_both, rest_of_text, no_rest, the_rest, found_after, none_after}
use Rattle.ht_texts.proofs.read_head.read_head.Goals as goal
use Rattle.ht_texts.proofs.read_head.read_head.Goals.{After-strip_word}

-- what comes before the budget
abbrev front : Netlist → List ℕ → List ℕ
front circuit classes = pieces_text (circuit_sizes circuit ++ fault_sizes circuit classes) ++ codes " budget "

rest_is : (c : After-strip_word)
    → IsRestAfter (front c.args.circuit.now c.args.classes.now) c.args.line.now c.strip_word.result
rest_is c = rest_of_text (strips_both {w = codes " budget "}
    (subst (λ (p : List Piece). Strips (pieces_text p) (Some c.args.line) c.strip_pieces-rest.result)
    c.sizes_of.ensures c.strip_pieces-rest.ensures) c.strip_word.ensures)

pub returns-in_err-rest : goal.returns-in_err-rest
returns-in_err-rest c =
    let circuit = c.args.circuit.now in
    let classes = c.args.classes.now in
    rw c.from_residual.ensures
    (none_after IsBudget decimal (λ (budget : ℕ). head_line circuit classes (Some budget)) (front circuit classes)
    c.args.line.now (λ budget. refl)
    (no_rest (front circuit classes) c.args.line.now c.strip_word.result c.in_err-rest.was
    (rest_is (goal.at.returns-in_err-rest c).After-strip_word)))

pub returns : goal.returns
returns c =
    let circuit = c.args.circuit.now in
    let classes = c.args.classes.now in
    let rest = c.in_ok-rest.rest in
    found_after IsBudget decimal (λ (budget : ℕ). head_line circuit classes (Some budget)) (front circuit classes)
    c.args.line.now rest.now c.read_budget.result
    (the_rest (front circuit classes) c.args.line.now c.strip_word.result rest c.in_ok-rest.was
    (rest_is (goal.at.returns c).After-strip_word))
    (λ budget. refl) c.read_budget.ensures
