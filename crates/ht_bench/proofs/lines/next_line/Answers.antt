use Rattle.std.proofs.Common.{◌∷◌, [], ◌∙◌, sym, ap, rules}
use Rattle.ht_ports.specs.LineRule.{lines_of}
use Rattle.ht_bench.proofs.LineLaws.{lines_split, lines_last}
use Rattle.ht_bench.proofs.lines.next_line.Goals as goal

pub returns-in-Some-clause-first : goal.returns-in-Some-clause-first
returns-in-Some-clause-first c =
    lines_split c.args.text.now c.in-Some.piece.now c.in-Some.rest.now c.in-Some.ensures.found ∙ ap
    (λ t. t ∷ lines_of c.in-Some.rest.now) (sym c.without_return.ensures)

pub returns-in-None-clause-first : goal.returns-in-None-clause-first
returns-in-None-clause-first c =
    lines_last c.args.text.now c.in-None.ensures.none (search rules) ∙ ap (λ t. t ∷ [])
    (sym c.without_return-in-None.ensures)
