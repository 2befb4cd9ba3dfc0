use Rattle.ht_texts.specs.Reports.{total_line}
use Rattle.ht_texts.proofs.FrontLaws.{rest_of_text, no_rest, the_rest, whole_or_not, is_whole}
use Rattle.ht_texts.proofs.read_total.is_total.Goals as goal

pub returns-in_default : goal.returns-in_default
returns-in_default c =
    let word = total_line c.args.sums in
    let line = c.args.line.now in
    whole_or_not word line (no_rest word line c.strip_total.result c.in_default.is (rest_of_text c.strip_total.ensures))

pub returns : goal.returns
returns c =
    let word = total_line c.args.sums in
    let line = c.args.line.now in
    is_whole word line c.in-Some.rest.now c.is_empty.result
    (the_rest word line c.strip_total.result c.in-Some.rest c.in-Some.is (rest_of_text c.strip_total.ensures))
    c.is_empty.ensures
