use Rattle.std.proofs.Common.{◌++◌, List, ℕ, length, sym, ◌∙◌, ap, arith}
use Rattle.std.proofs.lemmas.List.{get_or_default}
use Rattle.ht_net.specs.declared.fault.Fault.{Fault}
use Rattle.ht_texts.specs.declared.said.Said.{Said}
use Rattle.ht_texts.specs.declared.said.Said.TheVariants.{Undetected}
use Rattle.ht_texts.specs.Lines.{with_lf}
use Rattle.ht_texts.specs.Verdicts.{said_at}
use Rattle.ht_texts.specs.Reports.{fault_line}
use Rattle.ht_texts.proofs.ReportLaws.{first_lines_more}
use Rattle.ht_texts.proofs.body.write_body.Goals as goal

pub loop-i-preserved : goal.loop-i-preserved
loop-i-preserved c =
    let circuit = c.args.circuit.now in
    let classes = c.args.classes.now in
    let saids = c.args.saids.now in
    let i = c.loop-i.i in
    let inside = ap (λ (l : List Fault). length l) c.requires.faults in
    let said = get_or_default saids i _ Undetected (omega (arith, c.loop-i-test.true, inside, c.requires.saids.each)) in
    c.in_ok-push_fault.ensures
    ∙ ap (λ (said : Said). c.loop-i.body.items ++ with_lf (fault_line circuit classes i said)) said
    ∙ ap (λ (l : List ℕ). l ++ with_lf (fault_line circuit classes i (said_at saids i))) c.loop-i.invariant
    ∙ sym (first_lines_more circuit classes c.args.budget saids i)
