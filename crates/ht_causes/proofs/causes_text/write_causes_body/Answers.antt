use Rattle.std.proofs.Common.{◌++◌, List, ℕ, length, sym, ◌∙◌, ap, subst, arith}
use Rattle.std.proofs.lemmas.List.{get_or_default}
use Rattle.ht_net.specs.declared.fault.Fault.{Fault}
use Rattle.ht_texts.specs.Lines.{with_lf}
use Rattle.ht_causes.specs.declared.cause.Cause.{Cause}
use Rattle.ht_causes.specs.declared.cause.Cause.TheVariants.{Unknown}
use Rattle.ht_causes.specs.Causes.{cause_at}
use Rattle.ht_causes.specs.CauseTexts.{IsCauseIn, cause_line}
use Rattle.ht_causes.proofs.CauseTextLaws.{cause_lines_more}
use Rattle.ht_causes.proofs.causes_text.write_causes_body.Goals as goal

pub push_cause_line-requires-clause-within : goal.push_cause_line-requires-clause-within
push_cause_line-requires-clause-within c =
    let causes = c.args.causes.now in
    let i = c.loop-i.i in
    let inside = ap (λ (l : List Fault). length l) c.requires.faults in
    let is = get_or_default causes i _ Unknown (omega (arith, c.loop-i-test.true, inside, c.requires.causes.each)) in
    λ own. subst (IsCauseIn c.args.circuit.now) (sym is) (c.requires.causes.within i (omega (arith, inside)) own)

pub loop-i-preserved : goal.loop-i-preserved
loop-i-preserved c =
    let circuit = c.args.circuit.now in
    let classes = c.args.classes.now in
    let causes = c.args.causes.now in
    let i = c.loop-i.i in
    let inside = ap (λ (l : List Fault). length l) c.requires.faults in
    let is = get_or_default causes i _ Unknown (omega (arith, c.loop-i-test.true, inside, c.requires.causes.each)) in
    c.in_ok-push_cause_line.ensures
    ∙ ap (λ (k : Cause). c.loop-i.body.items ++ with_lf (cause_line circuit classes i k)) is
    ∙ ap (λ (l : List ℕ). l ++ with_lf (cause_line circuit classes i (cause_at causes i))) c.loop-i.invariant
    ∙ sym (cause_lines_more circuit classes causes i)
