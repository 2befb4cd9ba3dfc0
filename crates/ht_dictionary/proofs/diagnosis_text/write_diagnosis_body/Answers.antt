use Rattle.std.proofs.Common.{◌∙◌, ◌++◌, List, ℕ, Option, sym, ap}
use Rattle.ht_net.specs.declared.place.Place.{Place}
use Rattle.ht_texts.specs.Lines.{with_lf}
use Rattle.ht_dictionary.specs.Diagnoses.{contradiction_at}
use Rattle.ht_dictionary.specs.DiagnosisTexts.{diagnosed_line}
use Rattle.ht_dictionary.proofs.DiagnosisTextLaws.{diagnosis_lines_more}
use Rattle.ht_dictionary.proofs.diagnosis_text.write_diagnosis_body.Goals as goal

pub loop-i-preserved : goal.loop-i-preserved
loop-i-preserved c =
    let circuit = c.args.circuit.now in
    let classes = c.args.classes.now in
    let said = c.args.diagnosis.now in
    let i = c.loop-i.i in
    c.in_ok-push_diagnosed.ensures
    ∙ ap (λ (p : Option Place). c.loop-i.body.items ++ with_lf (diagnosed_line circuit classes i p)) c.get.ensures
    ∙ ap (λ (l : List ℕ). l ++ with_lf (diagnosed_line circuit classes i (contradiction_at said.places i)))
    c.loop-i.invariant
    ∙ sym (diagnosis_lines_more circuit classes c.args.vectors said i)
