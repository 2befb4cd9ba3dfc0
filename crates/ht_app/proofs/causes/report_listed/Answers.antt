use Rattle.std.proofs.Common.{◌++◌, ◌∙◌, List, ℕ, ap}
use Rattle.ht_app.proofs.Common.{with_lf}
use Rattle.ht_causes.specs.declared.cause.Cause.{Cause}
use Rattle.ht_causes.specs.CauseTexts.{causes_body, causes_total}
use Rattle.ht_app.proofs.causes.report_listed.Goals as goal

pub returns : goal.returns
returns c =
    let circuit = c.args.circuit.now in
    let classes = c.args.listed.now.classes in
    let found = c.in_ok-causes.causes.items in
    record {
      representatives = classes;
      found = found;
      classes = c.requires.classes;
      exact = c.in_ok-causes.ensures.exact;
      report_is =
          ap (λ (t : List ℕ). t ++ c.in_ok-total.total.items)
          (c.in_ok-body.ensures ∙ ap (causes_body circuit classes) c.deref.ensures.value)
          ∙ ap (λ (t : List ℕ). causes_body circuit classes found ++ t) (c.in_ok-total.ensures
          ∙ ap (λ (k : List Cause). with_lf (causes_total classes k)) c.deref-2.ensures.value);
      total_is =
          c.in_ok-total.ensures ∙ ap (λ (k : List Cause). with_lf (causes_total classes k)) c.deref-2.ensures.value;
    }
