use Rattle.std.proofs.Common.{subst}
use Rattle.std.proofs.lemmas.Result.{IfOk-weaker}
use Rattle.ht_app.specs.Outputs.{AreBredTexts}
use Rattle.ht_app.proofs.breed.texts_for.Goals as goal

-- the texts are those of what was bred for these classes
pub returns : goal.returns
returns c = IfOk-weaker c.texts_of-made.result _ _ (λ made texts. record {
  representatives = c.args.listed.now.classes;
  bred = c.in_ok-bred.bred;
  classes = c.requires.classes;
  is_bred = c.in_ok-bred.ensures;
  texts = subst (λ given. AreBredTexts c.args.listed.now.classes given c.in_ok-bred.bred made.body.items
      made.total.items) c.len-given.ensures texts;
}) c.texts_of-made.ensures
