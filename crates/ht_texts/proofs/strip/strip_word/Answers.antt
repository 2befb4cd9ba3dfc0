use Rattle.std.proofs.Common.{List, ℕ, Option, Bor, sym, subst}
use Rattle.std.proofs.lemmas.Bool.Decides.{Decides-eqb}
use Rattle.std.proofs.lemmas.Slice.Eq.{strip_prefix_is}
use Rattle.ht_texts.specs.Fronts.{Strips}
use Rattle.ht_texts.proofs.FrontLaws.{strips_some}
use Rattle.ht_texts.proofs.strip.strip_word.Goals as goal

pub returns : goal.returns
returns c =
    let text = c.in-Some.text in
    let word = c.args.word.now in
    let found = c.strip_prefix.result in
    subst (λ (old : Option (Bor (List ℕ))). Strips word old found) (sym c.in-Some.is)
    (strips_some word text found (strip_prefix_is Decides-eqb text.now word found c.strip_prefix.ensures.cases))
