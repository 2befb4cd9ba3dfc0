use Rattle.std.proofs.Common.{rules, tests, ℕ, List, sym, ◌∙◌}
use Rattle.std.specs.Borrow.{Bor}
use Rattle.std.proofs.lemmas.Iterator.{YieldsList-from_slice}
use Rattle.std.proofs.lemmas.Iterator.Search.{all_from_yields_List}
use Rattle.std.proofs.lemmas.List.Folds.{list_all-map}
use Rattle.ht_statement.specs.Name.{is_name}
use Rattle.ht_statement.proofs.reading.are_names.Goals as goal

pub returns : goal.returns
returns c =
    all_from_yields_List (λ (t : Bor (List ℕ)). is_name t.now) _ _ _ c.all.ensures.ran
    (YieldsList-from_slice c.args.texts.now cc) (λ x b q k. search (rules, tests))
    ∙ sym (list_all-map is_name (λ (t : Bor (List ℕ)). t.now) c.args.texts.now)
