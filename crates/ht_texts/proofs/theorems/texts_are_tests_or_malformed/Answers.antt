use Rattle.ht_texts.specs.Tests.{IsWrongLine}
use Rattle.ht_texts.proofs.TestLaws.{list_or_line, never_both, one_list}
use Rattle.ht_texts.proofs.WrongLineLaws.{one_first}
use Rattle.ht_texts.proofs.theorems.texts_are_tests_or_malformed.Goals as goal

pub returns : goal.returns
returns c = λ circuit text. record {
  either = list_or_line circuit text;
  never_both = never_both circuit text;
  one_value = one_list circuit text;
  one_line = one_first (IsWrongLine circuit text);
}
