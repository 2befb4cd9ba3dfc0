use Rattle.ht_texts.proofs.WrongLineLaws.{one_first}
use Rattle.ht_dictionary.specs.ResponseTexts.{IsWrongResponse}
use Rattle.ht_dictionary.proofs.ResponseLaws.{rows_or_line, never_both, one_list}
use Rattle.ht_dictionary.proofs.theorems.texts_are_responses_or_malformed.Goals as goal

pub returns : goal.returns
returns c = λ width vectors text. record {
  either = rows_or_line width vectors text;
  never_both = never_both width vectors text;
  one_value = one_list width vectors text;
  one_line = one_first (IsWrongResponse width vectors text);
}
