use Rattle.std.proofs.Common.{◌≡◌, ◌∙◌, ap, sym, subst, Option, rules}
use Rattle.std.specs.Prelude.{option_and_then, option_map}
use Rattle.clap.specs.Words.{app_of, found_of, rows_of}
use Rattle.ht_asked.specs.Asked.{Asked}
use Rattle.ht_asked.specs.Commands.{asked, command_named, words_of}
use Rattle.ht_asked.specs.ByClap.{asked_in_rows}
use Rattle.ht_asked.proofs.AskedByClap.{asked_is_by_clap}
use Rattle.ht_asked.proofs.Answered.{answered_words, no_words, refused_words, undefined_words}
use Rattle.ht_words.specs.Jobs.{IsAnswer}
use Rattle.ht_words.proofs.reading.command.Goals as goal

-- ---- no command

pub returns-in_default-clause-answer : goal.returns-in_default-clause-answer
returns-in_default-clause-answer c =
    record { usage = λ _. no_words c.args.words.now c.in_default.ensures.value; ok = tt }

pub returns-in_default-2-clause-answer : goal.returns-in_default-2-clause-answer
returns-in_default-2-clause-answer c = record {
  usage = λ _. undefined_words c.args.words.now c.in-Some.first.now c.in-Some.ensures.value c.as_str-word.result.now
      c.as_str-word.ensures.value (sym (ap (option_map app_of) c.in_default-2.is) ∙ c.in_ok-definition.ensures.named);
  ok = tt;
}

-- ---- a command by its definition

pub returns-in_err-matches-clause-answer : goal.returns-in_err-matches-clause-answer
returns-in_err-matches-clause-answer c = record {
  usage = λ e. refused_words c.args.words.now c.in-Some.first.now c.in-Some.ensures.value c.as_str-word.result.now
      c.as_str-word.ensures.value (app_of c.in-Some-2.definition)
      (sym (ap (option_map app_of) c.in-Some-2.is) ∙ c.in_ok-definition.ensures.named)
      (c.matches_for.ensures.usage (search rules));
  ok = search rules;
}

pub returns-clause-answer : goal.returns-clause-answer
returns-clause-answer c =
    let m = c.in_ok-matches in
    let rows = rows_of (found_of m.matches) in
    let is : asked (words_of c.args.words.now)
    ≡ option_and_then (λ d. asked_in_rows d rows) (command_named c.as_str-word.result.now) =
    answered_words c.args.words.now c.in-Some.first.now c.in-Some.ensures.value c.as_str-word.result.now
    c.as_str-word.ensures.value (app_of c.in-Some-2.definition) rows
    (sym (ap (option_map app_of) c.in-Some-2.is) ∙ c.in_ok-definition.ensures.named) m.ensures.rows m.ensures.taken in
    subst (λ (a : Option Asked). IsAnswer a c.job.result) (sym is) c.job.ensures

-- ---- the words by `clap`

pub returns-in_default-clause-by_clap : goal.returns-in_default-clause-by_clap
returns-in_default-clause-by_clap c = asked_is_by_clap c.args.words.now

pub returns-in_default-2-clause-by_clap : goal.returns-in_default-2-clause-by_clap
returns-in_default-2-clause-by_clap c = asked_is_by_clap c.args.words.now

pub returns-in_err-definition-clause-by_clap : goal.returns-in_err-definition-clause-by_clap
returns-in_err-definition-clause-by_clap c = asked_is_by_clap c.args.words.now

pub returns-in_err-matches-clause-by_clap : goal.returns-in_err-matches-clause-by_clap
returns-in_err-matches-clause-by_clap c = asked_is_by_clap c.args.words.now

pub returns-clause-by_clap : goal.returns-clause-by_clap
returns-clause-by_clap c = asked_is_by_clap c.args.words.now
