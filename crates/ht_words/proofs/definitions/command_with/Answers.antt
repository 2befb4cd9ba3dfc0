use Rattle.ht_words.specs.Arguments.{arguments_form}
use Rattle.ht_words.proofs.ArgumentLaws.{defined}
use Rattle.ht_words.proofs.definitions.command_with.Goals as goal

pub returns : goal.returns
returns c =
    defined c.args.name.now (arguments_form c.args.arguments) _ _ _ c.with_arguments-3.result c.plain_command.ensures
    c.in_ok-command.ensures c.in_ok-command-2.ensures c.with_arguments-3.ensures
