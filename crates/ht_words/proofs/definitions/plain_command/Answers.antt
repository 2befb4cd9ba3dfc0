use Rattle.std.proofs.Common.{◌∙◌, true, ap}
use Rattle.clap.specs.Simple.{app_of_fields, on_top}
use Rattle.clap.specs.declared.builder.command.Command.{Command}
use Rattle.clap.specs.declared.builder.command.Command.TheOpen.{Command-F}
use Rattle.ht_words.proofs.definitions.plain_command.Goals as goal

pub returns : goal.returns
returns c =
    ap app_of_fields c.disable_version_flag.ensures
    ∙ ap (λ (f : Command-F Command). app_of_fields (record f { disable_version_flag = true }))
    c.disable_help_flag.ensures
    ∙ ap (on_top (λ s. record s { disable_help_flag = true; disable_version_flag = true })) c.new.ensures.app
