-- The arguments of a command, as `clap` is given them.
use Rattle.std.specs.Prelude.{◌++◌, List}
use Rattle.clap.specs.Simple.{App, on_top}
use Rattle.clap.specs.Walk.{Rule, Text, texts}
use Rattle.ht_asked.specs.ByClap.{optional, switch, wanted}
use Rattle.ht_asked.specs.Forms.{Form}
use Rattle.ht_words.specs.declared.commands.Arguments.{Arguments}
use Rattle.ht_words.specs.declared.definitions.ArgumentKind.{ArgumentKind}
use Rattle.ht_words.specs.declared.definitions.ArgumentKind.TheVariants as kind

-- the rule of an argument of this name: a positional that has to be there, an option, or a flag
abbrev pub rule_for : ArgumentKind → Text → Rule
rule_for kind.Positional id = wanted id
rule_for kind.Option id = optional id
rule_for kind.Flag id = switch id

-- the command with these rules after its own
abbrev pub with_rules : App → List Rule → App
with_rules app rules = on_top (λ s. record s { rules = s.rules ++ rules }) app

-- the form of a command with these arguments
abbrev pub arguments_form : Arguments → Form
arguments_form a = record {
  positionals = texts a.positionals.now;
  options = texts a.options.now;
  flags = texts a.flags.now;
}
