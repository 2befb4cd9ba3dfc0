-- A command with more arguments.
use Rattle.std.proofs.Common.{◌≡◌, ◌∙◌, ◌∷◌, List, [], map, false, ap, append_assoc, Result, Ok, Err}
use Rattle.std.specs.Prelude.{IfOk}
use Rattle.std.proofs.lemmas.List.{append-nil}
use Rattle.clap.specs.Built.{AddsArg}
use Rattle.clap.specs.Simple.{App, on_top, with_rule}
use Rattle.clap.specs.Walk.{Rule, Text}
use Rattle.clap.specs.Words.{app_of, rule_of}
use Rattle.clap.specs.declared.builder.arg.Arg.{Arg}
use Rattle.clap.specs.declared.builder.command.Command.{Command}
use Rattle.ht_asked.specs.ByClap.{app_named, app_with}
use Rattle.ht_asked.specs.Forms.{Form}
use Rattle.ht_words.specs.Arguments.{rule_for, with_rules}
use Rattle.ht_words.specs.declared.definitions.ArgumentKind.TheVariants as kind

abbrev with_all : App → List Rule → App
with_all app rules = on_top (λ s. record s { rules = rules }) app

-- a command with no more rules is the same command
pub with_none : (app : App) → with_rules app [] ≡ app
with_none app = ap (with_all app) (append-nil app.top.rules)

with_more : (app : App) (rule : Rule) (rest : List Rule)
    → with_rules (with_rule app rule) rest ≡ with_rules app (rule ∷ rest)
with_more app rule rest = ap (with_all app) (append_assoc app.top.rules (rule ∷ []) rest)

-- the rule of a local argument that was added comes before the rules that are added after it
pub one_more : (old new : Command) (arg : Arg) (rule : Rule) (rest : List Rule) → AddsArg old arg new → arg.global
    ≡ false
    → rule_of arg ≡ rule → with_rules (app_of new) rest ≡ with_rules (app_of old) (rule ∷ rest)
one_more old new arg rule rest adds local rule_is =
    ap (λ (a : App). with_rules a rest) (adds.shape local)
    ∙ with_more (app_of old) (rule_of arg) rest
    ∙ ap (λ (r : Rule). with_rules (app_of old) (r ∷ rest)) rule_is

-- a plain command with a form's positionals, then its options and then its flags is the command of that form
pub defined : {E : Type 0} (name : Text) (form : Form) (plain named middle : App) (r : Result Command E)
    → plain ≡ app_named name → named ≡ with_rules plain (map (rule_for kind.Positional) form.positionals)
    → middle ≡ with_rules named (map (rule_for kind.Option) form.options)
    → IfOk r (λ c. app_of c ≡ with_rules middle (map (rule_for kind.Flag) form.flags))
    → IfOk r (λ c. app_of c ≡ app_with name form)
defined name form plain named middle (Ok c) is names options flags =
    let first : App → App = λ a. with_rules a (map (rule_for kind.Positional) form.positionals) in
    let second : App → App = λ a. with_rules a (map (rule_for kind.Option) form.options) in
    let third : App → App = λ a. with_rules a (map (rule_for kind.Flag) form.flags) in
    flags ∙ ap third (options ∙ ap second (names ∙ ap first is))
defined name form plain named middle (Err e) is names options flags = tt
