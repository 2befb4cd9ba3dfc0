use Rattle.std.proofs.Common.{◌≡◌, drop, map}
use Rattle.clap.specs.Walk.{texts}
use Rattle.clap.specs.Words.{app_of}
use Rattle.ht_words.specs.Arguments.{rule_for, with_rules}
use Rattle.ht_words.proofs.definitions.with_arguments.Given as goal

abbrev pub invariant-loop-id : goal.invariant-loop-id
invariant-loop-id l =
    with_rules (app_of l.command) (map (rule_for l.kind) (texts (drop l.id-index l.ids)))
    ≡ with_rules (app_of l.initial.command) (map (rule_for l.kind) (texts l.ids))
