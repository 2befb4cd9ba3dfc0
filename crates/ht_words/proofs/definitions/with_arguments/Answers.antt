use Rattle.std.proofs.Common.{◌∙◌, Bor, List, ℕ, map, sym}
use Rattle.std.proofs.lemmas.List.{at_drop_all, at_drop_more}
use Rattle.clap.specs.Simple.{App}
use Rattle.clap.specs.Walk.{texts}
use Rattle.clap.specs.Words.{app_of}
use Rattle.ht_words.specs.Arguments.{rule_for, with_rules}
use Rattle.ht_words.specs.declared.definitions.ArgumentKind.{ArgumentKind}
use Rattle.ht_words.proofs.ArgumentLaws.{one_more, with_none}
use Rattle.ht_words.proofs.definitions.with_arguments.Goals as goal

abbrev with_all : App → ArgumentKind → List (Bor (List ℕ)) → App
with_all app kind ids = with_rules app (map (rule_for kind) (texts ids))

pub loop-id-preserved : goal.loop-id-preserved
loop-id-preserved c =
    one_more c.loop-id.command c.in_ok-command.command c.argument.result _ _ c.in_ok-command.ensures
    c.argument.ensures.local c.argument.ensures.rule
    ∙ sym (at_drop_more (with_all (app_of c.loop-id.command) c.args.kind) c.args.ids.now c.loop-id.id-index _
    c.loop-id-test.true)
    ∙ c.loop-id.invariant

pub returns : goal.returns
returns c =
    sym (with_none (app_of c.loop-id.command))
    ∙ sym (at_drop_all (with_all (app_of c.loop-id.command) c.args.kind) c.args.ids.now c.loop-id.id-index
    c.loop-id-test.false)
    ∙ c.loop-id.invariant
