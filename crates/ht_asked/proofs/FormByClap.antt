-- What `clap` takes by the definition of a form, and what it gives to each argument, is what the plain reading gives.
use Rattle.std.proofs.Common.{◌≡◌, ◌∙◌, ◌<◌, ◌∷◌, ◌++◌, true, false, List, [], length, None, sym, ap}
use Rattle.std.specs.Prelude.{option_and_then}
use Rattle.clap.specs.Lexer.{usize_max}
use Rattle.clap.specs.Walk.{Text}
use Rattle.clap.specs.Simple.{matches_of}
use Rattle.ht_asked.specs.Forms.{Form, all_differ, given, named, parts}
use Rattle.ht_asked.specs.ByClap.{app_with, given_by_clap, is_taken}
use Rattle.ht_asked.proofs.Uses.{arguments, read}
use Rattle.ht_asked.proofs.States.{AreReadable}
use Rattle.ht_asked.proofs.WalkIsRead.{walk_is_read}
use Rattle.ht_asked.proofs.PartLaws.{reads_parts}
use Rattle.ht_asked.proofs.BuiltLaws.{rules_of, walks}
use Rattle.ht_asked.proofs.AppLaws.{is_model}
use Rattle.ht_asked.proofs.RowLaws.{pushed_in, given_rows, given_uses, all_ends, all_given}

-- the names of the arguments all differ, and the places can be numbered
pub record IsSound (form : Form) : Type 0 where
  pub differ : all_differ (form.positionals ++ named form) ≡ true
  pub few : length form.positionals < usize_max

-- what `clap` gives to a sound form from readable words is what the plain reading gives
pub form_by_clap : (command : Text) (form : Form) → IsSound form → (name : Text) (words : List Text)
    → AreReadable words → given_by_clap (app_with command form) form (name ∷ words) ≡ given form words
unfolding given
form_by_clap command form sound name words readable =
    let args = arguments form.positionals (named form) form.flags in
    let app = app_with command form in
    sym (pushed_in (given_rows form) (is_taken app (name ∷ words)) (matches_of app (name ∷ words)))
    ∙ ap (option_and_then (given_rows form))
    (walks command form sound.few name words
    ∙ (walk_is_read command (rules_of form) args (is_model form sound.few sound.differ) words readable).0 [] None 1
    false tt)
    ∙ all_ends form sound.differ command (read args false None 1 [] words)
    ∙ ap (option_and_then (given_uses form)) ((reads_parts args words).0 1 [])
    ∙ all_given form sound.differ (parts args.flag None words)
