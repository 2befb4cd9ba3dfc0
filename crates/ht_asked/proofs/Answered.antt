-- What the words ask for, by their first word and by what `clap` answered.
use Rattle.std.proofs.Common.{◌≡◌, ◌∙◌, ◌∷◌, true, false, cond, refl, sym, ap, List, [], Option, Some, None, string_bytes, String, Global}
use Rattle.std.specs.Prelude.{option_and_then, option_map, slice_get}
use Rattle.clap.specs.Walk.{Row, Text, first_of}
use Rattle.clap.specs.Simple.{App, matches_of}
use Rattle.ht_asked.specs.Forms.{given}
use Rattle.ht_asked.specs.Commands.{Command, asked, command_named, words_of}
use Rattle.ht_asked.specs.ByClap.{app_with, asked_by_clap, asked_in_rows, command_by_clap, given_by_clap, given_values, is_taken, value_of}
use Rattle.ht_asked.proofs.AskedByClap.{asked_is_by_clap}

-- ---- what `clap` answered

module _ (c : Command) (app : App) (words : List Text) (is : app ≡ app_with c.name c.form) where
  same_taken : is_taken (app_with c.name c.form) words ≡ is_taken app words
  same_taken = ap (λ a. is_taken a words) (sym is)

  refused : is_taken app words ≡ false → command_by_clap c words ≡ None
  unfolding command_by_clap
  refused e = ap (λ b. option_and_then c.asks
      (cond b (given_values c.form (value_of (app_with c.name c.form) words)) None)) (same_taken ∙ e)

  answered : (rows : List Row) → rows ≡ matches_of app words → is_taken app words ≡ true
      → command_by_clap c words ≡ asked_in_rows c rows
  unfolding command_by_clap
  answered rows rows_are taken =
      ap (λ b. option_and_then c.asks
      (cond b (given_values c.form (value_of (app_with c.name c.form) words)) None)) (same_taken ∙ taken)
      ∙ ap (λ rs. option_and_then c.asks (given_values c.form (λ id. first_of id rs)))
      (ap (λ a. matches_of a words) (sym is) ∙ sym rows_are)

-- ---- the first word

module _ (ws : List (String Global)) (first : String Global) (is : Some first ≡ slice_get ws 0) where
  by_name : (vs : List (String Global)) → Some first ≡ slice_get vs 0 → (c : Command)
      → command_named (string_bytes first) ≡ Some c → asked_by_clap (words_of vs) ≡ command_by_clap c (words_of vs)
  unfolding asked_by_clap command_by_clap
  by_name [] e c found = absurd (some_is_none e)
    where
      some_is_none : Some first ≡ None → ⊥
      some_is_none h = cc
  by_name (w ∷ rest) e c found =
      let same : first ≡ w = cc in
      ap (option_and_then (λ (d : Command). option_and_then d.asks
      (given_by_clap (app_with d.name d.form) d.form (d.name ∷ words_of rest))))
      (ap (λ s. command_named (string_bytes s)) (sym same) ∙ found)

  named : (c : Command) → command_named (string_bytes first) ≡ Some c
      → asked (words_of ws) ≡ command_by_clap c (words_of ws)
  named c found = asked_is_by_clap ws ∙ by_name ws is c found

  by_no_name : (vs : List (String Global)) → Some first ≡ slice_get vs 0
      → command_named (string_bytes first) ≡ None → asked (words_of vs) ≡ None
  unfolding asked
  by_no_name [] e none = refl
  by_no_name (w ∷ rest) e none =
      let same : first ≡ w = cc in
      ap (option_and_then (λ (d : Command). option_and_then d.asks (given d.form (words_of rest))))
      (ap (λ s. command_named (string_bytes s)) (sym same) ∙ none)

  not_named : command_named (string_bytes first) ≡ None → asked (words_of ws) ≡ None
  not_named = by_no_name ws is

-- ---- the definition that the first word names, and what `clap` answered by it

module _ (ws : List (String Global)) (first : String Global) (is : Some first ≡ slice_get ws 0) (word : Text)
    (word_is : word ≡ string_bytes first) where
  abbrev Defines : Option App → Option Command → Type 0
  Defines app found = app ≡ option_map (λ (c : Command). app_with c.name c.form) found

  -- words of which the first names no command ask for nothing
  pub undefined_words : Defines None (command_named word) → asked (words_of ws) ≡ None
  undefined_words defined = go (command_named word) refl defined
    where
      go : (found : Option Command) → command_named word ≡ found → Defines None found → asked (words_of ws) ≡ None
      go None e d = not_named ws first is (ap command_named (sym word_is) ∙ e)
      go (Some c) e d = cc

  -- words that `clap` refuses ask for nothing
  pub refused_words : (app : App) → Defines (Some app) (command_named word) → is_taken app (words_of ws) ≡ false
      → asked (words_of ws) ≡ None
  refused_words app defined refuses = go (command_named word) refl defined
    where
      go : (found : Option Command) → command_named word ≡ found → Defines (Some app) found
          → asked (words_of ws) ≡ None
      go None e d = cc
      go (Some c) e d =
          let same : app ≡ app_with c.name c.form = cc in
          named ws first is c (ap command_named (sym word_is) ∙ e) ∙ refused c app (words_of ws) same refuses

  -- words that `clap` takes ask for what the command that the first one names makes of its rows
  pub answered_words : (app : App) (rows : List Row) → Defines (Some app) (command_named word)
      → rows ≡ matches_of app (words_of ws) → is_taken app (words_of ws) ≡ true
      → asked (words_of ws) ≡ option_and_then (λ c. asked_in_rows c rows) (command_named word)
  answered_words app rows defined rows_are taken = go (command_named word) refl defined
    where
      go : (found : Option Command) → command_named word ≡ found → Defines (Some app) found
          → asked (words_of ws) ≡ option_and_then (λ c. asked_in_rows c rows) (command_named word)
      go None e d = cc
      go (Some c) e d =
          let same : app ≡ app_with c.name c.form = cc in
          named ws first is c (ap command_named (sym word_is) ∙ e)
          ∙ answered c app (words_of ws) same rows rows_are taken
          ∙ ap (option_and_then (λ (d : Command). asked_in_rows d rows)) (sym e)

-- an empty command line asks for nothing
pub no_words : (ws : List (String Global)) → None ≡ slice_get ws 0 → asked (words_of ws) ≡ None
unfolding asked
no_words [] e = refl
no_words (w ∷ ws) e = cc
