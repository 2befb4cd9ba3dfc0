-- `clap`'s definition of a form, built, and its walk over the words.
use Rattle.std.proofs.Common.{◌≡◌, ◌∙◌, ◌+◌, ◌≤◌, ◌<◌, ◌∷◌, ◌++◌, ℕ, true, false, cond, List, [], map, length, suc, Some, None, refl, ap, arith, min}
use Rattle.clap.specs.Lexer.{usize_max}
use Rattle.clap.specs.Walk.{Rule, Text, is_empty, nothing_held, rows_after}
use Rattle.clap.specs.Simple.{App, built, filled_from, matches_of, names_of}
use Rattle.clap.specs.Faults.{built_fault}
use Rattle.clap.proofs.FaultLemmas.{leaf_fault}
use Rattle.ht_asked.specs.Forms.{Form}
use Rattle.ht_asked.specs.ByClap.{app_with, is_taken, optional, switch, wanted}
use Rattle.ht_asked.proofs.Rows.{Param, shape, toggle, word}
use Rattle.ht_asked.proofs.States.{idle_at}
use Rattle.ht_asked.proofs.Settle.{answer}

-- the positional at a place, and the option of a name
abbrev pub need : Text → ℕ → Param
need id i = record { id = id; long = None; index = Some i; required = true }

abbrev pub choice : Text → Param
choice id = record { id = id; long = Some id; index = None; required = false }

abbrev pub needs_from : ℕ → List Text → List Param
needs_from i [] = []
needs_from i (id ∷ ids) = need id i ∷ needs_from (suc i) ids

abbrev pub params_of : Form → List Param
params_of form = needs_from 1 form.positionals ++ map choice form.options

abbrev pub rules_of : Form → List Rule
rules_of form = map word (params_of form) ++ map toggle form.flags

-- ---- building

filled_flags : (i : ℕ) (fs : List Text) → filled_from i (map switch fs) ≡ map toggle fs
filled_flags i [] = refl
filled_flags i (f ∷ fs) = ap (λ rs. toggle f ∷ rs) (filled_flags i fs)

filled_options : (i : ℕ) (ns fs : List Text)
    → filled_from i (map optional ns ++ map switch fs) ≡ map word (map choice ns) ++ map toggle fs
filled_options i [] fs = filled_flags i fs
filled_options i (n ∷ ns) fs = ap (λ rs. word (choice n) ∷ rs) (filled_options i ns fs)

-- the positionals are numbered in their order, as long as numbers suffice
filled : (i : ℕ) (ids ns fs : List Text) → i + length ids ≤ usize_max
    → filled_from i ((map wanted ids ++ map optional ns) ++ map switch fs)
    ≡ map word (needs_from i ids ++ map choice ns) ++ map toggle fs
filled i [] ns fs few = filled_options i ns fs
filled i (id ∷ ids) ns fs few =
    ap (λ j. word (need id i) ∷ filled_from j ((map wanted ids ++ map optional ns) ++ map switch fs)) next_is
    ∙ ap (λ rs. word (need id i) ∷ rs) (filled (suc i) ids ns fs (omega (arith, few)))
  where
    next_is : min (i + 1) usize_max ≡ suc i
    next_is = omega (arith, few)

module _ (command : Text) (form : Form) (few : length form.positionals < usize_max) where
  abbrev app : App
  app = app_with command form

  abbrev app_by : List Rule → App
  app_by rules = record { top = shape command rules; subs = [] }

  built_is : built app ≡ app_by (rules_of form)
  built_is = ap app_by (filled 1 form.positionals form.options form.flags (omega (arith, few)))

  -- what `clap` makes of the words is its walk over them, after the command's name
  pub walks : (name : Text) (words : List Text)
      → cond (is_taken app (name ∷ words)) (Some (matches_of app (name ∷ words))) None
      ≡ answer command (rules_of form) (idle_at [] None 1 false) words
  unfolding answer
  walks name words =
      ap (λ (a : App). cond (is_empty (built_fault a nothing_held words))
      (Some (rows_after a.top.rules (names_of a) words)) None) built_is
      ∙ ap (λ k. cond (is_empty k) (Some (rows_after (rules_of form) [] words)) None)
      (leaf_fault (app_by (rules_of form)) nothing_held words refl)
