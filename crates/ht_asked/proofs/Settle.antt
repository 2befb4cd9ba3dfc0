-- The pending use joins the others, or is refused: it is the second of its argument.
use Rattle.std.proofs.Common.{◌≡◌, ◌∙◌, ◌++◌, ◌∷◌, ℕ, Bool, true, false, cond, List, [], inl, inr, ◌⊎◌, Option, Some, None, refl, sym, ap}
use Rattle.std.specs.Prelude.{fold, option_and_then}
use Rattle.std.specs.Option.{option_map_or}
use Rattle.clap.specs.Kinds.{Kinds, or_else}
use Rattle.clap.specs.Walk.{Held, Row, Rule, Step, Text, Waiting, Walk, arg_by_id, arg_by_index, arg_by_long, arg_by_short, finished, has_row, is_empty, is_pending, settled, pushed, to_positional, used, walked, with_default, with_values, at_row, more_values, without, word_met}
use Rattle.clap.specs.Walk as walk
use Rattle.clap.specs.Simple.{Shape}
use Rattle.clap.specs.Faults.{check_fault, defaults_fault, settle_fault, turn_fault, use_fault, walk_fault}
use Rattle.ht_asked.proofs.Uses.{Use, has_use}
use Rattle.ht_asked.proofs.Rows.{shape, rows, has_row-rows, still_refused, fault_by, use_is, used_is}
use Rattle.ht_asked.proofs.States.{held_by, idle_at, settle, IsKnown, IsKnownUse}

module _ (name : Text) (c : List Rule) where
  abbrev s : Shape
  s = shape name c

  abbrev pub end_fault : Held → Kinds
  end_fault h = or_else []
      (or_else (settle_fault c false h)
      (or_else (defaults_fault (settled c h).rows c) (check_fault s (finished c h) false)))

  abbrev pub held_at : List Use → Option Use → Held
  held_at us p = record { rows = rows us; pending = held_by p; skip = 0 }

  -- the rows that the walk comes to, where nothing fails
  unfoldable pub answer : Walk → List Text → Option (List Row)
  answer w ws = cond (is_empty (or_else (walk_fault s [] w ws) (end_fault (fold (walked c []) w ws).held)))
      (Some (finished c (fold (walked c []) w ws).held)) None

  -- a word that isn't refused leaves the answer to the words after it
  pub passes : (w : Walk) (x : Text) (xs : List Text) → turn_fault s [] w x ≡ [] → answer w (x ∷ xs)
      ≡ answer (walked c [] w x) xs
  unfolding answer walk_fault
  passes w x xs none = ap
      (λ k. cond (is_empty
      (or_else (or_else k (walk_fault s [] (walked c [] w x) xs))
      (end_fault (fold (walked c []) (walked c [] w x) xs).held)))
      (Some (finished c (fold (walked c []) (walked c [] w x) xs).held)) None) none

  -- what is refused first leaves no answer, whatever comes later
  pub fails_late : (k later : Kinds) (r : Option (List Row)) → is_empty k ≡ false
      → cond (is_empty (or_else k later)) r None ≡ None
  fails_late k later r e = ap (λ t. cond t r None) (still_refused k later e)

  -- a word that is refused leaves no answer
  pub fails : (w : Walk) (x : Text) (xs : List Text) → is_empty (turn_fault s [] w x) ≡ false → answer w (x ∷ xs) ≡ None
  unfolding answer walk_fault
  fails w x xs e = fails_late (or_else (turn_fault s [] w x) _) _ _ (still_refused (turn_fault s [] w x) _ e)

  module _ (u : Use) (us : List Use) (known : IsKnown c u.0) where
    settle_is : settle_fault c false (held_at us (Some u)) ≡ fault_by (has_use u.0 us)
    settle_is =
        ap (λ o. option_map_or (λ a. use_fault false a (u.1 ∷ []) (rows us)) o []) known.1
        ∙ use_is known.0 u.1 (rows us) ∙ ap fault_by (has_row-rows known.0.id us ∙ ap (λ i. has_use i us) known.2)

    rows_are : has_use u.0 us ≡ false → (settled c (held_at us (Some u))).rows ≡ rows (us ++ u ∷ [])
    rows_are none =
        ap (λ o. walk.used_by_id o (u.1 ∷ []) (rows us)) known.1
        ∙ used_is known.0 u.1 us (ap (λ i. has_use i us) known.2 ∙ none) ∙ ap (λ i. rows (us ++ (i, u.1) ∷ [])) known.2

  -- the pending use is refused, or joins the others
  abbrev pub Settles : Option Use → List Use → Type 0
  Settles p us = ((settle p us ≡ None) × (is_empty (settle_fault c false (held_at us p)) ≡ false))
      ⊎ ((after : List Use) × (settle p us ≡ Some after) × (settle_fault c false (held_at us p) ≡ [])
      × ((settled c (held_at us p)).rows ≡ rows after))

  -- a pending use of an argument of the command is refused or joins the others
  pub settles : (p : Option Use) (us : List Use) → IsKnownUse c p → Settles p us
  settles None us known = inr (us, refl, refl, refl)
  settles (Some u) us known = go (has_use u.0 us) refl
    where
      go : (b : Bool) → has_use u.0 us ≡ b → Settles (Some u) us
      go true e = inl (
        ap (λ b. cond b None (Some (us ++ u ∷ []))) e,
        ap is_empty
            (settle_is u us known ∙ ap fault_by e),
      )
      go false e = inr (
        us ++ u ∷ [],
        ap (λ b. cond b None (Some (us ++ u ∷ []))) e,
        settle_is u us known ∙ ap fault_by
            e,
        rows_are u us known e,
      )

  -- what the end of the words makes of the uses
  unfoldable pub finish : List Use → Option (List Row)
  finish us = cond (is_empty
      (or_else (defaults_fault (rows us) c) (check_fault s (fold with_default (rows us) c) false)))
      (Some (fold with_default (rows us) c)) None

  ends_no : (us : List Use) (p : Option Use) (k : ℕ) (t : Bool) → settle p us ≡ None
      → is_empty (settle_fault c false (held_at us p)) ≡ false
      → answer (idle_at us p k t) [] ≡ option_and_then finish (settle p us)
  unfolding answer walk_fault
  ends_no us p k t none fault =
      let h = held_at us p in
      fails_late (settle_fault c false h)
      (or_else (defaults_fault (settled c h).rows c) (check_fault s (finished c h) false)) (Some (finished c h))
      fault
      ∙ sym (ap (option_and_then finish) none)

  ends_yes : (us after : List Use) (p : Option Use) (k : ℕ) (t : Bool) → settle p us ≡ Some after
      → settle_fault c false (held_at us p) ≡ []
      → (settled c (held_at us p)).rows ≡ rows after → answer (idle_at us p k t) []
      ≡ option_and_then finish (settle p us)
  unfolding answer walk_fault finish
  ends_yes us after p k t some none same =
      ap (λ f. cond (is_empty
      (or_else f (or_else (defaults_fault (settled c (held_at us p)).rows c)
      (check_fault s (fold with_default (settled c (held_at us p)).rows c) false))))
      (Some (fold with_default (settled c (held_at us p)).rows c)) None) none
      ∙ ap (λ rs. cond (is_empty (or_else (defaults_fault rs c) (check_fault s (fold with_default rs c) false)))
      (Some (fold with_default rs c)) None) same
      ∙ sym (ap (option_and_then finish) some)

  -- at the end of the words, the answer is what the end makes of the uses with the pending one
  pub ends : (us : List Use) (p : Option Use) (k : ℕ) (t : Bool) → IsKnownUse c p → answer (idle_at us p k t) []
      ≡ option_and_then finish (settle p us)
  ends us p k t known = elim (settles p us known) [
    | inl w ↦ ends_no us p k t w.0 w.1
    | inr w ↦ ends_yes us w.0 p k t w.1 w.2 w.3
  ]
