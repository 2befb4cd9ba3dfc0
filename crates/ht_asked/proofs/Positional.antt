-- A word goes to the positional at its place.
use Rattle.std.proofs.Common.{◌≡◌, ◌∙◌, ◌+◌, ◌≤◌, ◌||◌, ◌∷◌, ℕ, Bool, true, false, cond, List, [], Option, Some, None, refl, sym, ap, ap₂, arith, min}
use Rattle.std.specs.Prelude.{option_and_then}
use Rattle.std.specs.Option.{option_map_or}
use Rattle.clap.specs.Lexer.{usize_max}
use Rattle.clap.specs.Walk.{Held, Row, Rule, Step, Text, Waiting, Walk, arg_by_id, arg_by_index, arg_by_long, arg_by_short, finished, has_row, is_empty, is_pending, settled, pushed, to_positional, used, walked, with_default, with_values, at_row, more_values, without, word_met}
use Rattle.clap.specs.Walk as walk
use Rattle.clap.specs.Simple.{Shape}
use Rattle.clap.specs.Faults.{positional_fault, settle_fault, stray_fault, turn_fault}
use Rattle.ht_asked.proofs.Uses.{Arguments, Use, add_use, read, read_positional}
use Rattle.ht_asked.proofs.Rows.{Param, word, shape, rows, and_false}
use Rattle.ht_asked.proofs.States.{held_by, idle_at, settle}
use Rattle.ht_asked.proofs.Settle.{held_at, answer, passes, fails, finish}

-- uses that are refused in any case come to none
pub and_then_none : (o : Option (List Use)) → option_and_then {U = List Use} (λ u. None) o ≡ None
and_then_none None = refl
and_then_none (Some u) = refl

-- a number that fits `usize` is not reduced to its limit
pub min_is : (n : ℕ) → n ≤ usize_max → min n usize_max ≡ n
min_is n fits = omega arith

-- a test, or false, is the test
pub or_false : (b : Bool) → (b || false) ≡ b
or_false true = refl
or_false false = refl

module _ (name : Text) (c : List Rule) where
  abbrev s : Shape
  s = shape name c

  module _ (args : Arguments) (x : Text) (xs : List Text) (us : List Use) (p : Option Use) (k : ℕ) (t : Bool) where
    abbrev pub next : Bool → Option Text → ℕ → List Use → Option (List Use)
    next e w i u = read args e w i u xs

    -- it goes to the positional a
    to_is : (a : Param) (after : List Use) → (settled c (held_at name c us p)).rows ≡ rows after → k + 1 ≤ usize_max
        → to_positional c (Some (word a)) x (idle_at us p k t) (held_at name c us p)
        ≡ idle_at after (Some (a.id, x)) (k + 1) t
    to_is a after same fits = λ i. record {
      held = (ap (λ b. pushed a.id x (cond b (held_at name c us p) (settled c (held_at name c us p))))
          (and_false (is_pending (word a) (held_by p)))
          ∙ ap (λ (rs : List Row). record { rows = rs; pending = Some (a.id, x ∷ []); skip = 0 }) same) i;
      waiting = walk.idle;
      position = min_is (k + 1) fits i;
      is_trailing = or_false t i;
      stopped = None;
    }

    -- the word goes to a positional, once the walk has met it as that
    abbrev pub Goes : Type 0
    Goes = answer name c (idle_at us p k t) (x ∷ xs)
        ≡ option_and_then (finish name c)
        (option_and_then (λ u. read_positional (args.at k) t x k u next) (settle p us))

    module _ (turn : turn_fault s [] (idle_at us p k t) x
        ≡ option_map_or (λ a. positional_fault c false a (held_at name c us p)) (arg_by_index c k) (stray_fault s))
        (step : walked c [] (idle_at us p k t) x ≡ to_positional c (arg_by_index c k) x (idle_at us p k t)
        (held_at name c us p)) where
      -- a word is answered as in the reading where the command has no positional at its index
      pub none_goes : arg_by_index c k ≡ None → args.at k ≡ None → Goes
      none_goes index at =
          fails name c (idle_at us p k t) x xs
          (ap is_empty (turn ∙ ap
          (λ o. option_map_or (λ a. positional_fault c false a (held_at name c us p)) o (stray_fault s)) index))
          ∙ sym (ap (λ o. option_and_then (finish name c)
          (option_and_then (λ u. read_positional o t x k u next) (settle p us)))
          at ∙ ap (option_and_then (finish name c)) (and_then_none (settle p us)))

      one_turn : (a : Param) → arg_by_index c k ≡ Some (word a) → turn_fault s [] (idle_at us p k t) x
          ≡ settle_fault c false (held_at name c us p)
      one_turn a index = turn ∙ ap
          (λ o. option_map_or (λ a. positional_fault c false a (held_at name c us p)) o (stray_fault s)) index
          ∙ ap (λ b. cond b [] (settle_fault c false (held_at name c us p)))
          (and_false (is_pending (word a) (held_by p)))

      -- a word is answered as in the reading where the pending use is refused
      pub stays : (a : Param) → arg_by_index c k ≡ Some (word a) → settle p us ≡ None
          → is_empty (settle_fault c false (held_at name c us p)) ≡ false → Goes
      stays a index none fault =
          fails name c (idle_at us p k t) x xs (ap is_empty (one_turn a index) ∙ fault)
          ∙ sym (ap (λ o. option_and_then (finish name c)
          (option_and_then (λ u. read_positional (args.at k) t x k u next) o))
          none)

      -- a word is answered as in the reading where a positional takes it, if the words after it are so
      pub goes : (a : Param) (after : List Use) → arg_by_index c k ≡ Some (word a) → args.at k ≡ Some a.id → k
          + 1 ≤ usize_max → settle p us ≡ Some after
          → settle_fault c false (held_at name c us p) ≡ [] → (settled c (held_at name c us p)).rows ≡ rows after
          → answer name c (idle_at after (Some (a.id, x)) (k + 1) t) xs
          ≡ option_and_then (finish name c)
          (option_and_then (λ u. read args t None (k + 1) u xs) (add_use a.id x after))
          → Goes
      goes a after index at fits some passed same later =
          passes name c (idle_at us p k t) x xs (one_turn a index ∙ passed)
          ∙ ap (λ w. answer name c w xs)
          (step ∙ ap (λ o. to_positional c o x (idle_at us p k t) (held_at name c us p)) index ∙ to_is a after same
          fits)
          ∙ later
          ∙ sym (ap₂ (λ o q. option_and_then (finish name c) (option_and_then (λ u. read_positional o t x k u next) q))
          at some)
