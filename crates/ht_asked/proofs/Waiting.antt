-- An option waits for its value: the next word is it, or is refused.
use Rattle.std.proofs.Common.{◌≡◌, ◌∙◌, ◌∷◌, ℕ, Bool, true, false, cond, List, [], nat_lt, inl, inr, Option, Some, None, refl, sym, ap}
use Rattle.std.specs.Prelude.{option_and_then}
use Rattle.std.specs.Option.{option_map_or}
use Rattle.std.specs.Str.{bytes_eq}
use Rattle.std.proofs.lemmas.Slice.Eq.{bytes_eq-Decides}
use Rattle.clap.specs.Lexer.{long_of, short_of}
use Rattle.clap.specs.Kinds.{or_else}
use Rattle.clap.specs.Walk.{Held, Row, Rule, Step, Text, Waiting, Walk, arg_by_id, arg_by_index, arg_by_long, arg_by_short, finished, has_row, is_empty, is_pending, settled, pushed, to_positional, used, walked, with_default, with_values, at_row, more_values, without, word_met}
use Rattle.clap.specs.Walk as walk
use Rattle.clap.specs.Simple.{Shape}
use Rattle.clap.specs.Faults.{check_fault, long_fault, positional_fault, defaults_fault, settle_fault, stray_fault, use_fault, walk_fault}
use Rattle.ht_asked.proofs.Uses.{Arguments, Use, add_use, Looks, looks, read, read_word}
use Rattle.ht_asked.proofs.Looks.{dashes}
use Rattle.ht_asked.proofs.Rows.{Param, toggle, word, shape, rows, still_refused, and_false}
use Rattle.ht_asked.proofs.States.{waits_at, IsKnown, FindsLong, IsModel, IsReadable, no_long, an_option, a_flag}
use Rattle.ht_asked.proofs.Settle.{answer, passes, fails, fails_late, finish}
use Rattle.ht_asked.proofs.Word.{turn_end, walk_end, turn_long, turn_plain, walk_plain, turn_flags, bundle_refused}
use Rattle.ht_asked.proofs.Idle.{Idle}

module _ (name : Text) (c : List Rule) where
  abbrev s : Shape
  s = shape name c

  module _ (args : Arguments) (model : IsModel c args) where
    module _ (id : Text) (us : List Use) (k : ℕ) (known : IsKnown c id) where
      abbrev wait_held : Held
      wait_held = record { rows = rows us; pending = Some (id, []); skip = 0 }

      starved : is_empty (settle_fault c false wait_held) ≡ false
      starved = ap (λ o. is_empty (option_map_or (λ a. use_fault false a [] (rows us)) o [])) known.1

      -- an option that waits for its value at the end of the words is refused
      pub starved_end : (t : Bool) → answer name c (waits_at id us k t) [] ≡ None
      unfolding answer walk_fault
      starved_end t = fails_late name c (settle_fault c false wait_held)
          (or_else (defaults_fault (settled c wait_held).rows c) (check_fault s (finished c wait_held) false))
          (Some (finished c wait_held)) starved

      starved_word : (x : Text) (xs : List Text) → answer name c (waits_at id us k true) (x ∷ xs) ≡ None
      starved_word x xs = fails name c (waits_at id us k true) x xs (elim (model.at k) [
        | inl w ↦ ap (λ o. is_empty (option_map_or (λ a. positional_fault c false a wait_held) o (stray_fault s))) w.0
        | inr w ↦ ap (λ o. is_empty (option_map_or (λ a. positional_fault c false a wait_held) o (stray_fault s))) w.1
            ∙ ap (λ b. is_empty (cond b [] (settle_fault c false wait_held)))
            (and_false (is_pending (word w.0) (Some (id, [])))) ∙ starved
      ])

      starved_ended : (ws : List Text) → answer name c (waits_at id us k true) ws ≡ None
      starved_ended [] = starved_end true
      starved_ended (x ∷ xs) = starved_word x xs

      -- any word but a plain one
      pub wait_end : (x : Text) (xs : List Text) → bytes_eq x dashes ≡ true
          → answer name c (waits_at id us k false) (x ∷ xs) ≡ None
      wait_end x xs e = passes name c (waits_at id us k false) x xs
          (turn_end name c x wait_held (walk.option id) k refl e)
          ∙ ap (λ w. answer name c w xs) (walk_end name c x wait_held (walk.option id) k refl e) ∙ starved_ended xs

      long_starves : (f : Option Rule) (v : Option Text) (id' : Option Text) (flag : Bool) → FindsLong c f id' flag
          → is_empty (long_fault c false f v wait_held) ≡ false
      long_starves f v id' flag finds = elim finds [
        | no_long found at ↦ ap (λ o. is_empty (long_fault c false o v wait_held)) found
        | an_option a found at known_now valued ↦ ap (λ o. is_empty (long_fault c false o v wait_held)) found
            ∙ by_value v a
        | a_flag name found at is ↦ ap (λ o. is_empty (long_fault c false o v wait_held)) found ∙ by_flag v name
      ]
        where
          by_flag : (v : Option Text) (name : Text)
              → is_empty (long_fault c false (Some (toggle name)) v wait_held) ≡ false
          by_flag (Some y) name = refl
          by_flag None name = still_refused (settle_fault c false wait_held) _ starved

          by_value : (v : Option Text) (a : Param) → is_empty (long_fault c false (Some (word a)) v wait_held) ≡ false
          by_value (Some y) a = still_refused (settle_fault c false wait_held) _ starved
          by_value None a = starved

      -- an option that waits for its value is refused if a word with a long name comes next
      pub wait_long : (x : Text) (xs : List Text) → bytes_eq x dashes ≡ false → (q : Text × Option Text) → long_of x
          ≡ Some q → answer name c (waits_at id us k false) (x ∷ xs) ≡ None
      wait_long x xs e q long = fails name c (waits_at id us k false) x xs
          (ap is_empty (turn_long name c x wait_held (walk.option id) k refl e q long)
          ∙ still_refused (long_fault c false (arg_by_long c q.0) q.1 wait_held) _
          (long_starves (arg_by_long c q.0) q.1 (args.option q.0) (args.flag q.0) (model.option q.0)))

      -- an option that waits for its value is refused if a word such as `-x` comes next
      pub wait_flags : (x : Text) (xs : List Text) → IsReadable x → bytes_eq x dashes ≡ false → long_of x ≡ None
          → (r : Text) → short_of x ≡ Some r
          → answer name c (waits_at id us k false) (x ∷ xs) ≡ None
      wait_flags x xs readable e f r g =
          let first = readable r g in
          fails name c (waits_at id us k false) x xs
          (turn_flags name c x wait_held (walk.option id) k refl e f r g
          (bundle_refused name c model.short r first.0 wait_held refl first.1))

      same_id : bytes_eq id known.0.id ≡ true
      same_id = (bytes_eq-Decides id known.0.id).1 (sym known.2)

      -- a plain word is the value
      value_met : (x : Text) → walk.option_word (arg_by_id c id) id x wait_held
          ≡ (record { rows = rows us; pending = Some (id, x ∷ []); skip = 0 }, walk.idle)
      value_met x = ap (λ o. walk.option_word o id x wait_held) known.1
          ∙ ap (λ b. (
            record { rows = rows us; pending = Some (id, x ∷ []); skip = 0 },
            cond (nat_lt (cond b 1 0) 1)
                (walk.option id) walk.idle,
          )) same_id

      -- a plain word is the value of the option that waits, if the words after it are answered as in the reading
      pub wait_value : (x : Text) (xs : List Text) → Idle name c args model xs → bytes_eq x dashes ≡ false → long_of x
          ≡ None
          → short_of x ≡ None
          → answer name c (waits_at id us k false) (x ∷ xs)
          ≡ option_and_then (finish name c) (option_and_then (λ u. read args false None k u xs) (add_use id x us))
      wait_value x xs later e f g = passes name c (waits_at id us k false) x xs
          (turn_plain name c x wait_held (walk.option id) k refl e f g)
          ∙ ap (λ w. answer name c w xs) (walk_plain name c x wait_held (walk.option id) k refl e f g
          ∙ ap (λ (m : Held × Waiting). record {
            held = m.0;
            waiting = m.1;
            position = k;
            is_trailing = false;
            stopped = None;
          }) (value_met x))
          ∙ later us (Some (id, x)) k false known

      -- what the reading makes of a word that an option waits for depends on what the word looks like
      pub wait_reads : (x : Text) (xs : List Text) (l : Looks) → looks false x ≡ l
          → read_word args l (Some id) false x k us (λ e w i u. read args e w i u xs)
          ≡ read args false (Some id) k us (x ∷ xs)
      unfolding read
      wait_reads x xs l e = ap (λ v. read_word args v (Some id) false x k us (λ e w i u. read args e w i u xs)) (sym e)
