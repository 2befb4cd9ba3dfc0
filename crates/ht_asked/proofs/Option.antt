-- An option, with its value in the word or in the next: what comes of each.
use Rattle.std.proofs.Common.{◌≡◌, ◌∙◌, ◌++◌, ◌∷◌, ℕ, true, false, cond, List, [], Option, Some, None, refl, sym, ap, ap₂}
use Rattle.std.specs.Prelude.{option_and_then}
use Rattle.std.specs.Str.{bytes_eq}
use Rattle.clap.specs.Lexer.{long_of}
use Rattle.clap.specs.Kinds.{Kinds, or_else}
use Rattle.clap.specs.Walk.{Held, Row, Rule, Step, Text, Waiting, Walk, arg_by_id, arg_by_index, arg_by_long, arg_by_short, finished, has_row, is_empty, is_pending, settled, pushed, to_positional, used, walked, with_default, with_values, at_row, more_values, without, word_met}
use Rattle.clap.specs.Walk as walk
use Rattle.clap.specs.Simple.{Shape}
use Rattle.clap.specs.Faults.{long_fault, step_fault, settle_fault, turn_fault, use_fault}
use Rattle.ht_asked.proofs.Uses.{Arguments, Use, add_use, has_use, read, read_option}
use Rattle.ht_asked.specs.Forms.{set}
use Rattle.ht_asked.proofs.Rows.{Param, toggle, word, shape, rows, has_row-rows, still_refused, fault_by, flag_used_is, used_is}
use Rattle.ht_asked.proofs.States.{idle_at, settle, IsKnown, IsModel}
use Rattle.ht_asked.proofs.Settle.{held_at, answer, passes, fails, finish}
use Rattle.ht_asked.proofs.Word.{turn_long, walk_long}
use Rattle.ht_asked.proofs.Positional.{next, and_then_none}
use Rattle.ht_asked.proofs.Idle.{Idle, Waits}

module _ (name : Text) (c : List Rule) where
  abbrev s : Shape
  s = shape name c

  module _ (args : Arguments) (model : IsModel c args) where
    module _ (x : Text) (xs : List Text) (us : List Use) (p : Option Use) (k : ℕ)
        (no_end : bytes_eq x (45 ∷ 45 ∷ []) ≡ false) (n : Text) (v : Option Text) (long : long_of x ≡ Some (n, v)) where
      abbrev turn_by : Option Rule → Kinds
      turn_by f = or_else (long_fault c false f v (held_at name c us p))
          (step_fault s k (walk.after_flag c walk.idle x (walk.long_met c f v (held_at name c us p)).0
          (walk.long_met c f v (held_at name c us p)).1).0
          (walk.after_flag c walk.idle x (walk.long_met c f v (held_at name c us p)).0
          (walk.long_met c f v (held_at name c us p)).1).1)

      abbrev walk_by : Option Rule → Walk
      walk_by f = walk.after_step c x (idle_at us p k false)
          (walk.after_flag c walk.idle x (walk.long_met c f v (held_at name c us p)).0
          (walk.long_met c f v (held_at name c us p)).1).0
          (walk.after_flag c walk.idle x (walk.long_met c f v (held_at name c us p)).0
          (walk.long_met c f v (held_at name c us p)).1).1

      option_turn : (f : Option Rule) → arg_by_long c n ≡ f → turn_fault s [] (idle_at us p k false) x ≡ turn_by f
      option_turn f is = turn_long name c x (held_at name c us p) walk.idle k refl no_end (n, v) long ∙ ap turn_by is

      option_walk : (f : Option Rule) → arg_by_long c n ≡ f → walked c [] (idle_at us p k false) x ≡ walk_by f
      option_walk f is = walk_long name c x (held_at name c us p) walk.idle k refl no_end (n, v) long ∙ ap walk_by is

      abbrev pub Reads : Type 0
      Reads = answer name c (idle_at us p k false) (x ∷ xs)
          ≡ option_and_then (finish name c)
          (option_and_then (λ u. read_option (args.flag n) (args.option n) v k u (next name c args x xs us p k false))
          (settle p us))

      -- an option that the command lacks is answered as in the reading
      pub unknown : arg_by_long c n ≡ None → args.option n ≡ None → Reads
      unknown is at = fails name c (idle_at us p k false) x xs (ap is_empty (option_turn None is))
          ∙ sym (ap (λ o. option_and_then (finish name c)
          (option_and_then (λ u. read_option (args.flag n) o v k u (next name c args x xs us p k false))
          (settle p us))) at ∙ ap
          (option_and_then (finish name c)) (and_then_none (settle p us)))

    module _ (x : Text) (xs : List Text) (us : List Use) (p : Option Use) (k : ℕ)
        (no_end : bytes_eq x (45 ∷ 45 ∷ []) ≡ false) (n : Text) (a : Param)
        (found : arg_by_long c n ≡ Some (word a)) (at : args.option n ≡ Some a.id) (valued : args.flag n ≡ false) where
      -- `--name=value`
      module _ (y : Text) (long : long_of x ≡ Some (n, Some y)) where
        -- `--name=value` is answered as in the reading where the pending use is refused
        pub refused : settle p us ≡ None → is_empty (settle_fault c false (held_at name c us p)) ≡ false
            → Reads x xs us p k no_end n (Some y) long
        refused none fault =
            fails name c (idle_at us p k false) x xs
            (ap is_empty (option_turn x xs us p k no_end n (Some y) long (Some (word a)) found) ∙ still_refused
            (or_else (settle_fault c false (held_at name c us p)) _) _
            (still_refused (settle_fault c false (held_at name c us p)) _ fault))
            ∙ sym (ap (λ o. option_and_then (finish name c)
            (option_and_then (λ u. read_option (args.flag n) (args.option n) (Some y) k u
            (next name c args x xs us p k false)) o))
            none)

        module _ (after : List Use) (some : settle p us ≡ Some after)
            (none : settle_fault c false (held_at name c us p) ≡ [])
            (same : (settled c (held_at name c us p)).rows ≡ rows after) where
          turn_is : turn_fault s [] (idle_at us p k false) x ≡ or_else (fault_by (has_use a.id after)) []
          turn_is = option_turn x xs us p k no_end n (Some y) long (Some (word a)) found
              ∙ ap₂ (λ f rs. or_else (or_else f (use_fault false (word a) (y ∷ []) rs)) []) none same
              ∙ ap (λ b. or_else (fault_by b) []) (has_row-rows a.id after)

          right : option_and_then (finish name c)
              (option_and_then (λ u. read args false None k u xs) (add_use a.id y after))
              ≡ option_and_then (finish name c)
              (option_and_then (λ u. read_option (args.flag n) (args.option n) (Some y) k u
              (next name c args x xs us p k false)) (settle p us))
          right = sym (λ i. option_and_then (finish name c)
              (option_and_then (λ u. read_option (valued i) (at i) (Some y) k u (next name c args x xs us p k false))
              (some i)))

          -- `--name=value` is answered as in the reading where the option has a use already
          pub repeated : has_use a.id after ≡ true → Reads x xs us p k no_end n (Some y) long
          repeated e = fails name c (idle_at us p k false) x xs
              (ap is_empty (turn_is ∙ ap (λ b. or_else (fault_by b) []) e))
              ∙ ap (λ b. option_and_then (finish name c)
              (option_and_then (λ u. read args false None k u xs) (cond b None (Some (after ++ (a.id, y) ∷ [])))))
              (sym e) ∙ right

          -- the first use of an option as `--name=value` is answered as in the reading, if the words after it are so
          pub taken : has_use a.id after ≡ false → Idle name c args model xs → Reads x xs us p k no_end n (Some y) long
          taken e later = passes name c (idle_at us p k false) x xs (turn_is ∙ ap (λ b. or_else (fault_by b) []) e)
              ∙ ap (λ w. answer name c w xs) (option_walk x xs us p k no_end n (Some y) long (Some (word a)) found
              ∙ ap (λ rs. record {
                held = record { rows = rs; pending = None; skip = 0 };
                waiting = walk.idle;
                position = k;
                is_trailing = false;
                stopped = None;
              })
              (ap (used (word a) (y ∷ [])) same ∙ used_is a y after e))
              ∙ later (after ++ (a.id, y) ∷ []) None k false tt
              ∙ ap (λ b. option_and_then (finish name c)
              (option_and_then (λ u. read args false None k u xs) (cond b None (Some (after ++ (a.id, y) ∷ [])))))
              (sym e) ∙ right

      -- `--name`, whose value comes next
      module _ (long : long_of x ≡ Some (n, None)) where
        -- `--name` is answered as in the reading where the pending use is refused
        pub late_refused : settle p us ≡ None → is_empty (settle_fault c false (held_at name c us p)) ≡ false
            → Reads x xs us p k no_end n None long
        late_refused none fault =
            fails name c (idle_at us p k false) x xs
            (ap is_empty (option_turn x xs us p k no_end n None long (Some (word a)) found) ∙ still_refused
            (settle_fault c false (held_at name c us p)) [] fault)
            ∙ sym (ap (λ o. option_and_then (finish name c)
            (option_and_then (λ u. read_option (args.flag n) (args.option n) None k u
            (next name c args x xs us p k false)) o)) none)

        -- `--name`, whose value comes next, is answered as in the reading, if the words after it are so
        pub waits : (after : List Use) → settle p us ≡ Some after → settle_fault c false (held_at name c us p) ≡ []
            → (settled c (held_at name c us p)).rows ≡ rows after → IsKnown c a.id → Waits name c args model xs
            → Reads x xs us p k no_end n None long
        waits after some none same known later =
            passes name c (idle_at us p k false) x xs
            (option_turn x xs us p k no_end n None long (Some (word a)) found ∙ ap (λ f. or_else f []) none)
            ∙ ap (λ w. answer name c w xs) (option_walk x xs us p k no_end n None long (Some (word a)) found
            ∙ ap (λ rs. record {
              held = record { rows = rs; pending = Some (a.id, []); skip = 0 };
              waiting = walk.option a.id;
              position = k;
              is_trailing = false;
              stopped = None;
            }) same)
            ∙ later a.id after k known
            ∙ sym (λ i. option_and_then (finish name c)
            (option_and_then (λ u. read_option (valued i) (at i) None k u (next name c args x xs us p k false))
            (some i)))

    module _ (x : Text) (xs : List Text) (us : List Use) (p : Option Use) (k : ℕ)
        (no_end : bytes_eq x (45 ∷ 45 ∷ []) ≡ false) (n id : Text)
        (found : arg_by_long c n ≡ Some (toggle id)) (at : args.option n ≡ Some id) (flag : args.flag n ≡ true) where
      -- a flag with a value is answered as in the reading
      pub flag_with_value : (y : Text) (long : long_of x ≡ Some (n, Some y)) → Reads x xs us p k no_end n (Some y) long
      flag_with_value y long =
          fails name c (idle_at us p k false) x xs
          (ap is_empty (option_turn x xs us p k no_end n (Some y) long (Some (toggle id)) found))
          ∙ sym ((λ i. option_and_then (finish name c)
          (option_and_then (λ u. read_option (flag i) (at i) (Some y) k u (next name c args x xs us p k false))
          (settle p us))) ∙ ap (option_and_then (finish name c)) (and_then_none (settle p us)))

      -- a flag alone
      module _ (long : long_of x ≡ Some (n, None)) where
        -- a flag is answered as in the reading where the pending use is refused
        pub flag_refused : settle p us ≡ None → is_empty (settle_fault c false (held_at name c us p)) ≡ false
            → Reads x xs us p k no_end n None long
        flag_refused none fault =
            fails name c (idle_at us p k false) x xs
            (ap is_empty (option_turn x xs us p k no_end n None long (Some (toggle id)) found) ∙ still_refused
            (or_else (settle_fault c false (held_at name c us p)) _) _
            (still_refused (settle_fault c false (held_at name c us p)) _ fault))
            ∙ sym (ap (λ o. option_and_then (finish name c)
            (option_and_then (λ u. read_option (args.flag n) (args.option n) None k u
            (next name c args x xs us p k false)) o)) none)

        module _ (after : List Use) (some : settle p us ≡ Some after)
            (none : settle_fault c false (held_at name c us p) ≡ [])
            (same : (settled c (held_at name c us p)).rows ≡ rows after) where
          flag_turn : turn_fault s [] (idle_at us p k false) x ≡ or_else (fault_by (has_use id after)) []
          flag_turn = option_turn x xs us p k no_end n None long (Some (toggle id)) found
              ∙ ap₂ (λ f rs. or_else (or_else f (use_fault false (toggle id) [] rs)) []) none same
              ∙ ap (λ b. or_else (fault_by b) []) (has_row-rows id after)

          flag_right : option_and_then (finish name c)
              (option_and_then (λ u. read args false None k u xs) (add_use id set after))
              ≡ option_and_then (finish name c)
              (option_and_then (λ u. read_option (args.flag n) (args.option n) None k u
              (next name c args x xs us p k false)) (settle p us))
          flag_right = sym (λ i. option_and_then (finish name c)
              (option_and_then (λ u. read_option (flag i) (at i) None k u (next name c args x xs us p k false))
              (some i)))

          -- a flag is answered as in the reading where it has a use already
          pub flag_repeated : has_use id after ≡ true → Reads x xs us p k no_end n None long
          flag_repeated e = fails name c (idle_at us p k false) x xs
              (ap is_empty (flag_turn ∙ ap (λ b. or_else (fault_by b) []) e))
              ∙ ap (λ b. option_and_then (finish name c)
              (option_and_then (λ u. read args false None k u xs) (cond b None (Some (after ++ (id, set) ∷ [])))))
              (sym e) ∙ flag_right

          -- the first use of a flag is answered as in the reading, if the words after it are so
          pub flag_taken : has_use id after ≡ false → Idle name c args model xs → Reads x xs us p k no_end n None long
          flag_taken e later =
              passes name c (idle_at us p k false) x xs (flag_turn ∙ ap (λ b. or_else (fault_by b) []) e)
              ∙ ap (λ w. answer name c w xs) (option_walk x xs us p k no_end n None long (Some (toggle id)) found
              ∙ ap (λ rs. record {
                held = record { rows = rs; pending = None; skip = 0 };
                waiting = walk.idle;
                position = k;
                is_trailing = false;
                stopped = None;
              })
              (ap (used (toggle id) []) same ∙ flag_used_is id after e))
              ∙ later (after ++ (id, set) ∷ []) None k false tt
              ∙ ap (λ b. option_and_then (finish name c)
              (option_and_then (λ u. read args false None k u xs) (cond b None (Some (after ++ (id, set) ∷ [])))))
              (sym e) ∙ flag_right
