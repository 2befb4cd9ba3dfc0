-- What the walk makes of a word before `--`, by what it looks like.
use Rattle.std.proofs.Common.{◌≡◌, ◌∙◌, ◌∷◌, ℕ, Bool, true, false, cond, List, [], drop, length, suc, Option, Some, None, ap, ap₂}
use Rattle.std.specs.Prelude.{encode_utf8, slice_get}
use Rattle.std.specs.Option.{option_map_or}
use Rattle.std.specs.Str.{bytes_eq, chars}
use Rattle.clap.specs.Lexer.{long_of, short_of}
use Rattle.clap.specs.Kinds.{Kinds, or_else}
use Rattle.clap.specs.Walk.{Held, Row, Rule, Step, Text, Waiting, Walk, arg_by_id, arg_by_index, arg_by_long, arg_by_short, finished, has_row, is_empty, is_pending, settled, pushed, to_positional, used, walked, with_default, with_values, at_row, more_values, without, word_met}
use Rattle.clap.specs.Walk as walk
use Rattle.clap.specs.Simple.{Shape}
use Rattle.clap.specs.Faults.{bundle_fault, bundle_step_fault, flag_word_fault, long_fault, other_fault, short_fault, step_fault, flags_fault, turn_fault}
use Rattle.ht_asked.proofs.Looks.{dashes}
use Rattle.ht_asked.proofs.Rows.{shape, still_refused}

module _ (name : Text) (c : List Rule) where
  abbrev s : Shape
  s = shape name c

  module _ (x : Text) (h : Held) (wt : Waiting) (k : ℕ) (met : walk.subcommand_met [] wt x ≡ None) where
    abbrev here : Walk
    here = record { held = h; waiting = wt; position = k; is_trailing = false; stopped = None }

    abbrev met_at : Bool → Option (Text × Option Text) → Held × Step
    met_at b l = cond b (h, walk.trailing k) (walk.long_or_other c wt x l h)

    abbrev turn_at : Bool → Option (Text × Option Text) → Kinds
    turn_at b l = or_else (cond b [] (flag_word_fault c false l x h)) (step_fault s k (met_at b l).0 (met_at b l).1)

    turn_seen : turn_fault s [] here x ≡ turn_at (bytes_eq x dashes) (long_of x)
    turn_seen = ap (λ o. or_else (other_fault s o x h)
        (step_fault s k (walk.subcommand_or_other c o wt k x h).0 (walk.subcommand_or_other c o wt k x h).1)) met

    walk_seen : walked c [] here x ≡ walk.after_step c x here (met_at (bytes_eq x dashes) (long_of x)).0
        (met_at (bytes_eq x dashes) (long_of x)).1
    unfolding walked
    walk_seen = ap (λ o. walk.after_step c x here (walk.subcommand_or_other c o wt k x h).0
        (walk.subcommand_or_other c o wt k x h).1) met

    -- `--` is not refused
    pub turn_end : bytes_eq x dashes ≡ true → turn_fault s [] here x ≡ []
    turn_end e = turn_seen ∙ ap (λ b. turn_at b (long_of x)) e

    -- `--` ends the options, and the walk is else as it was
    pub walk_end : bytes_eq x dashes ≡ true → walked c [] here x
        ≡ record { held = h; waiting = wt; position = k; is_trailing = true; stopped = None }
    walk_end e = walk_seen ∙ ap (λ b. walk.after_step c x here (met_at b (long_of x)).0 (met_at b (long_of x)).1) e

    module _ (no_end : bytes_eq x dashes ≡ false) where
      -- a word with a long name is refused for its option or for the step that it leads to
      pub turn_long : (q : Text × Option Text) → long_of x ≡ Some q
          → turn_fault s [] here x ≡ or_else (long_fault c false (arg_by_long c q.0) q.1 h)
          (step_fault s k (walk.long_word c wt x q.0 q.1 h).0 (walk.long_word c wt x q.0 q.1 h).1)
      turn_long q long = turn_seen ∙ ap₂ turn_at no_end long

      -- a word with a long name leads to the step of its option
      pub walk_long : (q : Text × Option Text) → long_of x ≡ Some q
          → walked c [] here x ≡ walk.after_step c x here (walk.long_word c wt x q.0 q.1 h).0
          (walk.long_word c wt x q.0 q.1 h).1
      walk_long q long = walk_seen ∙ ap₂ (λ b l. walk.after_step c x here (met_at b l).0 (met_at b l).1) no_end long

      module _ (no_long : long_of x ≡ None) where
        turn_other : turn_fault s [] here x
            ≡ or_else (option_map_or (λ flags. bundle_fault c false flags h) (short_of x) [])
            (step_fault s k (walk.short_or_plain c wt x (short_of x) h).0 (walk.short_or_plain c wt x (short_of x) h).1)
        turn_other = turn_seen ∙ ap₂ turn_at no_end no_long

        -- a plain word is refused only for the step that it leads to
        pub turn_plain : short_of x ≡ None → turn_fault s [] here x ≡ step_fault s k (walk.plain_word c wt x h).0
            (walk.plain_word c wt x h).1
        turn_plain no_short = turn_other ∙ ap (λ o. or_else (option_map_or (λ flags. bundle_fault c false flags h) o [])
            (step_fault s k (walk.short_or_plain c wt x o h).0 (walk.short_or_plain c wt x o h).1)) no_short

        -- a plain word leads to the step of one
        pub walk_plain : short_of x ≡ None → walked c [] here x ≡ walk.after_step c x here (walk.plain_word c wt x h).0
            (walk.plain_word c wt x h).1
        walk_plain no_short = walk_seen ∙
            (λ i. walk.after_step c x here (met_at (no_end i) (no_long i)).0 (met_at (no_end i) (no_long i)).1)
            ∙ ap (λ o. walk.after_step c x here (walk.short_or_plain c wt x o h).0 (walk.short_or_plain c wt x o h).1)
            no_short

        -- a word such as `-x` is refused if its flags are
        pub turn_flags : (f : Text) → short_of x ≡ Some f → is_empty (bundle_fault c false f h) ≡ false
            → is_empty (turn_fault s [] here x) ≡ false
        turn_flags f short refused = ap is_empty turn_other ∙ ap
            (λ o. is_empty (or_else (option_map_or (λ flags. bundle_fault c false flags h) o [])
            (step_fault s k (walk.short_or_plain c wt x o h).0 (walk.short_or_plain c wt x o h).1))) short ∙
            still_refused _ _
            refused

  -- no option has a short name
  flags_refused : (no_short : (y : ℕ) → arg_by_short c y ≡ None) (f : Text) (y : ℕ) (k : ℕ) (h : Held)
      → slice_get (chars f) 0 ≡ Some y
      → is_empty (flags_fault c false (suc k) f 0 h) ≡ false
  unfolding flags_fault
  flags_refused no_short f y k h first =
      ap (λ o. is_empty (bundle_step_fault c false o f 0 h (flags_fault c false k))) first
      ∙ ap (λ o. is_empty (short_fault c false o (drop (length (encode_utf8 y)) f) h
      (flags_fault c false k (drop (length (encode_utf8 y)) f) 0))) (no_short y)

  -- flags are refused where no option has a short name
  pub bundle_refused : (no_short : (y : ℕ) → arg_by_short c y ≡ None) (f : Text) (y : ℕ) (h : Held) → h.skip ≡ 0
      → slice_get (chars f) 0 ≡ Some y → is_empty (bundle_fault c false f h) ≡ false
  unfolding chars
  bundle_refused no_short [] y h skip first = cc
  bundle_refused no_short (z ∷ zs) y h skip first =
      ap (λ n. is_empty (flags_fault c false (suc (length zs)) (z ∷ zs) n (record h { skip = 0 }))) skip
      ∙ flags_refused no_short (z ∷ zs) y (length zs) (record h { skip = 0 }) first
