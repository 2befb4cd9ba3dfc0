-- A word such as `--name` or `--name=value`, where no option waits.
use Rattle.std.proofs.Common.{◌≡◌, ◌∷◌, ℕ, Bool, true, false, List, [], inl, inr, Option, Some, None, refl}
use Rattle.std.specs.Str.{bytes_eq}
use Rattle.clap.specs.Lexer.{long_of}
use Rattle.clap.specs.Walk.{Rule, Text, arg_by_long, settled}
use Rattle.clap.specs.Faults.{settle_fault}
use Rattle.ht_asked.proofs.Uses.{Arguments, Use, has_use}
use Rattle.ht_asked.proofs.Rows.{Param, toggle, word, rows}
use Rattle.ht_asked.proofs.States.{settle, IsKnown, IsKnownUse, IsModel, no_long, an_option, a_flag}
use Rattle.ht_asked.proofs.Settle.{held_at, settles}
use Rattle.ht_asked.proofs.Idle.{Idle, Waits}
use Rattle.ht_asked.proofs.Option.{Reads, unknown, refused, repeated, taken, late_refused, waits}
use Rattle.ht_asked.proofs.Option.{flag_refused, flag_repeated, flag_taken, flag_with_value}

module _ (name : Text) (c : List Rule) where
  module _ (args : Arguments) (model : IsModel c args) where
    -- the walk answers to `--name` and `--name=value` as the reading does, if it does so to the words after it
    pub idle_long : (x : Text) (xs : List Text) (us : List Use) (p : Option Use) (k : ℕ) → IsKnownUse c p
        → Idle name c args model xs
        → Waits name c args model xs
        → (no_end : bytes_eq x (45 ∷ 45 ∷ []) ≡ false) (n : Text) (v : Option Text) (long : long_of x ≡ Some (n, v))
        → Reads name c args model x xs us p k no_end n v long
    idle_long x xs us p k known later waiting no_end n v long = elim (model.option n) [
      | no_long found at ↦ unknown name c args model x xs us p k no_end n v long found at
      | an_option a found at known_now valued ↦ by_value v long a found at valued known_now
      | a_flag id found at flag ↦ by_flag v long id found at flag
    ]
      where
        by_taken : (y : Text) (long : long_of x ≡ Some (n, Some y)) (a : Param)
            (found : arg_by_long c n ≡ Some (word a)) (at : args.option n ≡ Some a.id) (valued : args.flag n ≡ false)
            (after : List Use) → settle p us ≡ Some after → settle_fault c false (held_at name c us p) ≡ []
            → (settled c (held_at name c us p)).rows ≡ rows after
            → (b : Bool) → has_use a.id after ≡ b → Reads name c args model x xs us p k no_end n (Some y) long
        by_taken y long a found at valued after some none same true e =
            repeated name c args model x xs us p k no_end n a found at valued y long after some none same e
        by_taken y long a found at valued after some none same false e =
            taken name c args model x xs us p k no_end n a found at valued y long after some none same e later

        by_value : (v : Option Text) (long : long_of x ≡ Some (n, v)) (a : Param) → arg_by_long c n ≡ Some (word a)
            → args.option n ≡ Some a.id → args.flag n ≡ false → IsKnown c a.id
            → Reads name c args model x xs us p k no_end n v long
        by_value (Some y) long a found at valued known_now = elim (settles name c p us known) [
          | inl w ↦ refused name c args model x xs us p k no_end n a found at valued y long w.0 w.1
          | inr w ↦ by_taken y long a found at valued w.0 w.1 w.2 w.3 (has_use a.id w.0) refl
        ]
        by_value None long a found at valued known_now = elim (settles name c p us known) [
          | inl w ↦ late_refused name c args model x xs us p k no_end n a found at valued long w.0 w.1
          | inr w ↦ waits name c args model x xs us p k no_end n a found at valued long w.0 w.1 w.2 w.3 known_now
              waiting
        ]

        flag_by : (long : long_of x ≡ Some (n, None)) (id : Text) (found : arg_by_long c n ≡ Some (toggle id))
            (at : args.option n ≡ Some id) (flag : args.flag n ≡ true)
            (after : List Use) → settle p us ≡ Some after → settle_fault c false (held_at name c us p) ≡ []
            → (settled c (held_at name c us p)).rows ≡ rows after
            → (b : Bool) → has_use id after ≡ b → Reads name c args model x xs us p k no_end n None long
        flag_by long id found at flag after some none same true e =
            flag_repeated name c args model x xs us p k no_end n id found at flag long after some none same e
        flag_by long id found at flag after some none same false e =
            flag_taken name c args model x xs us p k no_end n id found at flag long after some none same e later

        by_flag : (v : Option Text) (long : long_of x ≡ Some (n, v)) (id : Text)
            → arg_by_long c n ≡ Some (toggle id) → args.option n ≡ Some id → args.flag n ≡ true
            → Reads name c args model x xs us p k no_end n v long
        by_flag (Some y) long id found at flag =
            flag_with_value name c args model x xs us p k no_end n id found at flag y long
        by_flag None long id found at flag = elim (settles name c p us known) [
          | inl w ↦ flag_refused name c args model x xs us p k no_end n id found at flag long w.0 w.1
          | inr w ↦ flag_by long id found at flag w.0 w.1 w.2 w.3 (has_use id w.0) refl
        ]
