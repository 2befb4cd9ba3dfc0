-- `clap`'s walk over the words of a command with positionals and options of one value is `read`.
use Rattle.std.proofs.Common.{◌≡◌, ◌∙◌, ◌∷◌, true, false, List, [], Option, Some, None, refl, sym, ap}
use Rattle.std.specs.Prelude.{option_and_then}
use Rattle.clap.specs.Walk.{Rule, Text}
use Rattle.clap.specs.Simple.{Shape}
use Rattle.ht_asked.proofs.Uses.{Arguments, Use, add_use, has_use, Looks, looks, looks_by, read, read_option, read_positional, read_word}
use Rattle.ht_asked.proofs.Uses as look
use Rattle.ht_asked.proofs.Looks.{is_end, is_flags, is_long, is_plain, view}
use Rattle.ht_asked.proofs.Rows.{shape}
use Rattle.ht_asked.proofs.States.{settle, IsModel, IsReadable, AreReadable}
use Rattle.ht_asked.proofs.Settle.{finish, ends}
use Rattle.ht_asked.proofs.Idle.{Idle, Waits, idle_ended, reads, idle_end, idle_plain, idle_flags, looks_end, looks_long, looks_other}
use Rattle.ht_asked.proofs.LongWord.{idle_long}
use Rattle.ht_asked.proofs.Waiting.{starved_end, wait_end, wait_long, wait_flags, wait_value, wait_reads}

module _ (name : Text) (c : List Rule) where
  abbrev s : Shape
  s = shape name c

  module _ (args : Arguments) (model : IsModel c args) where
    idle_step : (x : Text) (xs : List Text) → IsReadable x → Idle name c args model xs → Waits name c args model xs
        → Idle name c args model (x ∷ xs)
    idle_step x xs readable later waiting us p k true known = idle_ended name c args model x xs us p k known later
    idle_step x xs readable later waiting us p k false known = elim (view x) [
      | is_end e o ↦ idle_end name c args model x xs us p k known later e
      | is_long e o q long ↦ idle_long name c args model x xs us p k known later waiting e q.0 q.1 long ∙ reads name c
          args model x xs us p k
          (look.names q.0 q.1) (looks_long x q e long)
      | is_flags e o f r g ↦ idle_flags name c args model x xs us p k readable e f r g
      | is_plain e o f g ↦ idle_plain name c args model x xs us p k known later e f g
    ]

    wait_step : (x : Text) (xs : List Text) → IsReadable x → Idle name c args model xs
        → Waits name c args model (x ∷ xs)
    wait_step x xs readable later id us k known = elim (view x) [
      | is_end e o ↦ wait_end name c args model id us k known x xs e ∙ ap (option_and_then (finish name c))
          (wait_reads name c args model id us k known x xs look.ends (looks_end x e))
      | is_long e o q long ↦ wait_long name c args model id us k known x xs e q long ∙ ap
          (option_and_then (finish name c))
          (wait_reads name c args model id us k known x xs (look.names q.0 q.1) (looks_long x q e long))
      | is_flags e o f r g ↦ wait_flags name c args model id us k known x xs readable e f r g ∙ ap
          (option_and_then (finish name c))
          (wait_reads name c args model id us k known x xs look.flags (looks_other x (Some r) e f g))
      | is_plain e o f g ↦ wait_value name c args model id us k known x xs later e f g ∙ ap
          (option_and_then (finish name c))
          (wait_reads name c args model id us k known x xs look.plain (looks_other x None e f g))
    ]

    idle_done : Idle name c args model []
    unfolding read
    idle_done us p k t known = ends name c us p k t known ∙ ap (option_and_then (finish name c))
        (sym (and_then_some (settle p us)))
      where
        and_then_some : (o : Option (List Use)) → option_and_then {U = List Use} (λ u. Some u) o ≡ o
        and_then_some None = refl
        and_then_some (Some u) = refl

    wait_done : Waits name c args model []
    unfolding read
    wait_done id us k known = starved_end name c args model id us k known false

    -- the walk answers to readable words as the reading does, whether an option waits or not
    pub walk_is_read : (ws : List Text) → AreReadable ws → Idle name c args model ws × Waits name c args model ws
    walk_is_read [] readable = (idle_done, wait_done)
    walk_is_read (x ∷ xs) readable =
        let rest = walk_is_read xs readable.1 in
        (idle_step x xs readable.0 rest.0 rest.1, wait_step x xs readable.0 rest.0)
