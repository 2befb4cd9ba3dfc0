-- A word that no option waits for: a positional, `--`, or what is refused.
use Rattle.std.proofs.Common.{◌≡◌, ◌∙◌, ◌+◌, ◌∷◌, ℕ, Bool, true, false, cond, List, [], inl, inr, Option, Some, None, refl, sym, ap, ap₂}
use Rattle.std.specs.Prelude.{option_and_then}
use Rattle.std.specs.Option.{option_map_or}
use Rattle.std.specs.Str.{bytes_eq}
use Rattle.clap.specs.Lexer.{long_of, short_of}
use Rattle.clap.specs.Walk.{Held, Row, Rule, Step, Text, Waiting, Walk, arg_by_id, arg_by_index, arg_by_long, arg_by_short, finished, has_row, is_empty, is_pending, settled, pushed, to_positional, used, walked, with_default, with_values, at_row, more_values, without, word_met}
use Rattle.clap.specs.Walk as walk
use Rattle.clap.specs.Simple.{Shape}
use Rattle.clap.specs.Faults.{positional_fault, stray_fault, turn_fault}
use Rattle.ht_asked.proofs.Uses.{Arguments, Use, add_use, has_use, Looks, looks, looks_by, read, read_option, read_positional, read_word}
use Rattle.ht_asked.proofs.Uses as look
use Rattle.ht_asked.proofs.Looks.{dashes}
use Rattle.ht_asked.proofs.Rows.{shape}
use Rattle.ht_asked.proofs.States.{idle_at, waits_at, settle, IsKnown, IsKnownUse, IsModel, IsReadable}
use Rattle.ht_asked.proofs.Settle.{held_at, answer, passes, fails, settles, finish}
use Rattle.ht_asked.proofs.Word.{turn_end, walk_end, turn_plain, walk_plain, turn_flags, bundle_refused}
use Rattle.ht_asked.proofs.Positional.{next, Goes, none_goes, stays, goes, and_then_none}

-- `--` looks like the end of the options
pub looks_end : (x : Text) → bytes_eq x dashes ≡ true → looks false x ≡ look.ends
looks_end x e = ap (λ b. cond b look.ends (looks_by (long_of x) (short_of x))) e

-- a word with a long name, other than `--`, looks like an option of this name
pub looks_long : (x : Text) (q : Text × Option Text) → bytes_eq x dashes ≡ false → long_of x ≡ Some q
    → looks false x ≡ look.names q.0 q.1
looks_long x q e f = ap₂ (λ b l. cond b look.ends (looks_by l (short_of x))) e f

-- a word without a long name, other than `--`, looks like flags if it has a short name, else plain
pub looks_other : (x : Text) (o : Option Text) → bytes_eq x dashes ≡ false → long_of x ≡ None → short_of x ≡ o
    → looks false x ≡ looks_by None o
looks_other x o e f g = λ i. cond (e i) look.ends (looks_by (f i) (g i))

module _ (name : Text) (c : List Rule) where
  abbrev s : Shape
  s = shape name c

  module _ (args : Arguments) (model : IsModel c args) where
    abbrev pub Idle : List Text → Type 0
    Idle ws = (us : List Use) (p : Option Use) (k : ℕ) (t : Bool) → IsKnownUse c p
        → answer name c (idle_at us p k t) ws
        ≡ option_and_then (finish name c) (option_and_then (λ u. read args t None k u ws) (settle p us))

    abbrev pub Waits : List Text → Type 0
    Waits ws = (id : Text) (us : List Use) (k : ℕ) → IsKnown c id → answer name c (waits_at id us k false) ws
        ≡ option_and_then (finish name c) (read args false (Some id) k us ws)

    -- a plain word, in either state of `--`
    positional : (x : Text) (xs : List Text) (us : List Use) (p : Option Use) (k : ℕ) (t : Bool) → IsKnownUse c p
        → Idle xs
        → turn_fault s [] (idle_at us p k t) x ≡ option_map_or (λ a. positional_fault c false a (held_at name c us p))
        (arg_by_index c k) (stray_fault s)
        → walked c [] (idle_at us p k t) x ≡ to_positional c (arg_by_index c k) x (idle_at us p k t)
        (held_at name c us p)
        → Goes name c args x xs us p k t
    positional x xs us p k t known later turn step = elim (model.at k) [
      | inl w ↦ none_goes name c args x xs us p k t turn step w.0 w.1
      | inr w ↦ elim (settles name c p us known) [
        | inl v ↦ stays name c args x xs us p k t turn step w.0 w.1 v.0 v.1
        | inr v ↦ goes name c args x xs us p k t turn step w.0 v.0 w.1 w.2 (model.fits k w.0.id w.2) v.1 v.2 v.3
            (later v.0 (Some (w.0.id, x)) (k + 1) t w.3)
      ]
    ]

    -- after `--`, the walk answers to a word as the reading does, if it does so to the words after it
    pub idle_ended : (x : Text) (xs : List Text) (us : List Use) (p : Option Use) (k : ℕ) → IsKnownUse c p → Idle xs
        → answer name c (idle_at us p k true) (x ∷ xs)
        ≡ option_and_then (finish name c) (option_and_then (λ u. read args true None k u (x ∷ xs)) (settle p us))
    unfolding walked read
    idle_ended x xs us p k known later = positional x xs us p k true known later refl refl

    -- what the reading makes of a word
    pub reads : (x : Text) (xs : List Text) (us : List Use) (p : Option Use) (k : ℕ) (l : Looks) → looks false x ≡ l
        → option_and_then (finish name c)
        (option_and_then (λ u. read_word args l None false x k u (next name c args x xs us p k false)) (settle p us))
        ≡ option_and_then (finish name c) (option_and_then (λ u. read args false None k u (x ∷ xs)) (settle p us))
    unfolding read
    reads x xs us p k l e = ap
        (λ v. option_and_then (finish name c)
        (option_and_then (λ u. read_word args v None false x k u (next name c args x xs us p k false)) (settle p us)))
        (sym e)

    -- the walk answers to `--` as the reading does, if it does so to the words after it
    pub idle_end : (x : Text) (xs : List Text) (us : List Use) (p : Option Use) (k : ℕ) → IsKnownUse c p → Idle xs
        → bytes_eq x dashes ≡ true
        → answer name c (idle_at us p k false) (x ∷ xs)
        ≡ option_and_then (finish name c) (option_and_then (λ u. read args false None k u (x ∷ xs)) (settle p us))
    idle_end x xs us p k known later e =
        passes name c (idle_at us p k false) x xs (turn_end name c x (held_at name c us p) walk.idle k refl e)
        ∙ ap (λ w. answer name c w xs) (walk_end name c x (held_at name c us p) walk.idle k refl e)
        ∙ later us p k true known ∙ reads x xs us p k look.ends (looks_end x e)

    -- the walk answers to a plain word as the reading does, if it does so to the words after it
    pub idle_plain : (x : Text) (xs : List Text) (us : List Use) (p : Option Use) (k : ℕ) → IsKnownUse c p → Idle xs
        → bytes_eq x dashes ≡ false → long_of x ≡ None → short_of x ≡ None
        → answer name c (idle_at us p k false) (x ∷ xs)
        ≡ option_and_then (finish name c) (option_and_then (λ u. read args false None k u (x ∷ xs)) (settle p us))
    idle_plain x xs us p k known later e f g =
        positional x xs us p k false known later (turn_plain name c x (held_at name c us p) walk.idle k refl e f g)
        (walk_plain name c x (held_at name c us p) walk.idle k refl e f g)
        ∙ reads x xs us p k look.plain (looks_other x None e f g)

    -- the walk answers to a word such as `-x` as the reading does, whatever comes after it
    pub idle_flags : (x : Text) (xs : List Text) (us : List Use) (p : Option Use) (k : ℕ) → IsReadable x
        → bytes_eq x dashes ≡ false → long_of x ≡ None → (r : Text) → short_of x ≡ Some r
        → answer name c (idle_at us p k false) (x ∷ xs)
        ≡ option_and_then (finish name c) (option_and_then (λ u. read args false None k u (x ∷ xs)) (settle p us))
    idle_flags x xs us p k readable e f r g =
        let first = readable r g in
        fails name c (idle_at us p k false) x xs
        (turn_flags name c x (held_at name c us p) walk.idle k refl e f r g
        (bundle_refused name c model.short r first.0 (held_at name c us p) refl first.1))
        ∙ sym (ap (option_and_then (finish name c)) (and_then_none (settle p us))) ∙ reads x xs us p k look.flags
        (looks_other x (Some r) e f g)
