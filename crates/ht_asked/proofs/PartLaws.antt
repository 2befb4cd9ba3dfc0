-- The words are read part by part: each positional at its place, each option by its name.
use Rattle.std.proofs.Common.{◌≡◌, ◌∙◌, ◌+◌, ◌∷◌, ℕ, Bool, true, false, cond, List, [], map, Option, Some, None, refl, sym, ap, ap₂}
use Rattle.std.specs.Prelude.{option_and_then}
use Rattle.std.specs.Str.{bytes_eq}
use Rattle.clap.specs.Lexer.{long_of, short_of}
use Rattle.clap.specs.Walk.{Text}
use Rattle.ht_asked.specs.Forms.{Part, is_option, option, parts, positional, set, with_option, with_part, with_value}
use Rattle.ht_asked.proofs.Uses.{Arguments, Looks, Use, add_use, looks_by, read, read_option, read_positional, read_word}
use Rattle.ht_asked.proofs.Uses as look
use Rattle.ht_asked.proofs.Looks.{dashes, is_end, is_flags, is_long, is_plain, view}
use Rattle.ht_asked.proofs.PlaceLaws.{add_at, place, placed, placed_positional, placed_option}

module _ (args : Arguments) where
  abbrev next : List Text → Bool → Option Text → ℕ → List Use → Option (List Use)
  next words e w k u = read args e w k u words

  -- after `--`
  to_positional : (ended : Bool) (k : ℕ) (uses : List Use) (word : Text) (words : List Text) (o : Option Text)
      → read_positional o ended word k uses (next words)
      ≡ option_and_then (λ u. read args ended None (k + 1) u words) (add_at o word uses)
  to_positional ended k uses word words None = refl
  to_positional ended k uses word words (Some id) = refl

  ended : (words : List Text) (k : ℕ) (uses : List Use)
      → read args true None k uses words ≡ place args k uses (map positional words)
  unfolding read place
  ended [] k uses = refl
  ended (x ∷ xs) k uses = to_positional true k uses x xs (args.at k)
      ∙ ap (λ f. option_and_then f (add_at (args.at k) x uses)) (λ i u. ended xs (k + 1) u i)

  abbrev Idle : List Text → Type 0
  Idle words = (k : ℕ) (uses : List Use)
      → read args false None k uses words ≡ placed args k uses (parts args.flag None words)

  abbrev Waits : List Text → Type 0
  Waits words = (k : ℕ) (uses : List Use) (name id : Text) → args.option name ≡ Some id
      → read args false (Some id) k uses words ≡ placed args k uses (parts args.flag (Some name) words)

  -- an option that the command lacks
  lacks : (k : ℕ) (uses : List Use) (name value : Text) (o : Option (List Part)) → args.option name ≡ None
      → placed args k uses (with_part (option name value) o) ≡ None
  lacks k uses name value o none = sym (placed_option args k uses name value o)
      ∙ ap (λ a. option_and_then (λ u. placed args k u o) (add_at a value uses)) none

  lacks_waiting : (k : ℕ) (uses : List Use) (name : Text) (words : List Text) → args.option name ≡ None
      → placed args k uses (parts args.flag (Some name) words) ≡ None
  unfolding parts
  lacks_waiting k uses name [] none = refl
  lacks_waiting k uses name (x ∷ xs) none = go (is_option x)
    where
      go : (b : Bool) → placed args k uses (cond b None (with_part (option name x) (parts args.flag None xs))) ≡ None
      go true = refl
      go false = lacks k uses name x (parts args.flag None xs) none

  positional_word : (x : Text) (xs : List Text) (k : ℕ) (uses : List Use) → Idle xs
      → read_positional (args.at k) false x k uses (next xs)
      ≡ placed args k uses (with_part (positional x) (parts args.flag None xs))
  positional_word x xs k uses later = to_positional false k uses x xs (args.at k)
      ∙ ap (λ f. option_and_then f (add_at (args.at k) x uses)) (λ i u. later (k + 1) u i)
      ∙ placed_positional args k uses x (parts args.flag None xs)

  with_use : (name value : Text) (xs : List Text) (k : ℕ) (uses : List Use) → Idle xs → (id : Text)
      → args.option name ≡ Some id
      → option_and_then (λ u. read args false None k u xs) (add_use id value uses)
      ≡ placed args k uses (with_part (option name value) (parts args.flag None xs))
  with_use name value xs k uses later id e =
      ap (λ f. option_and_then f (add_use id value uses)) (λ i u. later k u i)
      ∙ ap (λ o. option_and_then (λ u. placed args k u (parts args.flag None xs)) (add_at o value uses)) (sym e)
      ∙ placed_option args k uses name value (parts args.flag None xs)

  option_word : (flag : Bool) (name : Text) (v : Option Text) (xs : List Text) (k : ℕ) (uses : List Use) → Idle xs
      → Waits xs → (o : Option Text) → args.option name ≡ o
      → read_option flag o v k uses (next xs)
      ≡ placed args k uses (with_value flag name v (λ waiting. parts args.flag waiting xs))
  option_word false name (Some value) xs k uses later waits None e =
      sym (lacks k uses name value (parts args.flag None xs) e)
  option_word false name None xs k uses later waits None e = sym (lacks_waiting k uses name xs e)
  option_word true name (Some value) xs k uses later waits None e = refl
  option_word true name None xs k uses later waits None e = sym (lacks k uses name set (parts args.flag None xs) e)
  option_word false name (Some value) xs k uses later waits (Some id) e = with_use name value xs k uses later id e
  option_word false name None xs k uses later waits (Some id) e = waits k uses name id e
  option_word true name (Some value) xs k uses later waits (Some id) e = refl
  option_word true name None xs k uses later waits (Some id) e = with_use name set xs k uses later id e

  abbrev look_by : Bool → Option (Text × Option Text) → Option Text → Looks
  look_by ends l o = cond ends look.ends (looks_by l o)

  abbrev parts_by : Bool → Bool → Option (Text × Option Text) → Text → List Text → Option (List Part)
  parts_by ends is_one l x xs = cond ends (Some (map positional xs))
      (cond is_one (with_option args.flag l (λ waiting. parts args.flag waiting xs))
      (with_part (positional x) (parts args.flag None xs)))

  abbrev reads_by : Bool → Option (Text × Option Text) → Option Text → Option Text → Text → List Text → ℕ → List Use
      → Option (List Use)
  reads_by ends l o wants x xs k uses = read_word args (look_by ends l o) wants false x k uses (next xs)

  idle_word : (x : Text) (xs : List Text) (k : ℕ) (uses : List Use) → Idle xs → Waits xs
      → reads_by (bytes_eq x dashes) (long_of x) (short_of x) None x xs k uses
      ≡ placed args k uses (parts_by (bytes_eq x dashes) (is_option x) (long_of x) x xs)
  idle_word x xs k uses later waits = elim (view x) [
    | is_end e f ↦
        ap (λ b. reads_by b (long_of x) (short_of x) None x xs k uses) e
        ∙ ended xs k uses
        ∙ sym (ap (λ b. placed args k uses (parts_by b (is_option x) (long_of x) x xs)) e)
    | is_long e f q l ↦
        ap₂ (λ b m. reads_by b m (short_of x) None x xs k uses) e l
        ∙ option_word (args.flag q.0) q.0 q.1 xs k uses later waits (args.option q.0) refl
        ∙ sym (λ i. placed args k uses (parts_by (e i) (f i) (l i) x xs))
    | is_flags e f l g s ↦
        (λ i. reads_by (e i) (l i) (s i) None x xs k uses)
        ∙ sym (λ i. placed args k uses (parts_by (e i) (f i) (l i) x xs))
    | is_plain e f l s ↦
        (λ i. reads_by (e i) (l i) (s i) None x xs k uses)
        ∙ positional_word x xs k uses later
        ∙ sym (λ i. placed args k uses (parts_by (e i) (f i) (l i) x xs))
  ]

  abbrev waiting_parts : Bool → Text → Text → List Text → Option (List Part)
  waiting_parts is_one name x xs = cond is_one None (with_part (option name x) (parts args.flag None xs))

  waiting_word : (x : Text) (xs : List Text) (k : ℕ) (uses : List Use) (name id : Text) → args.option name ≡ Some id
      → Idle xs
      → reads_by (bytes_eq x dashes) (long_of x) (short_of x) (Some id) x xs k uses
      ≡ placed args k uses (waiting_parts (is_option x) name x xs)
  waiting_word x xs k uses name id is later = elim (view x) [
    | is_end e f ↦
        ap (λ b. reads_by b (long_of x) (short_of x) (Some id) x xs k uses) e
        ∙ sym (ap (λ b. placed args k uses (waiting_parts b name x xs)) f)
    | is_long e f q l ↦
        ap₂ (λ b m. reads_by b m (short_of x) (Some id) x xs k uses) e l
        ∙ sym (ap (λ b. placed args k uses (waiting_parts b name x xs)) f)
    | is_flags e f l g s ↦
        (λ i. reads_by (e i) (l i) (s i) (Some id) x xs k uses)
        ∙ sym (ap (λ b. placed args k uses (waiting_parts b name x xs)) f)
    | is_plain e f l s ↦
        (λ i. reads_by (e i) (l i) (s i) (Some id) x xs k uses)
        ∙ ap (λ g. option_and_then g (add_use id x uses)) (λ i u. later k u i)
        ∙ ap (λ o. option_and_then (λ u. placed args k u (parts args.flag None xs)) (add_at o x uses)) (sym is)
        ∙ placed_option args k uses name x (parts args.flag None xs)
        ∙ sym (ap (λ b. placed args k uses (waiting_parts b name x xs)) f)
  ]

  -- the words are read as the uses of their parts, whether an option waits for its value or not
  pub reads_parts : (words : List Text) → Idle words × Waits words
  unfolding read parts place
  reads_parts [] = (λ k uses. refl, λ k uses name id is. refl)
  reads_parts (x ∷ xs) =
      let rest = reads_parts xs in (
        λ k uses. idle_word x xs k uses rest.0 rest.1,
        λ k uses name id is. waiting_word x xs k uses name id is rest.0,
      )
