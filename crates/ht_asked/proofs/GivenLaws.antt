-- What the uses of the parts give to the arguments of a form is what the parts give.
use Rattle.std.proofs.Common.{◌≡◌, ◌∙◌, ◌+◌, ◌∷◌, ◌++◌, ◌||◌, ◌&&◌, ◌==◌, ℕ, Bool, true, false, cond, List, [], map, length, suc, Option, Some, None, refl, sym, ap, arith, ne_eqb, option_map}
use Rattle.std.specs.Prelude.{find, option_and_then, slice_get}
use Rattle.std.specs.Str.{bytes_eq}
use Rattle.std.proofs.Math.Bool.{and-false}
use Rattle.std.proofs.lemmas.List.Folds.{list_any-append}
use Rattle.clap.specs.Walk.{Text}
use Rattle.ht_asked.specs.Forms.{Form, Given, Part, all_differ, given_by, is_among, option, option_texts, options_of, positional, positionals_of, set_text, text_of}
use Rattle.ht_asked.specs.ByClap.{all_of, all_with, given_values}
use Rattle.ht_asked.proofs.Uses.{Use, arguments, place_in}
use Rattle.ht_asked.proofs.Looks.{true_is_false}
use Rattle.ht_asked.proofs.NameLaws.{apart, first_differs, left_false, left_true, not_in_first, others_differ, right_false, right_true, same_name}
use Rattle.ht_asked.proofs.PlaceLaws.{place}
use Rattle.ht_asked.proofs.NewLaws.{AreFree, has_room, names, zipped}
use Rattle.ht_asked.proofs.UseLaws.{Places, are_known, place_is}
use Rattle.ht_asked.proofs.TextLaws.{texts, skip, skip_all, mapped, same_later, one_more, crowded, crowded, crowded, crowded, all_new, all_new}

-- a test, or true, is true
pub or_true : (b : Bool) → (b || true) ≡ true
or_true true = refl
or_true false = refl

module _ (positionals own flags : List Text) where
  abbrev options : List Text
  options = own ++ flags

  -- each positional has its text, where there are as many as names
  texts_are : (ps : List Part) (ids : List Text) → are_known positionals options flags (options_of ps) ≡ true
      → has_room ps ids ≡ true → all_differ (ids ++ options) ≡ true
      → all_of (texts ids (zipped ps ids))
      ≡ cond (length (positionals_of ps) == length ids) (Some (positionals_of ps)) None
  texts_are [] [] known room differ = refl
  texts_are [] (id ∷ ids) known room differ =
      sym (ap (λ b. cond b (Some []) None) (ne_eqb 0 (suc (length ids)) (λ h. omega (arith, h))))
  texts_are (option name value ∷ ps) ids known room differ =
      ap all_of (skip_all name value (zipped ps ids) ids (apart ids options name differ
      (left_true _ (are_known positionals options flags (options_of ps)) known)))
      ∙ texts_are ps ids (right_true (is_among name options) _ known) room differ
  texts_are (positional word ∷ ps) [] known room differ = absurd (true_is_false (sym room))
  texts_are (positional word ∷ ps) (id ∷ ids) known room differ =
      (λ i. all_with (option_map (λ (u : Use). u.1)
      (cond (same_name id i) (Some (id, word)) (find (λ u. bytes_eq u.0 id) (zipped ps ids))))
      (all_of (skip_all id word (zipped ps ids) ids
      (not_in_first id ids options (first_differs id (ids ++ options) differ)) i)))
      ∙ ap (option_map (λ vs. word ∷ vs)) (texts_are ps ids known room (others_differ id (ids ++ options) differ))
      ∙ mapped (λ vs. word ∷ vs) (length (positionals_of ps) == length ids) (positionals_of ps)
      ∙ sym (ap (λ b. cond b (Some (word ∷ positionals_of ps)) None)
      (one_more (length (positionals_of ps)) (length ids)))

  option_text : (name : Text) (ps : List Part) (ids : List Text) → is_among name ids ≡ false
      → text_of name (zipped ps ids) ≡ text_of name (options_of ps)
  option_text name [] ids other = refl
  option_text name (option n v ∷ ps) ids other =
      same_later (bytes_eq n name) (n, v) _ _ (option_text name ps ids other)
  option_text name (positional word ∷ ps) [] other = option_text name ps [] other
  option_text name (positional word ∷ ps) (id ∷ ids) other =
      skip name id word (zipped ps ids) (left_false _ (is_among name ids) other)
      ∙ option_text name ps ids (right_false (bytes_eq id name) _ other)

  same_texts : {X : Type 0} (f : Option Text → X) (ps : List Part) → all_differ (positionals ++ options) ≡ true
      → (ns : List Text) → ((n : Text) → is_among n ns ≡ true → is_among n options ≡ true)
      → map (λ n. f (text_of n (zipped ps positionals))) ns ≡ map (λ n. f (text_of n (options_of ps))) ns
  same_texts f ps differ [] known = refl
  same_texts f ps differ (n ∷ ns) known = λ i.
      f (option_text n ps positionals
      (apart positionals options n differ (known n (ap (λ b. b || is_among n ns) (same_name n)))) i)
      ∷ same_texts f ps differ ns (λ m e. known m (ap (λ b. bytes_eq n m || b) e ∙ or_true (bytes_eq n m))) i

  own_known : (n : Text) → is_among n own ≡ true → is_among n options ≡ true
  own_known n e = list_any-append (λ o. bytes_eq o n) own flags ∙ ap (λ b. b || is_among n flags) e

  flag_known : (n : Text) → is_among n flags ≡ true → is_among n options ≡ true
  flag_known n e = list_any-append (λ o. bytes_eq o n) own flags ∙ ap (λ b. is_among n own || b) e
      ∙ or_true (is_among n own)

  -- the positionals stand at their places
  places_from : (ids : List Text) (k : ℕ) → ((j : ℕ) → place_in positionals (k + j) ≡ slice_get ids j)
      → Places positionals options flags k ids
  places_from [] k at = ap (place_in positionals) {y = k + 0} (omega arith) ∙ at 0
  places_from (id ∷ ids) k at = (
    ap (place_in positionals) {y = k + 0} (omega arith) ∙ at 0,
    places_from ids (k + 1) (λ j. ap (place_in positionals) {y = k + suc j} (omega arith) ∙ at (suc j)),
  )

  all_places : Places positionals options flags 1 positionals
  all_places = places_from positionals 1 (λ j. ap (place_in positionals) {y = suc j} (omega arith))

  free_at_first : (ids : List Text) → AreFree ids []
  free_at_first [] = tt
  free_at_first (id ∷ ids) = (refl, free_at_first ids)

  abbrev form : Form
  form = record { positionals = positionals; options = own; flags = flags }

  abbrev given_uses : List Use → Option Given
  given_uses us = given_values form (λ id. text_of id us)

  abbrev told : List Text → List (Option Text) → Given
  told texts values = record { positionals = texts; options = values }

  -- what the parts say of the options and the flags
  abbrev said_by : List Use → List (Option Text)
  said_by os = option_texts form (λ name. text_of name os)

  same_said : (ps : List Part) → all_differ (positionals ++ options) ≡ true
      → said_by (zipped ps positionals) ≡ said_by (options_of ps)
  same_said ps differ = λ i. same_texts {X = Option Text} (λ o. o) ps differ own own_known i
      ++ same_texts set_text ps differ flags flag_known i

  -- the uses of the parts give to a form of different names what the parts give
  pub given_is : (ps : List Part) → all_differ (positionals ++ options) ≡ true
      → option_and_then given_uses (place (arguments positionals options flags) 1 [] ps) ≡ given_by form ps
  given_is ps differ =
      ap (option_and_then given_uses)
      (place_is positionals options flags ps positionals 1 [] all_places (free_at_first positionals) differ)
      ∙ ap (λ b. option_and_then given_uses (cond (are_known positionals options flags (options_of ps)
      && ((b && all_differ (names (options_of ps))) && has_room ps positionals)) (Some (zipped ps positionals)) None))
      (all_new (options_of ps))
      ∙ go (are_known positionals options flags (options_of ps)) (all_differ (names (options_of ps)))
      (has_room ps positionals) refl refl
    where
      go : (known new room : Bool) → are_known positionals options flags (options_of ps) ≡ known
          → has_room ps positionals ≡ room
          → option_and_then given_uses (cond (known && (new && room)) (Some (zipped ps positionals)) None)
          ≡ cond ((length (positionals_of ps) == length positionals) && (known && new))
          (Some (told (positionals_of ps) (said_by (options_of ps)))) None
      go false new room e f = sym
          (ap (λ b. cond b (Some (told (positionals_of ps) (said_by (options_of ps)))) None)
          (and-false (length (positionals_of ps) == length positionals)))
      go true false room e f = sym
          (ap (λ b. cond b (Some (told (positionals_of ps) (said_by (options_of ps)))) None)
          (and-false (length (positionals_of ps) == length positionals)))
      go true true false e f =
          sym (ap (λ b. cond (b && true) (Some (told (positionals_of ps) (said_by (options_of ps)))) None)
          (crowded ps positionals f))
      go true true true e f =
          (λ i. option_map (λ ts. told ts (same_said ps differ i))
          (texts_are ps positionals e f differ i))
          ∙ mapped (λ ts. told ts (said_by (options_of ps)))
          (length (positionals_of ps) == length positionals) (positionals_of ps)
          ∙ sym (ap (λ b. cond b (Some (told (positionals_of ps) (said_by (options_of ps)))) None)
          (and_true (length (positionals_of ps) == length positionals)))
        where
          and_true : (b : Bool) → (b && true) ≡ b
          and_true true = refl
          and_true false = refl
