-- Parts become uses: each argument has at most one, and the options are the form's own.
use Rattle.std.proofs.Common.{◌≡◌, ◌∙◌, ◌+◌, ◌∷◌, ◌++◌, ◌||◌, ◌&&◌, ℕ, Bool, true, false, not, cond, List, [], Option, Some, None, refl, sym, ap, append-nil, append_assoc}
use Rattle.std.specs.Prelude.{option_and_then}
use Rattle.std.specs.List.{list_all}
use Rattle.std.proofs.Math.Bool.{and-false}
use Rattle.clap.specs.Walk.{Text}
use Rattle.ht_asked.specs.Forms.{Part, all_differ, is_among, option, options_of, positional}
use Rattle.ht_asked.proofs.Uses.{Arguments, Use, arguments, has_use}
use Rattle.ht_asked.proofs.NameLaws.{apart, differs, first_differs, found, left_true, not_in_first, not_in_second, others_differ, right_true, turned}
use Rattle.ht_asked.proofs.PlaceLaws.{add_at, place}
use Rattle.ht_asked.proofs.NewLaws.{names, zipped, zipped, zipped, zipped, has_room, has_room, has_room, has_room, AreFree, AreFree, are_new, free_more, new_more, new_option}

module _ (positionals options flags : List Text) where
  abbrev args : Arguments
  args = arguments positionals options flags

  -- each option is one of the command's
  abbrev pub are_known : List Use → Bool
  are_known = list_all (λ o. is_among o.0 options)

  strangers : (x : Text) (os : List Use) → are_known os ≡ true → is_among x options ≡ false
      → is_among x (names os) ≡ false
  strangers x [] known none = refl
  strangers x (o ∷ os) known none = λ i.
      turned x o.0 (differs x o.0 options none (left_true _ (are_known os) known)) i
      || strangers x os (right_true (is_among o.0 options) _ known) none i

  new_positional : (x v : Text) (us os : List Use) → are_known os ≡ true → is_among x options ≡ false
      → are_new (us ++ (x, v) ∷ []) os ≡ are_new us os
  new_positional x v us os known none =
      ap (λ b. b && all_differ (names os)) (new_more x v us os)
      ∙ ap (λ b. (list_all (λ o. not (has_use o.0 us)) os && not b) && all_differ (names os))
      (strangers x os known none)
      ∙ go (list_all (λ o. not (has_use o.0 us)) os) (all_differ (names os))
    where
      go : (a b : Bool) → ((a && true) && b) ≡ (a && b)
      go true b = refl
      go false b = refl

  -- these positionals, and no more, stand from this place on
  abbrev pub Places : ℕ → List Text → Type 0
  Places k [] = args.at k ≡ None
  Places k (id ∷ ids) = (args.at k ≡ Some id) × Places (k + 1) ids

  abbrev pub can_place : List Part → List Text → List Use → Bool
  can_place ps ids us = are_known (options_of ps) && (are_new us (options_of ps) && has_room ps ids)

  abbrev result : List Part → List Text → List Use → Option (List Use)
  result ps ids us = cond (can_place ps ids us) (Some (us ++ zipped ps ids)) None

  abbrev IsPlaced : List Part → Type 0
  IsPlaced ps = (ids : List Text) (k : ℕ) (us : List Use) → Places k ids → AreFree ids us
      → all_differ (ids ++ options) ≡ true → place args k us ps ≡ result ps ids us

  abbrev then_place : ℕ → List Part → Option Text → Text → List Use → Option (List Use)
  then_place k ps o value us = option_and_then (λ u. place args k u ps) (add_at o value us)

  place_option : (name value : Text) (ps : List Part) → IsPlaced ps → IsPlaced (option name value ∷ ps)
  unfolding place
  place_option name value ps later ids k us places free differ =
      ap (λ o. then_place k ps o value us) (found name options) ∙ go (is_among name options) refl
    where
      by_use : is_among name options ≡ true → (b : Bool) → has_use name us ≡ b
          → then_place k ps (Some name) value us
          ≡ cond (are_known (options_of ps) && (are_new us ((name, value) ∷ (options_of ps)) && has_room ps ids))
          (Some (us ++ (name, value) ∷ zipped ps ids)) None
      by_use known true e =
          ap (λ b. option_and_then (λ u. place args k u ps) (cond b None (Some (us ++ (name, value) ∷ [])))) e
          ∙ sym (ap (λ b. cond
          (are_known (options_of ps) && (((not b && list_all (λ o. not (has_use o.0 us)) (options_of ps))
          && all_differ (name ∷ names (options_of ps))) && has_room ps ids))
          (Some (us ++ (name, value) ∷ zipped ps ids)) None) e
          ∙ ap (λ b. cond b (Some (us ++ (name, value) ∷ zipped ps ids)) None) (and-false (are_known (options_of ps))))
      by_use known false e =
          ap (λ b. option_and_then (λ u. place args k u ps) (cond b None (Some (us ++ (name, value) ∷ [])))) e
          ∙ later ids k (us ++ (name, value) ∷ []) places
          (free_more name value ids us (apart ids options name differ known) free) differ
          ∙ (λ i. cond (are_known (options_of ps) && (new_option name value us (options_of ps) e i && has_room ps ids))
          (Some (append_assoc us ((name, value) ∷ []) (zipped ps ids) i)) None)

      go : (b : Bool) → is_among name options ≡ b
          → then_place k ps (cond b (Some name) None) value us ≡ result (option name value ∷ ps) ids us
      go true e = by_use e (has_use name us) refl
          ∙ sym (ap (λ b. cond
          ((b && are_known (options_of ps)) && (are_new us ((name, value) ∷ (options_of ps)) && has_room ps ids))
          (Some (us ++ (name, value) ∷ zipped ps ids)) None) e)
      go false e = sym (ap
          (λ b. cond ((b && are_known (options_of ps))
          && (are_new us ((name, value) ∷ (options_of ps)) && has_room ps ids))
          (Some (us ++ (name, value) ∷ zipped ps ids)) None) e)

  place_positional : (word : Text) (ps : List Part) → IsPlaced ps → IsPlaced (positional word ∷ ps)
  unfolding place
  place_positional word ps later [] k us places free differ =
      ap (λ o. then_place (k + 1) ps o word us) places
      ∙ sym (no_room (are_known (options_of ps)) (are_new us (options_of ps)) (us ++ zipped ps []))
    where
      no_room : (a b : Bool) (z : List Use) → cond (a && (b && false)) (Some z) None ≡ None
      no_room true true z = refl
      no_room true false z = refl
      no_room false b z = refl
  place_positional word ps later (id ∷ ids) k us places free differ =
      ap (λ o. then_place (k + 1) ps o word us) places.0
      ∙ ap (λ b. option_and_then (λ u. place args (k + 1) u ps) (cond b None (Some (us ++ (id, word) ∷ [])))) free.0
      ∙ later ids (k + 1) (us ++ (id, word) ∷ []) places.1
      (free_more id word ids us (not_in_first id ids options (first_differs id (ids ++ options) differ)) free.1)
      (others_differ id (ids ++ options) differ)
      ∙ go (are_known (options_of ps)) refl
    where
      go : (b : Bool) → are_known (options_of ps) ≡ b
          → cond (are_known (options_of ps) && (are_new (us ++ (id, word) ∷ []) (options_of ps) && has_room ps ids))
          (Some ((us ++ (id, word) ∷ []) ++ zipped ps ids)) None
          ≡ cond (are_known (options_of ps) && (are_new us (options_of ps) && has_room ps ids))
          (Some (us ++ (id, word) ∷ zipped ps ids)) None
      go true e = λ i. cond (are_known (options_of ps)
          && (new_positional id word us (options_of ps) e
          (not_in_second id ids options (first_differs id (ids ++ options) differ)) i && has_room ps ids))
          (Some (append_assoc us ((id, word) ∷ []) (zipped ps ids) i)) None
      go false e =
          ap (λ b. cond (b && (are_new (us ++ (id, word) ∷ []) (options_of ps) && has_room ps ids))
          (Some ((us ++ (id, word) ∷ []) ++ zipped ps ids)) None) e
          ∙ sym (ap (λ b. cond (b && (are_new us (options_of ps) && has_room ps ids))
          (Some (us ++ (id, word) ∷ zipped ps ids)) None) e)

  place_none : IsPlaced []
  unfolding place
  place_none ids k us places free differ = ap Some (sym (append-nil us))

  -- parts add their uses if their options are known and new and there are names enough, and else are refused
  pub place_is : (ps : List Part) → IsPlaced ps
  place_is [] = place_none
  place_is (option name value ∷ ps) = place_option name value ps (place_is ps)
  place_is (positional word ∷ ps) = place_positional word ps (place_is ps)
