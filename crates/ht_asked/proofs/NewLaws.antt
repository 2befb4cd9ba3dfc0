-- Uses of arguments that have none yet.
use Rattle.std.proofs.Common.{◌≡◌, ◌∙◌, ◌∷◌, ◌++◌, ◌||◌, ◌&&◌, Bool, true, false, not, List, [], map, refl, sym, ap}
use Rattle.std.specs.List.{list_all}
use Rattle.std.specs.Str.{bytes_eq}
use Rattle.std.proofs.Math.Bool.{and-false}
use Rattle.std.proofs.lemmas.List.Folds.{list_any-append}
use Rattle.clap.specs.Walk.{Text}
use Rattle.ht_asked.specs.Forms.{Part, all_differ, is_among, option, positional}
use Rattle.ht_asked.proofs.Uses.{Use, has_use}
use Rattle.ht_asked.proofs.Looks.{true_is_false}
use Rattle.ht_asked.proofs.NameLaws.{either_way, left_false, right_false, turned}

abbrev pub names : List Use → List Text
names = map (λ u. u.0)

-- the uses of these parts, where the positionals are those of these names
abbrev pub zipped : List Part → List Text → List Use
zipped [] ids = []
zipped (option name value ∷ ps) ids = (name, value) ∷ zipped ps ids
zipped (positional word ∷ ps) [] = zipped ps []
zipped (positional word ∷ ps) (id ∷ ids) = (id, word) ∷ zipped ps ids

-- there are names enough for the positionals
abbrev pub has_room : List Part → List Text → Bool
has_room [] ids = true
has_room (option name value ∷ ps) ids = has_room ps ids
has_room (positional word ∷ ps) [] = false
has_room (positional word ∷ ps) (id ∷ ids) = has_room ps ids

-- none of the names has a use
abbrev pub AreFree : List Text → List Use → Type 0
AreFree [] us = Unit {0}
AreFree (id ∷ ids) us = (has_use id us ≡ false) × AreFree ids us

-- none of the options has a use, and no two have one name
abbrev pub are_new : List Use → List Use → Bool
are_new us os = list_all (λ o. not (has_use o.0 us)) os && all_differ (names os)

or_nothing : (a b : Bool) → (a || (b || false)) ≡ (a || b)
or_nothing true b = refl
or_nothing false true = refl
or_nothing false false = refl

has_more : (y x v : Text) (us : List Use) → has_use y (us ++ (x, v) ∷ []) ≡ (has_use y us || bytes_eq x y)
has_more y x v us = list_any-append (λ (u : Use). bytes_eq u.0 y) us ((x, v) ∷ [])
    ∙ or_nothing (has_use y us) (bytes_eq x y)

-- names without a use have none after a use of a name that isn't among them
pub free_more : (x v : Text) (ids : List Text) (us : List Use) → is_among x ids ≡ false → AreFree ids us
    → AreFree ids (us ++ (x, v) ∷ [])
free_more x v [] us other free = tt
free_more x v (id ∷ ids) us other free = (
  has_more id x v us ∙ (λ i. free.0 i || turned id x (left_false _ (is_among x ids) other) i),
  free_more x v ids us (right_false (bytes_eq id x) _ other) free.1,
)

-- one more use leaves those options new that it doesn't name
pub new_more : (x v : Text) (us os : List Use)
    → list_all (λ o. not (has_use o.0 (us ++ (x, v) ∷ []))) os
    ≡ (list_all (λ o. not (has_use o.0 us)) os && not (is_among x (names os)))
new_more x v us [] = refl
new_more x v us (o ∷ os) =
    (λ i. not (has_more o.0 x v us i) && new_more x v us os i)
    ∙ go (has_use o.0 us) (bytes_eq x o.0) (bytes_eq o.0 x) (list_all (λ p. not (has_use p.0 us)) os)
    (is_among x (names os)) (either_way x o.0)
  where
    go : (h b c all among : Bool) → b ≡ c
        → (not (h || b) && (all && not among)) ≡ ((not h && all) && not (c || among))
    go true b c all among e = refl
    go false true true all among e = sym (and-false all)
    go false false false all among e = refl
    go false true false all among e = absurd (true_is_false e)
    go false false true all among e = absurd (true_is_false (sym e))

-- options are new after the first use of another if, and only if, they are new together with that one
pub new_option : (x v : Text) (us os : List Use) → has_use x us ≡ false
    → are_new (us ++ (x, v) ∷ []) os ≡ are_new us ((x, v) ∷ os)
new_option x v us os none =
    ap (λ b. b && all_differ (names os)) (new_more x v us os)
    ∙ go (list_all (λ o. not (has_use o.0 us)) os) (not (is_among x (names os))) (all_differ (names os))
    ∙ sym (ap (λ b. (not b && list_all (λ o. not (has_use o.0 us)) os) && all_differ (x ∷ names os)) none)
  where
    go : (a b c : Bool) → ((a && b) && c) ≡ (a && (b && c))
    go true b c = refl
    go false b c = refl
