-- Names among others, and names that differ.
use Rattle.std.proofs.Common.{◌≡◌, ◌∙◌, ◌∷◌, ◌++◌, ◌||◌, ◌&&◌, Bool, true, false, not, cond, List, [], Some, None, refl, sym, ap}
use Rattle.std.specs.Prelude.{find}
use Rattle.std.specs.Str.{bytes_eq}
use Rattle.std.proofs.lemmas.List.Folds.{list_any-append}
use Rattle.std.proofs.lemmas.Slice.Eq.{bytes_eq-Decides}
use Rattle.std.proofs.lemmas.Bool.{not-true}
use Rattle.clap.specs.Walk.{Text}
use Rattle.ht_asked.specs.Forms.{all_differ, is_among}
use Rattle.ht_asked.proofs.Looks.{true_is_false}

-- if neither of two tests holds, the first doesn't
pub left_false : (a b : Bool) → (a || b) ≡ false → a ≡ false
left_false true b e = absurd (true_is_false e)
left_false false b e = refl

-- if neither of two tests holds, the second doesn't
pub right_false : (a b : Bool) → (a || b) ≡ false → b ≡ false
right_false true b e = absurd (true_is_false e)
right_false false b e = e

-- if both of two tests hold, the first does
pub left_true : (a b : Bool) → (a && b) ≡ true → a ≡ true
left_true true b e = refl
left_true false b e = absurd (true_is_false (sym e))

-- if both of two tests hold, the second does
pub right_true : (a b : Bool) → (a && b) ≡ true → b ≡ true
right_true true b e = e
right_true false b e = absurd (true_is_false (sym e))

-- a name passes the test against itself
pub same_name : (x : Text) → bytes_eq x x ≡ true
same_name x = (bytes_eq-Decides x x).1 refl

-- two names that differ do so in either order
pub turned : (x y : Text) → bytes_eq x y ≡ false → bytes_eq y x ≡ false
turned x y e = go (bytes_eq y x) refl
  where
    go : (b : Bool) → bytes_eq y x ≡ b → bytes_eq y x ≡ false
    go true f = absurd
        (true_is_false (sym ((bytes_eq-Decides x y).1 (sym ((bytes_eq-Decides y x).0 f))) ∙ e))
    go false f = f

-- the test of two names, either way
pub either_way : (x y : Text) → bytes_eq x y ≡ bytes_eq y x
either_way x y = go (bytes_eq x y) refl
  where
    go : (b : Bool) → bytes_eq x y ≡ b → bytes_eq x y ≡ bytes_eq y x
    go true e = e ∙ sym ((bytes_eq-Decides y x).1 (sym ((bytes_eq-Decides x y).0 e)))
    go false e = e ∙ sym (turned x y e)

-- a name that isn't among these differs from each of them
pub differs : (x y : Text) (names : List Text) → is_among x names ≡ false → is_among y names ≡ true
    → bytes_eq x y ≡ false
differs x y names without within = go (bytes_eq x y) refl
  where
    go : (b : Bool) → bytes_eq x y ≡ b → bytes_eq x y ≡ false
    go true e = absurd (true_is_false
        (sym within ∙ ap (λ z. is_among z names) (sym ((bytes_eq-Decides x y).0 e)) ∙ without))
    go false e = e

-- what is found by a name among names is that name, if it is one of them
pub found : (name : Text) (names : List Text)
    → find (λ n. bytes_eq n name) names ≡ cond (is_among name names) (Some name) None
found name [] = refl
found name (n ∷ ns) = go (bytes_eq n name) refl (found name ns)
  where
    go : (b : Bool) → bytes_eq n name ≡ b
        → find (λ m. bytes_eq m name) ns ≡ cond (is_among name ns) (Some name) None
        → find (λ m. bytes_eq m name) (n ∷ ns) ≡ cond (is_among name (n ∷ ns)) (Some name) None
    go true e later = ap (λ b. cond b (Some n) (find (λ m. bytes_eq m name) ns)) e
        ∙ ap Some ((bytes_eq-Decides n name).0 e)
        ∙ sym (ap (λ b. cond (b || is_among name ns) (Some name) None) e)
    go false e later = ap (λ b. cond b (Some n) (find (λ m. bytes_eq m name) ns)) e
        ∙ later
        ∙ sym (ap (λ b. cond (b || is_among name ns) (Some name) None) e)

-- of names that all differ, the first isn't among the others
pub first_differs : (x : Text) (names : List Text) → all_differ (x ∷ names) ≡ true → is_among x names ≡ false
first_differs x names e = not-true (is_among x names) (left_true _ (all_differ names) e)

-- names that all differ do so without the first
pub others_differ : (x : Text) (names : List Text) → all_differ (x ∷ names) ≡ true → all_differ names ≡ true
others_differ x names e = right_true (not (is_among x names)) _ e

-- a name that isn't among those of two lists isn't in the first
pub not_in_first : (x : Text) (xs ys : List Text) → is_among x (xs ++ ys) ≡ false → is_among x xs ≡ false
not_in_first x xs ys e =
    left_false _ (is_among x ys) (sym (list_any-append (λ o. bytes_eq o x) xs ys) ∙ e)

-- a name that isn't among those of two lists isn't in the second
pub not_in_second : (x : Text) (xs ys : List Text) → is_among x (xs ++ ys) ≡ false → is_among x ys ≡ false
not_in_second x xs ys e =
    right_false (is_among x xs) _ (sym (list_any-append (λ o. bytes_eq o x) xs ys) ∙ e)

-- where all differ, a name of the second list isn't in the first
pub apart : (xs ys : List Text) (n : Text) → all_differ (xs ++ ys) ≡ true → is_among n ys ≡ true
    → is_among n xs ≡ false
apart [] ys n e within = refl
apart (x ∷ xs) ys n e within = λ i.
    differs x n ys (not_in_second x xs ys (first_differs x (xs ++ ys) e)) within i
    || apart xs ys n (others_differ x (xs ++ ys) e) within i

-- where all differ, those of the second list do
pub later_differ : (xs ys : List Text) → all_differ (xs ++ ys) ≡ true → all_differ ys ≡ true
later_differ [] ys e = e
later_differ (x ∷ xs) ys e = later_differ xs ys (others_differ x (xs ++ ys) e)

-- none of these is among the others
abbrev pub AreOther : List Text → List Text → Type 0
AreOther [] others = Unit {0}
AreOther (id ∷ ids) others = (is_among id others ≡ false) × AreOther ids others

-- where all differ, those of the first list aren't among the last
pub first_are_other : (xs ys zs : List Text) → all_differ (xs ++ (ys ++ zs)) ≡ true → AreOther xs zs
first_are_other [] ys zs e = tt
first_are_other (x ∷ xs) ys zs e = (
  not_in_second x ys zs (not_in_second x xs (ys ++ zs) (first_differs x (xs ++ (ys ++ zs)) e)),
  first_are_other xs ys zs (others_differ x (xs ++ (ys ++ zs)) e),
)
