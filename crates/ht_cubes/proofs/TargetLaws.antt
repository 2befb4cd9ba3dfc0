-- Rows that a test may leave out, one by one.
use Rattle.std.proofs.Common.{◌≡◌, ◌<◌, ◌≤◌, ◌+◌, ℕ, List, [], ◌∷◌, ◌++◌, map, length, get_or, take, Bool, sym, ◌∙◌, ap, subst}
use Rattle.std.specs.List.{All, filter, flat_map}
use Rattle.std.proofs.lemmas.List.{take_more, take_all, map-append, get_or_read}
use Rattle.std.proofs.lemmas.List.Elements.{filter-append}

-- a row that is read from a list of lists: as an item, and then as a slice
pub read_row : {X : Type 0} (xs : List (List X)) (i : ℕ) (item row : List X) → i < length xs → item ≡ get_or xs i item
    → row ≡ item → row ≡ get_or xs i []
read_row xs i item row inside read is = is ∙ get_or_read xs i item inside read []

-- what holds of each list holds of such a row
pub row_holds : {X : Type 0} (P : List X → Type 0) (xs : List (List X)) (i : ℕ) (item row : List X) → i < length xs
    → item ≡ get_or xs i item → row ≡ item → All P xs → P row
row_holds P xs i item row inside read is all =
    subst P (sym (read_row xs i item row inside read is)) (all i [] inside)

-- one more, that a test may leave out
pub filtered_on : {X Y : Type 0} (p : Y → Bool) (f : X → Y) (xs : List X) (i : ℕ) (d x : X) (rows new : List Y)
    → i < length xs → x ≡ get_or xs i d → rows ≡ filter p (map f (take i xs)) → new ≡ rows ++ filter p (f x ∷ [])
    → new ≡ filter p (map f (take (i + 1) xs))
filtered_on {X} {Y} p f xs i d x rows new inside read so is =
    is ∙ (ap (λ (l : List Y). l ++ filter p (f x ∷ [])) so
    ∙ (ap (λ (y : X). filter p (map f (take i xs)) ++ filter p (f y ∷ [])) read
    ∙ (sym (filter-append p (map f (take i xs)) (f (get_or xs i d) ∷ []))
    ∙ ap (filter p) (sym (ap (map f) (take_more xs i d inside) ∙ map-append f (take i xs) (get_or xs i d ∷ []))))))

-- all of both sorts
pub filtered_all : {X Y Z : Type 0} (p : Y → Bool) (f : X → Y) (g : Z → List Y) (xs : List X) (zs : List Z) (i o : ℕ)
    (rows new : List Y) → length xs ≤ i → length zs ≤ o → rows ≡ filter p (map f (take i xs))
    → new ≡ rows ++ filter p (flat_map g (take o zs)) → new ≡ filter p (map f xs ++ flat_map g zs)
filtered_all {X} {Y} {Z} p f g xs zs i o rows new past end so is =
    is ∙ (ap (λ (l : List Y). l ++ filter p (flat_map g (take o zs)))
    (so ∙ ap (λ (l : List X). filter p (map f l)) (take_all i xs past))
    ∙ (ap (λ (l : List Z). filter p (map f xs) ++ filter p (flat_map g l)) (take_all o zs end)
    ∙ sym (filter-append p (map f xs) (flat_map g zs))))
