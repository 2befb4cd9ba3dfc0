-- Lists over the numbers from a start on.
use Rattle.std.proofs.Common.{◌≡◌, ℕ, zero, suc, ◌+◌, ◌<◌, List, [], ◌∷◌, ◌++◌, Bool, true, ◌&&◌, get_or, map, refl, sym, ap, ◌∙◌, add-one, append-nil, arith}
use Rattle.std.specs.List.{All, flat_map, list_all, range_with_len}
use Rattle.std.proofs.lemmas.Grind.{flat_map-append}
use Rattle.std.proofs.lemmas.List.Elements.{All-map}

-- a function of two arguments gives the same for the same two
pub ap2 : {A B C : Type 0} {a a' : A} {b b' : B} (f : A → B → C) → a ≡ a' → b ≡ b' → f a b ≡ f a' b'
ap2 {a' = a'} {b = b} f left right = ap (λ x. f x b) left ∙ ap (f a') right

-- one number more
pub range_more : (a n : ℕ) → range_with_len a (suc n) ≡ range_with_len a n ++ (a + n) ∷ []
range_more a zero = ap (λ x. x ∷ []) (omega arith)
range_more a (suc n) = ap (λ l. a ∷ l) (range_more (a + 1) n
    ∙ ap (λ x. range_with_len (a + 1) n ++ x ∷ []) (omega arith))

-- the texts of the first n + 1 numbers are those of the first n and one more
pub flat_map_more : (f : ℕ → List ℕ) (n : ℕ)
    → flat_map f (range_with_len 0 (n + 1)) ≡ flat_map f (range_with_len 0 n) ++ f n
flat_map_more f n =
    ap (λ m. flat_map f (range_with_len 0 m)) (add-one n)
    ∙ ap (flat_map f) (range_more 0 n ∙ ap (λ x. range_with_len 0 n ++ x ∷ []) (omega arith))
    ∙ flat_map-append f (range_with_len 0 n) (n ∷ [])
    ∙ ap (λ t. flat_map f (range_with_len 0 n) ++ t) (append-nil (f n))

-- a text after the lines of n numbers, and after one line more
pub one_line_more : (f : ℕ → List ℕ) (n : ℕ) (before after line : List ℕ)
    → before ≡ flat_map f (range_with_len 0 n) → after ≡ before ++ line → line ≡ f n
    → after ≡ flat_map f (range_with_len 0 (n + 1))
one_line_more f n before after line is_before is_after is_line =
    is_after ∙ ap (λ t. t ++ line) is_before ∙ ap (λ t. flat_map f (range_with_len 0 n) ++ t) is_line
    ∙ sym (flat_map_more f n)

-- the texts of a list's images
pub flat_map-map : {A B : Type 0} (f : B → List ℕ) (h : A → B) (xs : List A)
    → flat_map f (map h xs) ≡ flat_map (λ x. f (h x)) xs
flat_map-map f h [] = refl
flat_map-map f h (x ∷ xs) = ap (λ t. f (h x) ++ t) (flat_map-map f h xs)

-- what holds of all images
pub All-map_always : {A B : Type 0} (P : B → Type 0) (f : A → B) → ((x : A) → P (f x))
    → (xs : List A) → All P (map f xs)
All-map_always P f always xs = All-map P f xs (λ k d below. always (get_or xs k d))

-- a test that holds of what each number below the end of a range gives holds of all that the range gives
pub list_all_range : (p : List ℕ → Bool) (f : ℕ → List ℕ) (a n : ℕ)
    → ((k : ℕ) → k < a + n → p (f k) ≡ true) → list_all p (map f (range_with_len a n)) ≡ true
list_all_range p f a zero each = refl
list_all_range p f a (suc n) each =
    ap (λ b. b && list_all p (map f (range_with_len (a + 1) n))) (each a (omega arith))
    ∙ ap (λ b. true && b) (list_all_range p f (a + 1) n (λ k below. each k (omega arith)))
