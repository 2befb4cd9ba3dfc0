-- Words and items that stand in a line one after the other, each after a space.
use Rattle.std.specs.Prelude.{◌≡◌, ◌≢◌, ◌<◌, ◌⊎◌, ℕ, List, [], ◌∷◌, ◌++◌, flat_map, length}
use Rattle.std.specs.List.{All}

-- a word after a space
abbrev pub spaced : {A : Type 0} → (A → List ℕ) → A → List ℕ
spaced word_of x = 32 ∷ word_of x

-- A text ends here, or goes on with a space.
abbrev pub IsDelimited : List ℕ → Type 0
IsDelimited rest = (rest ≡ []) ⊎ ((more : List ℕ) × (rest ≡ 32 ∷ more))

-- A text is a space, a word without a space, and a rest after the word.
pub record IsNextWord (text word rest : List ℕ) : Type 0 where
  pub parts : text ≡ 32 ∷ word ++ rest
  pub no_space : All (λ byte. byte ≢ 32) word
  pub ends : IsDelimited rest

-- A text begins with no item.
abbrev pub HasNoItem : {A : Type 0} → (A → List ℕ) → (A → Type 0) → List ℕ → Type 0
HasNoItem text_of HasText text =
    (x : _) (rest : List ℕ) → HasText x → IsDelimited rest → text ≢ text_of x ++ rest

-- A text begins with an item, after which this rest stands.
pub record IsNextItem {A : Type 0} (text_of : A → List ℕ) (HasText : A → Type 0) (text : List ℕ) (x : A)
    (rest : List ℕ) : Type 0 where
  pub parts : text ≡ text_of x ++ rest
  pub has_text : HasText x
  pub ends : IsDelimited rest

-- Items were taken from a text, and this rest is left.
pub record AreTaken {A : Type 0} (text_of : A → List ℕ) (HasText : A → Type 0) (text : List ℕ) (xs : List A)
    (rest : List ℕ) : Type 0 where
  pub parts : text ≡ flat_map text_of xs ++ rest
  pub each : All HasText xs
  pub ends : (xs ≡ []) ⊎ IsDelimited rest

-- no word has a space in it
abbrev pub HasPlainWords : {A : Type 0} → (A → List ℕ) → (A → Type 0) → Type 0
HasPlainWords word_of HasText = (x : _) → HasText x → All (λ byte. byte ≢ 32) (word_of x)

-- There is an item, and each has a text.
pub record AreSome {A : Type 0} (HasText : A → Type 0) (xs : List A) : Type 0 where
  pub some : 0 < length xs
  pub each : All HasText xs

-- Two items are one, and what follows them is the same.
pub record SameItem {A : Type 0} (x y : A) (rest more : List ℕ) : Type 0 where
  pub items : x ≡ y
  pub rests : rest ≡ more

-- Items are told apart: each begins with a space, and a text begins with no two.
pub record AreItems {A : Type 0} (text_of : A → List ℕ) (HasText : A → Type 0) : Type 0 where
  pub begins : (x : A) → (more : List ℕ) × (text_of x ≡ 32 ∷ more)
  pub same : (x y : A) (rest more : List ℕ) → HasText x → HasText y → IsDelimited rest → IsDelimited more
      → text_of x ++ rest ≡ text_of y ++ more → SameItem x y rest more
