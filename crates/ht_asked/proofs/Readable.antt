-- Words in UTF-8 are readable: where a word is a hyphen and more, a whole character stands behind the hyphen.
use Rattle.std.proofs.Common.{◌≡◌, ◌∙◌, ◌∷◌, ℕ, Bool, true, false, cond, List, [], length, Some, None, refl, sym, ap, arith, String, Global, string_bytes, ◌==◌}
use lib.Utf8.{encodes}
use Rattle.std.specs.Prelude.{option_and_then, slice_get}
use Rattle.std.specs.Str.{IsUtf8, chars}
use Rattle.std.proofs.lemmas.Str.{IsCharBoundary-after_ascii, IsUtf8-drop, IsUtf8-string_bytes, encodes-chars}
use Rattle.std.proofs.lemmas.Bool.Decides.{Decides-eqb}
use Rattle.clap.specs.Lexer.{short_of_rest}
use Rattle.clap.specs.Walk.{Text}
use Rattle.ht_asked.specs.Commands.{words_of}
use Rattle.ht_asked.proofs.States.{AreReadable, IsReadable}

first_char : (y : ℕ) (ys : Text) → IsUtf8 (y ∷ ys) → (z : ℕ) × (slice_get (chars (y ∷ ys)) 0 ≡ Some z)
first_char y ys u = go (chars (y ∷ ys)) refl
  where
    go : (cs : List ℕ) → chars (y ∷ ys) ≡ cs → (z : ℕ) × (slice_get (chars (y ∷ ys)) 0 ≡ Some z)
    go [] e = absurd (none_left (ap length (sym (encodes-chars (y ∷ ys) u) ∙ ap encodes e)))
      where
        none_left : length (y ∷ ys) ≡ length (encodes []) → ⊥
        none_left h = omega (arith, h)
    go (z ∷ zs) e = (z, ap (λ (cs : List ℕ). slice_get cs 0) e)

after_hyphen : (b : ℕ) (bs : Text) → IsUtf8 (b ∷ bs) → b ≡ 45 → IsUtf8 bs
after_hyphen b bs u e = IsUtf8-drop (b ∷ bs) 1 u (IsCharBoundary-after_ascii (b ∷ bs) 0 u (omega arith) (omega arith))

is_readable : (x : Text) → IsUtf8 x → IsReadable x
is_readable [] u f e = cc
is_readable (b ∷ bs) u f e = go (b == 45) refl
  where
    rest : (cs : Text) → IsUtf8 cs → short_of_rest cs ≡ Some f → (z : ℕ) × (slice_get (chars f) 0 ≡ Some z)
    rest [] v h = cc
    rest (y ∷ ys) v h = by_hyphen (y == 45) refl
      where
        by_hyphen : (t : Bool) → (y == 45) ≡ t → (z : ℕ) × (slice_get (chars f) 0 ≡ Some z)
        by_hyphen true g = let bad : None ≡ Some f = ap (λ t. cond t None (Some (y ∷ ys))) (sym g) ∙ h in cc
        by_hyphen false g =
            let is : Some (y ∷ ys) ≡ Some f = ap (λ t. cond t None (Some (y ∷ ys))) (sym g) ∙ h in
            let same : y ∷ ys ≡ f = cc in
            let first = first_char y ys v in
            (first.0, ap (λ (t : Text). slice_get (chars t) 0) (sym same) ∙ first.1)

    go : (t : Bool) → (b == 45) ≡ t → (z : ℕ) × (slice_get (chars f) 0 ≡ Some z)
    go false g = let bad : None ≡ Some f = ap (λ t. option_and_then short_of_rest (cond t (Some bs) None)) (sym g) ∙ e
        in cc
    go true g = rest bs (after_hyphen b bs u ((Decides-eqb b 45).0 g))
        (ap (λ t. option_and_then short_of_rest (cond t (Some bs) None)) (sym g) ∙ e)

-- all words of the command line are readable
pub are_readable : (ws : List (String Global)) → AreReadable (words_of ws)
are_readable [] = tt
are_readable (w ∷ ws) = (is_readable (string_bytes w) (IsUtf8-string_bytes w), are_readable ws)
