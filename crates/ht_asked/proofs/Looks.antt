-- What a word looks like to `clap`, and whether it would be an option.
use Rattle.std.proofs.Common.{◌≡◌, ◌∙◌, ◌∷◌, ◌==◌, ℕ, Bool, true, false, cond, [], Option, Some, None, refl, sym, ap, ap₂}
use Rattle.std.specs.Prelude.{option_and_then}
use Rattle.std.specs.Str.{bytes_eq}
use Rattle.std.proofs.lemmas.Bool.Decides.{Decides-eqb}
use Rattle.std.proofs.lemmas.Slice.Eq.{bytes_eq-Decides}
use Rattle.clap.specs.Lexer.{long_of, long_of_rest, name_and_value, short_of, short_of_rest, strip_byte}
use Rattle.clap.specs.Walk.{Text}
use Rattle.ht_asked.specs.Forms.{is_option}

abbrev pub dashes : Text
dashes = 45 ∷ 45 ∷ []

-- true is not false
pub true_is_false : true ≡ false → ⊥
true_is_false h = cc

-- `--`; `--name` or `--name=value`; `-x`; or anything else
pub data View (x : Text) : Type 0 where
  is_end : bytes_eq x dashes ≡ true → is_option x ≡ true → View x
  is_long : bytes_eq x dashes ≡ false → is_option x ≡ true → (q : Text × Option Text) → long_of x ≡ Some q → View x
  is_flags : bytes_eq x dashes ≡ false → is_option x ≡ true → long_of x ≡ None → (f : Text) → short_of x ≡ Some f
      → View x
  is_plain : bytes_eq x dashes ≡ false → is_option x ≡ false → long_of x ≡ None → short_of x ≡ None → View x

-- the two readings of a word with this after its first hyphen, if it has one
abbrev long_after : Option Text → Option (Text × Option Text)
long_after rest = option_and_then long_of_rest (option_and_then (strip_byte 45) rest)

abbrev short_after : Option Text → Option Text
short_after rest = option_and_then short_of_rest rest

no_long : (t : Bool) → long_after (cond t (Some []) None) ≡ None
no_long true = refl
no_long false = refl

no_short : (t : Bool) → short_after (cond t (Some []) None) ≡ None
no_short true = refl
no_short false = refl

two_hyphens : (b c : ℕ) → (b == 45) ≡ true → (c == 45) ≡ true → bytes_eq (b ∷ c ∷ []) dashes ≡ true
two_hyphens b c e f = (bytes_eq-Decides (b ∷ c ∷ []) dashes).1
    (ap₂ (λ (x y : ℕ). x ∷ y ∷ []) ((Decides-eqb b 45).0 e) ((Decides-eqb c 45).0 f))

view_of : (x : Text) → bytes_eq x dashes ≡ false → View x
view_of [] e = is_plain e refl refl refl
view_of (b ∷ []) e = is_plain e refl (no_long (b == 45)) (no_short (b == 45))
view_of (b ∷ c ∷ cs) e = by_first (b == 45) refl
  where
    long_by : Bool → Option (Text × Option Text)
    long_by t = long_after (cond t (Some (c ∷ cs)) None)

    short_by : Bool → Option Text
    short_by t = short_after (cond t (Some (c ∷ cs)) None)

    by_second : (b == 45) ≡ true → (u : Bool) → (c == 45) ≡ u → (ds : Text) → cs ≡ ds → View (b ∷ c ∷ cs)
    by_second f false g ds is = is_flags e f
        (ap long_by f ∙ ap (λ u. option_and_then long_of_rest (cond u (Some cs) None)) g) (c ∷ cs)
        (ap short_by f ∙ ap (λ u. cond u None (Some (c ∷ cs))) g)
    by_second f true g [] is = absurd
        (true_is_false (sym (two_hyphens b c f g) ∙ ap (λ (ds : Text). bytes_eq (b ∷ c ∷ ds) dashes) (sym is) ∙ e))
    by_second f true g (d ∷ ds) is = is_long e f (name_and_value (d ∷ ds))
        (ap long_by f ∙ ap (λ u. option_and_then long_of_rest (cond u (Some cs) None)) g ∙ ap long_of_rest is)

    by_first : (t : Bool) → (b == 45) ≡ t → View (b ∷ c ∷ cs)
    by_first false f = is_plain e f (ap long_by f) (ap short_by f)
    by_first true f = by_second f (c == 45) refl cs refl

-- each word is `--`, an option with a long name, a word such as `-x`, or plain
pub view : (x : Text) → View x
view x = go (bytes_eq x dashes) refl
  where
    go : (t : Bool) → bytes_eq x dashes ≡ t → View x
    go true e = is_end e (ap is_option ((bytes_eq-Decides x dashes).0 e))
    go false e = view_of x e
