-- The texts of uses, by the names of their arguments.
use Rattle.std.proofs.Common.{◌≡◌, ◌∙◌, ◌∷◌, ◌==◌, ℕ, Bool, true, false, not, cond, List, [], map, length, suc, Option, Some, None, refl, sym, ap, arith, ne_eqb, option_map}
use Rattle.std.specs.Prelude.{find}
use Rattle.std.specs.List.{list_all}
use Rattle.std.specs.Str.{bytes_eq}
use Rattle.std.proofs.lemmas.Bool.Decides.{Decides-eqb}
use Rattle.clap.specs.Walk.{Text}
use Rattle.ht_asked.specs.Forms.{Part, is_among, option, positional, positionals_of, text_of}
use Rattle.ht_asked.proofs.Uses.{Use, has_use}
use Rattle.ht_asked.proofs.Looks.{true_is_false}
use Rattle.ht_asked.proofs.NameLaws.{left_false, right_false, turned}
use Rattle.ht_asked.proofs.NewLaws.{has_room}

abbrev pub texts : List Text → List Use → List (Option Text)
texts ids us = map (λ id. text_of id us) ids

-- a use of another name leaves the text of this one as it is
pub skip : (id x v : Text) (us : List Use) → bytes_eq x id ≡ false → text_of id ((x, v) ∷ us) ≡ text_of id us
skip id x v us other = ap (λ b. option_map (λ (u : Use). u.1)
    (cond b (Some (x, v)) (find (λ u. bytes_eq u.0 id) us))) other

-- a use of a name that isn't among these leaves their texts as they are
pub skip_all : (x v : Text) (us : List Use) (ids : List Text) → is_among x ids ≡ false
    → texts ids ((x, v) ∷ us) ≡ texts ids us
skip_all x v us [] other = refl
skip_all x v us (id ∷ ids) other = λ i.
    skip id x v us (turned id x (left_false _ (is_among x ids) other)) i
    ∷ skip_all x v us ids (right_false (bytes_eq id x) _ other) i

-- what is made of a value that depends on a test depends on that test
pub mapped : {X Y : Type 0} (f : X → Y) (b : Bool) (x : X)
    → option_map f (cond b (Some x) None) ≡ cond b (Some (f x)) None
mapped f true x = refl
mapped f false x = refl

-- two uses with the same text have the same text where either comes after the same use
pub same_later : (b : Bool) (u : Use) (x y : Option Use) → option_map (λ (w : Use). w.1) x
    ≡ option_map (λ (w : Use). w.1) y
    → option_map (λ (w : Use). w.1) (cond b (Some u) x) ≡ option_map (λ (w : Use). w.1) (cond b (Some u) y)
same_later true u x y e = refl
same_later false u x y e = e

-- one more on both sides is equal as often
pub one_more : (a b : ℕ) → (suc a == suc b) ≡ (a == b)
one_more a b = go (a == b) refl
  where
    go : (r : Bool) → (a == b) ≡ r → (suc a == suc b) ≡ (a == b)
    go true e = (Decides-eqb (suc a) (suc b)).1 (ap (λ (n : ℕ). suc n) ((Decides-eqb a b).0 e)) ∙ sym e
    go false e = ne_eqb (suc a) (suc b) (λ h. differ (pred_eq h)) ∙ sym e
      where
        differ : a ≡ b → ⊥
        differ h = true_is_false (sym ((Decides-eqb a b).1 h) ∙ e)

        pred_eq : suc a ≡ suc b → a ≡ b
        pred_eq h = omega (arith, h)

-- without room there are more positionals than names
pub crowded : (ps : List Part) (ids : List Text) → has_room ps ids ≡ false
    → (length (positionals_of ps) == length ids) ≡ false
crowded [] ids e = absurd (true_is_false e)
crowded (option name value ∷ ps) ids e = crowded ps ids e
crowded (positional word ∷ ps) [] e = ne_eqb (suc (length (positionals_of ps))) 0 (λ h. omega (arith, h))
crowded (positional word ∷ ps) (id ∷ ids) e =
    one_more (length (positionals_of ps)) (length ids) ∙ crowded ps ids e

-- where nothing is used, no option has a use
pub all_new : (os : List Use) → list_all (λ o. not (has_use o.0 [])) os ≡ true
all_new [] = refl
all_new (o ∷ os) = all_new os
