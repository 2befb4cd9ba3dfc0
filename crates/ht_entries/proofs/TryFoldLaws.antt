-- A list gone through item by item, until a step fails.
use Rattle.std.specs.Prelude.{◌≡◌, ◌++◌, List, [], ◌∷◌, Option, Some, None, refl}

module _ {S A : Type 0} (step : S → A → Option S) where
  abbrev pub try_step : Option S → A → Option S
  try_step None x = None
  try_step (Some s) x = step s x

  abbrev pub try_fold : Option S → List A → Option S
  try_fold s [] = s
  try_fold s (x ∷ xs) = try_fold (try_step s x) xs

  -- two lists joined are gone through as the first and then the second
  pub try_fold_append : (s : Option S) (xs ys : List A) → try_fold s (xs ++ ys) ≡ try_fold (try_fold s xs) ys
  try_fold_append s [] ys = refl
  try_fold_append s (x ∷ xs) ys = try_fold_append (try_step s x) xs ys
