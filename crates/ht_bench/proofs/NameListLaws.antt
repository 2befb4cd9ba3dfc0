-- Names in a list: their places, lists to which names are added, and names of which no two are the same.
use Rattle.std.proofs.Common.{◌≡◌, List, [], length, get_or, sym, ◌∙◌, ap, arith, refl, ◌≤◌, ◌-◌, ◌∷◌, ◌++◌, false, subst, append-nil, append_assoc, All, Contains, bytes_eq, Decides, ◌≢◌, ◌+◌}
use Rattle.std.proofs.lemmas.Bool.{false_from_ne_true, both_ways, cond_both, cond-false}
use Rattle.std.proofs.lemmas.Slice.Eq.{bytes_eq-Decides}
use Rattle.ht_net.specs.Circuit.Lists.{AllDiffer}
use Rattle.ht_net.specs.Build.Named.{Name}
use Rattle.std.proofs.lemmas.List.{get_or_append_left, get_or-append_right, get_or_default, length-append}
use Rattle.std.proofs.lemmas.List.Folds.{Any-from_list_any, list_any-from_Any}
use Rattle.std.proofs.lemmas.List.Elements.{All-push, All-head, All-tail, All-nil}
use Rattle.ht_net.specs.Build.Names.{IsNewName}
use Rattle.ht_bench.specs.Different.{has_name, with_name, with_names, different}
use Rattle.std.proofs.lemmas.List.Quantifiers.{all_pairs_push}
use Rattle.ht_net.proofs.PlaceLaws.{no_more}

-- the test of a name decides whether the list contains it
pub has_name-Decides : (names : List Name) (name : Name) → Decides (has_name names name) (Contains names name)
has_name-Decides names name = (
  λ yes. let any = Any-from_list_any (λ other. bytes_eq other name) names yes in
      subst (Contains names) ((bytes_eq-Decides any.1 name).0 any.4) (any.0, any.2, any.3),
  λ c. list_any-from_Any (λ other. bytes_eq other name) names
      (c.0, name, c.1, c.2, (bytes_eq-Decides name name).1 refl),
)

-- the test of a name fails if the list doesn't contain it
pub has_no_name : (names : List Name) (name : Name) → ¬ Contains names name → has_name names name ≡ false
has_no_name names name none = false_from_ne_true (has_name names name)
    (λ yes. none ((has_name-Decides names name).0 yes))

-- a name that fails the test is new to the list
pub new_name : (names : List Name) (name : Name) → has_name names name ≡ false → IsNewName names name
new_name names name lacks k lt e = both_ways (has_name names name) lacks
    ((has_name-Decides names name).1 (k, lt, get_or_default names k name [] lt ∙ e))

-- a name that is new to the list fails the test
pub has_new_name : (names : List Name) (name : Name) → IsNewName names name → has_name names name ≡ false
has_new_name names name new = has_no_name names name (λ c.
    new c.0 c.1 (get_or_default names c.0 [] name c.1 ∙ c.2))

-- ---- names that are added

-- names that are added come after those that are there
pub with_names-grow : (names others : List Name) → (rest : List Name) × (with_names names others ≡ names ++ rest)
with_names-grow names [] = ([], sym (append-nil names))
with_names-grow names (name ∷ others) =
    cond_both (has_name names name) names (names ++ name ∷ [])
    (λ l. (rest : List Name) × (with_names l others ≡ names ++ rest)) (λ _. with_names-grow names others)
    (λ _. let on = with_names-grow (names ++ name ∷ []) others in
    (name ∷ on.0, on.1 ∙ append_assoc names (name ∷ []) on.0))

-- a list to which names are added becomes no shorter
pub with_names-long : (names others : List Name) → length names ≤ length (with_names names others)
with_names-long names others =
    let on = with_names-grow names others in
    omega (arith, ap length on.1, length-append names on.0)

-- what holds of all names of two lists holds of all names after the second is added to the first
pub All-with_names : (P : Name → Type 0) (names others : List Name) → All P names → All P others
    → All P (with_names names others)
All-with_names P names [] all more = all
All-with_names P names (name ∷ others) all more =
    All-with_names P (with_name names name) others
    (cond_both (has_name names name) names (names ++ name ∷ []) (All P) (λ _. all)
    (λ _. All-push P names name all (All-head P name others more)))
    (All-tail P name others more)

-- ---- names of which no two are the same

-- a name stands in only one of two parts
pub differ_apart : (xs ys : List Name) (name : Name) → AllDiffer (xs ++ ys) → Contains xs name → ¬ Contains ys name
differ_apart xs ys name differ here there =
    let back : length xs + there.0 - length xs ≡ there.0 = omega arith in
    let last : get_or (xs ++ ys) (length xs + there.0) name ≡ name =
    get_or-append_right xs ys (length xs) (length xs + there.0) name refl (omega arith)
    ∙ ap (λ k. get_or ys k name) back ∙ there.2 in
    differ here.0 (length xs + there.0) name (omega (arith, here.1)) (omega (arith, there.1, length-append xs ys))
    (get_or_append_left xs ys name here.0 here.1 ∙ here.2 ∙ sym last)

-- names that differ from those before and from one another are all added
pub with_names-differ : (names others : List Name) → AllDiffer (names ++ others)
    → with_names names others ≡ names ++ others
with_names-differ names [] differ = sym (append-nil names)
with_names-differ names (name ∷ others) differ =
    let new = has_no_name names name (λ c.
    differ_apart names (name ∷ others) name differ c (0, omega arith, refl)) in
    ap (λ l. with_names l others) (cond-false (has_name names name) names (names ++ name ∷ []) new)
    ∙ with_names-differ (names ++ name ∷ []) others
    (subst AllDiffer (sym (append_assoc names (name ∷ []) others)) differ)
    ∙ append_assoc names (name ∷ []) others

-- names to which others are added go on to differ
with_names-apart : (names others : List Name) → AllDiffer names → AllDiffer (with_names names others)
with_names-apart names [] differ = differ
with_names-apart names (name ∷ others) differ = with_names-apart (with_name names name) others
    (cond_both (has_name names name) names (names ++ name ∷ []) AllDiffer (λ yes. differ)
    (λ no. all_pairs_push (λ x y. x ≢ y) names name differ (λ k d lt same. both_ways (has_name names name) no
    ((has_name-Decides names name).1 (k, lt, get_or_default names k name d lt ∙ same)))))

-- the different names of a list differ from one another
pub different_differ : (names : List Name) → AllDiffer (different names)
different_differ names = with_names-apart [] names (λ j k d less lt. absurd (omega arith))

-- names that another list contains have no more different ones than that list has members
pub length-different : (names others : List Name) → All (Contains others) names
    → length (different names) ≤ length others
length-different names others all = no_more (different names) others (different_differ names)
    (All-with_names (Contains others) [] names (All-nil (Contains others)) all)
