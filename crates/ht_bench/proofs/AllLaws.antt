-- What holds of all members of a list: from a test, from parts, member by member.
use Rattle.std.proofs.Common.{◌≡◌, List, [], ◌∷◌, ◌++◌, Bool, true, subst, arith}
use Rattle.std.specs.List.{All, Contains, flat_map, list_all}
use Rattle.std.proofs.lemmas.List.{length-append, get_or_append_left}
use Rattle.std.proofs.lemmas.List.Elements.{All-nil, All-head, All-tail, All-append, All-weaker, All-contains_itself}
use Rattle.std.proofs.lemmas.List.Sums.{AllPass-from_list_all}
use Rattle.ht_net.specs.Build.Named.{Name}
use Rattle.ht_statement.specs.Name.{is_name}

-- ---- tests of each member

-- what a test says of a member holds of all members of a list that passes it
pub all_from_test : {A : Type 0} (p : A → Bool) (P : A → Type 0) → ((x : A) → p x ≡ true → P x) → (xs : List A)
    → list_all p xs ≡ true → All P xs
all_from_test p P says xs all = All-weaker (λ x. p x ≡ true) P says xs (AllPass-from_list_all p xs all)

-- the names are names of the format
abbrev pub AreNames : List Name → Type 0
AreNames names = All (λ name. is_name name ≡ true) names

-- ---- parts of lists

-- what holds of all members of a list holds of all members of its first part
pub All-left : {A : Type 0} (P : A → Type 0) (xs ys : List A) → All P (xs ++ ys) → All P xs
All-left P xs ys all k d lt = subst P (get_or_append_left xs ys d k lt)
    (all k d (omega (arith, lt, length-append xs ys)))

-- what holds of all members of each member's list holds of all members of these lists in a row
pub All-flat_map : {A B : Type 0} (P : B → Type 0) (f : A → List B) (xs : List A) → All (λ x. All P (f x)) xs
    → All P (flat_map f xs)
All-flat_map P f [] all = All-nil P
All-flat_map P f (x ∷ xs) all =
    All-append P (f x) (flat_map f xs) (All-head (λ y. All P (f y)) x xs all)
    (All-flat_map P f xs (All-tail (λ y. All P (f y)) x xs all))

-- ---- member by member

-- what holds of each member that a list contains holds of all its members
pub all_from : {A : Type 0} (P : A → Type 0) (xs : List A) → ((x : A) → Contains xs x → P x) → All P xs
all_from P xs h = All-weaker (Contains xs) P h xs (All-contains_itself xs)
