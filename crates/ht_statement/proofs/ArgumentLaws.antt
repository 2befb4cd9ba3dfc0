-- Arguments in a text, one by one.
use Rattle.std.proofs.Common.{◌≡◌, ◌⊎◌, inl, inr, ℕ, zero, suc, ◌+◌, ◌<◌, List, [], ◌∷◌, ◌++◌, length, get_or, take, map, codes, append_assoc, append-nil, refl, sym, ap, ◌∙◌, arith}
use Rattle.ht_net.specs.declared.net.NetId.{NetId}
use Rattle.ht_net.specs.Circuit.Netlist.{Netlist, no_net}
use Rattle.ht_net.specs.Build.Named.{Name, name_of}
use Rattle.std.proofs.lemmas.List.{map_more}
use Rattle.ht_statement.specs.StatementText.{arguments_text}

regroup : (a b d e f : List ℕ) → a ++ (b ++ ((d ++ e) ++ f)) ≡ ((a ++ (b ++ d)) ++ e) ++ f
regroup a b d e f = simp append_assoc

regroup_more : (a b d e : List ℕ) → ((a ++ b) ++ d) ++ e ≡ a ++ ((b ++ d) ++ e)
regroup_more a b d e = simp append_assoc

arguments_text-push : (first : Name) (names : List Name) (name : Name)
    → arguments_text ((first ∷ names) ++ name ∷ []) ≡ arguments_text (first ∷ names) ++ codes ", " ++ name
arguments_text-push first [] name = sym (append_assoc first (codes ", ") name)
arguments_text-push first (next ∷ names) name =
    ap (λ text. first ++ (codes ", " ++ text)) (arguments_text-push next names name)
    ∙ regroup first (codes ", ") (arguments_text (next ∷ names)) (codes ", ") name

-- the first argument stands by itself
pub arguments_text-first : (c : Netlist) (args : List NetId) → 0 < length args
    → arguments_text (map (name_of c) (take 1 args)) ≡ name_of c (get_or args 0 no_net)
arguments_text-first c [] some = absurd (omega arith)
arguments_text-first c (arg ∷ args) some = refl

-- each further one stands after a comma and a space
pub arguments_text-next : (c : Netlist) (args : List NetId) (k : ℕ) → k < length args → 0 < k
    → arguments_text (map (name_of c) (take (k + 1) args)) ≡ arguments_text (map (name_of c) (take k args))
    ++ codes ", " ++ name_of c (get_or args k no_net)
arguments_text-next c [] k below more = absurd (omega arith)
arguments_text-next c (arg ∷ args) zero below more = absurd (omega arith)
arguments_text-next c (arg ∷ args) (suc k) below more =
    ap arguments_text (map_more (name_of c) (arg ∷ args) (suc k) no_net below)
    ∙ arguments_text-push (name_of c arg) (map (name_of c) (take k args)) (name_of c (get_or args k no_net))

-- a text to which one more argument was added
pub adds_argument : (c : Netlist) (args : List NetId) (k : ℕ) (old before between after : List ℕ) → k < length args
    → before ≡ old ++ arguments_text (map (name_of c) (take k args))
    → ((0 < k) × (between ≡ before ++ codes ", ")) ⊎ ((k ≡ 0) × (between ≡ before))
    → after ≡ between ++ name_of c (get_or args k no_net)
    → after ≡ old ++ arguments_text (map (name_of c) (take (k + 1) args))
adds_argument c args k old before between after below is_before (inl (some, is_between)) is_after =
    is_after ∙ ap (λ text. text ++ name_of c (get_or args k no_net))
    (is_between ∙ ap (λ text. text ++ codes ", ") is_before)
    ∙ regroup_more old (arguments_text (map (name_of c) (take k args))) (codes ", ") (name_of c (get_or args k no_net))
    ∙ ap (λ text. old ++ text) (sym (arguments_text-next c args k below some))
adds_argument c args k old before between after below is_before (inr (none, is_between)) is_after =
    let is_first : arguments_text (map (name_of c) (take 1 args)) ≡ name_of c (get_or args 0 no_net) =
    arguments_text-first c args (omega arith) in
    let start : before ≡ old = is_before ∙ ap (λ n. old ++ arguments_text (map (name_of c) (take n args))) none ∙
    append-nil old in
    is_after ∙ ap (λ text. text ++ name_of c (get_or args k no_net)) (is_between ∙ start)
    ∙ ap (λ n. old ++ name_of c (get_or args n no_net)) none
    ∙ ap (λ text. old ++ text) (sym is_first)
    ∙ ap (λ n. old ++ arguments_text (map (name_of c) (take (n + 1) args))) (sym none)
