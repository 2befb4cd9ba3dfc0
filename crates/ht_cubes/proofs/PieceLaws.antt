-- Lists of clauses, piece by piece.
use Rattle.std.proofs.Common.{◌≡◌, ◌<◌, ◌≤◌, ◌+◌, ℕ, suc, List, [], ◌∷◌, ◌++◌, map, length, get_or, take, drop, Bool, true, false, not, cond, ◌||◌, refl, sym, ◌∙◌, ap, arith, append_assoc, add-one}
use Rattle.std.specs.List.{filter, flat_map, list_any}
use Rattle.std.proofs.lemmas.List.{append-nil, take_more, map-append, length-take-le}
use Rattle.std.proofs.lemmas.List.Concat.{flat_map-append}
use Rattle.std.proofs.lemmas.List.Elements.{filter-append, filter_more}
use Rattle.std.proofs.lemmas.List.Folds.{list_any_at, list_any_more}
use Rattle.std.proofs.lemmas.List.{drop_all}
use Rattle.std.proofs.lemmas.Bool.{cond-true, cond-false}
use Rattle.ht_tern.specs.Gate.{bool_xor}
use Rattle.ht_cubes.specs.declared.signed_var.SignedVar.{SignedVar}
use Rattle.ht_cubes.specs.Formula.{choices, parity_of, positive, needs, target_clauses, some_target, is_constant, may_come, without_constants}
use Rattle.ht_cubes.proofs.ListLaws.{drop_next}

-- the choices of one bit more are those that begin with 0 and then those that begin with 1
pub choices_next : (n : ℕ) → choices (n + 1)
    ≡ map (λ bits. false ∷ bits) (choices n) ++ map (λ bits. true ∷ bits) (choices n)
choices_next n = ap choices (add-one n)

-- rows that begin with 0, and then rows that begin with 1, are the choices of one bit more
pub choices_on : (n : ℕ) (rows none one two : List (List Bool)) → rows ≡ choices n → none ≡ []
    → one ≡ none ++ map (λ bits. false ∷ bits) rows → two ≡ one ++ map (λ bits. true ∷ bits) rows → two ≡ choices (n + 1)
choices_on n rows none one two so empty first second =
    second ∙ (ap (λ (l : List (List Bool)). l ++ map (λ bits. true ∷ bits) rows)
    (first ∙ ap (λ (l : List (List Bool)). l ++ map (λ bits. false ∷ bits) rows) empty)
    ∙ (ap (λ (l : List (List Bool)). map (λ bits. false ∷ bits) l ++ map (λ bits. true ∷ bits) l) so
    ∙ sym (choices_next n)))

-- a value, turned where a bit is 1
abbrev pub if_turned : Bool → Bool → Bool
if_turned b other = cond b (not other) other

-- the parity goes on with a bit
pub parity_next : (other b : Bool) (bits : List Bool)
    → bool_xor (if_turned b other) (parity_of bits) ≡ bool_xor other (parity_of (b ∷ bits))
parity_next true true bits = twice (parity_of bits)
  where
    twice : (p : Bool) → p ≡ not (not p)
    twice true = refl
    twice false = refl
parity_next true false bits = refl
parity_next false true bits = refl
parity_next false false bits = refl

-- the parity of the bits that are left, one bit on
pub parity_on : (bit : Bool) (bits : List Bool) (i : ℕ) (other new : Bool) → i < length bits
    → bool_xor other (parity_of (drop i bits)) ≡ bool_xor bit (parity_of bits)
    → new ≡ if_turned (get_or bits i false) other
    → bool_xor new (parity_of (drop (i + 1) bits)) ≡ bool_xor bit (parity_of bits)
parity_on bit bits i other new inside so is =
    ap (λ (b : Bool). bool_xor b (parity_of (drop (i + 1) bits))) is
    ∙ (parity_next other (get_or bits i false) (drop (i + 1) bits)
    ∙ (ap (λ (l : List Bool). bool_xor other (parity_of l)) (sym (drop_next bits i false inside)) ∙ so))

xor_false : (b : Bool) → b ≡ bool_xor b false
xor_false true = refl
xor_false false = refl

-- and where no bit is left
pub parity_end : (bit : Bool) (bits : List Bool) (i : ℕ) (other : Bool) → length bits ≤ i
    → bool_xor other (parity_of (drop i bits)) ≡ bool_xor bit (parity_of bits)
    → other ≡ bool_xor bit (parity_of bits)
parity_end bit bits i other past so =
    xor_false other ∙ (ap (λ (l : List Bool). bool_xor other (parity_of l)) (sym (drop_all i bits past)) ∙ so)

-- one more of a list that is kept by a test, and one that isn't
module _ {X Y : Type 0} (p : X → Bool) (f : X → Y) (xs : List X) (i : ℕ) (d : X) (inside : i < length xs) where
  -- one more that the test keeps is one more at the end
  pub kept_more : p (get_or xs i d) ≡ true
      → map f (filter p (take (i + 1) xs)) ≡ map f (filter p (take i xs)) ++ f (get_or xs i d) ∷ []
  kept_more right = ap (map f) (filter_more p xs i d inside
      ∙ ap (λ (l : List X). filter p (take i xs) ++ l) (cond-true (p (get_or xs i d)) (get_or xs i d ∷ []) [] right))
      ∙ map-append f (filter p (take i xs)) (get_or xs i d ∷ [])

  -- one more that the test leaves out leaves the list as it is
  pub left_more : p (get_or xs i d) ≡ false
      → map f (filter p (take (i + 1) xs)) ≡ map f (filter p (take i xs))
  left_more wrong = ap (map f) (filter_more p xs i d inside
      ∙ (ap (λ (l : List X). filter p (take i xs) ++ l) (cond-false (p (get_or xs i d)) (get_or xs i d ∷ []) [] wrong)
      ∙ append-nil (filter p (take i xs))))

  -- with one more that the test keeps, the new rows are those of one item more
  pub kept_on : (start rows new : List Y) → rows ≡ start ++ map f (filter p (take i xs)) → p (get_or xs i d) ≡ true
      → new ≡ rows ++ f (get_or xs i d) ∷ [] → new ≡ start ++ map f (filter p (take (i + 1) xs))
  kept_on start rows new so right is =
      is ∙ (ap (λ (l : List Y). l ++ f (get_or xs i d) ∷ []) so
      ∙ (append_assoc start (map f (filter p (take i xs))) (f (get_or xs i d) ∷ [])
      ∙ ap (λ (l : List Y). start ++ l) (sym (kept_more right))))

  -- with one more that the test leaves out, the same rows are those of one item more
  pub left_on : (start rows new : List Y) → rows ≡ start ++ map f (filter p (take i xs)) → p (get_or xs i d) ≡ false
      → new ≡ rows → new ≡ start ++ map f (filter p (take (i + 1) xs))
  left_on start rows new so wrong is = is ∙ (so ∙ ap (λ (l : List Y). start ++ l) (sym (left_more wrong)))

-- a test that none of the first passes, one more
pub none_more : {X : Type 0} (p : X → Bool) (xs : List X) (i : ℕ) (d : X) → i < length xs
    → list_any p (take i xs) ≡ false → p (get_or xs i d) ≡ false → list_any p (take (i + 1) xs) ≡ false
none_more {X} p xs i d inside none here =
    list_any_more p xs i d inside ∙ (λ k. none k || here k)

-- a clause of which something is the constant true, and one of which nothing is
pub plain_none : (clause : List SignedVar) (i : ℕ) (d : SignedVar) (rows : List (List SignedVar)) → i < length clause
    → is_constant true (get_or clause i d) ≡ true → rows ≡ rows ++ without_constants clause
plain_none clause i d rows inside on =
    sym (ap (λ (l : List (List SignedVar)). rows ++ l)
    (cond-true (list_any (is_constant true) clause) [] (filter (λ l. not (is_constant false l)) clause ∷ [])
    (list_any_at (is_constant true) clause i d inside on)) ∙ append-nil rows)

-- what isn't the constant false is kept, one more
kept_by : (clause : List SignedVar) (i : ℕ) (d : SignedVar) (plain new more : List SignedVar) → i < length clause
    → plain ≡ filter (λ l. not (is_constant false l)) (take i clause)
    → cond (not (is_constant false (get_or clause i d))) (get_or clause i d ∷ []) [] ≡ more → new ≡ plain ++ more
    → new ≡ filter (λ l. not (is_constant false l)) (take (i + 1) clause)
kept_by clause i d plain new more inside so kept is =
    is ∙ ((λ k. so k ++ sym kept k) ∙ sym (filter_more (λ l. not (is_constant false l)) clause i d inside))

-- one more that isn't the constant false is added to the clause without constants
pub kept_plain : (clause : List SignedVar) (i : ℕ) (d : SignedVar) (plain new : List SignedVar) → i < length clause
    → plain ≡ filter (λ l. not (is_constant false l)) (take i clause) → is_constant false (get_or clause i d) ≡ false
    → new ≡ plain ++ get_or clause i d ∷ [] → new ≡ filter (λ l. not (is_constant false l)) (take (i + 1) clause)
kept_plain clause i d plain new inside so wrong is = kept_by clause i d plain new (get_or clause i d ∷ []) inside so
    (cond-true (not (is_constant false (get_or clause i d))) (get_or clause i d ∷ []) [] (ap not wrong)) is

-- one more that is the constant false leaves the clause without constants as it is
pub left_plain : (clause : List SignedVar) (i : ℕ) (d : SignedVar) (plain new : List SignedVar) → i < length clause
    → plain ≡ filter (λ l. not (is_constant false l)) (take i clause) → is_constant false (get_or clause i d) ≡ true
    → new ≡ plain → new ≡ filter (λ l. not (is_constant false l)) (take (i + 1) clause)
left_plain clause i d plain new inside so right is = kept_by clause i d plain new [] inside so
    (cond-false (not (is_constant false (get_or clause i d))) (get_or clause i d ∷ []) [] (ap not right))
    (is ∙ sym (append-nil plain))

-- a target of which something is the constant false, and one of which nothing is
pub target_none : (target : List SignedVar) (i : ℕ) (d : SignedVar) (rows : List (List SignedVar)) → i < length target
    → is_constant false (get_or target i d) ≡ true → rows ≡ rows ++ filter may_come (target ∷ [])
target_none target i d rows inside on =
    sym (ap (λ (l : List (List SignedVar)). rows ++ l)
    (cond-false (may_come target) (target ∷ []) []
    (ap not (list_any_at (is_constant false) target i d inside on))) ∙ append-nil rows)

-- one more target
pub target_more : (first : ℕ) (targets : List (List SignedVar)) (target : List SignedVar)
    → target_clauses first (targets ++ target ∷ [])
    ≡ target_clauses first targets ++ map (λ l. needs (positive (first + length targets)) (l ∷ [])) target
target_more first [] target = append-nil (map (λ l. needs (positive first) (l ∷ [])) target)
    ∙ ap (λ (n : ℕ). map (λ l. needs (positive n) (l ∷ [])) target) (let e : first ≡ first + 0 = omega arith in e)
target_more first (t ∷ targets) target =
    let front = map (λ l. needs (positive first) (l ∷ [])) t in
    ap (λ (l : List (List SignedVar)). front ++ l) (target_more (suc first) targets target
    ∙ ap (λ (n : ℕ). target_clauses (suc first) targets ++ map (λ l. needs (positive n) (l ∷ [])) target)
    (let e : suc first + length targets ≡ first + suc (length targets) = omega arith in e))
    ∙ sym (append_assoc front (target_clauses (suc first) targets) _)

-- with one more target, the clause that some target comes has one more variable
pub some_more : (first : ℕ) (targets : List (List SignedVar)) (target : List SignedVar)
    → some_target first (targets ++ target ∷ []) ≡ some_target first targets ++ positive (first + length targets) ∷ []
some_more first [] target =
    ap (λ (n : ℕ). positive n ∷ []) (let e : first ≡ first + 0 = omega arith in e)
some_more first (t ∷ targets) target = ap (λ (l : List SignedVar). positive first ∷ l)
    (some_more (suc first) targets target
    ∙ ap (λ (n : ℕ). some_target (suc first) targets ++ positive n ∷ [])
    (let e : suc first + length targets ≡ first + suc (length targets) = omega arith in e))

-- a target more, of a list that is read at an index
pub targets_on : (first : ℕ) (targets : List (List SignedVar)) (i : ℕ) (start rows new : List (List SignedVar))
    (row : List SignedVar) → i < length targets → row ≡ get_or targets i []
    → rows ≡ start ++ target_clauses first (take i targets)
    → new ≡ rows ++ map (λ l. needs (positive (first + i)) (l ∷ [])) row
    → new ≡ start ++ target_clauses first (take (i + 1) targets)
targets_on first targets i start rows new row inside read so is =
    let front = take i targets in
    let long : length front ≡ i = length-take-le i targets (omega (arith, inside)) in
    let more = λ (n : ℕ) (t : List SignedVar). map (λ l. needs (positive (first + n)) (l ∷ [])) t in
    is ∙ ((λ k. so k ++ more (sym long k) (read k))
    ∙ (append_assoc start (target_clauses first front) (more (length front) (get_or targets i []))
    ∙ ap (λ (l : List (List SignedVar)). start ++ l)
    (sym (ap (target_clauses first) (take_more targets i [] inside) ∙ target_more first front (get_or targets i [])))))

-- with the variable of the next target, the clause that some target comes is that of one target more
pub some_on : (first : ℕ) (targets : List (List SignedVar)) (i : ℕ) (front new : List SignedVar) → i < length targets
    → front ≡ some_target first (take i targets) → new ≡ front ++ positive (first + i) ∷ []
    → new ≡ some_target first (take (i + 1) targets)
some_on first targets i front new inside so is =
    let long : length (take i targets) ≡ i = length-take-le i targets (omega (arith, inside)) in
    is ∙ ((λ k. so k ++ positive (first + sym long k) ∷ [])
    ∙ sym (ap (some_target first) (take_more targets i [] inside)
    ∙ some_more first (take i targets) (get_or targets i [])))

-- one more piece that a test filters
pub filtered_more : {X Y : Type 0} (p : Y → Bool) (f : X → List Y) (start rows new : List Y) (xs : List X) (i : ℕ) (d : X)
    → i < length xs → rows ≡ start ++ filter p (flat_map f (take i xs)) → new ≡ rows ++ filter p (f (get_or xs i d))
    → new ≡ start ++ filter p (flat_map f (take (i + 1) xs))
filtered_more {X} {Y} p f start rows new xs i d inside so is =
    is ∙ (ap (λ (l : List Y). l ++ filter p (f (get_or xs i d))) so
    ∙ (append_assoc start (filter p (flat_map f (take i xs))) (filter p (f (get_or xs i d)))
    ∙ ap (λ (l : List Y). start ++ l)
    (sym (filter-append p (flat_map f (take i xs)) (f (get_or xs i d)))
    ∙ ap (filter p) (ap (λ (l : List Y). flat_map f (take i xs) ++ l) (sym (append-nil (f (get_or xs i d))))
    ∙ (sym (flat_map-append f (take i xs) (get_or xs i d ∷ []))
    ∙ ap (flat_map f) (sym (take_more xs i d inside)))))))
