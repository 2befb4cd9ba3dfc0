-- Texts of pairs, and the set that each is of: its pairs stand in the order of all pairs.
use Rattle.std.proofs.Common.{◌≡◌, ◌≢◌, ◌⊎◌, ◌↔◌, inl, inr, ℕ, ◌+◌, ◌<◌, ◌≤◌, Bool, true, false, List, [], ◌∷◌, ◌++◌, Option, Some, None, length, map, get_or, drop, drop-cons, add-one, append_assoc, refl, sym, ap, ◌∙◌, subst, cond, arith}
use Rattle.std.specs.Prelude.{IfSome}
use Rattle.std.specs.List.{filter}
use Rattle.std.proofs.lemmas.Bool.{cases_Bool, cond-true, cond-false, true≢false}
use Rattle.std.proofs.lemmas.List.{append-nil}
use Rattle.std.proofs.Math.ListN.{drop_of_length-le}
use Rattle.ht_tern.specs.declared.tern.Tern.{Tern}
use Rattle.ht_texts.specs.Tests.{tern_code}
use Rattle.ht_texts.proofs.VectorLaws.{tern_code_injective}
use Rattle.ht_pairs.specs.Pairs.{Pair, pair, all_pairs, IsMember, is_member, set_of}
use Rattle.ht_pairs.specs.Included.{joined_set}
use Rattle.ht_pairs.proofs.SetLaws.{agree, is_member-true, is_member-from, set_of_holds, member_left, member_right, member_either, set_of-same}
use Rattle.ht_entries.specs.BySets.{pairs_text, pairs_of, IsSetText}
use Rattle.ht_entries.specs.ParsedLines.{IsParsed}

-- ---- texts

-- the text of two lists of pairs joined is that of the first and then that of the second
pub pairs_append : (set more : List Pair) → pairs_text (set ++ more) ≡ pairs_text set ++ pairs_text more
pairs_append [] more = refl
pairs_append (p ∷ set) more =
    ap (λ t. 32 ∷ tern_code p.good ∷ tern_code p.faulty ∷ t) (pairs_append set more)

pub record SamePair (p q : Pair) (rest more : List ℕ) : Type 0 where
  pub pairs : p ≡ q
  pub rests : rest ≡ more

-- texts that begin with a pair begin with one pair
pub first_pair_same : (p q : Pair) (rest more : List ℕ)
    → pairs_text (p ∷ []) ++ rest ≡ pairs_text (q ∷ []) ++ more → SamePair p q rest more
first_pair_same p q rest more e =
    let good : tern_code p.good ≡ tern_code q.good = cc in
    let faulty : tern_code p.faulty ≡ tern_code q.faulty = cc in
    record {
      pairs = ap (λ g. pair g p.faulty) (tern_code_injective p.good q.good good)
          ∙ ap (λ f. pair q.good f) (tern_code_injective p.faulty q.faulty faulty);
      rests = cc;
    }

no_pair : (p : Pair) (rest : List ℕ) → [] ≡ pairs_text (p ∷ []) ++ rest → ⊥
no_pair p rest e = cc

-- lists of pairs with the same text are the same
pub pairs_same : (set other : List Pair) → pairs_text set ≡ pairs_text other → set ≡ other
pairs_same [] [] e = refl
pairs_same [] (q ∷ other) e = absurd (no_pair q (pairs_text other) e)
pairs_same (p ∷ set) [] e = absurd (no_pair p (pairs_text set) (sym e))
pairs_same (p ∷ set) (q ∷ other) e =
    let same = first_pair_same p q (pairs_text set) (pairs_text other) e in
    ap (λ x. x ∷ set) same.pairs ∙ ap (λ x. q ∷ x) (pairs_same set other same.rests)

-- ---- the order of pairs

-- each pair of the list is one of the others, after the one before it
abbrev pub IsWithin : List Pair → List Pair → Type 0
IsWithin set [] = set ≡ []
IsWithin set (p ∷ left) = IsWithin set left ⊎ ((more : List Pair) × (set ≡ p ∷ more) × IsWithin more left)

-- no pair stands twice
abbrev pub AreDistinct : List Pair → Type 0
AreDistinct [] = Unit {0}
AreDistinct (p ∷ left) = (is_member p left ≡ false) × AreDistinct left

-- the list of all pairs has no pair twice
pub all_distinct : AreDistinct all_pairs
all_distinct = (refl, (refl, (refl, (refl, (refl, (refl, (refl, (refl, (refl, tt)))))))))

no_member : (p : Pair) (set : List Pair) → set ≡ [] → IsMember p set → ⊥
no_member p set e h = subst (IsMember p) e h

-- a pair of a list within others is one of the others
pub within_holds : (p : Pair) (set left : List Pair) → IsWithin set left → IsMember p set → IsMember p left
within_holds p set [] w h = absurd (no_member p set w h)
within_holds p set (q ∷ left) (inl w) h = inr (within_holds p set left w h)
within_holds p set (q ∷ left) (inr w) h = elim (subst (IsMember p) (w.1) h) [
  | inl e ↦ inl e
  | inr k ↦ inr (within_holds p w.0 left w.2 k)
]

absent : (p : Pair) (left : List Pair) → is_member p left ≡ false → IsMember p left → ⊥
absent p left none h = true≢false (sym (is_member-from p left h) ∙ none)

-- two tests that agree on the members pass the same
filter_on : (f g : Pair → Bool) (ps : List Pair) → ((p : Pair) → IsMember p ps → f p ≡ g p) → filter f ps ≡ filter g ps
filter_on f g [] h = refl
filter_on f g (p ∷ ps) h =
    ap (λ b. cond b (p ∷ filter f ps) (filter f ps)) (h p (inl refl))
    ∙ ap (λ l. cond (g p) (p ∷ l) l) (filter_on f g ps (λ q k. h q (inr k)))

-- the members of a list within others are those of the others that it has
members_again : (ps : List Pair) → AreDistinct ps → (set : List Pair) → IsWithin set ps
    → filter (λ p. is_member p set) ps ≡ set
members_again [] d set w = sym w
members_again (p ∷ left) d set (inl w) =
    let rest = filter (λ q. is_member q set) left in
    let none : is_member p set ≡ false = elim (cases_Bool (is_member p set)) [
      | inl e ↦ absurd (absent p left (d.0) (within_holds p set left w (is_member-true p set e)))
      | inr e ↦ e
    ] in
    cond-false (is_member p set) (p ∷ rest) rest none ∙ members_again left (d.1) set w
members_again (p ∷ left) d set (inr w) =
    let t = w.0 in
    let rest = filter (λ q. is_member q (p ∷ t)) left in
    let here : is_member p (p ∷ t) ≡ true = is_member-from p (p ∷ t) (inl refl) in
    let others : rest ≡ filter (λ q. is_member q t) left =
    filter_on (λ q. is_member q (p ∷ t)) (λ q. is_member q t) left (λ q k. agree (is_member q (p ∷ t)) (is_member q t)
    (λ e. elim (is_member-true q (p ∷ t) e) [
      | inl same ↦ absurd (absent p left (d.0) (subst (λ x. IsMember x left) same k))
      | inr h ↦ is_member-from q t h
    ])
    (λ e. is_member-from q (p ∷ t) (inr (is_member-true q t e)))) in
    ap (λ s. filter (λ q. is_member q s) (p ∷ left)) (w.1)
    ∙ cond-true (is_member p (p ∷ t)) (p ∷ rest) rest here
    ∙ ap (λ l. p ∷ l) (others ∙ members_again left (d.1) t (w.2))
    ∙ sym (w.1)

-- a list of pairs in the order of all pairs is the set of its pairs
pub in_order : (set : List Pair) → IsWithin set all_pairs → set ≡ set_of set
unfolding set_of
in_order set w = sym (members_again all_pairs all_distinct set w)

within_at : (b : Bool) (p : Pair) (set left : List Pair) → IsWithin set left
    → IsWithin (cond b (p ∷ set) set) (p ∷ left)
within_at true p set left w = inr (set, refl, w)
within_at false p set left w = inl w

filter_within : (f : Pair → Bool) (ps : List Pair) → IsWithin (filter f ps) ps
filter_within f [] = refl
filter_within f (p ∷ ps) = within_at (f p) p (filter f ps) ps (filter_within f ps)

set_within : (set : List Pair) → IsWithin (set_of set) all_pairs
unfolding set_of
set_within set = filter_within (λ p. is_member p set) all_pairs

-- a list that is the set of its pairs is in the order of all pairs
pub is_within : (set : List Pair) → set ≡ set_of set → IsWithin set all_pairs
is_within set e = subst (λ s. IsWithin s all_pairs) (sym e) (set_within set)

few_within : (set left : List Pair) → IsWithin set left → length set ≤ length left
few_within set [] w = omega (arith, ap length w)
few_within set (p ∷ left) (inl w) = omega (arith, few_within set left w)
few_within set (p ∷ left) (inr w) = omega (arith, ap length (w.1), few_within w.0 left w.2)

-- a set has at most nine pairs
pub at_most_nine : (set : List Pair) → set ≡ set_of set → length set ≤ 9
at_most_nine set e = few_within set all_pairs (is_within set e)

set_of_again : (ps : List Pair) → set_of ps ≡ set_of (set_of ps)
set_of_again ps = set_of-same ps (set_of ps) (λ p. let h = set_of_holds ps p in (h.1, h.0))

-- ---- a text read pair by pair

-- Some pairs of a text were read, a set of them is kept, and of all pairs these are left to be tried.
pub record ReadsPairs (text rest : List ℕ) (set : Option (List Pair)) (left : List Pair) : Type 0 where
  pub taken : List Pair
  pub parts : text ≡ pairs_text taken ++ rest
  pub within : (more : List Pair) → IsWithin more left → IsWithin (taken ++ more) all_pairs
  pub members : (p : Pair) → IsMember p (pairs_of set) ↔ IsMember p taken
  pub kept : IfSome set IsSetText
  pub distinct : AreDistinct left
  -- what is left of the text of a set that begins with these pairs
  pub others : (set : List Pair) → set ≡ set_of set → text ≡ pairs_text set
      → (more : List Pair) × (rest ≡ pairs_text more) × IsWithin more left

-- before its first pair is read, a whole text is left, no set is kept, and all pairs are to be tried
pub begins_reading : (text : List ℕ) → ReadsPairs text text None all_pairs
begins_reading text = record {
  taken = [];
  parts = refl;
  within = λ more w. w;
  members = λ p. (λ h. h, λ h. h);
  kept = tt;
  distinct = all_distinct;
  others = λ set order e. (set, e, is_within set order);
}

-- the next pair isn't there
pub passes_pair : (text rest : List ℕ) (set : Option (List Pair)) (p : Pair) (left : List Pair)
    → ReadsPairs text rest set (p ∷ left) → ((more : List ℕ) → rest ≢ pairs_text (p ∷ []) ++ more)
    → ReadsPairs text rest set left
passes_pair text rest set p left h none = record {
  taken = h.taken;
  parts = h.parts;
  within = λ more w. h.within more (inl w);
  members = h.members;
  kept = h.kept;
  distinct = h.distinct.1;
  others = λ other order e.
      let o = h.others other order e in
      elim o.2 [
        | inl w ↦ (o.0, o.1, w)
        | inr w ↦ absurd (none (pairs_text w.0) (o.1 ∙ ap pairs_text w.1))
      ];
}

-- what follows it, after the text of pairs of which it is the next
after_pair_is : (p : Pair) (left : List Pair) (after : List ℕ) (more : List Pair) → is_member p left ≡ false
    → pairs_text (p ∷ []) ++ after ≡ pairs_text more → IsWithin more (p ∷ left)
    → (next : List Pair) × (after ≡ pairs_text next) × IsWithin next left
after_pair_is p left after [] none e w = absurd (no_pair p after (sym e))
after_pair_is p left after (q ∷ more) none e (inl w) =
    let same = first_pair_same p q after (pairs_text more) e in
    absurd (absent p left none (within_holds p (q ∷ more) left w (inl same.pairs)))
after_pair_is p left after (q ∷ more) none e (inr w) =
    let same = first_pair_same p q after (pairs_text more) e in
    let rest : more ≡ w.0 = let f = w.1 in cc in
    (w.0, same.rests ∙ ap pairs_text rest, w.2)

joined_holds : (set taken : List Pair) (p : Pair) → ((q : Pair) → IsMember q set ↔ IsMember q taken)
    → (q : Pair) → IsMember q (joined_set set (p ∷ [])) ↔ IsMember q (taken ++ p ∷ [])
joined_holds set taken p h q = (
  λ k. elim (member_either q set (p ∷ []) ((set_of_holds (set ++ p ∷ []) q).0 k)) [
    | inl m ↦ member_left q taken (p ∷ []) ((h q).0 m)
    | inr m ↦ member_right q taken (p ∷ []) m
  ],
  λ k. (set_of_holds (set ++ p ∷ []) q).1 (elim (member_either q taken (p ∷ []) k) [
    | inl m ↦ member_left q set (p ∷ []) ((h q).1 m)
    | inr m ↦ member_right q set (p ∷ []) m
  ]),
)

-- a set with a member has one or more
pub some_of_member : (p : Pair) (set : List Pair) → IsMember p set → 0 < length set
some_of_member p [] h = absurd h
some_of_member p (q ∷ set) h = omega arith

joined_is_set : (set : List Pair) (p : Pair) → IsSetText (joined_set set (p ∷ []))
joined_is_set set p = record {
  some = some_of_member p (joined_set set (p ∷ []))
      ((set_of_holds (set ++ p ∷ []) p).1 (member_right p set (p ∷ []) (inl refl)));
  in_order = set_of_again (set ++ p ∷ []);
}

-- the next pair is there
pub takes_pair : (text rest after : List ℕ) (set : Option (List Pair)) (p : Pair) (left : List Pair)
    → ReadsPairs text rest set (p ∷ left) → rest ≡ pairs_text (p ∷ []) ++ after
    → ReadsPairs text after (Some (joined_set (pairs_of set) (p ∷ []))) left
takes_pair text rest after set p left h is = record {
  taken = h.taken ++ p ∷ [];
  parts = h.parts ∙ ap (λ t. pairs_text h.taken ++ t) is
      ∙ (sym (append_assoc (pairs_text h.taken) (pairs_text (p ∷ [])) after)
      ∙ ap (λ t. t ++ after) (sym (pairs_append h.taken (p ∷ []))));
  within = λ more w. subst (λ s. IsWithin s all_pairs) (sym (append_assoc h.taken (p ∷ []) more))
      (h.within (p ∷ more) (inr (more, refl, w)));
  members = joined_holds (pairs_of set) h.taken p h.members;
  kept = joined_is_set (pairs_of set) p;
  distinct = h.distinct.1;
  others = λ other order e.
      let o = h.others other order e in
      after_pair_is p left after o.0 (h.distinct.0) (sym is ∙ o.1) o.2;
}

-- ---- after all pairs

-- what is left over is no set's
no_set_left : (text rest : List ℕ) (set : Option (List Pair)) → ReadsPairs text rest set [] → rest ≢ []
    → (other : List Pair) → IsSetText other → text ≢ pairs_text other
no_set_left text rest set h more other is e =
    let o = h.others other is.in_order e in
    more (o.1 ∙ ap pairs_text o.2)

nothing_taken : (taken : List Pair) → ((p : Pair) → IsMember p [] ↔ IsMember p taken) → taken ≡ []
nothing_taken [] h = refl
nothing_taken (p ∷ taken) h = absurd ((h p).1 (inl refl))

-- no pair is no set
pub no_pairs_read : (text : List ℕ) → ReadsPairs text [] None [] → (other : List Pair) → IsSetText other
    → text ≢ pairs_text other
no_pairs_read text h other is e =
    let none = nothing_taken h.taken h.members in
    let empty : other ≡ [] =
    pairs_same other [] (sym e ∙ h.parts ∙ append-nil (pairs_text h.taken) ∙ ap pairs_text none) in
    omega (arith, is.some, ap length empty)

-- the set that was read
pub set_is_read : (text : List ℕ) (set : List Pair) → ReadsPairs text [] (Some set) [] → text ≡ pairs_text set
set_is_read text set h =
    let order : h.taken ≡ set_of h.taken =
    in_order h.taken (subst (λ s. IsWithin s all_pairs) (append-nil h.taken) (h.within [] refl)) in
    let same : set ≡ h.taken = h.kept.in_order ∙ set_of-same set h.taken h.members ∙ sym order in
    h.parts ∙ append-nil (pairs_text h.taken) ∙ ap pairs_text (sym same)

-- ---- a set written pair by pair

-- those of some pairs that a set has
abbrev pub written : List Pair → List Pair → List Pair
written set left = filter (λ p. is_member p set) left

-- of all pairs, those that a set has are written as the set is
pub all_written : (set : List Pair) → set ≡ set_of set → pairs_text (written set all_pairs) ≡ pairs_text set
unfolding set_of
all_written set e = ap pairs_text (sym e)

-- a next pair that the set has is written before those after it
pub writes_pair : (set : List Pair) (p : Pair) (left : List Pair) → IsMember p set
    → pairs_text (written set (p ∷ left)) ≡ pairs_text (p ∷ []) ++ pairs_text (written set left)
writes_pair set p left h =
    ap pairs_text (cond-true (is_member p set) (p ∷ written set left) (written set left) (is_member-from p set h))

-- nothing is written for a next pair that the set doesn't have
pub writes_none : (set : List Pair) (p : Pair) (left : List Pair) → (IsMember p set → ⊥)
    → pairs_text (written set (p ∷ left)) ≡ pairs_text (written set left)
writes_none set p left none = ap pairs_text (cond-false (is_member p set) (p ∷ written set left) (written set left)
    (elim (cases_Bool (is_member p set)) [ inl e ↦ absurd (none (is_member-true p set e)) | inr e ↦ e ]))

-- ---- the table of pairs, row by row

-- the pair of a row, and the pairs from a row on
abbrev pub pair_at : List (Tern × Tern) → ℕ → Tern × Tern → Pair
pair_at table k any = pair (get_or table k any).0 (get_or table k any).1

abbrev pub left_of : List (Tern × Tern) → ℕ → List Pair
left_of table k = map (λ row. pair row.0 row.1) (drop k table)

next_left : (table : List (Tern × Tern)) (k : ℕ) (any : Tern × Tern) → k < length table
    → left_of table k ≡ pair_at table k any ∷ left_of table (k + 1)
next_left table k any below =
    ap (map (λ (row : Tern × Tern). pair row.0 row.1)) (drop-cons table k any below)
    ∙ ap (λ i. pair_at table k any ∷ left_of table i) (sym (add-one k))

none_left : (table : List (Tern × Tern)) (k : ℕ) → length table ≤ k → left_of table k ≡ []
none_left table k beyond = ap (map (λ (row : Tern × Tern). pair row.0 row.1)) (drop_of_length-le table beyond)

-- where the pair of a row comes next in the text, it is taken, and the rows after it are left
pub takes_next : (text rest after now : List ℕ) (set more : Option (List Pair)) (table : List (Tern × Tern)) (k : ℕ)
    (any : Tern × Tern) → k < length table → ReadsPairs text rest set (left_of table k)
    → rest ≡ pairs_text (pair_at table k any ∷ []) ++ after
    → more ≡ Some (joined_set (pairs_of set) (pair_at table k any ∷ [])) → now ≡ after
    → ReadsPairs text now more (left_of table (k + 1))
takes_next text rest after now set more table k any below h is grown same =
    subst (λ t. ReadsPairs text t more (left_of table (k + 1))) (sym same)
    (subst (λ s. ReadsPairs text after s (left_of table (k + 1))) (sym grown)
    (takes_pair text rest after set (pair_at table k any) (left_of table (k + 1))
    (subst (ReadsPairs text rest set) (next_left table k any below) h) is))

-- where the pair of a row doesn't come next in the text, it is passed, and the rows after it are left
pub passes_next : (text rest now : List ℕ) (set more : Option (List Pair)) (table : List (Tern × Tern)) (k : ℕ)
    (any : Tern × Tern) → k < length table → ReadsPairs text rest set (left_of table k)
    → ((after : List ℕ) → rest ≢ pairs_text (pair_at table k any ∷ []) ++ after) → more ≡ set → now ≡ rest
    → ReadsPairs text now more (left_of table (k + 1))
passes_next text rest now set more table k any below h none kept same =
    subst (λ t. ReadsPairs text t more (left_of table (k + 1))) (sym same)
    (subst (λ s. ReadsPairs text rest s (left_of table (k + 1))) (sym kept)
    (passes_pair text rest set (pair_at table k any) (left_of table (k + 1))
    (subst (ReadsPairs text rest set) (next_left table k any below) h) none))

-- the set that was read, or that there is none
set_or_none : (text : List ℕ) (set : Option (List Pair)) → ReadsPairs text [] set []
    → IsParsed pairs_text IsSetText text set
set_or_none text None h = no_pairs_read text h
set_or_none text (Some set) h = (set_is_read text set h, h.kept)

-- a text that is read to its end after the last row is parsed as the set that is kept, if there is one
pub parsed_set : (text rest : List ℕ) (set : Option (List Pair)) (table : List (Tern × Tern)) (k : ℕ)
    → length table ≤ k → ReadsPairs text rest set (left_of table k) → rest ≡ []
    → IsParsed pairs_text IsSetText text set
parsed_set text rest set table k beyond h none =
    set_or_none text set (subst (λ t. ReadsPairs text t set []) none
    (subst (ReadsPairs text rest set) (none_left table k beyond) h))

-- a text of which something is left after the last row is that of no set
pub no_parsed_set : (text rest : List ℕ) (set : Option (List Pair)) (table : List (Tern × Tern)) (k : ℕ)
    → length table ≤ k → ReadsPairs text rest set (left_of table k) → rest ≢ []
    → (other : List Pair) → IsSetText other → text ≢ pairs_text other
no_parsed_set text rest set table k beyond h more =
    no_set_left text rest set (subst (ReadsPairs text rest set) (none_left table k beyond) h) more

-- after a row's pair that the set has is written, the rows after it complete the text
pub writes_next : (set : List Pair) (table : List (Tern × Tern)) (k : ℕ) (any : Tern × Tern) (text now whole : List ℕ)
    → k < length table → IsMember (pair_at table k any) set
    → text ++ pairs_text (written set (left_of table k)) ≡ whole
    → now ≡ text ++ pairs_text (pair_at table k any ∷ [])
    → now ++ pairs_text (written set (left_of table (k + 1))) ≡ whole
writes_next set table k any text now whole below member so_far is =
    let p = pair_at table k any in
    let left = left_of table (k + 1) in
    ap (λ t. t ++ pairs_text (written set left)) is
    ∙ append_assoc text (pairs_text (p ∷ [])) (pairs_text (written set left))
    ∙ ap (λ t. text ++ t) (sym (writes_pair set p left member))
    ∙ ap (λ l. text ++ pairs_text (written set l)) (sym (next_left table k any below))
    ∙ so_far

-- nothing is written for a row's pair that the set doesn't have, and the rows after it complete the text
pub writes_none_next : (set : List Pair) (table : List (Tern × Tern)) (k : ℕ) (any : Tern × Tern)
    (text now whole : List ℕ) → k < length table → (IsMember (pair_at table k any) set → ⊥)
    → text ++ pairs_text (written set (left_of table k)) ≡ whole → now ≡ text
    → now ++ pairs_text (written set (left_of table (k + 1))) ≡ whole
writes_none_next set table k any text now whole below none so_far same =
    let p = pair_at table k any in
    let left = left_of table (k + 1) in
    ap (λ t. t ++ pairs_text (written set left)) same
    ∙ ap (λ t. text ++ t) (sym (writes_none set p left none))
    ∙ ap (λ l. text ++ pairs_text (written set l)) (sym (next_left table k any below))
    ∙ so_far

-- after the last row the text is complete
pub wrote_all : (set : List Pair) (table : List (Tern × Tern)) (k : ℕ) (text whole : List ℕ) → length table ≤ k
    → text ++ pairs_text (written set (left_of table k)) ≡ whole → text ≡ whole
wrote_all set table k text whole beyond so_far =
    sym (append-nil text) ∙ ap (λ l. text ++ pairs_text (written set l)) (sym (none_left table k beyond)) ∙ so_far
