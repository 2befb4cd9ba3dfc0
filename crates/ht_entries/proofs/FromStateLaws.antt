-- A refutation from a state, read line by line.
use Rattle.std.proofs.Common.{◌≡◌, ◌+◌, ◌&&◌, ltb, eqb, ℕ, Bool, true, false, List, [], ◌∷◌, ◌++◌, Option, Some, None, length, map, flat_map, append_assoc, refl, sym, ap, ◌∙◌, subst, arith}
use Rattle.std.proofs.lemmas.Bool.{and_parts, eqb-true, ltb-true}
use Rattle.std.proofs.lemmas.Option.{none-some, same_Some}
use Rattle.std.proofs.lemmas.List.{append-nil, length-append, map_push}
use Rattle.std.proofs.lemmas.List.Concat.{flat_map-cons}
use Rattle.std.proofs.lemmas.Grind.{flat_map-append}
use Rattle.std.proofs.lemmas.List.Elements.{All-nil, All-cons, All-head, All-tail, All-push}
use Rattle.std.specs.List.{All}
use Rattle.std.specs.Option.{option_map}
use Rattle.ht_tree.specs.declared.token.Token.{Token}
use Rattle.ht_tree.specs.declared.clause.Clause.{Clause}
use Rattle.ht_tree.specs.declared.clause.Literal.{Literal}
use Rattle.ht_tree.specs.Clause.Invariants.{max_clauses}
use Rattle.ht_entries.specs.declared.proof_line.ProofLine.{ProofLine}
use Rattle.ht_entries.specs.declared.proof_line.ProofLine.TheVariants as line
use Rattle.ht_entries.specs.declared.from_state.FromStateLine.TheVariants as form
use Rattle.ht_entries.specs.declared.from_state.FromStatePart.{FromStatePart}
use Rattle.ht_entries.specs.ProofLines.{IsIndex, IsTokenText, IsProofLine}
use Rattle.ht_entries.specs.PartWords.{walk_lines, IsWalkText, where_true, only_where, is_above}
use Rattle.ht_entries.specs.FromState.{IsSecondText, clause_lines, from_state_lines, IsClauseText, IsFromStateText, new_clause, add_clause_token, is_in_clauses, has_clause, with_clauses, grow_before_walk, grow_window_walk, grow_from_state_by, grow_from_state}
use Rattle.ht_entries.proofs.RisesLaws.{rises_add}
use Rattle.ht_entries.proofs.GrowLaws.{where_is, mapped_is, grown_end, walk_end}

-- a token more in the walk of the last clause
abbrev with_token : Clause → Token → Clause
with_token clause t = record clause { tokens = clause.tokens ++ t ∷ [] }

-- a token more goes to the end of the last clause's walk
pub add_clause_token_last : (front : List Clause) (last : Clause) (t : Token)
    → add_clause_token (front ++ last ∷ []) t ≡ Some (front ++ with_token last t ∷ [])
add_clause_token_last [] last t = refl
add_clause_token_last (c ∷ []) last t = refl
add_clause_token_last (c ∷ d ∷ front) last t =
    ap (option_map (λ rest. c ∷ rest)) (add_clause_token_last (d ∷ front) last t)

-- ---- a line that belongs to the part is one line more of it

pub record FromStateGrows (p : FromStatePart) (l : ProofLine) (q : FromStatePart) : Type 0 where
  pub readable : IsFromStateText q
  pub more : (n : ℕ) → from_state_lines n q ≡ from_state_lines n p ++ l ∷ []

abbrev clauses_front : ℕ → FromStatePart → List ProofLine
clauses_front n p = line.FromState (form.Begins n p.state) ∷ flat_map clause_lines p.clauses

abbrev z_front : ℕ → FromStatePart → List ProofLine
z_front n p = clauses_front n p ++ map line.Z p.z

walkless : (n : ℕ) (p : FromStatePart) → p.walk ≡ None → from_state_lines n p ≡ z_front n p
walkless n p no_walk = ap (λ w. z_front n p ++ walk_lines w) no_walk ∙ append-nil (z_front n p)

bare : (n : ℕ) (p : FromStatePart) → p.z ≡ [] → p.walk ≡ None → from_state_lines n p ≡ clauses_front n p
bare n p no_z no_walk =
    walkless n p no_walk ∙ ap (λ z. clauses_front n p ++ map line.Z z) no_z ∙ append-nil (clauses_front n p)

is_empty : {A : Type 0} (list : List A) → eqb (length list) 0 ≡ true → list ≡ []
is_empty [] e = refl
is_empty (x ∷ xs) e = absurd (let size = eqb-true (length (x ∷ xs)) 0 e in omega (arith, size))

not_pushed : {A : Type 0} (xs : List A) (x : A) → xs ++ x ∷ [] ≡ [] → ⊥
not_pushed xs x e = omega (arith, ap length e, length-append xs (x ∷ []))

-- a part with a clause has begun
begun_by_clause : {A : Type 0} (p : FromStatePart) → has_clause p ≡ true → p.clauses ≡ [] → A
begun_by_clause p some e =
    let size = ltb-true 0 (length p.clauses) some in absurd (omega (arith, size, ap length e))

clause_grows : (p : FromStatePart) (first : Literal) (second : Option Literal) (q : FromStatePart)
    → IsFromStateText p → p.walk ≡ None → IsIndex first.dff × IsSecondText first second
    → where_true (is_in_clauses p && ltb (length p.clauses) max_clauses)
    (with_clauses p (p.clauses ++ new_clause first second ∷ [])) ≡ Some q
    → FromStateGrows p (line.FromState (form.Clause first second)) q
clause_grows p first second q h no_walk i e =
    let clause = new_clause first second in
    let made = with_clauses p (p.clauses ++ clause ∷ []) in
    let w = where_is (is_in_clauses p && ltb (length p.clauses) max_clauses) made q e in
    let tests = and_parts (is_in_clauses p) (ltb (length p.clauses) max_clauses) w.test in
    let no_z = is_empty p.z tests.0 in
    let l = line.FromState (form.Clause first second) in
    subst (FromStateGrows p l) w.is (record {
      readable = record {
        state = h.state;
        each = All-push IsClauseText p.clauses clause h.each
            (record { first = i.0; second = i.1; tokens = All-nil IsTokenText });
        few = let room = ltb-true (length p.clauses) max_clauses tests.1 in
            omega (arith, room, length-append p.clauses (clause ∷ []));
        z = h.z;
        walk = h.walk;
        begun = λ f. absurd (not_pushed p.clauses clause f);
      };
      more = λ n. bare n made no_z no_walk
          ∙ ap (λ x. line.FromState (form.Begins n p.state) ∷ x)
          (flat_map-append clause_lines p.clauses (clause ∷ [])
          ∙ ap (λ x. flat_map clause_lines p.clauses ++ x) (append-nil (clause_lines clause)))
          ∙ ap (λ x. x ++ l ∷ []) (sym (bare n p no_z no_walk));
    })

-- a token more in the walk of the last clause
record AddsToken (clauses : List Clause) (t : Token) (more : List Clause) : Type 0 where
  readable : All IsClauseText more
  size : length more ≡ length clauses
  lines : flat_map clause_lines more ≡ flat_map clause_lines clauses ++ line.Token t ∷ []

adds_token : (clauses : List Clause) (t : Token) (more : List Clause) → All IsClauseText clauses → IsTokenText t
    → add_clause_token clauses t ≡ Some more → AddsToken clauses t more
adds_token [] t more h i e = absurd (none-some more e)
adds_token (c ∷ []) t more h i e =
    let ok : IsClauseText c = All-head IsClauseText c [] h in
    subst (AddsToken (c ∷ []) t) (same_Some (with_token c t ∷ []) more e) (record {
      readable = All-cons IsClauseText (with_token c t) []
          (record { first = ok.first; second = ok.second; tokens = All-push IsTokenText c.tokens t ok.tokens i })
          (All-nil IsClauseText);
      size = refl;
      lines = append-nil (clause_lines (with_token c t))
          ∙ ap (λ x. line.FromState (form.Clause c.first c.second) ∷ x) (map_push line.Token c.tokens t)
          ∙ ap (λ x. x ++ line.Token t ∷ []) (sym (append-nil (clause_lines c)));
    })
adds_token (c ∷ d ∷ clauses) t more h i e =
    let m = mapped_is (λ rest. c ∷ rest) (add_clause_token (d ∷ clauses) t) more e in
    let inner = adds_token (d ∷ clauses) t m.from (All-tail IsClauseText c (d ∷ clauses) h) i m.has in
    subst (AddsToken (c ∷ d ∷ clauses) t) m.is (record {
      readable = All-cons IsClauseText c m.from (All-head IsClauseText c (d ∷ clauses) h) inner.readable;
      size = omega (arith, inner.size);
      lines = flat_map-cons clause_lines c m.from ∙ (ap (λ x. clause_lines c ++ x) inner.lines
          ∙ (sym (append_assoc (clause_lines c) (flat_map clause_lines (d ∷ clauses)) (line.Token t ∷ []))
          ∙ ap (λ x. x ++ line.Token t ∷ []) (sym (flat_map-cons clause_lines c (d ∷ clauses)))));
    })

abbrev OnlyIs : {A : Type 0} → Bool → Option A → A → Type 0
OnlyIs b x y = (b ≡ true) × (x ≡ Some y)

only_is : {A : Type 0} (b : Bool) (x : Option A) (y : A) → only_where b x ≡ Some y → OnlyIs b x y
only_is true x y e = (refl, e)
only_is false x y e = absurd (none-some y e)

same_size : {A : Type 0} (xs ys : List A) → length xs ≡ length ys → xs ≡ [] → ys ≡ []
same_size xs [] e f = refl
same_size xs (y ∷ ys) e f = absurd (let size = ap length f in omega (arith, e, size))

token_grows : (p : FromStatePart) (t : Token) (q : FromStatePart) → IsFromStateText p → p.walk ≡ None → IsTokenText t
    → option_map (with_clauses p) (only_where (is_in_clauses p) (add_clause_token p.clauses t)) ≡ Some q
    → FromStateGrows p (line.Token t) q
token_grows p t q h no_walk i e =
    let m = mapped_is (with_clauses p) (only_where (is_in_clauses p) (add_clause_token p.clauses t)) q e in
    let only = only_is (is_in_clauses p) (add_clause_token p.clauses t) m.from m.has in
    let no_z = is_empty p.z only.0 in
    let s = adds_token p.clauses t m.from h.each i only.1 in
    subst (FromStateGrows p (line.Token t)) m.is (record {
      readable = record {
        state = h.state;
        each = s.readable;
        few = omega (arith, h.few, s.size);
        z = h.z;
        walk = h.walk;
        begun = λ f. let begun = h.begun (same_size m.from p.clauses s.size f) in
            record { no_z = begun.no_z; no_walk = begun.no_walk };
      };
      more = λ n. bare n (with_clauses p m.from) no_z no_walk
          ∙ ap (λ x. line.FromState (form.Begins n p.state) ∷ x) s.lines
          ∙ ap (λ x. x ++ line.Token t ∷ []) (sym (bare n p no_z no_walk));
    })

z_grows : (p : FromStatePart) (j : ℕ) (q : FromStatePart) → IsFromStateText p → p.walk ≡ None → IsIndex j
    → where_true (has_clause p && is_above p.z j) (record p { z = p.z ++ j ∷ [] }) ≡ Some q
    → FromStateGrows p (line.Z j) q
z_grows p j q h no_walk i e =
    let made : FromStatePart = record p { z = p.z ++ j ∷ [] } in
    let w = where_is (has_clause p && is_above p.z j) made q e in
    let tests = and_parts (has_clause p) (is_above p.z j) w.test in
    subst (FromStateGrows p (line.Z j)) w.is (record {
      readable = record {
        state = h.state;
        each = h.each;
        few = h.few;
        z = record { each = All-push IsIndex p.z j h.z.each i; rises = rises_add p.z j h.z.rises tests.1 };
        walk = h.walk;
        begun = λ f. begun_by_clause p tests.0 f;
      };
      more = λ n. walkless n made no_walk
          ∙ grown_end (clauses_front n p) (map line.Z (p.z ++ j ∷ [])) (map line.Z p.z) (line.Z j ∷ [])
          (map_push line.Z p.z j)
          ∙ ap (λ x. x ++ line.Z j ∷ []) (sym (walkless n p no_walk));
    })

walk_begins : (p : FromStatePart) (q : FromStatePart) → IsFromStateText p → p.walk ≡ None
    → where_true (has_clause p) (record p { walk = Some [] }) ≡ Some q → FromStateGrows p line.Walk q
walk_begins p q h no_walk e =
    let made : FromStatePart = record p { walk = Some [] } in
    let w = where_is (has_clause p) made q e in
    subst (FromStateGrows p line.Walk) w.is (record {
      readable = record {
        state = h.state;
        each = h.each;
        few = h.few;
        z = h.z;
        walk = All-nil IsTokenText;
        begun = λ f. begun_by_clause p w.test f;
      };
      more = λ n. ap (λ x. x ++ line.Walk ∷ []) (sym (walkless n p no_walk));
    })

grow_before_walk_is : (p : FromStatePart) (l : ProofLine) (q : FromStatePart) → IsFromStateText p → p.walk ≡ None
    → IsProofLine l → grow_before_walk p l ≡ Some q → FromStateGrows p l q
grow_before_walk_is p (line.FromState (form.Clause first second)) q h no_walk i e =
    clause_grows p first second q h no_walk i e
grow_before_walk_is p (line.Token t) q h no_walk i e = token_grows p t q h no_walk i e
grow_before_walk_is p (line.Z j) q h no_walk i e = z_grows p j q h no_walk i e
grow_before_walk_is p line.Walk q h no_walk i e = walk_begins p q h no_walk e
grow_before_walk_is p l q h no_walk i e = absurd (none-some q e)

some_not_none : (tokens : List Token) → Some tokens ≡ None → ⊥
some_not_none tokens e = none-some tokens (sym e)

grow_window_walk_is : (p : FromStatePart) (tokens : List Token) (l : ProofLine) (q : FromStatePart) → IsFromStateText p
    → p.walk ≡ Some tokens → IsProofLine l → grow_window_walk p tokens l ≡ Some q → FromStateGrows p l q
grow_window_walk_is p tokens (line.Token t) q h walk i e =
    let made : FromStatePart = record p { walk = Some (tokens ++ t ∷ []) } in
    subst (FromStateGrows p (line.Token t)) (same_Some made q e) (record {
      readable = record {
        state = h.state;
        each = h.each;
        few = h.few;
        z = h.z;
        walk = All-push IsTokenText tokens t (subst IsWalkText walk h.walk) i;
        begun = λ f. absurd (some_not_none tokens (sym walk ∙ (h.begun f).no_walk));
      };
      more = λ n. grown_end (z_front n p) (walk_lines (Some (tokens ++ t ∷ []))) (walk_lines (Some tokens))
          (line.Token t ∷ []) (walk_end tokens t)
          ∙ ap (λ w. z_front n p ++ walk_lines w ++ line.Token t ∷ []) (sym walk);
    })
grow_window_walk_is p tokens l q h walk i e = absurd (none-some q e)

grow_by_walk : (p : FromStatePart) (walk : Option (List Token)) (l : ProofLine) (q : FromStatePart) → IsFromStateText p
    → p.walk ≡ walk → IsProofLine l → grow_from_state_by p walk l ≡ Some q → FromStateGrows p l q
grow_by_walk p None l q h walk i e = grow_before_walk_is p l q h walk i e
grow_by_walk p (Some tokens) l q h walk i e = grow_window_walk_is p tokens l q h walk i e

-- a line that a refutation from a state takes is one line more of it
pub grow_from_state_is : (p : FromStatePart) (l : ProofLine) (q : FromStatePart) → IsFromStateText p → IsProofLine l
    → grow_from_state p l ≡ Some q → FromStateGrows p l q
grow_from_state_is p l q h i e = grow_by_walk p p.walk l q h refl i e
