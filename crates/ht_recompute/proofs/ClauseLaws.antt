-- What decisions that were written, and sets of next states, make of clauses.
use Rattle.std.proofs.Common.{◌≡◌, ◌<◌, ◌≤◌, ◌+◌, ◌*◌, ℕ, List, [], ◌∷◌, map, Bool, not, ◌&&◌, cond, Option, length, get_or, refl, sym, ◌∙◌, ap, arith}
use Rattle.std.specs.List.{All, list_all, list_any}
use Rattle.std.proofs.lemmas.List.Elements.{All-head, All-tail}
use Rattle.std.proofs.lemmas.List.Folds.{list_all-map}
use Rattle.ht_tern.specs.declared.tern.Tern.{Tern}
use Rattle.ht_tern.specs.Gate.{tern_of}
use Rattle.ht_pairs.specs.Pairs.{Pair, pair, is_member}
use Rattle.ht_net.specs.Circuit.Netlist.{Netlist}
use Rattle.ht_tree.specs.declared.token.Assign3.{Assign3}
use Rattle.ht_tree.specs.declared.token.Status3.{Status3}
use Rattle.ht_tree.specs.declared.token.Status3.TheVariants.{Dead, Sure, Open}
use Rattle.ht_tree.specs.declared.window.Spot.TheVariants.{State}
use Rattle.ht_tree.specs.Window.Places.{set_at}
use Rattle.ht_tree.specs.Window.Windows.{SearchWindow, is_undetermined}
use Rattle.ht_tree.specs.declared.clause.Clause.{Clause}
use Rattle.ht_tree.specs.declared.clause.Literal.{Literal}
use Rattle.ht_tree.specs.Clause.Clauses.{AreKnown, is_decided_against, is_decided_to, latch_value, literals_of, literals_of_each, path_breaks, path_meets}
use Rattle.ht_tree.specs.Clause.ClauseWindows.{breach_status, may_miss, must_miss, open_if_sure, under_clauses}
use Rattle.std.specs.Vec.{with_items}
use Rattle.ht_recompute.specs.declared.recomputed_window.RecomputedWindow.TheInside.{Inside}
use Rattle.ht_recompute.specs.RecomputedWindowOf.{HasWindowRoom, window_of}
use Rattle.ht_recompute.specs.Written.{IsWritten}
use Rattle.ht_recompute.specs.WrittenClauses.{IsKnownClause, breach_in, breaks_in, may_miss_in, meets_in, must_miss_in, under_in, value_in}
use Rattle.ht_recompute.proofs.BegunLaws.{written_over}
use Rattle.ht_recompute.proofs.PlaceLaws.{any_map}

-- tests that agree on each element of a list
module _ {X : Type 0} (P : X → Type 0) (f g : X → Bool) (same : (x : X) → P x → f x ≡ g x) where
  answers_same : (xs : List X) → All P xs → map f xs ≡ map g xs
  answers_same [] h = refl
  answers_same (x ∷ xs) h =
      let here = same x (All-head P x xs h) in
      let rest = answers_same xs (All-tail P x xs h) in
      (λ k. here k ∷ rest k)

  each_same : (xs : List X) → All P xs → list_all f xs ≡ list_all g xs
  each_same xs h =
      sym (list_all-map (λ b. b) f xs) ∙ (ap (list_all (λ b. b)) (answers_same xs h) ∙ list_all-map (λ b. b) g xs)

  any_same : (xs : List X) → All P xs → list_any f xs ≡ list_any g xs
  any_same xs h = any_map (λ b. b) f xs ∙ (ap (list_any (λ b. b)) (answers_same xs h) ∙ sym (any_map (λ b. b) g xs))

-- the status of a breach by the sets of the next states
module _ (w : SearchWindow) (path : List Assign3) (sets : List (List Pair))
    (are : (j : ℕ) → j < length w.circuit.dffs → get_or sets j [] ≡ set_at w path 0 (State j)) where
  abbrev IsInside : Literal → Type 0
  IsInside l = l.dff < length w.circuit.dffs

  may_same : (l : Literal) → IsInside l → may_miss_in sets l ≡ may_miss w path l
  may_same l inside = (λ k. is_member (pair (tern_of (not l.value)) (tern_of (not l.value))) (are l.dff inside k))

  must_same : (l : Literal) → IsInside l → must_miss_in sets l ≡ must_miss w path l
  must_same l inside = (λ k. may_same l inside k && not (is_undetermined (are l.dff inside k)))

  -- the status of a breach by the sets of the next states is its status in the window
  pub breach_is : (literals : List Literal) → AreKnown w.circuit literals
      → breach_in sets literals ≡ breach_status w path literals
  breach_is literals known =
      let must = each_same IsInside (must_miss_in sets) (must_miss w path) must_same literals known in
      let may = each_same IsInside (may_miss_in sets) (may_miss w path) may_same literals known in
      (λ k. cond (must k) Sure (cond (may k) Open Dead))

-- clauses by what was written
module _ (c : Netlist) (path : List Assign3) (decisions : List (Option Tern)) (written : IsWritten decisions path)
    (room : c.inputs + length c.dffs ≤ length decisions) where
  value_same : (l : Literal) → l.dff < length c.dffs → value_in decisions c.inputs l ≡ latch_value c path l
  value_same l inside = written (c.inputs + l.dff) (omega (arith, room, inside))

  meets_same : (literals : List Literal) → AreKnown c literals
      → meets_in decisions c.inputs literals ≡ path_meets c path literals
  meets_same literals known =
      any_same (λ (l : Literal). l.dff < length c.dffs) _ _
      (λ l inside. ap (is_decided_to l.value) (value_same l inside)) literals known

  breaks_same : (literals : List Literal) → AreKnown c literals
      → breaks_in decisions c.inputs literals ≡ path_breaks c path literals
  breaks_same literals known =
      each_same (λ (l : Literal). l.dff < length c.dffs) _ _
      (λ l inside. ap (is_decided_against l.value) (value_same l inside)) literals known

  each_meets : (clauses : List Clause) → All (IsKnownClause c) clauses
      → list_all (λ clause. meets_in decisions c.inputs (literals_of clause)) clauses
      ≡ list_all (path_meets c path) (literals_of_each clauses)
  each_meets clauses are =
      each_same (IsKnownClause c) _ _ (λ clause is. meets_same (literals_of clause) is) clauses are
      ∙ sym (list_all-map (path_meets c path) literals_of clauses)

  any_breaks : (clauses : List Clause) → All (IsKnownClause c) clauses
      → list_any (λ clause. breaks_in decisions c.inputs (literals_of clause)) clauses
      ≡ list_any (path_breaks c path) (literals_of_each clauses)
  any_breaks clauses are =
      any_same (IsKnownClause c) _ _ (λ clause is. breaks_same (literals_of clause) is) clauses are
      ∙ any_map (path_breaks c path) literals_of clauses

-- what clauses make of a status by a window's decisions, which were written over
module _ (a : Inside) (w : SearchWindow) (view : window_of a ≡ w) (one : w.frames ≡ 1) (held : HasWindowRoom a)
    (lent decisions : List (Option Tern)) (is : lent ≡ a.decisions.items) (long : length decisions ≡ length lent)
    (path : List Assign3) (written : IsWritten decisions path) (clauses : List Clause)
    (known : All (IsKnownClause w.circuit) clauses) (circuit : Netlist) (same : circuit ≡ a.frame.circuit) (first : ℕ)
    (begins : first ≡ circuit.inputs) (seen : List (Option Tern))
    (after : seen ≡ (with_items a.decisions decisions).items) where
  first_is : first ≡ w.circuit.inputs
  first_is = begins ∙ (ap (λ (n : Netlist). n.inputs) same ∙ ap (λ (v : SearchWindow). v.circuit.inputs) view)

  room : w.circuit.inputs + length w.circuit.dffs ≤ length decisions
  room =
      let frames : a.frames ≡ 1 = ap (λ (v : SearchWindow). v.frames) view ∙ one in
      let product : a.frames * a.frame.circuit.inputs ≡ 1 * a.frame.circuit.inputs =
      ap (λ (k : ℕ). k * a.frame.circuit.inputs) frames in
      let inputs : a.frame.circuit.inputs ≡ w.circuit.inputs = ap (λ (v : SearchWindow). v.circuit.inputs) view in
      let dffs : length a.frame.circuit.dffs ≡ length w.circuit.dffs =
      ap (λ (v : SearchWindow). length v.circuit.dffs) view in
      let all = held.decisions in
      let own = ap length is in
      omega (arith, product, inputs, dffs, all, own, long)

  seen_is : seen ≡ decisions
  seen_is = written_over a lent decisions is long seen after

  -- what clauses make of a status by the decisions that were written is what they make of it by the path
  pub under_is : (sought : Status3) → under_in seen first clauses sought
      ≡ under_clauses w.circuit path (literals_of_each clauses) sought
  under_is sought =
      let broken = any_breaks w.circuit path decisions written room clauses known in
      let met = each_meets w.circuit path decisions written room clauses known in
      (λ i. under_in (seen_is i) (first_is i) clauses sought)
      ∙ (λ i. cond (broken i) Dead (cond (met i) sought (open_if_sure sought)))
