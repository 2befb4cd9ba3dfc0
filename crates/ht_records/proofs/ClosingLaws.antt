-- Where a clause's closing window is closed, no frame leads from a state that meets all clauses to one that doesn't meet
-- this one.
use Rattle.std.proofs.Common.{◌≡◌, ◌<◌, ℕ, List, [], ◌∷◌, Bool, true, false, not, None, length, get_or, refl, inl, inr}
use Rattle.std.specs.List.{list_all}
use Rattle.std.proofs.lemmas.Bool.{and_cases, both_ways, or_left, or_right}
use Rattle.std.proofs.lemmas.List.Elements.{All-head, All-tail}
use Rattle.ht_tern.specs.Gate.{tern_of}
use Rattle.ht_pairs.specs.Pairs.{Pair, pair, IsMember, is_member}
use Rattle.ht_pairs.proofs.SetLaws.{is_member-from}
use Rattle.ht_net.specs.Circuit.Netlist.{Netlist, IsCircuit}
use Rattle.ht_net.specs.Frames.Frame.{next_state}
use Rattle.ht_net.specs.Frames.Faults.{bool_rules}
use Rattle.ht_net.specs.Detect.Detection.{IsState}
use Rattle.ht_net.proofs.DepthLaws.{circuit_depth}
use Rattle.ht_tree.specs.declared.token.Assign3.{Assign3}
use Rattle.ht_tree.specs.declared.token.Token.{Token}
use Rattle.ht_tree.specs.declared.window.Spot.TheVariants.{State}
use Rattle.ht_tree.specs.Walk.Walks.{IsComplete}
use Rattle.ht_tree.specs.Window.Places.{set_at}
use Rattle.ht_tree.proofs.PairLaws.{bits}
use Rattle.ht_tree.proofs.WindowLaws.{next_has}
use Rattle.ht_tree.specs.declared.clause.Literal.{Literal}
use Rattle.ht_tree.specs.Clause.Clauses.{AreKnown, AreKnownClauses, meets_literal, is_bit, meets, meets_each}
use Rattle.ht_tree.specs.Clause.ClauseWindows.{breach, closing_window, good_window, judge_under, may_miss}
use Rattle.ht_records.proofs.DeadLaws.{DeadPath, dead_path}
use Rattle.ht_records.proofs.StatusLaws.{breach_dead}

-- a bit of a set that can't have the other bit of a literal is the literal's
not_missed : (value b : Bool) (s : List Pair) → IsMember (bits b b) s
    → is_member (pair (tern_of (not value)) (tern_of (not value))) s ≡ false → is_bit value b ≡ true
not_missed true true s h k = refl
not_missed true false s h k = absurd (both_ways _ k (is_member-from (bits false false) s h))
not_missed false true s h k = absurd (both_ways _ k (is_member-from (bits true true) s h))
not_missed false false s h k = refl

-- some literal is met where not each may be missed
some_held : (c : Netlist) (path : List Assign3) (next : List Bool) (literals : List Literal) → AreKnown c literals
    → ((j : ℕ) → j < length c.dffs
    → IsMember (bits (get_or next j false) (get_or next j false)) (set_at (good_window c) path 0 (State j)))
    → list_all (may_miss (good_window c) path) literals ≡ false → meets next literals ≡ true
some_held c path next [] known has h = cc
some_held c path next (l ∷ literals) known has h =
    let w = good_window c in
    let inside : Literal → Type 0 = λ l. l.dff < length c.dffs in
    elim (and_cases (may_miss w path l) (list_all (may_miss w path) literals) h) [
      | inl e ↦ or_left (meets_literal next l) (meets next literals)
          (not_missed l.value (get_or next l.dff false) (set_at w path 0 (State l.dff))
          (has l.dff (All-head inside l literals known)) e)
      | inr e ↦ or_right (meets_literal next l) (meets next literals)
          (some_held c path next literals (All-tail inside l literals known) has e)
    ]

-- where a clause has a closed window, each frame from a state that meets all clauses leads to one that meets it
pub closed_keeps : (c : Netlist) (clauses : List (List Literal)) (literals : List Literal) (tokens : List Token)
    → IsCircuit c → AreKnownClauses c clauses → AreKnown c literals
    → IsComplete (judge_under (closing_window c clauses literals)) tokens
    → (vector state : List Bool) → length vector ≡ c.inputs → IsState c state → meets_each clauses state ≡ true
    → meets (next_state c (bool_rules None) vector state) literals ≡ true
closed_keeps c clauses literals tokens circuit known here complete vector state wide held met =
    let d = circuit_depth c circuit in
    let dead : DeadPath c None [] (breach literals) vector state state =
    dead_path c None [] (breach literals) clauses tokens known complete vector state state wide held held met
    (λ j inside out. refl) in
    some_held c dead.path (next_state c (bool_rules None) vector state) literals here
    (next_has c None [] dead.path vector state state dead.allows d.0 circuit d.1)
    (breach_dead (good_window c) dead.path literals dead.dead)
