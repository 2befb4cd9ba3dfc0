-- Along each assignment whose good state meets the clauses, a complete walk under clauses comes to a node where what is
-- looked for can't be shown.
use Rattle.std.proofs.Common.{◌≡◌, ℕ, List, Bool, true, Option, length, refl, inl, inr}
use Rattle.std.proofs.lemmas.Bool.{false≢true}
use Rattle.ht_tern.specs.declared.tern.Tern.{Tern}
use Rattle.ht_net.specs.declared.fault.Fault.{Fault}
use Rattle.ht_net.specs.Circuit.Netlist.{Netlist}
use Rattle.ht_net.specs.Detect.Detection.{IsState}
use Rattle.ht_net.specs.Detect.Silence.{AgreeOutside}
use Rattle.ht_tree.specs.declared.token.Assign3.{Assign3}
use Rattle.ht_tree.specs.declared.token.Token.{Token}
use Rattle.ht_tree.specs.declared.token.Status3.TheVariants.{Dead}
use Rattle.ht_tree.specs.Walk.Walks.{Judge, IsComplete, root}
use Rattle.ht_tree.specs.Window.Decisions.{is_in}
use Rattle.ht_tree.proofs.LeafLaws.{Leaf, closed_leaf}
use Rattle.ht_tree.proofs.WindowLaws.{PathAllows, assigned, assignment, along_allows, frame_window}
use Rattle.ht_tree.specs.declared.clause.Literal.{Literal}
use Rattle.ht_tree.specs.Clause.Clauses.{AreKnownClauses, meets_each}
use Rattle.ht_tree.specs.Clause.ClauseWindows.{ClauseWindow, Sought, judge_under, sought_status, status_under}
use Rattle.ht_records.proofs.MeetLaws.{none_broken}
use Rattle.ht_records.proofs.StatusLaws.{dead_under}

-- A path that leaves a vector and two states, and under which what is looked for can't be shown.
pub record DeadPath (c : Netlist) (fault : Option Fault) (z : List ℕ) (sought : Sought)
    (vector s t : List Bool) : Type 0 where
  pub path : List Assign3
  pub allows : PathAllows c z path vector s t
  pub dead : sought_status (frame_window c fault z) path sought ≡ Dead

-- from a good state that meets the clauses, a complete walk under them has a path that leaves the vector and both
-- states, and where what is looked for can't be shown
pub dead_path : (c : Netlist) (fault : Option Fault) (z : List ℕ) (sought : Sought)
    (clauses : List (List Literal)) (tokens : List Token)
    → AreKnownClauses c clauses
    → IsComplete (judge_under (record { window = frame_window c fault z; sought = sought; clauses = clauses })) tokens
    → (vector s t : List Bool) → length vector ≡ c.inputs → IsState c s → IsState c t → meets_each clauses s ≡ true
    → AgreeOutside c (is_in z) s t → DeadPath c fault z sought vector s t
dead_path c fault z sought clauses tokens known complete vector s t wide held held' met agree =
    let w : ClauseWindow = record { window = frame_window c fault z; sought = sought; clauses = clauses } in
    let j : Judge = judge_under w in
    let a : ℕ → Tern = assignment c vector s t in
    let leaf : Leaf j root a = closed_leaf j root a (λ n var h. (assigned c vector s t var, refl)) (tokens, complete) in
    let allows : PathAllows c z leaf.path vector s t =
    along_allows c vector s t z leaf.path wide held held' agree leaf.along in
    let dead : status_under w leaf.path ≡ Dead = elim (leaf.ends) [
      | inl d ↦ d
      | inr on ↦ absurd (false≢true on.fits)
    ] in
    elim (dead_under w leaf.path dead) [
      | inl broken ↦ absurd (none_broken c leaf.path s (λ l inside. allows.good l.dff inside) clauses known met broken)
      | inr lost ↦ record { path = leaf.path; allows = allows; dead = lost }
    ]
