-- What the outcome of the search for a cube answers and means, where the cube wants something.
use Rattle.std.proofs.Common.{◌≡◌, ◌∙◌, ℕ, List, true, length, refl, sym, ap, subst}
use Rattle.std.proofs.lemmas.Bool.{both_ways}
use Rattle.ht_tern.specs.declared.tern.Tern.{Tern}
use Rattle.ht_net.specs.Circuit.Netlist.{Netlist}
use Rattle.ht_net.specs.Frames.Rows.{Rows}
use Rattle.ht_tree.specs.Walk.Walks.{Node}
use Rattle.ht_tree.specs.Window.Windows.{SearchWindow, back_window}
use Rattle.ht_tree.specs.Walk.Searches.{guide_of}
use Rattle.ht_tree.specs.Walk.FoundLists.{back_list}
use Rattle.ht_tree.specs.Record.AimedAttempts.{is_wanting}
use Rattle.ht_search.specs.declared.outcome.Outcome.{Outcome}
use Rattle.ht_search.specs.declared.outcome.Outcome.TheVariants.{Found, Closed, Spent}
use Rattle.ht_search.specs.Outcomes.{IsOutcome}
use Rattle.ht_records.proofs.CubeLaws.{wanting_latches}
use Rattle.ht_records.proofs.CompleteLaws.{complete_back}
use Rattle.ht_records.proofs.FoundBackLaws.{found_back}
use Rattle.ht_records.proofs.ShortWalkLaws.{spends_spent, spent_exactly}
use Rattle.ht_records.proofs.WindowVectorLaws.{back_wide}
use Rattle.ht_justify.specs.declared.justification.Back.{Back}
use Rattle.ht_justify.specs.BackStates.{BackState, found_list, node_here}
use Rattle.ht_justify.specs.Answers.{BackHolds, IsBack, answer_of}

module _ (c : Netlist) (cube : List Tern) (limit budget : ℕ) (held : length cube ≡ length c.dffs)
    (wants : is_wanting cube ≡ true) where
  abbrev w : SearchWindow
  w = back_window c cube limit

  abbrev listed : Node → Rows
  listed node = record { width = c.inputs; list = back_list c node }

  -- the answer that an outcome of the search comes to is one that the search leads to
  pub outcome_answers : (node : Node) (o : Outcome) → IsOutcome (guide_of w) budget 1 node o
      → IsBack c cube limit budget (answer_of (listed node) o)
  outcome_answers node (Found tokens) h = record {
    empty = λ quiet. absurd (both_ways (is_wanting cube) quiet wants);
    found = λ _. record { tokens = tokens.items; node = node; found = h; listed = refl };
  }
  outcome_answers node (Closed tokens) h = h
  outcome_answers node (Spent tokens) h = (node, h)

  -- the answer that an outcome of the search comes to means what it says
  pub outcome_holds : (node : Node) (o : Outcome) → IsOutcome (guide_of w) budget 1 node o
      → BackHolds c cube limit budget (answer_of (listed node) o)
  outcome_holds node (Found tokens) h =
      let found = found_back c cube limit budget 1 tokens.items node ((wanting_latches c cube held).0 wants) h in
      record { reaches = found.0; few = found.1; wide = back_wide c node; width = refl }
  outcome_holds node (Closed tokens) h =
      record { wants = wants; tree = h.walk; none = complete_back c cube limit tokens.items h.walk }
  outcome_holds node (Spent tokens) h =
      let tree = spends_spent w budget tokens.items node h in
      record { wants = wants; tree = tree; exact = spent_exactly w budget tokens.items refl tree }

-- the answer of a search that began at the first window alone
module _ (c : Netlist) (cube : List Tern) (limit budget : ℕ) (s : BackState) (o : Outcome) where
  -- the answer of a search that began at the cube's own window is one that it leads to, and means what it says
  pub search_answers : length cube ≡ length c.dffs → is_wanting cube ≡ true → s.first ≡ back_window c cube limit
      → IsOutcome (guide_of (back_window c cube limit)) budget 1 (node_here s) o
      → (back : Back) → back ≡ answer_of (found_list s) o
      → IsBack c cube limit budget back × BackHolds c cube limit budget back
  search_answers held wants window outcome back is =
      let node = node_here s in
      let list : found_list s ≡ listed c cube limit budget held wants node =
      ap (λ (w : SearchWindow).
      let r : Rows = record { width = w.circuit.inputs; list = back_list w.circuit node } in r) window in
      let answer : answer_of (listed c cube limit budget held wants node) o ≡ back =
      sym (is ∙ ap (λ (r : Rows). answer_of r o) list) in (
        subst (IsBack c cube limit budget) answer (outcome_answers c cube limit budget held wants node o outcome),
        subst (BackHolds c cube limit budget) answer (outcome_holds c cube limit budget held wants node o outcome),
      )
