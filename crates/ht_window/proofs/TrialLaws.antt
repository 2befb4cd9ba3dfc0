-- What a trial's window says of its own node: each node is of the one window, and `Before` doesn't fit.
use Rattle.std.proofs.Common.{◌≡◌, ℕ, List, [], true, false}
use Rattle.ht_tern.specs.declared.tern.Tern.{Tern}
use Rattle.ht_tree.specs.declared.token.Assign3.{Assign3}
use Rattle.ht_tree.specs.declared.token.Choice.{Choice}
use Rattle.ht_tree.specs.declared.token.Status3.TheVariants as status3
use Rattle.ht_tree.specs.Walk.Walks.{Node, Fits, decides, path_of}
use Rattle.ht_tree.specs.Walk.Searches.{guide_of, deciding_token}
use Rattle.ht_tree.specs.Window.Windows.{SearchWindow}
use Rattle.ht_tree.specs.Window.WindowStatus.{status_at, without_place}
use Rattle.ht_tree.specs.Window.Variables.{IsLegalChoice}
use Rattle.ht_tree.specs.Window.Nodes.{window_at}
use Rattle.ht_tree.specs.Walk.Counts.{seeks_difference}
use Rattle.ht_tree.specs.Window.WalkBack.{pick_of}
use Rattle.ht_tree.proofs.DifferenceLaws.{window_stays}
use Rattle.ht_search.specs.Legal.{MayDecide}
use Rattle.ht_search.specs.WindowSteps.{node_of, steps_under}
use Rattle.ht_search.proofs.WindowStepLaws.{window_path}
use Rattle.ht_window.specs.States.{IsLegalDecision}
use Rattle.ht_window.proofs.NodeLaws.{status_is, choice_is, choice_fits, decision_undecided, decision_legal}

module _ (w : SearchWindow) (ds : List Assign3) (seeks : seeks_difference w.start ≡ true) where
  abbrev pub here : Node
  here = node_of (steps_under [] ds)

  at : window_at w here ≡ w
  at = window_stays w here seeks

  path : path_of here ≡ ds
  path = window_path [] ds

  -- the window's status is what the judge says of its node
  pub status_here : without_place (status_at w ds) ≡ (guide_of w).judge.status here
  status_here = status_is w w here ds at path

  -- the window's choice is the guide's at its node
  pub choice_here : pick_of w ds ≡ (guide_of w).choice here
  choice_here = choice_is w w here ds at path

  -- where the status is open, the token of a legal choice fits at its node
  pub choice_fits_here : (chosen : Choice) → (guide_of w).judge.status here ≡ status3.Open → IsLegalChoice w ds chosen
      → Fits (guide_of w).judge here (deciding_token chosen)
  choice_fits_here = choice_fits w w here ds at path

  -- what may be decided at its node is undecided in the window
  pub undecided_here : (var : ℕ) (value : Tern) → MayDecide (guide_of w).judge here var value → decides ds var ≡ false
  undecided_here = decision_undecided w w here ds at path

  -- what may be decided at its node is a decision that the window allows
  pub legal_here : (var : ℕ) (value : Tern) → MayDecide (guide_of w).judge here var value → IsLegalDecision w var value
  legal_here = decision_legal w w here ds at path
