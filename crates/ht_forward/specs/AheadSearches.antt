-- The search of a window for a list of vectors that shows a difference at an output.
use Rattle.std.specs.Prelude.{◌≡◌, ◌<◌, ◌≤◌, ◌+◌, ◌-◌, ℕ, List, Bool, length}
use Rattle.ht_tern.specs.declared.tern.Tern.{Tern}
use Rattle.ht_net.specs.declared.fault.Fault.{Fault}
use Rattle.ht_net.specs.Circuit.Netlist.{Netlist}
use Rattle.ht_net.specs.Frames.Rows.{Rows}
use Rattle.ht_tree.specs.declared.token.Assign3.{Assign3}
use Rattle.ht_tree.specs.declared.token.Token.{Token}
use Rattle.ht_tree.specs.declared.window.Spot.{Spot}
use Rattle.ht_tree.specs.declared.window.Status.TheVariants.{Sure}
use Rattle.ht_tree.specs.Walk.Walks.{IsComplete}
use Rattle.ht_tree.specs.Window.Windows.{SearchWindow, forward_frames, forward_window, token_weight}
use Rattle.ht_tree.specs.Window.WindowStatus.{status_at}
use Rattle.ht_tree.specs.Window.Nodes.{judge_of}
use Rattle.ht_tree.specs.Walk.Searches.{FindsAt, Closes, SpendsAt, guide_of, node_at}
use Rattle.ht_tree.specs.Walk.FoundLists.{list_of}
use Rattle.ht_tree.specs.Record.Reached.{AreVectors, ShowsFrom}
use Rattle.ht_tree.specs.Record.SearchRecords.{IsSpentWalk}
use Rattle.ht_forward.specs.declared.ahead.Ahead.{Ahead}
use Rattle.ht_forward.specs.declared.ahead.Ahead.TheVariants.{Found, Closed, Spent}

-- A list that the search of a window finds: the vectors of its decisions, up to the first sure frame.
pub record FindsList (w : SearchWindow) (budget : ℕ) (list : Rows) : Type 0 where
  pub tokens : List Token
  pub path : List Assign3
  pub frame : ℕ
  pub spot : Spot
  pub found : FindsAt (guide_of w) budget (token_weight w) tokens (node_at path)
  pub sure : status_at w path ≡ Sure frame spot
  pub known : frame < w.frames
  pub listed : list ≡ record { width = w.circuit.inputs; list = list_of w.circuit path (frame + 1) }

-- The search of a window closes.
abbrev pub ClosesAhead : SearchWindow → ℕ → List Token → Type 0
ClosesAhead w budget tokens = Closes (guide_of w) budget (token_weight w) tokens

-- The search of a window spends its budget after some decisions.
abbrev pub SpendsAhead : SearchWindow → ℕ → List Token → Type 0
SpendsAhead w budget tokens =
    (path : List Assign3) × SpendsAt (guide_of w) budget (token_weight w) tokens (node_at path)

-- What the search of a window within a budget comes to.
abbrev pub IsAhead : SearchWindow → ℕ → Ahead → Type 0
IsAhead w budget (Found list) = FindsList w budget list
IsAhead w budget (Closed tokens) = ClosesAhead w budget tokens
IsAhead w budget (Spent tokens) = SpendsAhead w budget tokens

-- From 1 to so many vectors, each with a bit for each input.
pub record IsListWithin (c : Netlist) (most : ℕ) (list : Rows) : Type 0 where
  pub some : 0 < length list.list
  pub few : length list.list ≤ most
  pub wide : AreVectors c list.list
  pub width : list.width ≡ c.inputs

-- A list of at most so many vectors ahead of two states: its last vector gives opposite definite values at an output.
pub record IsListAhead (c : Netlist) (most : ℕ) (fault : Fault) (good faulty : List Tern) (list : Rows)
    : Type 0 where
  pub vectors : IsListWithin c most list
  pub output : ℕ
  pub shows : ShowsFrom c fault good faulty list.list (length list.list - 1) output

-- A complete walk ahead of two states: no list of at most 16 vectors gives opposite definite values.
pub record IsClosedAhead (c : Netlist) (fault : Fault) (good faulty : List Tern) (tokens : List Token) : Type 0 where
  pub walk : IsComplete (judge_of (forward_window c fault forward_frames good faulty)) tokens
  pub none : (list : List (List Bool)) → length list ≤ forward_frames → (t o : ℕ)
      → ¬ ShowsFrom c fault good faulty list t o

-- What each answer of a search ahead of two states means.
abbrev pub AheadHolds : Netlist → Fault → List Tern → List Tern → ℕ → Ahead → Type 0
AheadHolds c fault good faulty budget (Found list) =
    IsListAhead c forward_frames fault good faulty list
AheadHolds c fault good faulty budget (Closed tokens) = IsClosedAhead c fault good faulty tokens
AheadHolds c fault good faulty budget (Spent tokens) =
    IsSpentWalk (forward_window c fault forward_frames good faulty) budget tokens
