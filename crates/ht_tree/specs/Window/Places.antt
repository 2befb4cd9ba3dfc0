-- The places of a window: where a difference of the two machines counts, in order.
use Rattle.std.specs.Prelude.{◌<◌, ℕ, List, [], ◌++◌, map, flat_map, filter, Bool, not, length, get_or}
use Rattle.std.specs.List.{list_any, list_all, range_with_len}
use Rattle.ht_pairs.specs.Pairs.{Pair, differs}
use Rattle.ht_net.specs.Circuit.Netlist.{Netlist, no_net}
use Rattle.ht_tree.specs.declared.token.Assign3.{Assign3}
use Rattle.ht_tree.specs.declared.window.Spot.{Spot}
use Rattle.ht_tree.specs.declared.window.Spot.TheVariants.{Output, State, Cube}
use Rattle.ht_tree.specs.declared.window.WindowPlace.{WindowPlace}
use Rattle.ht_tree.specs.Window.Decisions.{is_in}
use Rattle.ht_tree.specs.Window.Windows.{Start, one_frame, unknown, state_pair, back, SearchWindow, pair_set_rules, cell_at}

-- the outputs of frame f
abbrev pub output_places : Netlist → ℕ → List WindowPlace
output_places c f = map (λ o. record { frame = f; spot = Output o }) (range_with_len 0 (length c.outputs))

-- the next states of the flip-flops outside the set of a one-frame window
abbrev pub state_places : Netlist → Start → List WindowPlace
state_places c (one_frame z) =
    map (λ j. record { frame = 0; spot = State j }) (filter (λ j. not (is_in z j)) (range_with_len 0 (length c.dffs)))
state_places c unknown = []
state_places c (state_pair good faulty) = []
state_places c (back cube limit) = []

-- the places of a window in which a difference is looked for: the outputs frame by frame, and then the next states. No
-- status of a back window reads this list: it shows the latches of its cube instead (`cube_latches`).
abbrev pub places_of : SearchWindow → List WindowPlace
places_of w =
    flat_map (output_places w.circuit) (range_with_len 0 w.frames) ++ state_places w.circuit w.start

-- the circuit has the spot
abbrev pub IsSpot : Netlist → Spot → Type 0
IsSpot c (Output o) = o < length c.outputs
IsSpot c (State j) = j < length c.dffs
IsSpot c Cube = Unit {0}

-- the net at an output, or at the data pin of a flip-flop
abbrev pub spot_net : Netlist → Spot → ℕ
spot_net c (Output o) = (get_or c.outputs o no_net).0
spot_net c (State j) = (get_or c.dffs j no_net).0
spot_net c Cube = 0

-- the set at a spot of frame f: an output's cell, or what a flip-flop takes
abbrev pub set_at : SearchWindow → List Assign3 → ℕ → Spot → List Pair
set_at w path f (Output o) = cell_at w path f (spot_net w.circuit (Output o))
set_at w path f (State j) = (pair_set_rules w.fault).data_pin j (cell_at w path f (spot_net w.circuit (State j)))
set_at w path f Cube = []

-- a place holds only 01 and 10
abbrev pub must_differ_at : SearchWindow → List Assign3 → WindowPlace → Bool
must_differ_at w path p = list_all differs (set_at w path p.frame p.spot)

-- a place holds 01 or 10
abbrev pub may_differ_at : SearchWindow → List Assign3 → WindowPlace → Bool
may_differ_at w path p = list_any differs (set_at w path p.frame p.spot)
