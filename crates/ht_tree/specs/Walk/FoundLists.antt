-- The lists of vectors that a search reads off its decisions.
use Rattle.std.specs.Prelude.{◌+◌, ◌*◌, ℕ, List, [], ◌∷◌, ◌++◌, map, take, drop, Bool, true, false, Option, Some, None}
use Rattle.std.specs.List.{range_with_len}
use Rattle.ht_tern.specs.declared.tern.Tern.{Tern}
use Rattle.ht_tern.specs.declared.tern.Tern.TheVariants.{Zero, One, Unk}
use Rattle.ht_net.specs.Circuit.Netlist.{Netlist}
use Rattle.ht_tree.specs.declared.token.Assign3.{Assign3}
use Rattle.ht_tree.specs.Walk.Walks.{Node, path_of}
use Rattle.ht_tree.specs.Window.Decisions.{decided_value}

-- the bit that was decided, and 0 where none was
abbrev pub bit_or_zero : Option Tern → Bool
bit_or_zero None = false
bit_or_zero (Some Zero) = false
bit_or_zero (Some One) = true
bit_or_zero (Some Unk) = false

-- the vector of frame f of a window: an input that is left undecided is 0
abbrev pub vector_of : Netlist → List Assign3 → ℕ → List Bool
vector_of c path f = map (λ i. bit_or_zero (decided_value path (f * c.inputs + i))) (range_with_len 0 c.inputs)

-- the vectors of the first frames
abbrev pub list_of : Netlist → List Assign3 → ℕ → List (List Bool)
list_of c path frames = map (vector_of c path) (range_with_len 0 frames)

-- The vectors of the windows above a node of a back walk, the first window's last. The first of these windows begins
-- after so many decisions.
abbrev pub vectors_above : Netlist → ℕ → List ℕ → List Assign3 → List (List Bool)
vectors_above c begin [] decisions = []
vectors_above c begin (next ∷ windows) decisions =
    vectors_above c next windows decisions ++ vector_of c (drop begin (take next decisions)) 0 ∷ []

-- the list that a back walk reads off a node: the vector of the node's own window, then those of the windows above it
abbrev pub back_list : Netlist → Node → List (List Bool)
back_list c n = vector_of c (path_of n) 0 ∷ vectors_above c 0 n.windows n.decisions
