-- Families: a set of pairs for each flip-flop, and when one closes, so that no list of vectors leads out of it.
use Rattle.std.specs.Prelude.{◌≡◌, ◌<◌, ℕ, List, [], Some, None, length, get_or, replicate}
use Rattle.std.specs.List.{All}
use Rattle.ht_tern.specs.declared.tern.Tern.{Tern}
use Rattle.ht_tern.specs.declared.tern.Tern.TheVariants.{Unk}
use Rattle.ht_pairs.specs.Pairs.{Pair, pair, IsMember, MayDiffer}
use Rattle.ht_pairs.specs.Decided.{same_pairs}
use Rattle.ht_pairs.specs.Included.{Includes}
use Rattle.ht_net.specs.declared.fault.Fault.{Fault}
use Rattle.ht_net.specs.Circuit.Netlist.{Netlist}
use Rattle.ht_net.specs.Frames.Frame.{frame_outputs, next_state}
use Rattle.ht_tree.specs.Window.Windows.{pair_set_rules}

-- a set of pairs (good, faulty) for each flip-flop, each set by its members
abbrev pub Family : Type 0
Family = List (List Pair)

-- every vector at once: an input may be 0 or 1, the same in both machines
abbrev pub any_vector : Netlist → List (List Pair)
any_vector c = replicate c.inputs (same_pairs None)

-- what the outputs may show in a frame of every vector from latches in the sets of a family, in the good machine and in
-- the faulty one
abbrev pub shown_sets : Netlist → Fault → Family → List (List Pair)
shown_sets c fault family = frame_outputs c (pair_set_rules (Some fault)) (any_vector c) family

-- what the flip-flops may take in that frame
abbrev pub taken_sets : Netlist → Fault → Family → Family
taken_sets c fault family = next_state c (pair_set_rules (Some fault)) (any_vector c) family

-- both machines' latches may hold a state
abbrev pub HoldsState : Family → List Tern → Type 0
HoldsState family state = (j : ℕ) → j < length state
    → IsMember (pair (get_or state j Unk) (get_or state j Unk)) (get_or family j [])

-- each set of a family includes that of another
abbrev pub IncludesEach : Family → Family → Type 0
IncludesEach family other = (j : ℕ) → j < length other → Includes (get_or family j []) (get_or other j [])

-- A family closes for a fault and a start: both machines may start there, no vector leads out of it, and no output may
-- show a difference.
pub record Closes (c : Netlist) (fault : Fault) (start : List Tern) (family : Family) : Type 0 where
  pub sets : length family ≡ length c.dffs
  pub starts : HoldsState family start
  pub stays : IncludesEach family (taken_sets c fault family)
  pub silent : All (λ set. ¬ MayDiffer set) (shown_sets c fault family)
