-- The window of a set of flip-flops that are held unknown: one frame of the good machine alone, in which the members of
-- the set are {XX} and the other latches {00,11,XX}. What is looked for is one net that isn't unknown.
--
-- It is a back window that wants nothing, in which the members are decided to X before the search begins: these
-- decisions stand before the path of every node, and `Three` decides the latches that they leave.
use Rattle.std.specs.Prelude.{◌+◌, ◌++◌, ◌==◌, ℕ, List, map, filter, true, false, not, ◌&&◌, if◌then◌else◌}
use Rattle.ht_tern.specs.declared.tern.Tern.TheVariants.{Unk}
use Rattle.ht_pairs.specs.Pairs.{Pair, pair, is_member}
use Rattle.ht_net.specs.Circuit.Netlist.{Netlist}
use Rattle.ht_net.specs.Detect.Detection.{unknown_state}
use Rattle.ht_tree.specs.declared.token.Assign3.{Assign3}
use Rattle.ht_tree.specs.declared.token.Status3.{Status3}
use Rattle.ht_tree.specs.declared.token.Status3.TheVariants as status3
use Rattle.ht_tree.specs.Walk.Walks.{Judge, decides, path_of}
use Rattle.ht_tree.specs.Window.Windows.{SearchWindow, back_window, cell_at, is_undetermined}
use Rattle.ht_tree.specs.Window.Variables.{may_two, may_three}
use Rattle.ht_tree.specs.Window.WalkBack.{walk_back}
use Rattle.ht_tree.specs.Walk.Searches.{Guide}

-- one frame of the good machine, after which nothing is wanted
abbrev pub good_window : Netlist → SearchWindow
good_window c = back_window c (unknown_state c) 0

-- the decision that holds latch j at X
abbrev pub decided_unknown : Netlist → ℕ → Assign3
decided_unknown c j = record { var = c.inputs + j; value = Unk }

-- the decisions that hold the members of a set
abbrev pub held_unknown : Netlist → List ℕ → List Assign3
held_unknown c u = map (decided_unknown c) u

-- a set without flip-flop j
abbrev pub without : List ℕ → ℕ → List ℕ
without u j = filter (λ k. not (j == k)) u

-- the set of net x where u is held unknown and a search has decided a path
abbrev pub set_held : Netlist → List ℕ → ℕ → List Assign3 → List Pair
set_held c u x path = cell_at (good_window c) (held_unknown c u ++ path) 0 x

-- the status of a set: Sure where X is no member, Dead where it is the only one, else Open
abbrev pub known_status : List Pair → Status3
known_status set =
    if is_member (pair Unk Unk) set then (if is_undetermined set then status3.Open else status3.Dead)
    else status3.Sure

-- what judges the walks for net x: `Two` decides the inputs, and `Three` the latches outside u
abbrev pub held_judge : Netlist → List ℕ → ℕ → Judge
held_judge c u x = record {
  status = λ n. known_status (set_held c u x (path_of n));
  two = λ n var. may_two (good_window c) var;
  three = λ n var. may_three (good_window c) var && not (decides (held_unknown c u) var);
  before = λ n. false;
}

-- what a search for net x goes by: the walk back from that net, where 1 is wanted
abbrev pub held_guide : Netlist → List ℕ → ℕ → Guide
held_guide c u x = record {
  judge = held_judge c u x;
  choice = λ n. walk_back (good_window c) (held_unknown c u ++ path_of n) 0 x true;
}
