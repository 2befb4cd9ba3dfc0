-- A start as the definitions of windows see it, and the sets of the first latches, from what was decided.
use Rattle.std.specs.Prelude.{◌≡◌, ◌+◌, ℕ, List, [], ◌∷◌, map, false, Option, None, length, get_or}
use Rattle.std.specs.List.{range_with_len}
use Rattle.ht_tern.specs.declared.tern.Tern.{Tern}
use Rattle.ht_tern.specs.declared.tern.Tern.TheVariants.{Unk}
use Rattle.ht_pairs.specs.Pairs.{Pair, pair}
use Rattle.ht_net.specs.Circuit.Netlist.{Netlist}
use Rattle.ht_tree.specs.Window.Decisions.{is_in, latch_values_left, latch_pairs}
use Rattle.ht_tree.specs.Window.Windows.{Start, one_frame, unknown, state_pair, back}
use Rattle.ht_recompute.specs.Differences.{outside_marks}
use Rattle.ht_recompute.specs.declared.window_start.WindowStart.{WindowStart}
use Rattle.ht_recompute.specs.declared.window_start.WindowStart.TheVariants.{OneFrame, Unknown, States, Back}

-- the checker's start of a window as the definitions have it
abbrev pub window_start : WindowStart → Start
window_start (OneFrame z marks) = one_frame z.now
window_start Unknown = unknown
window_start (States good faulty) = state_pair good.now faulty.now
window_start (Back cube limit) = back cube.now limit

-- the lists are as long as there are flip-flops, and the marks are those of z
abbrev pub IsStartOf : WindowStart → ℕ → Type 0
IsStartOf (OneFrame z marks) count =
    (length marks.items ≡ count) × ((j : ℕ) → get_or marks.items j false ≡ is_in z.now j)
IsStartOf Unknown count = Unit {0}
IsStartOf (States good faulty) count = (length good.now ≡ count) × (length faulty.now ≡ count)
IsStartOf (Back cube limit) count = length cube.now ≡ count

-- the set of latch j, where variable first + j decides it, and variable first + count + j its faulty half
abbrev pub first_latch_by : Start → List (Option Tern) → ℕ → ℕ → ℕ → List Pair
first_latch_by (one_frame z) decisions first count j =
    latch_pairs (is_in z j) (get_or decisions (first + j) None) (get_or decisions (first + count + j) None)
first_latch_by unknown decisions first count j = pair Unk Unk ∷ []
first_latch_by (state_pair good faulty) decisions first count j = pair (get_or good j Unk) (get_or faulty j Unk) ∷ []
first_latch_by (back cube limit) decisions first count j =
    map (λ v. pair v v) (latch_values_left (get_or decisions (first + j) None))

-- the sets of the latches in the first frame, for what was decided of each variable
abbrev pub latches_by : WindowStart → List (Option Tern) → Netlist → List (List Pair)
latches_by start decisions c =
    map (first_latch_by (window_start start) decisions c.inputs (length c.dffs)) (range_with_len 0 (length c.dffs))

-- the sets of next states that count as places: those of the flip-flops outside the set of a one-frame window
abbrev pub state_sets : WindowStart → List (List Pair) → List (List Pair)
state_sets (OneFrame z marks) sets = outside_marks marks.items sets
state_sets Unknown sets = []
state_sets (States good faulty) sets = []
state_sets (Back cube limit) sets = []
