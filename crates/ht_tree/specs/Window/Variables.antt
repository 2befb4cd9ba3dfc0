-- The variables of a window, the kind that decides each, and how many a path leaves undecided.
use Rattle.std.specs.Prelude.{◌≡◌, ◌+◌, ◌-◌, ℕ, List, [], Bool, true, false, not, ◌&&◌, ◌||◌, nat_lt, nat_le, length, count_by, IsTrue}
use Rattle.std.specs.List.{range_with_len}
use Rattle.ht_net.specs.Circuit.Netlist.{Netlist, first_gate_net}
use Rattle.ht_tree.specs.declared.token.Assign3.{Assign3}
use Rattle.ht_tree.specs.declared.token.Choice.{Choice}
use Rattle.ht_tree.specs.declared.token.Choice.TheVariants.{Two, Three}
use Rattle.ht_tree.specs.Walk.Walks.{decides}
use Rattle.ht_tree.specs.Window.Decisions.{is_in}
use Rattle.ht_tree.specs.Window.Windows.{Start, one_frame, unknown, state_pair, back, SearchWindow, first_input}

-- the variable of a latch of the first frame, or of its good half
abbrev pub is_latch : Netlist → ℕ → Bool
is_latch c var = nat_le c.inputs var && nat_lt var (first_gate_net c)

-- the variable of the faulty half of a latch in a set
abbrev pub is_faulty_latch : Netlist → List ℕ → ℕ → Bool
is_faulty_latch c z var = nat_le (first_gate_net c) var
    && (nat_lt var (first_gate_net c + length c.dffs) && is_in z (var - first_gate_net c))

-- `Two` decides the latches in a one-frame window alone, half by half in its set
abbrev pub two_of_start : Netlist → Start → ℕ → Bool
two_of_start c (one_frame z) var = is_latch c var || is_faulty_latch c z var
two_of_start c unknown var = false
two_of_start c (state_pair good faulty) var = false
two_of_start c (back cube limit) var = false

-- `Two` may decide the variable: an input of some frame, or such a latch
abbrev pub may_two : SearchWindow → ℕ → Bool
may_two w var = nat_lt var (first_input w w.frames) || two_of_start w.circuit w.start var

-- `Three` decides the latches in a back window alone
abbrev pub three_of_start : Netlist → Start → ℕ → Bool
three_of_start c (one_frame z) var = false
three_of_start c unknown var = false
three_of_start c (state_pair good faulty) var = false
three_of_start c (back cube limit) var = is_latch c var

-- `Three` may decide the variable
abbrev pub may_three : SearchWindow → ℕ → Bool
may_three w var = three_of_start w.circuit w.start var

-- the variable of a choice is legal in its kind, and the path doesn't decide it
abbrev pub IsLegalChoice : SearchWindow → List Assign3 → Choice → Type 0
IsLegalChoice w path (Two var first) = IsTrue (may_two w var) × (decides path var ≡ false)
IsLegalChoice w path (Three var) = IsTrue (may_three w var) × (decides path var ≡ false)

-- where the variable of a choice is the faulty half of a latch in a set, the path decides its good half
abbrev pub GoodHalfIsFirst : Netlist → List ℕ → List Assign3 → Choice → Type 0
GoodHalfIsFirst c z path (Two var first) =
    IsTrue (is_faulty_latch c z var) → IsTrue (decides path (var - length c.dffs))
GoodHalfIsFirst c z path (Three var) = Unit {0}

-- The path decides each variable of the window.
pub record DecidesAll (w : SearchWindow) (path : List Assign3) : Type 0 where
  pub two : (var : ℕ) → IsTrue (may_two w var) → decides path var ≡ true
  pub three : (var : ℕ) → IsTrue (may_three w var) → decides path var ≡ true

-- how many numbers the variables of latches take
abbrev pub latch_bound : Netlist → Start → ℕ
latch_bound c (one_frame z) = length c.dffs + length c.dffs
latch_bound c unknown = 0
latch_bound c (state_pair good faulty) = 0
latch_bound c (back cube limit) = length c.dffs

-- each variable of the window is below this number
abbrev pub variable_bound : SearchWindow → ℕ
variable_bound w = first_input w w.frames + latch_bound w.circuit w.start

-- the number is a variable of the window that a path leaves undecided
abbrev pub is_undecided : SearchWindow → List Assign3 → ℕ → Bool
is_undecided w path var = (may_two w var || may_three w var) && not (decides path var)

-- how many variables of the window a path leaves undecided
abbrev pub undecided_count : SearchWindow → List Assign3 → ℕ
undecided_count w path = count_by (is_undecided w path) (range_with_len 0 (variable_bound w))

-- how many variables the window has
abbrev pub variable_count : SearchWindow → ℕ
variable_count w = undecided_count w []
