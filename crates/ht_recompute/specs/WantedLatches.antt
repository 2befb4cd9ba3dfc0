-- The latches that a cube wants, and what their next states make of it.
use Rattle.std.specs.Prelude.{ℕ, List, [], ◌∷◌, Bool, true, not, ◌&&◌, ◌||◌, ◌==◌, if◌then◌else◌}
use Rattle.std.specs.List.{list_any, list_all}
use Rattle.ht_tern.specs.declared.tern.Tern.{Tern}
use Rattle.ht_pairs.specs.Pairs.{Pair, pair, is_member}
use Rattle.ht_tree.specs.Window.Windows.{is_undetermined}
use Rattle.ht_tree.specs.Window.WindowStatus.{is_definite}
use Rattle.ht_tree.specs.declared.token.Status3.{Status3}
use Rattle.ht_tree.specs.declared.token.Status3.TheVariants.{Dead, Sure, Open}
use Rattle.ht_recompute.specs.declared.cube.Matches.{Matches}

-- A latch that is wanted at a value, and the set of its next state.
pub record WantedLatch : Type 0 where
  pub value : Tern
  pub set : List Pair

-- the latches that a cube wants at 0 or 1
abbrev pub wanted_in : List Tern → List (List Pair) → List WantedLatch
wanted_in [] sets = []
wanted_in (v ∷ cube) [] = []
wanted_in (v ∷ cube) (s ∷ sets) =
    if is_definite v then record { value = v; set = s } ∷ wanted_in cube sets else wanted_in cube sets

-- the next state may be as wanted
abbrev pub may_be : WantedLatch → Bool
may_be x = is_member (pair x.value x.value) x.set

-- the next state is as wanted, and can't be otherwise
abbrev pub must_be : WantedLatch → Bool
must_be x = may_be x && not (is_undetermined x.set)

-- any latch that is wanted
abbrev pub is_any : WantedLatch → Bool
is_any x = true

-- what next states make of the latches that are wanted
abbrev pub matches_in : List WantedLatch → Matches
matches_in xs = record { some = list_any is_any xs; must = list_all must_be xs; may = list_all may_be xs }

-- what next states make of some latches and others together
abbrev pub in_both : Matches → Matches → Matches
in_both a b = record { some = a.some || b.some; must = a.must && b.must; may = a.may && b.may }

-- the status of a window that looks for a cube, with so many frames left
abbrev pub status_by_matches : Matches → ℕ → Status3
status_by_matches met limit =
    if not met.some then Sure
    else if limit == 0 then Dead
    else if met.must then Sure
    else if met.may then Open else Dead
