-- What the places of a window show, and the latches of a cube.
use Rattle.std.specs.Prelude.{ℕ, List, Bool, true, not, ◌&&◌, cond, ltb, eqb, length}
use Rattle.std.specs.Bool.{then_some}
use Rattle.std.specs.Option.{option_or}
use Rattle.std.specs.List.{find, list_any, list_all}
use Rattle.ht_tern.specs.declared.tern.Tern.{Tern}
use Rattle.ht_pairs.specs.Pairs.{Pair, pair, is_member, differs}
use Rattle.ht_tree.specs.declared.token.Assign3.{Assign3}
use Rattle.ht_tree.specs.declared.window.WindowPlace.{WindowPlace}
use Rattle.ht_tree.specs.Window.Windows.{SearchWindow, is_undetermined}
use Rattle.ht_tree.specs.Window.Places.{set_at}
use Rattle.ht_tree.specs.Window.WindowStatus.{must_meet, may_meet}
use Rattle.ht_tree.specs.declared.window.Spot.TheVariants.{State, Cube}
use Rattle.ht_tree.specs.declared.window.Status.{Status}
use Rattle.ht_tree.specs.declared.window.Status.TheVariants.{Dead, Sure, Open}
use Rattle.ht_window.specs.declared.places.Look.{Look}
use Rattle.ht_window.specs.declared.places.Look.TheVariants.{Must, May}
use Rattle.ht_window.specs.declared.cube.CubeSeen.{CubeSeen}

-- whether a set shows what a place is looked at for
abbrev pub shows : Look → List Pair → Bool
shows Must set = list_all differs set
shows May set = list_any differs set

-- whether a place of a window shows it after some decisions
abbrev pub shows_at : SearchWindow → List Assign3 → Look → WindowPlace → Bool
shows_at w path look place = shows look (set_at w path place.frame place.spot)

-- what the latches of a cube show: whether there are any, whether each must be as wanted, whether each may, and the
-- first that is undetermined
abbrev pub cube_seen_of : SearchWindow → List Assign3 → List Tern → List ℕ → CubeSeen
cube_seen_of w path cube latches = record {
  some = ltb 0 (length latches);
  must = list_all (must_meet w path cube) latches;
  may = list_all (may_meet w path cube) latches;
  undetermined_latch = find (λ j. is_undetermined (set_at w path 0 (State j))) latches;
}

-- what the latches of a cube show after one more latch, which is wanted at a value and has this set
abbrev pub cube_seen_with : CubeSeen → ℕ → Tern → List Pair → CubeSeen
cube_seen_with s j value set = record {
  some = true;
  must = s.must && (is_member (pair value value) set && not (is_undetermined set));
  may = s.may && is_member (pair value value) set;
  undetermined_latch = option_or s.undetermined_latch (then_some (is_undetermined set) j);
}

-- the status with so many frames left, by what the latches of the cube show
abbrev pub cube_status_by : CubeSeen → ℕ → Status
cube_status_by s limit = cond s.some (cond (eqb limit 0) Dead (cond s.must (Sure 0 Cube) (cond s.may Open Dead)))
    (Sure 0 Cube)
