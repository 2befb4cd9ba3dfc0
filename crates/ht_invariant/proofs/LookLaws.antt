-- Where the walk back from a next state begins.
use Rattle.std.proofs.Common.{◌≡◌, ◌<◌, List, [], ◌∷◌, Bool, true, false, cond, Some, length, refl, subst, arith}
use Rattle.std.specs.List.{find}
use Rattle.std.proofs.lemmas.Bool.{and_parts, ltb-true}
use Rattle.ht_net.specs.Circuit.Netlist.{IsCircuit}
use Rattle.ht_net.specs.Frames.Faults.{is_data_pin}
use Rattle.ht_tree.specs.declared.token.Assign3.{Assign3}
use Rattle.ht_tree.specs.declared.window.Spot.TheVariants.{State}
use Rattle.ht_tree.specs.Window.Windows.{SearchWindow, cell_at, is_undetermined}
use Rattle.ht_tree.specs.Window.Places.{set_at, spot_net}
use Rattle.ht_tree.specs.Window.WalkBack.{CanWalk}
use Rattle.ht_tree.proofs.UndeterminedLaws.{forced_undetermined}
use Rattle.ht_tree.specs.declared.clause.Literal.{Literal}
use Rattle.ht_invariant.specs.Trials.{knows}

module _ (w : SearchWindow) (path : List Assign3) (circuit : IsCircuit w.circuit) (one : w.frames ≡ 1) where
  abbrev open_at : Literal → Bool
  open_at l = is_undetermined (set_at w path 0 (State l.dff))

  can_walk : (l : Literal) → l.dff < length w.circuit.dffs → open_at l ≡ true
      → CanWalk w path 0 (spot_net w.circuit (State l.dff))
  can_walk l known opens = record {
    frame = omega (arith, one);
    net = circuit.data_known l.dff known;
    undetermined = forced_undetermined w.fault (λ site. is_data_pin site l.dff)
        (cell_at w path 0 (spot_net w.circuit (State l.dff))) (ltb-true _ _ opens);
  }

  -- from the first literal's flip-flop whose next state is undetermined a walk back can begin
  pub found_walks : (literals : List Literal) → knows w.circuit literals ≡ true → (l : Literal)
      → find (λ (l : Literal). is_undetermined (set_at w path 0 (State l.dff))) literals ≡ Some l
      → (l.dff < length w.circuit.dffs) × CanWalk w path 0 (spot_net w.circuit (State l.dff))
  found_walks [] h l is = cc
  found_walks (x ∷ literals) h l is =
      let p = and_parts _ (knows w.circuit literals) h in
      by (open_at x) refl is (ltb-true _ _ p.0) (found_walks literals p.1 l)
    where
      by : (b : Bool) → open_at x ≡ b → cond b (Some x) (find open_at literals) ≡ Some l
          → x.dff < length w.circuit.dffs
          → (find open_at literals ≡ Some l
          → (l.dff < length w.circuit.dffs) × CanWalk w path 0 (spot_net w.circuit (State l.dff)))
          → (l.dff < length w.circuit.dffs) × CanWalk w path 0 (spot_net w.circuit (State l.dff))
      by true opens is known rest =
          let same : x ≡ l = cc in
          subst (λ (l : Literal). (l.dff < length w.circuit.dffs)
          × CanWalk w path 0 (spot_net w.circuit (State l.dff))) same (known, can_walk x known opens)
      by false opens is known rest = rest is
