-- A grader and a list of vectors that go on together.
use Rattle.std.specs.Prelude.{◌≡◌, ◌++◌, ℕ, List, Bool, length}
use Rattle.ht_tern.specs.declared.tern.Tern.{Tern}
use Rattle.ht_net.specs.Frames.Rows.{Rows}
use Rattle.ht_proofs.specs.ClassGraderView.{ClassGraderStandsFor, ClassGraderView}

-- A list went on by so many vectors, and a grader with it: where it stood for a list before, it stands for the longer one
-- after, from the same start.
pub record AreExtended (g h : ClassGraderView) (graded : List (List Bool)) (before after : Rows)
    (count : ℕ) : Type 0 where
  pub circuit : h.machines.circuit ≡ g.machines.circuit
  pub classes : h.representatives ≡ g.representatives
  pub inputs : after.width ≡ before.width
  pub more : List (List Bool)
  pub added : after.list ≡ before.list ++ more
  pub counted : length more ≡ count
  pub stands : (start : List Tern) → ClassGraderStandsFor g start graded
      → ClassGraderStandsFor h start after.list
