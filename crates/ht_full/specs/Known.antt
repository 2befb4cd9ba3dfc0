-- What a full search knows: verdicts, and the vectors that they were graded with.
use Rattle.std.specs.Prelude.{◌≡◌, ◌++◌, ℕ, List, Bool, true, false, Some, get_or}
use Rattle.ht_tern.specs.declared.tern.Tern.{Tern}
use Rattle.ht_net.specs.Circuit.Netlist.{Netlist}
use Rattle.ht_net.specs.Frames.Rows.{Rows}
use Rattle.ht_proofs.specs.ClassGraderView.{ClassGraderStandsFor}
use Rattle.ht_tree.specs.declared.entry.Entry as recorded
use Rattle.ht_valid.specs.ValidFiles.{IsOwn}
use Rattle.ht_verdicts.specs.Standing.{HasNoVerdict, VerdictsView, entry_at}

-- Verdicts, all vectors so far, and of each fault whether it was chosen to be worked on.
pub record KnownView : Type 0 where
  pub verdicts : VerdictsView
  pub vectors : Rows
  pub chosen : List Bool

-- The verdicts are those of the vectors.
abbrev pub AreVerdictsOf : KnownView → Type 0
AreVerdictsOf k = ClassGraderStandsFor k.verdicts.grader k.verdicts.start k.vectors.list

-- whether fault i was chosen
abbrev pub is_chosen : KnownView → ℕ → Bool
is_chosen k i = get_or k.chosen i false

-- Fault i is open: it was chosen, it represents its class, the vectors so far don't detect it, and it has no entry.
pub record IsStillOpen (k : KnownView) (i : ℕ) : Type 0 where
  pub chosen : is_chosen k i ≡ true
  pub own : IsOwn k.verdicts.circuit k.verdicts.representatives i
  pub open_still : HasNoVerdict k.verdicts i

-- More is known at b than at a, over the same circuit, classes, start and choice: vectors were added at the end, each entry is
-- kept, and what was graded with all vectors still is.
pub record KnowsMore (a b : KnownView) : Type 0 where
  pub circuit : b.verdicts.circuit ≡ a.verdicts.circuit
  pub classes : b.verdicts.representatives ≡ a.verdicts.representatives
  pub start : b.verdicts.start ≡ a.verdicts.start
  pub chosen : b.chosen ≡ a.chosen
  pub more : List (List Bool)
  pub added : b.vectors.list ≡ a.vectors.list ++ more
  pub kept : (i : ℕ) (made : recorded.Entry) → entry_at a.verdicts i ≡ Some made
      → entry_at b.verdicts i ≡ Some made
  pub stands : AreVerdictsOf a → AreVerdictsOf b

-- Both are of the same circuit and the same start.
pub record AreOfOne (a b : KnownView) : Type 0 where
  pub circuit : b.verdicts.circuit ≡ a.verdicts.circuit
  pub start : b.verdicts.start ≡ a.verdicts.start

-- What is known is of a circuit, its classes and a start; its vectors are the given ones and then others; and its verdicts
-- are those of its vectors.
pub record IsKnownOf (c : Netlist) (representatives : List ℕ) (start : List Tern)
    (given : List (List Bool)) (k : KnownView) : Type 0 where
  pub circuit : k.verdicts.circuit ≡ c
  pub classes : k.verdicts.representatives ≡ representatives
  pub start_is : k.verdicts.start ≡ start
  pub more : List (List Bool)
  pub added : k.vectors.list ≡ given ++ more
  pub stands : AreVerdictsOf k
