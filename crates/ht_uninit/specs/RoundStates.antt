-- How far the rounds have come, as the code holds it.
use Rattle.std.specs.Prelude.{◌≡◌, ◌<◌, ◌≤◌, ◌+◌, ◌++◌, ◌∷◌, ℕ, List, [], true, Option, None, length, get_or, set}
use Rattle.ht_net.specs.Circuit.Netlist.{Netlist}
use Rattle.ht_tree.specs.declared.token.Token.{Token}
use Rattle.ht_uninit.specs.declared.record.Removed.{Removed}
use Rattle.ht_uninit.specs.declared.record.Out3.{Out3}
use Rattle.ht_uninit.specs.declared.rounds.Rounds.{Rounds}
use Rattle.ht_uninit.specs.Cones.{output_net}
use Rattle.ht_uninit.specs.HeldStates.{HeldState}
use Rattle.ht_uninit.specs.HeldWindows.{without}
use Rattle.ht_uninit.specs.Records.{IsWalkOf}
use Rattle.ht_uninit.specs.Rounds.{ComesTo, EndsWith, IsOutput, held_after, is_removed}

-- In a round before which so many flip-flops were removed, the members below j were searched. Where none of them was
-- removed, each has its walk.
pub record IsAt (c : Netlist) (budget before j : ℕ) (held : HeldState) (removed : List Removed)
    (walks : List (Option (List Token))) : Type 0 where
  pub circuit : held.circuit ≡ c
  pub members : held.members ≡ held_after c removed
  pub fresh : held.path ≡ []
  pub comes : ComesTo c budget removed before j
  pub few : length (held_after c removed) + length removed ≤ length c.dffs
  pub later : before ≤ length removed
  pub long : length walks ≡ length c.dffs
  pub gone : (k : ℕ) → is_removed removed k ≡ true → get_or walks k None ≡ None
  pub kept : before ≡ length removed → (k : ℕ) → k < j → IsWalkOf c budget removed k (get_or walks k None)

-- Flip-flop j is removed for a reason: it has no walk, and nothing is decided in the window of the set that is left.
pub record IsRemoved (rounds : Rounds) (j : ℕ) (why : Removed) (left : Rounds) : Type 0 where
  pub circuit : left.held.circuit ≡ rounds.held.circuit
  pub members : left.held.members ≡ without rounds.held.members j
  pub fresh : left.held.path ≡ []
  pub removed : left.removed.items ≡ rounds.removed.items ++ why ∷ []
  pub walks : left.walks.items ≡ set rounds.walks.items j None
  pub before : left.before ≡ rounds.before

-- the last round is over
pub record IsFinished (c : Netlist) (budget : ℕ) (held : HeldState) (removed : List Removed)
    (walks : List (Option (List Token))) : Type 0 where
  pub circuit : held.circuit ≡ c
  pub members : held.members ≡ held_after c removed
  pub fresh : held.path ≡ []
  pub ends : EndsWith c budget removed
  pub few : length removed ≤ length c.dffs
  pub long : length walks ≡ length c.dffs
  pub each : (k : ℕ) → k < length c.dffs → IsWalkOf c budget removed k (get_or walks k None)

-- what the searches of the first outputs came to
abbrev pub AreOutputs : Netlist → ℕ → List ℕ → ℕ → List Out3 → Type 0
AreOutputs c budget u count outs = (o : ℕ) (out : Out3) → o < count → out ≡ get_or outs o out
    → IsOutput c budget u (output_net c o) out
