-- When a draft is no circuit.
use Rattle.std.specs.Prelude.{◌≡◌, ℕ, List, ◌<◌, ◌≤◌, length, map, get_or}
use Rattle.std.specs.List.{All, Contains}
use Rattle.ht_net.specs.declared.names.NameId.{NameId}
use Rattle.ht_net.specs.declared.error.NetError.{NetError}
use Rattle.ht_net.specs.declared.error.NetError.TheVariants.{Undriven, Loop, NoMemory}
use Rattle.ht_net.specs.Circuit.Lists.{IsCycle}
use Rattle.ht_net.specs.Build.Named.{Name, NamedGate, NamedNetlist}
use Rattle.ht_net.specs.Circuit.Netlist.{first_gate_net, IsRank}
use Rattle.ht_net.specs.Build.Draft.{Draft, IsName, named_draft, draft_name}
use Rattle.ht_net.specs.Build.Built.{circuit_of, AllDriven, IsLeastUndriven}

-- a is an argument of the gate that drives b
pub record Feeds (gates : List NamedGate) (a b : Name) : Type 0 where
  pub gate : NamedGate
  pub is_gate : Contains gates gate
  pub out : gate.out ≡ b
  pub arg : Contains gate.args a

-- different names: each is an argument of the gate that drives the next, and the last of the gate that drives the first
abbrev pub IsNameCycle : List NamedGate → List Name → Type 0
IsNameCycle gates cycle = IsCycle (Feeds gates) cycle

-- what a read past the end of a list of numbers of names gives
abbrev pub no_name : NameId
no_name = record { 0 = 0 }

-- no number of the list is less than its first
abbrev pub BeginsWithLeast : List NameId → Type 0
BeginsWithLeast cycle = (k : ℕ) → k < length cycle → (get_or cycle 0 no_name).0
    ≤ (get_or cycle k no_name).0

-- numbers of names that form a cycle, the least first
pub record IsDraftLoop (d : Draft) (nets : List NameId) : Type 0 where
  pub known : All (IsName d) nets
  pub cycle : IsNameCycle d.gates (map (draft_name d) nets)
  pub least : BeginsWithLeast nets

-- no numbers of the gates rise along each wire from gate to gate
abbrev pub HasNoRank : NamedNetlist → Type 0
HasNoRank n = (rank : ℕ → ℕ) → ¬ IsRank (first_gate_net (circuit_of n)) (circuit_of n).gates rank

-- why a draft is no circuit; out of memory may come at any draft
abbrev pub RefusesFinish : Draft → NetError → Type 0
RefusesFinish d (Undriven name) = IsLeastUndriven d name
RefusesFinish d (Loop nets) = AllDriven d × IsDraftLoop d nets × HasNoRank (named_draft d)
RefusesFinish d NoMemory = Unit {0}
RefusesFinish d _ = ⊥
