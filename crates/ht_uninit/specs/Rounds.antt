-- The rounds in which flip-flops are removed from the set that is held unknown, at first all of them.
use Rattle.std.specs.Prelude.{◌≡◌, ◌<◌, ◌+◌, ◌++◌, ℕ, List, [], ◌∷◌, Bool, true, false, not, ◌==◌, length, filter, map, get_or}
use Rattle.std.specs.List.{list_any, range_with_len}
use Rattle.ht_net.specs.Circuit.Netlist.{Netlist}
use Rattle.ht_tree.specs.declared.token.Token.{Token}
use Rattle.ht_uninit.specs.declared.record.Removed.{Removed}
use Rattle.ht_uninit.specs.declared.record.Removed.TheVariants.{Free, Spent}
use Rattle.ht_uninit.specs.declared.record.Out3.{Out3}
use Rattle.ht_uninit.specs.declared.record.Out3.TheVariants.{Mute, Seen, Open}
use Rattle.ht_faults.specs.Sites.{data_net}
use Rattle.ht_uninit.specs.HeldSearches.{ClosesUnknown, FindsKnown, SpendsHeld}

-- the flip-flop that is removed
abbrev pub removed_dff : Removed → ℕ
removed_dff (Free dff sets) = dff
removed_dff (Spent dff tokens) = dff

-- flip-flop j is removed
abbrev pub is_removed : List Removed → ℕ → Bool
is_removed removed j = list_any (λ r. removed_dff r == j) removed

-- the set that is left, in rising order
abbrev pub held_after : Netlist → List Removed → List ℕ
held_after c removed = filter (λ j. not (is_removed removed j)) (range_with_len 0 (length c.dffs))

-- Why a flip-flop is removed from a set: its next state may be known, or the budget is spent.
abbrev pub IsRemoval : Netlist → ℕ → List ℕ → Removed → Type 0
IsRemoval c budget u (Free j sets) = FindsKnown c budget u (data_net c j) sets
IsRemoval c budget u (Spent j tokens) = SpendsHeld c budget u (data_net c j) tokens

-- So far the work has come: these flip-flops are removed, so many of them before this round, and in this round each
-- member below a number was searched, in the set as it then was.
pub data ComesTo (c : Netlist) (budget : ℕ) : List Removed → ℕ → ℕ → Type 0 where
  begins : ComesTo c budget [] 0 0
  passes : (removed : List Removed) (before j : ℕ) → ComesTo c budget removed before j
      → j < length c.dffs → is_removed removed j ≡ true → ComesTo c budget removed before (j + 1)
  keeps : (removed : List Removed) (before j : ℕ) (tokens : List Token) → ComesTo c budget removed before j
      → j < length c.dffs → is_removed removed j ≡ false
      → ClosesUnknown c budget (held_after c removed) (data_net c j) tokens → ComesTo c budget removed before (j + 1)
  removes : (removed : List Removed) (before j : ℕ) (r : Removed) → ComesTo c budget removed before j
      → j < length c.dffs → is_removed removed j ≡ false → removed_dff r ≡ j
      → IsRemoval c budget (held_after c removed) r → ComesTo c budget (removed ++ r ∷ []) before (j + 1)
  again : (removed : List Removed) (before : ℕ) → ComesTo c budget removed before (length c.dffs)
      → before < length removed → ComesTo c budget removed (length removed) 0

-- the last round is over, and it removed none
abbrev pub EndsWith : Netlist → ℕ → List Removed → Type 0
EndsWith c budget removed = ComesTo c budget removed (length removed) (length c.dffs)

-- what the search of an output comes to
abbrev pub IsOutput : Netlist → ℕ → List ℕ → ℕ → Out3 → Type 0
IsOutput c budget u x (Mute tokens) = ClosesUnknown c budget u x tokens
IsOutput c budget u x (Seen sets) = FindsKnown c budget u x sets
IsOutput c budget u x (Open tokens) = SpendsHeld c budget u x tokens

-- the output is always unknown
abbrev pub is_mute : Out3 → Bool
is_mute (Mute tokens) = true
is_mute (Seen sets) = false
is_mute (Open tokens) = false

-- the budget was spent on the output
abbrev pub is_open : Out3 → Bool
is_open (Mute tokens) = false
is_open (Seen sets) = false
is_open (Open tokens) = true

-- the removal isn't for want of budget
abbrev pub is_free : Removed → Bool
is_free (Free dff sets) = true
is_free (Spent dff tokens) = false

-- the outputs that are mute; none where there is no output
abbrev pub mutes_of : List Out3 → ℕ → Bool
mutes_of outs o = get_or (map is_mute outs) o false
