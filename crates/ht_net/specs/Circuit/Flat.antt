-- How flat arrays stand for gates.
use Rattle.std.specs.Prelude.{◌≡◌, ℕ, List, [], ◌∷◌, ◌+◌, ◌-◌, ◌<◌, ◌≤◌, length, get_or, take, drop}
use Rattle.ht_tern.specs.declared.gate.Kind.{Kind}
use Rattle.ht_net.specs.declared.net.NetId.{NetId}
use Rattle.ht_net.specs.Circuit.Netlist.{Gate}
use Rattle.ht_net.specs.declared.gates.Gates.TheInside.{Inside}

-- each kind with the arguments between its start and the next
abbrev pub gates_of : List Kind → List ℕ → List NetId → List Gate
gates_of [] starts args = []
gates_of (k ∷ kinds) starts args =
    record {
      kind = k;
      args = take (get_or starts 1 0 - get_or starts 0 0)
          (drop (get_or starts 0 0) args);
    }
    ∷ gates_of kinds (drop 1 starts) args

-- the gates that flat rows of kinds and arguments stand for
abbrev pub flat_gates : Inside → List Gate
flat_gates a = gates_of a.kinds.items a.starts.items a.args.items

-- the starts rise up to where the arguments end
pub record IsFlat (a : Inside) : Type 0 where
  pub starts : length a.starts.items ≡ length a.kinds.items + 1
  pub rises : (g : ℕ) → g < length a.kinds.items → get_or a.starts.items g 0
      ≤ get_or a.starts.items (g + 1) 0
  pub within : (g : ℕ) → g ≤ length a.kinds.items → get_or a.starts.items g 0 ≤ length a.args.items
  pub ends : get_or a.starts.items (length a.kinds.items) 0 ≡ length a.args.items
