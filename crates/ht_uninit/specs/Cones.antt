-- The cone of a fault: the nets that its effect may come to, in this frame or in a later one.
use Rattle.std.specs.Prelude.{◌≡◌, ◌<◌, ◌+◌, ℕ, Bool, true, length, get_or}
use Rattle.ht_net.specs.declared.fault.Site.{Site}
use Rattle.ht_net.specs.declared.fault.Site.TheVariants.{Stem, DffPin, GatePin}
use Rattle.ht_net.specs.declared.fault.Fault.{Fault}
use Rattle.ht_net.specs.Circuit.Netlist.{Netlist, first_gate_net, gate_at, arg_at, no_net}
use Rattle.ht_faults.specs.Sites.{data_net}

-- the net at output o
abbrev pub output_net : Netlist → ℕ → ℕ
output_net c o = (get_or c.outputs o no_net).0

-- A set of nets that has, with each net, the nets that are driven by the gates and flip-flops that read it.
pub record IsForwardClosed (c : Netlist) (s : ℕ → Bool) : Type 0 where
  pub gates : (g i : ℕ) → g < length c.gates → i < length (gate_at c g).args → s (arg_at c g i) ≡ true
      → s (first_gate_net c + g) ≡ true
  pub dffs : (j : ℕ) → j < length c.dffs → s (data_net c j) ≡ true → s (c.inputs + j) ≡ true

-- net y is in the cone of net x: it is in the least such set that has x
abbrev pub InCone : Netlist → ℕ → ℕ → Type 0
InCone c x y = (s : ℕ → Bool) → IsForwardClosed c s → s x ≡ true → s y ≡ true

-- where the cone of a fault begins: at the net of a stem, or at the net that the pin's gate or flip-flop drives
abbrev pub cone_root : Netlist → Site → ℕ
cone_root c (Stem x) = x.0
cone_root c (DffPin j) = c.inputs + j
cone_root c (GatePin g i) = first_gate_net c + g

-- a fault is hidden: each output in its cone is mute
abbrev pub IsHidden : Netlist → (ℕ → Bool) → Fault → Type 0
IsHidden c mute fault = (o : ℕ) → o < length c.outputs → InCone c (cone_root c fault.site) (output_net c o)
    → mute o ≡ true
