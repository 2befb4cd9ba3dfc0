-- An example: the toggle, a flip-flop q that takes n = NOT(q), where the stem of q is stuck at 0.
use Rattle.std.specs.Prelude.{ℕ, List, [], ◌∷◌, Bool, true, false, nat_lt}
use Rattle.ht_tern.specs.declared.gate.Kind.TheVariants.{Not}
use Rattle.ht_net.specs.declared.net.NetId.{NetId}
use Rattle.ht_net.specs.declared.fault.Fault.{Fault}
use Rattle.ht_net.specs.declared.fault.Site.TheVariants.{Stem}
use Rattle.ht_net.specs.Circuit.Netlist.{Netlist}
use Rattle.ht_cubes.specs.declared.rail.Rail.{Rail}
use Rattle.ht_cubes.specs.declared.signed_var.SignedVar.{SignedVar}

-- The net of a number.
abbrev pub net_numbered : ℕ → NetId
net_numbered x = record { 0 = x }

-- The toggle: net 0 is q, and net 1 is n.
abbrev pub toggle : Netlist
toggle = record {
  inputs = 0;
  dffs = net_numbered 1 ∷ [];
  gates = record { kind = Not; args = net_numbered 0 ∷ [] } ∷ [];
  outputs = net_numbered 0 ∷ [];
  names = (113 ∷ []) ∷ (110 ∷ []) ∷ [];
}

-- Its q, stuck at 0.
abbrev pub q_stuck_at_0 : Fault
q_stuck_at_0 = record { site = Stem (net_numbered 0); value = false }

-- The cone of that fault: both nets.
abbrev pub both_nets : ℕ → Bool
both_nets x = nat_lt x 2

-- The cubes that refute it: the good machine's q never holds 0, and never holds 1.
abbrev pub never_known : List (List Rail)
never_known = (record { faulty = false; dff = 0; value = false } ∷ [])
    ∷ (record { faulty = false; dff = 0; value = true } ∷ []) ∷ []

-- A variable that is to be true.
abbrev pub plus : ℕ → SignedVar
plus n = record { variable = n; value = true }

-- A variable that is to be false.
abbrev pub minus : ℕ → SignedVar
minus n = record { variable = n; value = false }

-- The formula of these: 11 clauses.
abbrev pub toggle_formula : List (List SignedVar)
toggle_formula = (minus 1 ∷ minus 2 ∷ []) ∷ (minus 5 ∷ minus 6 ∷ [])
    ∷ (minus 4 ∷ plus 1 ∷ []) ∷ (minus 3 ∷ plus 2 ∷ []) ∷ (minus 7 ∷ [])
    ∷ (minus 1 ∷ []) ∷ (minus 2 ∷ [])
    ∷ (minus 9 ∷ plus 3 ∷ []) ∷ (minus 10 ∷ plus 4 ∷ []) ∷ (minus 11 ∷ plus 2 ∷ [])
    ∷ (plus 9 ∷ plus 10 ∷ plus 11 ∷ []) ∷ []
