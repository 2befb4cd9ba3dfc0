-- The good machine and a machine with one stuck line, over any domain of values.
use Rattle.std.specs.Prelude.{ℕ, List, Bool, false, ◌&&◌, cond, eqb, Option, Some, None}
use Rattle.ht_tern.specs.declared.tern.Tern.{Tern}
use Rattle.ht_tern.specs.declared.tern.Tern.TheVariants.{Unk}
use Rattle.ht_tern.specs.declared.gate.Kind.{Kind}
use Rattle.ht_tern.specs.Gate.{gate_value, bool_gate_value, tern_of}
use Rattle.ht_net.specs.declared.fault.Site.{Site}
use Rattle.ht_net.specs.declared.fault.Site.TheVariants.{Stem, DffPin, GatePin}
use Rattle.ht_net.specs.declared.fault.Fault.{Fault}
use Rattle.ht_net.specs.Frames.Frame.{Rules}

-- whether a site is the stem of net x, pin i of gate g, or the data pin of flip-flop j
abbrev pub is_stem : Site → ℕ → Bool
is_stem (Stem y) x = eqb x y.0
is_stem (DffPin k) x = false
is_stem (GatePin h k) x = false

-- the site is pin i of gate g
abbrev pub is_pin : Site → ℕ → ℕ → Bool
is_pin (Stem y) g i = false
is_pin (DffPin k) g i = false
is_pin (GatePin h k) g i = eqb g h && eqb i k

-- the site is the data pin of flip-flop j
abbrev pub is_data_pin : Site → ℕ → Bool
is_data_pin (Stem y) j = false
is_data_pin (DffPin k) j = eqb j k
is_data_pin (GatePin h k) j = false

-- what the line of a site makes of a value: the stuck value if it is the stuck line, else the value itself
unfoldable pub forced : {V : Type 0} → (Bool → V → V) → Option Fault → (Site → Bool) → V → V
forced stick None is_site v = v
forced stick (Some fault) is_site v = cond (is_site fault.site) (stick fault.value v) v

-- The rules of a machine over a domain: its gates, what a line that is stuck at a bit makes of a value, and the stuck
-- line if there is one. A stem fault on a flip-flop's output forces the net and not the latch behind it.
abbrev pub rules_of : {V : Type 0} → V → (Kind → List V → V) → (Bool → V → V)
    → Option Fault → Rules V
rules_of blank gate stick fault = record {
  blank = blank;
  gate = gate;
  stem = λ x v. forced stick fault (λ site. is_stem site x) v;
  pin = λ g i v. forced stick fault (λ site. is_pin site g i) v;
  data_pin = λ j v. forced stick fault (λ site. is_data_pin site j) v;
}

-- over three values and over two
abbrev pub tern_rules : Option Fault → Rules Tern
tern_rules fault = rules_of Unk gate_value (λ bit v. tern_of bit) fault

-- the values of one machine over bits, with a stuck line or without
abbrev pub bool_rules : Option Fault → Rules Bool
bool_rules fault = rules_of false bool_gate_value (λ bit v. bit) fault
