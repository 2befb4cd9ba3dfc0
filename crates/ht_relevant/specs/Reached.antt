-- The nets that a fault can reach in the frames of a window.
use Rattle.std.specs.Prelude.{◌≡◌, ◌<◌, ◌+◌, ℕ, suc, Bool, true, false, not, ◌&&◌, eqb, ltb, length, get_or, Option, Some, None}
use Rattle.ht_pairs.specs.Pairs.{same_tern}
use Rattle.ht_net.specs.declared.fault.Site.{Site}
use Rattle.ht_net.specs.declared.fault.Site.TheVariants.{Stem, DffPin, GatePin}
use Rattle.ht_net.specs.declared.fault.Fault.{Fault}
use Rattle.ht_net.specs.Circuit.Netlist.{Netlist, first_gate_net, net_count, gate_at, arg_at, no_net}
use Rattle.ht_tree.specs.Window.Decisions.{is_in}
use Rattle.ht_tree.specs.Window.Windows.{Start, one_frame, unknown, state_pair, back, SearchWindow}
use Rattle.ht_tree.specs.Window.WindowStatus.{value_at}

-- a line is the stem of net x, or a pin of what drives net x
abbrev pub leads_to : Netlist → Site → ℕ → Bool
leads_to c (Stem y) x = eqb x y.0
leads_to c (DffPin j) x = ltb j (length c.dffs) && eqb x (c.inputs + j)
leads_to c (GatePin g i) x = eqb x (first_gate_net c + g)

-- there is a fault, and net x is the first that it changes
abbrev pub begins_at : Netlist → Option Fault → ℕ → Bool
begins_at c None x = false
begins_at c (Some fault) x = leads_to c fault.site x

-- the two machines may differ at latch j of the first frame
abbrev pub may_begin_apart : Start → ℕ → Bool
may_begin_apart (one_frame z) j = is_in z j
may_begin_apart unknown j = false
may_begin_apart (state_pair good faulty) j = not (same_tern (value_at good j) (value_at faulty j))
may_begin_apart (back cube limit) j = false

-- Some nets of each frame: those at which a difference may begin, and those whose driver reads one of them. So the
-- machines differ at no other net, whatever is decided.
pub record IsReach (w : SearchWindow) (is : ℕ → ℕ → Bool) : Type 0 where
  pub line : (f x : ℕ) → f < w.frames → x < net_count w.circuit → begins_at w.circuit w.fault x ≡ true
      → is f x ≡ true
  pub latches : (j : ℕ) → j < length w.circuit.dffs → may_begin_apart w.start j ≡ true
      → is 0 (w.circuit.inputs + j) ≡ true
  pub gates : (f g i : ℕ) → f < w.frames → g < length w.circuit.gates → i < length (gate_at w.circuit g).args
      → is f (arg_at w.circuit g i) ≡ true
      → is f (first_gate_net w.circuit + g) ≡ true
  pub dffs : (f j : ℕ) → suc f < w.frames → j < length w.circuit.dffs
      → is f (get_or w.circuit.dffs j no_net).0 ≡ true
      → is (suc f) (w.circuit.inputs + j) ≡ true
