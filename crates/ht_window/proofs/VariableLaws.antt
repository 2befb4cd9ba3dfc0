-- The net that a variable decides.
use Rattle.std.proofs.Common.{◌≡◌, ◌≢◌, ◌<◌, ◌≤◌, ◌+◌, ◌-◌, ◌*◌, inl, inr, ℕ, List, [], ◌∷◌, ◌++◌, Bool, Some, cond, length, sym, ◌∙◌, ap, arith}
use Rattle.std.proofs.lemmas.Nat.{div-mul-add, mod-mul-add}
use Rattle.std.proofs.lemmas.Bool.Decides.{nat_tests, eqb_tells}
use Rattle.ht_net.specs.Circuit.Netlist.{first_gate_net}
use Rattle.ht_tree.specs.declared.token.Assign3.{Assign3}
use Rattle.ht_tree.specs.Window.Decisions.{decided_value}
use Rattle.ht_tree.specs.Window.Windows.{SearchWindow, first_input}
use Rattle.ht_tree.proofs.WrittenLaws.{decided_more}
use Rattle.ht_window.specs.Cells.{var_frame, var_net}
use Rattle.ht_window.proofs.PlaceLaws.{rows_inside}

-- a decision leaves the values of the other variables
pub decided_other : (path : List Assign3) (d : Assign3) (var : ℕ) → var ≢ d.var → decided_value (path ++ d ∷ []) var
    ≡ decided_value path var
decided_other path d var ne = elim (eqb_tells d.var var) [
  | inl p ↦ absurd (ne (sym p.1))
  | inr p ↦ decided_more path d var ∙ ap (λ (b : Bool). cond b (Some d.value) (decided_value path var)) p.0
]

-- the net of a variable
pub input_frame : (w : SearchWindow) (g i : ℕ) → g < w.frames → i < w.circuit.inputs → var_frame w (first_input w g + i)
    ≡ g
input_frame w g i gs is =
    let h : first_input w g + i < first_input w w.frames = rows_inside w.circuit.inputs w.frames g i gs is in
    let e = div-mul-add g w.circuit.inputs i is in
    grind (arith, nat_tests, h, e)

-- the variable of an input decides that input
pub input_net : (w : SearchWindow) (g i : ℕ) → g < w.frames → i < w.circuit.inputs → var_net w (first_input w g + i) ≡ i
input_net w g i gs is =
    let h : first_input w g + i < first_input w w.frames = rows_inside w.circuit.inputs w.frames g i gs is in
    let e = mod-mul-add g w.circuit.inputs i is in
    grind (arith, nat_tests, h, e)

-- in a window of one frame the variables of the inputs are as many as the inputs
pub only_frame : (w : SearchWindow) → w.frames ≡ 1 → first_input w w.frames ≡ w.circuit.inputs
only_frame w e = let f = ap (λ (k : ℕ). k * w.circuit.inputs) e in omega (arith, f)

-- a variable after those of the inputs is of frame 0
pub high_frame : (w : SearchWindow) (var : ℕ) → first_input w w.frames ≤ var → var_frame w var ≡ 0
high_frame w var h = grind (arith, nat_tests, h)

-- the variable of a latch, or of its good half, has the number of its net
pub good_net : (w : SearchWindow) (var : ℕ) → first_input w w.frames ≤ var → var < first_gate_net w.circuit
    → var_net w var
    ≡ var
good_net w var h l = grind (arith, nat_tests, h, l)

-- the variable of a latch's faulty half decides the net of that latch
pub faulty_net : (w : SearchWindow) (var : ℕ) → first_input w w.frames ≤ var → first_gate_net w.circuit ≤ var
    → var_net w var
    ≡ var - length w.circuit.dffs
faulty_net w var h l = grind (arith, nat_tests, h, l)
