-- What reads a net of a frame.
use Rattle.std.proofs.Common.{◌≡◌, ◌≢◌, ◌<◌, ◌≤◌, ◌+◌, ◌-◌, inl, inr, ℕ, suc, List, length, get_or, sym, ◌∙◌, ap, arith}
use Rattle.std.proofs.lemmas.Bool.Decides.{nat_tests}
use Rattle.ht_net.specs.Circuit.Netlist.{Netlist, net_count, first_gate_net, gate_at, arg_at, no_net, IsCircuit}
use Rattle.ht_net.specs.Frames.Frame.{Rules, net_value_over}
use Rattle.ht_net.proofs.FrameLaws.{le_or_lt, driven_input, driven_latch, driven_gate, gate_same}
use Rattle.ht_events.specs.Items.{item_at, frame_items, reader_frame, IsReader, IsGateOn, ReadsNet}
use Rattle.ht_events.proofs.ItemLaws.{reads_known}
use Rattle.ht_window.proofs.PlaceLaws.{rows_row, rows_in_row}

-- two evaluations of a net that read the same
pub over_same : {V : Type 0} → (c : Netlist) (r : Rules V) (I J L M : List V) (e g : ℕ → V) (x : ℕ)
    → (x < c.inputs → get_or I x r.blank ≡ get_or J x r.blank)
    → (c.inputs ≤ x → x < first_gate_net c → get_or L (x - c.inputs) r.blank ≡ get_or M (x - c.inputs) r.blank)
    → ((j : ℕ) → first_gate_net c ≤ x → j < length (gate_at c (x - first_gate_net c)).args
    → e (arg_at c (x - first_gate_net c) j) ≡ g (arg_at c (x - first_gate_net c) j))
    → net_value_over c r I L e x ≡ net_value_over c r J M g x
unfolding net_value_over
over_same c r I J L M e g x inputs latches args =
    ap (r.stem x) (elim (le_or_lt (first_gate_net c) x) [
      | inl at ↦ driven_gate c r I L e x at ∙
          (gate_same c r e g (x - first_gate_net c) (λ j l. args j at l) ∙ sym (driven_gate c r J M g x at))
      | inr low ↦ elim (le_or_lt c.inputs x) [
        | inl at ↦ driven_latch c r I L e x at low ∙ (latches at low ∙ sym (driven_latch c r J M g x at low))
        | inr l ↦ driven_input c r I L e x l ∙ (inputs l ∙ sym (driven_input c r J M g x l))
      ]
    ])

-- no gate reads its own net
not_own : (c : Netlist) → IsCircuit c → (g i : ℕ) → g < length c.gates → i < length (gate_at c g).args
    → arg_at c g i ≢ first_gate_net c + g
not_own c circuit g i inside pin e =
    let rank = circuit.ranked.0 in
    let falls = circuit.ranked.1.falls g i inside pin (omega (arith, e)) in
    let at : arg_at c g i - first_gate_net c ≡ g = omega (arith, e) in
    let same = ap rank at in
    omega (arith, falls, same)

reader_same : (c : Netlist) (f l : ℕ) → length c.dffs ≤ l → reader_frame c f l ≡ f
reader_same c f l h = grind (arith, nat_tests, h)

reader_next : (c : Netlist) (f l : ℕ) → l < length c.dffs → reader_frame c f l ≡ suc f
reader_next c f l h = grind (arith, nat_tests, h)

-- the item of a gate reads each of its arguments in its own frame
pub gate_reads : (c : Netlist) (k f x g y j : ℕ) → first_gate_net c ≤ y → y < net_count c → g < k
    → j < length (gate_at c (y - first_gate_net c)).args → g ≡ f → arg_at c (y - first_gate_net c) j ≡ x
    → IsReader c k f x (item_at c g (y - c.inputs))
gate_reads c k f x g y j at ys gs pin gf ax =
    let l = y - c.inputs in
    let e : y - first_gate_net c ≡ l - length c.dffs = omega (arith, at) in
    let n = ap (λ (h : ℕ). length (gate_at c h).args) e in
    let low : length c.dffs ≤ l = omega (arith, at) in
    let on : IsGateOn c l x = record {
      pin = j;
      is_gate = low;
      known = omega (arith, at, ys);
      is_pin = omega (arith, n, pin);
      reads = ap (λ (h : ℕ). arg_at c h j) (sym e) ∙ ax;
    } in
    let r = reader_same c f l low in
    record {
      local = l;
      reads = inl on;
      inside = omega (arith, r, gf, gs);
      at = ap (λ (h : ℕ). item_at c h l) (gf ∙ sym r);
    }

-- the item of a flip-flop reads its data net in the frame before
pub dff_reads : (c : Netlist) (k f x g j : ℕ) → j < length c.dffs → suc g < k → g ≡ f → (get_or c.dffs j no_net).0 ≡ x
    → IsReader c k f x (item_at c (suc g) j)
dff_reads c k f x g j js gs gf dx =
    let r = reader_next c f j js in
    record {
      local = j;
      reads = inr (record { is_dff = js; reads = dx });
      inside = omega (arith, r, gf, gs);
      at = ap (λ (h : ℕ). item_at c h j) (ap suc gf ∙ sym r);
    }

-- no item reads its own cell
pub not_self : (c : Netlist) → IsCircuit c → (k f x : ℕ) → c.inputs ≤ x → x < net_count c
    → ¬ IsReader c k f x (item_at c f (x - c.inputs))
not_self c circuit k f x at xs r =
    let n = frame_items c in
    let m = r.local in
    let ms = reads_known c m x r.reads in
    let fr : f ≡ reader_frame c f m = rows_row n f (reader_frame c f m) (x - c.inputs) m (omega (arith, at, xs)) ms r.at
    in
    let lm : x - c.inputs ≡ m = rows_in_row n f (reader_frame c f m) (x - c.inputs) m (omega (arith, at, xs)) ms r.at in
    apart m fr lm r.reads where
      apart : (m : ℕ) → f ≡ reader_frame c f m → x - c.inputs ≡ m → ReadsNet c m x → ⊥
      apart m fr lm (inr d) = let e = reader_next c f m d.is_dff in absurd (omega (arith, fr, e))
      apart m fr lm (inl g) =
          let low = g.is_gate in
          let known = g.known in
          let e = g.reads in
          not_own c circuit (m - length c.dffs) g.pin (omega (arith, low, known)) g.is_pin
          (omega (arith, e, lm, at, low))
