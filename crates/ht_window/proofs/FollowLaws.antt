-- The cells after one more decision.
use Rattle.std.proofs.Common.{◌≡◌, ◌<◌, ◌+◌, suc, Option, ℕ, List, [], ◌∷◌, ◌++◌, length, get_or, set, sym, ◌∙◌, ap, arith, subst}
use Rattle.ht_pairs.specs.Pairs.{Pair, pair}
use Rattle.ht_tern.specs.declared.tern.Tern.TheVariants.{Unk}
use Rattle.ht_net.specs.declared.net.NetId.{NetId}
use Rattle.ht_net.specs.Circuit.Netlist.{net_count, no_net}
use Rattle.ht_net.specs.Frames.Frame.{next_state}
use Rattle.ht_events.specs.Items.{item_count, IsReader}
use Rattle.ht_events.specs.Plans.{PlanState}
use Rattle.ht_events.specs.Pending.{CoreState, IsPending, QuietAgree, core_items}
use Rattle.ht_net.specs.declared.fault.Fault.{Fault}
use Rattle.ht_net.proofs.ValueLaws.{taken_get}
use Rattle.ht_tree.specs.declared.token.Assign3.{Assign3}
use Rattle.ht_tree.specs.Window.Windows.{SearchWindow, IsWindow, cell_at, latches_at, pair_set_rules}
use Rattle.ht_window.specs.Standing.{Standing}
use Rattle.ht_window.specs.Cells.{cell_index, cell_count, blank, value_over, AreCells, var_frame, var_net}
use Rattle.ht_relevant.specs.Near.{RelevantState}
use Rattle.ht_relevant.specs.Relevant.{IsClosedBack}
use Rattle.ht_window.specs.Matters.{is_relevant}
use Rattle.ht_window.specs.Holding.{HeldState, item_agrees, KeepsHeld}
use Rattle.ht_window.proofs.AgreeLaws.{settled_cells}
use Rattle.ht_window.proofs.DecideLaws.{decided_agrees, decided_inputs}

-- where all that wasn't pending agreed, and after settling none is pending, all items agree
pub settled_all : (s t : CoreState) (w : SearchWindow) (a b : HeldState) → t.plan ≡ s.plan → s.plan.circuit ≡ w.circuit
    → s.plan.frames ≡ w.frames → QuietAgree s (item_agrees a)
    → (QuietAgree s (item_agrees a) → QuietAgree t (item_agrees b))
    → ((y : ℕ) → y < core_items s → ¬ IsPending t y)
    → (y : ℕ) → y < item_count w.circuit w.frames → item_agrees b y
settled_all s t w a b plan circuit frames quiet settled none y known =
    let here : y < core_items s = subst (λ (n : ℕ). y < n) (sym (λ i. item_count (circuit i) (frames i))) known in
    settled quiet y (subst (λ (p : PlanState). y < item_count p.circuit p.frames) (sym plan) here) (none y here)

-- a is before the decision, p has the decision, and q also the set of its net
module _ (a p q : HeldState) (d : Assign3) (valid : IsWindow a.standing.window)
    (count : length a.cells.values ≡ cell_count a.standing.window)
    (closed : IsClosedBack a.standing.window.circuit a.standing.window.frames
    (is_relevant a.relevant))
    (are : AreCells a.standing.window (is_relevant a.relevant) a.standing.path a.cells.values)
    (known : var_net a.standing.window d.var < net_count a.standing.window.circuit)
    (pw : p.standing.window ≡ a.standing.window) (pr : p.relevant ≡ a.relevant) (pc : p.cells ≡ a.cells)
    (pp : p.standing.path ≡ a.standing.path ++ d ∷ [])
    (f x : ℕ) (fe : f ≡ var_frame p.standing.window d.var) (xe : x ≡ var_net p.standing.window d.var)
    (qs : q.standing ≡ p.standing) (qr : q.relevant ≡ p.relevant)
    (qv : q.cells.values ≡ set p.cells.values (cell_index p.standing.window f x)
    (value_over p.standing.window p.standing.path p.cells.values f x)) where
  frame_is : f ≡ var_frame a.standing.window d.var
  frame_is = fe ∙ ap (λ (w : SearchWindow). var_frame w d.var) pw

  net_is : x ≡ var_net a.standing.window d.var
  net_is = xe ∙ ap (λ (w : SearchWindow). var_net w d.var) pw

  same : q.standing.window ≡ a.standing.window
  same = ap (λ (s : Standing). s.window) qs ∙ pw

  more : q.standing.path ≡ a.standing.path ++ d ∷ []
  more = ap (λ (s : Standing). s.path) qs ∙ pp

  now : q.cells.values
      ≡ set a.cells.values
      (cell_index a.standing.window (var_frame a.standing.window d.var) (var_net a.standing.window d.var))
      (value_over a.standing.window (a.standing.path ++ d ∷ []) a.cells.values (var_frame a.standing.window d.var)
      (var_net a.standing.window d.var))
  now = qv ∙ (λ i. set (pc i).values (cell_index (pw i) (frame_is i) (net_is i))
      (value_over (pw i) (pp i) (pc i).values (frame_is i) (net_is i)))

  marks : q.relevant ≡ a.relevant
  marks = qr ∙ pr

  -- with the decision and the set of its net, each item that doesn't read that net agrees
  pub follow_agrees : (y : ℕ) → y < item_count a.standing.window.circuit a.standing.window.frames
      → ¬ IsReader a.standing.window.circuit a.standing.window.frames f x y → item_agrees q y
  follow_agrees y ys free = decided_agrees a.standing.window valid a.relevant closed a.standing.path d a.cells.values count
      known are q same marks more now y ys
      (λ r. free (subst (λ (n : ℕ). IsReader a.standing.window.circuit a.standing.window.frames n x y) (sym frame_is)
      (subst (λ (n : ℕ). IsReader a.standing.window.circuit a.standing.window.frames
      (var_frame a.standing.window d.var) n y) (sym net_is) r)))

  -- once all items agree, the cells of the nets that matter are those of the decisions
  pub follow_cells : (r : HeldState) → KeepsHeld q r
      → ((y : ℕ) → y < item_count a.standing.window.circuit a.standing.window.frames → item_agrees r y)
      → AreCells a.standing.window (is_relevant a.relevant) r.standing.path r.cells.values
  follow_cells r kept agree =
      let here = subst (λ (v : SearchWindow). IsClosedBack v.circuit v.frames (is_relevant q.relevant)) (sym same)
      (subst (λ (o : Option RelevantState). IsClosedBack a.standing.window.circuit a.standing.window.frames
      (is_relevant o)) (sym marks) closed) in
      let c = settled_cells q r (subst IsWindow (sym same) valid) here kept
      (decided_inputs a.standing.window valid a.relevant closed a.standing.path d a.cells.values count known are q same
      marks more now)
      (subst (λ (w : SearchWindow). (y : ℕ) → y < item_count w.circuit w.frames → item_agrees r y) (sym same) agree) in
      subst (λ (w : SearchWindow). AreCells w (is_relevant a.relevant) r.standing.path r.cells.values) same
      (subst (λ (o : Option RelevantState). AreCells q.standing.window (is_relevant o)
      r.standing.path r.cells.values) marks
      (subst (λ (s : Standing). AreCells q.standing.window (is_relevant q.relevant) s.path
      r.cells.values) (sym kept.standing) c))

-- the next state of a latch after the last frame
pub last_latch : (w : SearchWindow) (path : List Assign3) (g j : ℕ) (result cell : List Pair) (fault : Option Fault)
    (net : NetId) → w.frames ≡ g + 1 → j < length w.circuit.dffs
    → result ≡ (pair_set_rules fault).data_pin j cell → fault ≡ w.fault → net ≡ get_or w.circuit.dffs j no_net → cell
    ≡ cell_at w path g net.0
    → result ≡ get_or (latches_at w path w.frames) j (pair Unk Unk ∷ [])
unfolding latches_at next_state
last_latch w path g j result cell fault net at js r fs ns cs =
    let e : 0 + j ≡ j = omega arith in
    let s : w.frames ≡ suc g = omega (arith, at) in
    r ∙ ((λ i. (pair_set_rules (fs i)).data_pin j ((cs ∙ ap (λ (n : NetId). cell_at w path g n.0) ns) i))
    ∙ sym (ap (λ (h : ℕ). get_or (latches_at w path h) j blank) s
    ∙ (taken_get (pair_set_rules w.fault) (cell_at w path g) 0 w.circuit.dffs j blank js
    ∙ ap (λ (k : ℕ). (pair_set_rules w.fault).data_pin k (cell_at w path g (get_or w.circuit.dffs j no_net).0)) e)))
