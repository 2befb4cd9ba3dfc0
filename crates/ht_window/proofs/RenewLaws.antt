-- What stands as nets are renewed, and after all have followed.
use Rattle.std.proofs.Common.{◌≡◌, ◌≢◌, ◌<◌, ◌≤◌, ◌+◌, ◌-◌, ◌⊎◌, inl, inr, ℕ, List, true, length, set, refl, sym, ◌∙◌, ap, arith, subst}
use Rattle.std.proofs.lemmas.Bool.{cases_Bool}
use Rattle.std.proofs.lemmas.Bool.Decides.{eqb_tells}
use Rattle.ht_pairs.specs.Pairs.{Pair}
use Rattle.ht_net.specs.Circuit.Netlist.{Netlist, net_count, first_gate_net}
use Rattle.ht_net.specs.declared.fault.Fault.{Fault}
use Rattle.ht_net.proofs.FrameLaws.{le_or_lt}
use Rattle.ht_events.specs.Items.{item_at, item_count, frame_of, local_of, driven_net, IsReader}
use Rattle.ht_events.specs.Plans.{PlanState}
use Rattle.ht_events.specs.Pending.{CoreState, IsPending, QuietAgree, core_items}
use Rattle.ht_tree.specs.Window.Windows.{SearchWindow, IsWindow}
use Rattle.ht_window.specs.Standing.{Standing}
use Rattle.ht_window.specs.Cells.{cell_index, cell_count, value_over, HoldsValue, AreCells}
use Rattle.ht_relevant.specs.Near.{RelevantState}
use Rattle.ht_relevant.specs.Relevant.{IsClosedBack}
use Rattle.ht_window.specs.Matters.{is_relevant}
use Rattle.ht_window.specs.Holding.{HeldState, MayHold, item_agrees, KeepsHeld}
use Rattle.ht_relevant.specs.Reached.{begins_at}
use Rattle.ht_window.specs.Renewals.{IsPlanFor, HoldsOrPends, IsRenewed, HoldsElsewhere}
use Rattle.std.specs.Prelude.{Option}
use Rattle.ht_window.proofs.PlaceLaws.{this_or_other}
use Rattle.ht_window.proofs.ItemNetLaws.{item_net}
use Rattle.ht_window.proofs.HoldLaws.{others_hold, same_holds}
use Rattle.ht_window.proofs.AgreeLaws.{settled_cells}
use Rattle.ht_window.proofs.FollowLaws.{settled_all}

-- what is renewed stays so
pub renewed_more : (s t u : CoreState) (a b d : HeldState) → IsRenewed s a t b → IsRenewed t b u d → IsRenewed s a u d
renewed_more s t u a b d h k = record {
  plan = k.plan ∙ h.plan;
  standing = k.standing ∙ h.standing;
  relevant = k.relevant ∙ h.relevant;
  holds = λ f x fs xs old. k.holds f x (subst (λ (n : Standing). f < n.window.frames) (sym h.standing) fs)
      (subst (λ (n : Standing). x < net_count n.window.circuit) (sym h.standing) xs) (h.holds f x fs xs old);
}

-- the plan is still that of the window's frames
pub plan_renewed : (s t : CoreState) (a b : HeldState) → IsRenewed s a t b → IsPlanFor s.plan a.standing.window
    → IsPlanFor t.plan b.standing.window
plan_renewed s t a b h plan = record {
  circuit = ap (λ (p : PlanState). p.circuit) h.plan
      ∙ (plan.circuit ∙ sym (ap (λ (n : Standing). n.window.circuit) h.standing));
  frames = ap (λ (p : PlanState). p.frames) h.plan
      ∙ (plan.frames ∙ sym (ap (λ (n : Standing). n.window.frames) h.standing));
}

-- Nets are renewed one by one, the first n of them so far: net `net k` of frame `frame k`.
pub record AreRenewed (s : CoreState) (a : HeldState) (t : CoreState) (b : HeldState) (frame net : ℕ → ℕ) (n : ℕ)
    : Type 0 where
  pub renewed : IsRenewed s a t b
  pub done : (k : ℕ) → k < n → HoldsOrPends t b (frame k) (net k)

-- when the next net holds what it gets or is pending, and the others still do, one net more is renewed
pub one_more_renewed : (s t u : CoreState) (a b d : HeldState) (frame net : ℕ → ℕ) (n : ℕ)
    → ((k : ℕ) → k < n → (frame k < a.standing.window.frames) × (net k < net_count a.standing.window.circuit))
    → AreRenewed s a t b frame net n → IsRenewed t b u d → HoldsOrPends u d (frame n) (net n)
    → AreRenewed s a u d frame net (n + 1)
one_more_renewed s t u a b d frame net n inside h k here = record {
  renewed = renewed_more s t u a b d h.renewed k;
  done = λ m less. elim (eqb_tells m n) [
    | inl p ↦ subst (λ (j : ℕ). HoldsOrPends u d (frame j) (net j)) (sym p.1) here
    | inr p ↦
        let ne : m ≢ n = p.1 in
        let old : m < n = omega (arith, less, ne) in
        let i = inside m old in
        k.holds (frame m) (net m)
        (subst (λ (j : Standing). frame m < j.window.frames) (sym h.renewed.standing) i.0)
        (subst (λ (j : Standing). net m < net_count j.window.circuit) (sym h.renewed.standing) i.1)
        (h.done m old)
  ];
}

-- the write of a net's set, after which what reads it is pending
module _ (s t : CoreState) (a b : HeldState) (valid : IsWindow a.standing.window)
    (count : length a.cells.values ≡ cell_count a.standing.window)
    (f x : ℕ) (fs : f < a.standing.window.frames) (xs : x < net_count a.standing.window.circuit)
    (circuit : s.plan.circuit ≡ a.standing.window.circuit) (frames : s.plan.frames ≡ a.standing.window.frames)
    (same : b.standing ≡ a.standing) (kept : b.relevant ≡ a.relevant)
    (now : b.cells.values ≡ set a.cells.values (cell_index a.standing.window f x)
    (value_over a.standing.window a.standing.path a.cells.values f x))
    (plan : t.plan ≡ s.plan) (more : (y : ℕ) → IsPending s y → IsPending t y)
    (loads : (y : ℕ) → IsReader s.plan.circuit s.plan.frames f x y → IsPending t y) where
  stands : (g y : ℕ) → g < a.standing.window.frames → y < net_count a.standing.window.circuit
      → ((g ≡ f) × (y ≡ x)) ⊎ (((g ≢ f) ⊎ (y ≢ x)) × HoldsOrPends s a g y) → HoldsOrPends t b g y
  stands g y gs ys here =
      let w = a.standing.window in
      let p = a.standing.path in
      let old = a.cells.values in
      let v = value_over w p old f x in
      subst (λ (n : Standing). HoldsOrPends t (record { standing = n; cells = b.cells; relevant = b.relevant }) g y)
      (sym same)
      (λ free m. subst (λ (l : List (List Pair)). HoldsValue w p l g y) (sym now) (elim here [
        | inl e ↦ same_holds w valid p old count f x v fs xs g y ys e refl
        | inr other ↦ others_hold w valid p old count f x v fs xs g y gs ys
            (λ at r. free at (loads (item_at w.circuit g (y - w.circuit.inputs))
            (subst (λ (k : ℕ). IsReader s.plan.circuit k f x (item_at w.circuit g (y - w.circuit.inputs))) (sym frames)
            (subst (λ (c : Netlist). IsReader c w.frames f x (item_at w.circuit g (y - w.circuit.inputs)))
            (sym circuit) r)))) other.0
            (other.1 (λ at pends. free at (more (item_at w.circuit g (y - w.circuit.inputs)) pends))
            (sym (ap (λ (o : Option RelevantState). is_relevant o g y) kept) ∙ m))
      ]))

  -- after the write of a net, each net that held what it got, or was pending, still does, and so does that net
  pub renewed_write : IsRenewed s a t b × HoldsOrPends t b f x
  renewed_write = (
    record {
      plan = plan;
      standing = same;
      relevant = kept;
      holds = λ g y gs ys old. stands g y gs ys (elim (this_or_other a.standing.window a.cells.values count f x
          (value_over a.standing.window a.standing.path a.cells.values f x) fs xs g y) [
            | inl e ↦ inl e
            | inr ne ↦ inr (ne, old)
          ]);
    },
    stands f x fs xs (inl (refl, refl)),
  )

-- a net is a latch of the first frame, or not
this_latch : (c : Netlist) (f x : ℕ) → ((f ≡ 0) × (c.inputs ≤ x) × (x < first_gate_net c))
    ⊎ (f ≡ 0 → c.inputs ≤ x → first_gate_net c ≤ x)
this_latch c f x = elim (eqb_tells f 0) [
  | inr p ↦ inr (λ at low. absurd (p.1 at))
  | inl p ↦ elim (le_or_lt (first_gate_net c) x) [
    | inl high ↦ inr (λ at low. high)
    | inr less ↦ elim (le_or_lt c.inputs x) [
      | inl at ↦ inl (p.1, at, less)
      | inr low ↦ inr (λ z at. absurd (omega (arith, low, at)))
    ]
  ]
]

-- once both lines and the latches of the first frame are renewed, each net that matters holds what it gets or is pending
pub all_renewed : (s t : CoreState) (a b : HeldState) (before : Option Fault) → HoldsElsewhere a before
    → IsRenewed s a t b
    → ((f x : ℕ) → f < a.standing.window.frames → x < net_count a.standing.window.circuit
    → begins_at a.standing.window.circuit before x ≡ true → HoldsOrPends t b f x)
    → ((f x : ℕ) → f < a.standing.window.frames → x < net_count a.standing.window.circuit
    → begins_at a.standing.window.circuit a.standing.window.fault x ≡ true → HoldsOrPends t b f x)
    → ((x : ℕ) → a.standing.window.circuit.inputs ≤ x → x < first_gate_net a.standing.window.circuit
    → HoldsOrPends t b 0 x)
    → (f x : ℕ) → f < a.standing.window.frames → x < net_count a.standing.window.circuit → HoldsOrPends t b f x
all_renewed s t a b before elsewhere renewed old new latches f x fs xs =
    let w = a.standing.window in
    let c = w.circuit in
    elim (cases_Bool (begins_at c before x)) [
      | inl o ↦ old f x fs xs o
      | inr far ↦ elim (cases_Bool (begins_at c w.fault x)) [
        | inl n ↦ new f x fs xs n
        | inr clear ↦ elim (this_latch c f x) [
          | inl at ↦ subst (λ (g : ℕ). HoldsOrPends t b g x) (sym at.0) (latches x at.1 at.2)
          | inr late ↦ renewed.holds f x fs xs (λ free m. elsewhere.holds f x fs xs far clear late)
        ]
      ]
    ]

-- where all nets hold what they get or are pending, and then none is pending, every cell is that of the decisions
pub all_followed : (t u : CoreState) (b d : HeldState) → IsWindow b.standing.window
    → IsClosedBack b.standing.window.circuit b.standing.window.frames (is_relevant b.relevant)
    → IsPlanFor t.plan b.standing.window → u.plan ≡ t.plan
    → ((f x : ℕ) → f < b.standing.window.frames → x < net_count b.standing.window.circuit → HoldsOrPends t b f x)
    → KeepsHeld b d → (QuietAgree t (item_agrees b) → QuietAgree u (item_agrees d))
    → ((y : ℕ) → y < core_items t → ¬ IsPending u y)
    → AreCells b.standing.window (is_relevant b.relevant) b.standing.path d.cells.values
all_followed t u b d valid closed planned plan all kept agree none =
    settled_cells b d valid closed kept inputs (settled_all t u w b d plan planned.circuit planned.frames quiet agree none) where
      w : SearchWindow
      w = b.standing.window

      inputs : (f i : ℕ) → f < b.standing.window.frames → i < b.standing.window.circuit.inputs
          → MayHold b f i
      inputs f i fs is = all f i fs (omega (arith, is)) (λ at pends. absurd (omega (arith, at, is)))

      quiet : QuietAgree t (item_agrees b)
      quiet y ys free =
          let c = b.standing.window.circuit in
          let known : y < item_count c b.standing.window.frames = subst (λ (n : ℕ). y < n)
          (λ i. item_count (planned.circuit i) (planned.frames i)) ys in
          let n = item_net c b.standing.window.frames y known in
          all (frame_of c y) (driven_net c (local_of c y)) n.frame n.net
          (λ at pends. free (subst (λ (k : ℕ). IsPending t k) n.is pends))
