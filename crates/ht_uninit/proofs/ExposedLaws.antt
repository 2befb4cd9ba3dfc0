-- Marking what leads out.
use Rattle.std.specs.Prelude.{eqb, ◌==◌, ◌↔◌}
use Rattle.std.proofs.Common.{◌≡◌, ◌⊎◌, ◌<◌, ◌≤◌, ◌+◌, ◌-◌, ℕ, suc, zero, List, [], ◌∷◌, ◌++◌, Bool, true, false, not, ◌||◌, cond, length, get_or, set, refl, sym, ◌∙◌, ap, inl, inr, arith, subst, get_or-set_other, get_or-set_same}
use Rattle.std.proofs.lemmas.Bool.{false_from_ne_true, false≢true, not_from_false, or_cases, or_left, or_right, true_from_ne_false}
use Rattle.std.proofs.lemmas.Bool.Decides.{eqb_tells, nat_tests}
use Rattle.std.proofs.lemmas.List.{length-set, length_push, set-get_or, get_or_past}
use Rattle.std.proofs.lemmas.List.Folds.{list_any-append}
use Rattle.std.proofs.lemmas.List.Sums.{sum_by-set}
use Rattle.ht_net.specs.declared.fault.Fault.{Fault}
use Rattle.ht_net.specs.declared.net.NetId.{NetId}
use Rattle.ht_net.specs.Circuit.Netlist.{Netlist, arg_at, first_gate_net, gate_at, net_count}
use Rattle.ht_net.proofs.FrameLaws.{le_or_lt}
use Rattle.ht_uninit.specs.declared.record.Out3.{Out3}
use Rattle.ht_uninit.specs.Rounds.{is_mute, mutes_of}
use Rattle.ht_faults.specs.Sites.{data_net}
use Rattle.ht_uninit.specs.Cones.{IsForwardClosed, IsHidden, cone_root, output_net}
use Rattle.ht_uninit.specs.Exposed.{AreExposed, IsFollowed, LeadsOut, if_unmarked, is_marked, waiting_after, waits, work_left}

-- ---- one more mark

mark_same : (marks : List Bool) (x : ℕ) → x < length marks → is_marked (set marks x true) x ≡ true
mark_same marks x l = get_or-set_same marks x true false l

mark_kept : (marks : List Bool) (x y : ℕ) → x < length marks → is_marked marks y ≡ true
    → is_marked (set marks x true) y ≡ true
mark_kept marks x y l is = elim (eqb_tells x y) [
  | inl e ↦ subst (λ (n : ℕ). is_marked (set marks x true) n ≡ true) e.1 (mark_same marks x l)
  | inr e ↦ get_or-set_other marks x y true false (λ same. e.1 (sym same)) ∙ is
]

mark_was : (marks : List Bool) (x y : ℕ) → x < length marks → is_marked (set marks x true) y ≡ true
    → (x ≡ y) ⊎ (is_marked marks y ≡ true)
mark_was marks x y l is = elim (eqb_tells x y) [
  | inl e ↦ inl e.1
  | inr e ↦ inr (sym (get_or-set_other marks x y true false (λ same. e.1 (sym same))) ∙ is)
]

waits_push : (todo : List NetId) (n : NetId) (y : ℕ) → waits (todo ++ n ∷ []) y ≡ (waits todo y || (eqb n.0 y || false))
waits_push todo n y = list_any-append (λ (n : NetId). n.0 == y) todo (n ∷ [])

same_number : (n : ℕ) → eqb n n ≡ true
same_number n = grind (arith, nat_tests)

waits_kept : (todo : List NetId) (n : NetId) (y : ℕ) → waits todo y ≡ true → waits (todo ++ n ∷ []) y ≡ true
waits_kept todo n y h = waits_push todo n y ∙ or_left (waits todo y) (eqb n.0 y || false) h

waits_new : (todo : List NetId) (n : NetId) → waits (todo ++ n ∷ []) n.0 ≡ true
waits_new todo n =
    waits_push todo n n.0 ∙ or_right (waits todo n.0) (eqb n.0 n.0 || false)
    (or_left (eqb n.0 n.0) false (same_number n.0))

waits_was : (todo : List NetId) (n : NetId) (y : ℕ) → waits (todo ++ n ∷ []) y ≡ true
    → (waits todo y ≡ true) ⊎ (n.0 ≡ y)
waits_was todo n y h = elim (or_cases (waits todo y) (eqb n.0 y || false) (sym (waits_push todo n y) ∙ h)) [
  | inl e ↦ inl e
  | inr e ↦ elim (or_cases (eqb n.0 y) false e) [
    | inl d ↦ inr (let same : n.0 ≡ y = grind (arith, nat_tests) in same)
    | inr d ↦ absurd (false≢true d)
  ]
]

module _ (c : Netlist) (mute : ℕ → Bool) (outputs : ℕ) (marks : List Bool) (todo : List NetId) (busy pin : ℕ)
    (h : AreExposed c mute outputs marks todo busy pin) where
  -- a marked net is there
  pub marked_known : (x : ℕ) → is_marked marks x ≡ true → x < net_count c
  marked_known x is = elim (le_or_lt (net_count c) x) [
    | inl beyond ↦
        let long = h.long in
        absurd (false≢true (sym (get_or_past marks x false (omega (arith, long, beyond))) ∙ is))
    | inr l ↦ l
  ]

  new_mark : (n : NetId) → n.0 < length marks → LeadsOut c mute n.0
      → AreExposed c mute outputs (set marks n.0 true) (todo ++ n ∷ []) busy pin
  new_mark n l out =
      let marks' = set marks n.0 true in
      let todo' = todo ++ n ∷ [] in
      let on : (a y i : ℕ) → IsFollowed marks todo busy pin a y i → IsFollowed marks' todo' busy pin a y i = follow in
      record {
        long = length-set marks n.0 true ∙ h.long;
        leads = λ x is. elim (mark_was marks n.0 x l is) [
          | inl e ↦ subst (LeadsOut c mute) e out
          | inr was ↦ h.leads x was
        ];
        waiting = λ y w. elim (waits_was todo n y w) [
          | inl was ↦ mark_kept marks n.0 y l (h.waiting y was)
          | inr e ↦ subst (λ (k : ℕ). is_marked marks' k ≡ true) e (mark_same marks n.0 l)
        ];
        working = λ k. mark_kept marks n.0 busy l (h.working k);
        heard = λ o k m. mark_kept marks n.0 (output_net c o) l (h.heard o k m);
        gates = λ g i k m is. elim (mark_was marks n.0 (first_gate_net c + g) l is) [
          | inl e ↦ inr (inl (subst (λ (k : ℕ). waits todo' k ≡ true) e (waits_new todo n)))
          | inr was ↦ on (arg_at c g i) (first_gate_net c + g) i (h.gates g i k m was)
        ];
        dffs = λ j k is. elim (mark_was marks n.0 (c.inputs + j) l is) [
          | inl e ↦ inr (inl (subst (λ (k : ℕ). waits todo' k ≡ true) e (waits_new todo n)))
          | inr was ↦ on (data_net c j) (c.inputs + j) 0 (h.dffs j k was)
        ];
      }
    where
      follow : (a y i : ℕ) → IsFollowed marks todo busy pin a y i
          → IsFollowed (set marks n.0 true) (todo ++ n ∷ []) busy pin a y i
      follow a y i (inl m) = inl (mark_kept marks n.0 a l m)
      follow a y i (inr (inl w)) = inr (inl (waits_kept todo n y w))
      follow a y i (inr (inr b)) = inr (inr b)

  old_mark : (n : NetId) → is_marked marks n.0 ≡ true → AreExposed c mute outputs (set marks n.0 true) todo busy pin
  old_mark n is =
      subst (λ (ms : List Bool). AreExposed c mute outputs ms todo busy pin)
      (sym (set-get_or marks n.0 false) ∙ ap (set marks n.0) is) h

  -- one net more is marked, and waits if it wasn't marked before
  pub mark_more : (n : NetId) → n.0 < length marks → LeadsOut c mute n.0
      → AreExposed c mute outputs (set marks n.0 true) (waiting_after marks todo n) busy pin
  mark_more n l out = by (is_marked marks n.0) refl
    where
      by : (b : Bool) → is_marked marks n.0 ≡ b
          → AreExposed c mute outputs (set marks n.0 true) (cond b todo (todo ++ n ∷ [])) busy pin
      by true e = old_mark n e
      by false e = new_mark n l out

-- a net that is marked, and waits if it wasn't marked before, leaves as much to do
pub work_more : (marks : List Bool) (todo : List NetId) (n : NetId) → n.0 < length marks
    → work_left (set marks n.0 true) (waiting_after marks todo n) ≡ work_left marks todo
work_more marks todo n l = by (is_marked marks n.0) refl
  where
    by : (b : Bool) → is_marked marks n.0 ≡ b
        → work_left (set marks n.0 true) (cond b todo (todo ++ n ∷ [])) ≡ work_left marks todo
    by true e =
        ap (λ (ms : List Bool). work_left ms todo) (sym (ap (set marks n.0) e) ∙ set-get_or marks n.0 false)
    by false e =
        let sums = sum_by-set if_unmarked marks n.0 true false l in
        let one : if_unmarked (is_marked marks n.0) ≡ 1 = ap if_unmarked e in
        let more = length_push todo n in
        omega (arith, sums, one, more)

-- ---- what the driver of a net reads

module _ (c : Netlist) (mute : ℕ → Bool) where
  -- the arguments of a gate lead out if its net does
  pub leads_argument : (g i : ℕ) → g < length c.gates → i < length (gate_at c g).args
      → LeadsOut c mute (first_gate_net c + g) → LeadsOut c mute (arg_at c g i)
  leads_argument g i l m out = record {
    output = out.output;
    known = out.known;
    heard = out.heard;
    cone = λ s closed is. out.cone s closed (closed.gates g i l m is);
  }

  -- the net at a flip-flop's data pin leads out if the flip-flop's net does
  pub leads_data : (j : ℕ) → j < length c.dffs → LeadsOut c mute (c.inputs + j) → LeadsOut c mute (data_net c j)
  leads_data j l out = record {
    output = out.output;
    known = out.known;
    heard = out.heard;
    cone = λ s closed is. out.cone s closed (closed.dffs j l is);
  }

  -- an output that isn't mute leads out
  pub leads_output : (o : ℕ) → o < length c.outputs → mute o ≡ false → LeadsOut c mute (output_net c o)
  leads_output o l heard = record { output = o; known = l; heard = heard; cone = λ s closed is. is }

-- no net is busy
abbrev pub nothing : Netlist → ℕ
nothing c = net_count c

module _ (c : Netlist) (mute : ℕ → Bool) (outputs : ℕ) (marks : List Bool) (todo : List NetId) where
  -- the last net that waits is taken
  pub take_up : (n : NetId) → AreExposed c mute outputs marks (todo ++ n ∷ []) (nothing c) 0
      → AreExposed c mute outputs marks todo n.0 0
  take_up n h = record {
    long = h.long;
    leads = h.leads;
    waiting = λ y w. h.waiting y (waits_kept todo n y w);
    working = λ l. h.waiting n.0 (waits_new todo n);
    heard = h.heard;
    gates = λ g i l m is. off (arg_at c g i) (first_gate_net c + g) i (omega (arith, l)) (h.gates g i l m is);
    dffs = λ j l is. off (data_net c j) (c.inputs + j) 0 (omega (arith, l)) (h.dffs j l is);
  }
    where
      off : (a y i : ℕ) → y < net_count c → IsFollowed marks (todo ++ n ∷ []) (nothing c) 0 a y i
          → IsFollowed marks todo n.0 0 a y i
      off a y i l (inl m) = inl m
      off a y i l (inr (inl w)) = elim (waits_was todo n y w) [
        | inl was ↦ inr (inl was)
        | inr e ↦ inr (inr (sym e, omega arith))
      ]
      off a y i l (inr (inr b)) = let e = b.0 in absurd (omega (arith, e, l))

  -- one pin of the busy gate is done
  pub pin_done : (g pin : ℕ) → g < length c.gates → is_marked marks (arg_at c g pin) ≡ true
      → AreExposed c mute outputs marks todo (first_gate_net c + g) pin
      → AreExposed c mute outputs marks todo (first_gate_net c + g) (pin + 1)
  pin_done g pin l read h = record {
    long = h.long;
    leads = h.leads;
    waiting = h.waiting;
    working = h.working;
    heard = h.heard;
    gates = λ k i m n is. gate_on k i (h.gates k i m n is);
    dffs = λ j m is. latch_on j m (h.dffs j m is);
  }
    where
      gate_on : (k i : ℕ) → IsFollowed marks todo (first_gate_net c + g) pin (arg_at c k i) (first_gate_net c + k) i
          → IsFollowed marks todo (first_gate_net c + g) (pin + 1) (arg_at c k i) (first_gate_net c + k) i
      gate_on k i (inl m) = inl m
      gate_on k i (inr (inl w)) = inr (inl w)
      gate_on k i (inr (inr b)) = elim (eqb_tells pin i) [
        | inl e ↦
            let at = b.0 in
            let same : g ≡ k = omega (arith, at) in
            inl ((λ j. is_marked marks (arg_at c (sym same j) (sym e.1 j))) ∙ read)
        | inr e ↦ let other = e.1 in let few = b.1 in inr (inr (b.0, omega (arith, other, few)))
      ]

      latch_on : (j : ℕ) → j < length c.dffs
          → IsFollowed marks todo (first_gate_net c + g) pin (data_net c j) (c.inputs + j) 0
          → IsFollowed marks todo (first_gate_net c + g) (pin + 1) (data_net c j) (c.inputs + j) 0
      latch_on j m (inl k) = inl k
      latch_on j m (inr (inl w)) = inr (inl w)
      latch_on j m (inr (inr b)) = let at = b.0 in absurd (omega (arith, at, m))

  -- a net is no longer busy where all that its driver reads is marked
  let_go : (busy pin : ℕ)
      → ((g i : ℕ) → g < length c.gates → i < length (gate_at c g).args → first_gate_net c + g ≡ busy → pin ≤ i
      → is_marked marks (arg_at c g i) ≡ true)
      → ((j : ℕ) → j < length c.dffs → c.inputs + j ≡ busy → is_marked marks (data_net c j) ≡ true)
      → AreExposed c mute outputs marks todo busy pin → AreExposed c mute outputs marks todo (nothing c) 0
  let_go busy pin gate latch h = record {
    long = h.long;
    leads = h.leads;
    waiting = h.waiting;
    working = λ l. absurd (omega (arith, l));
    heard = h.heard;
    gates = λ g i l m is. off (arg_at c g i) (first_gate_net c + g) i (λ e few. gate g i l m e few) (h.gates g i l m is);
    dffs = λ j l is. off (data_net c j) (c.inputs + j) 0 (λ e few. latch j l e) (h.dffs j l is);
  }
    where
      off : (a y i : ℕ) → (y ≡ busy → pin ≤ i → is_marked marks a ≡ true) → IsFollowed marks todo busy pin a y i
          → IsFollowed marks todo (nothing c) 0 a y i
      off a y i done (inl m) = inl m
      off a y i done (inr (inl w)) = inr (inl w)
      off a y i done (inr (inr b)) = inl (done b.0 b.1)

  -- a gate whose pins are all done is no longer busy
  pub gate_done : (g pin : ℕ) → pin ≡ length (gate_at c g).args
      → AreExposed c mute outputs marks todo (first_gate_net c + g) pin
      → AreExposed c mute outputs marks todo (nothing c) 0
  gate_done g pin all =
      let_go (first_gate_net c + g) pin
      (λ k i l m e few.
      let same : k ≡ g = omega (arith, e) in
      let long : length (gate_at c k).args ≡ length (gate_at c g).args = ap (λ (n : ℕ). length (gate_at c n).args) same in
      absurd (omega (arith, m, few, all, long)))
      (λ j l e. absurd (omega (arith, e, l)))

  -- a flip-flop is no longer busy after the net at its data pin is marked
  pub latch_done : (j : ℕ) → j < length c.dffs → is_marked marks (data_net c j) ≡ true
      → AreExposed c mute outputs marks todo (c.inputs + j) 0 → AreExposed c mute outputs marks todo (nothing c) 0
  latch_done j l read =
      let_go (c.inputs + j) 0 (λ k i m n e few. absurd (omega (arith, e, l)))
      (λ k m e. let same : j ≡ k = omega (arith, e) in subst (λ (n : ℕ). is_marked marks (data_net c n) ≡ true) same read)

  -- an input that was taken up is no longer busy
  pub input_done : (x : ℕ) → x < c.inputs → AreExposed c mute outputs marks todo x 0
      → AreExposed c mute outputs marks todo (nothing c) 0
  input_done x l =
      let_go x 0 (λ k i m n e few. absurd (omega (arith, e, l))) (λ k m e. absurd (omega (arith, e, l)))

  -- one output more
  pub output_done : (mute outputs ≡ true) ⊎ (is_marked marks (output_net c outputs) ≡ true)
      → AreExposed c mute outputs marks todo (nothing c) 0 → AreExposed c mute (outputs + 1) marks todo (nothing c) 0
  output_done done h = record {
    long = h.long;
    leads = h.leads;
    waiting = h.waiting;
    working = h.working;
    heard = λ o l m. elim (eqb_tells o outputs) [
      | inl e ↦ either o e.1 m done
      | inr e ↦ let other = e.1 in h.heard o (omega (arith, l, other)) m
    ];
    gates = h.gates;
    dffs = h.dffs;
  }
    where
      either : (o : ℕ) → o ≡ outputs → mute o ≡ false
          → (mute outputs ≡ true) ⊎ (is_marked marks (output_net c outputs) ≡ true)
          → is_marked marks (output_net c o) ≡ true
      either o e m (inl k) = absurd (false≢true (sym m ∙ (ap mute e ∙ k)))
      either o e m (inr k) = ap (λ (n : ℕ). is_marked marks (output_net c n)) e ∙ k

-- ---- all are marked

module _ (c : Netlist) (mute : ℕ → Bool) (marks : List Bool)
    (h : AreExposed c mute (length c.outputs) marks [] (nothing c) 0) where
  -- what is marked, backwards
  read_marked : (a y i : ℕ) → y < net_count c → IsFollowed marks [] (nothing c) 0 a y i → is_marked marks a ≡ true
  read_marked a y i l (inl m) = m
  read_marked a y i l (inr (inl w)) = absurd (false≢true w)
  read_marked a y i l (inr (inr b)) = let e = b.0 in absurd (omega (arith, e, l))

  not_marked : (b : Bool) → not b ≡ true → b ≡ false
  not_marked true k = cc
  not_marked false k = refl

  quiet_closed : IsForwardClosed c (λ x. not (is_marked marks x))
  quiet_closed = record {
    gates = λ g i l m quiet. not_from_false _ (false_from_ne_true _ (λ is. false≢true
        (sym (not_marked _ quiet)
        ∙ read_marked (arg_at c g i) (first_gate_net c + g) i (omega (arith, l)) (h.gates g i l m is))));
    dffs = λ j l quiet. not_from_false _ (false_from_ne_true _ (λ is. false≢true
        (sym (not_marked _ quiet)
        ∙ read_marked (data_net c j) (c.inputs + j) 0 (omega (arith, l)) (h.dffs j l is))));
  }

  -- a fault is hidden exactly where the root of its cone isn't marked
  pub hidden_tells : (fault : Fault) → (is_marked marks (cone_root c fault.site) ≡ false) ↔ IsHidden c mute fault
  hidden_tells fault = (
    λ quiet o l cone. true_from_ne_false (mute o) (λ heard. false≢true
        (sym (not_marked _ (cone (λ x. not (is_marked marks x)) quiet_closed (not_from_false _ quiet)))
        ∙ h.heard o l heard)),
    λ hidden. false_from_ne_true (is_marked marks (cone_root c fault.site)) (λ is.
        let out = h.leads (cone_root c fault.site) is in
        false≢true (sym out.heard ∙ hidden out.output out.known out.cone)),
  )

-- ---- the steps of the code

module _ (c : Netlist) (mute : ℕ → Bool) (outputs : ℕ) (marks marks' : List Bool) (todo todo' : List NetId)
    (n : NetId) (is : marks' ≡ set marks n.0 true) (on : todo' ≡ waiting_after marks todo n)
    (inside : n.0 < length marks) where
  marked_new : is_marked marks' n.0 ≡ true
  marked_new = ap (λ (ms : List Bool). is_marked ms n.0) is ∙ mark_same marks n.0 inside

  more : (busy pin : ℕ) → AreExposed c mute outputs marks todo busy pin → LeadsOut c mute n.0
      → AreExposed c mute outputs marks' todo' busy pin
  more busy pin h out =
      subst (λ (ms : List Bool). AreExposed c mute outputs ms todo' busy pin) (sym is)
      (subst (λ (t : List NetId). AreExposed c mute outputs (set marks n.0 true) t busy pin) (sym on)
      (mark_more c mute outputs marks todo busy pin h n inside out))

  -- after the net at the next pin of the busy gate is marked, that pin is done
  pub argument_step : (g i : ℕ) → g < length c.gates → i < length (gate_at c g).args → n.0 ≡ arg_at c g i
      → AreExposed c mute outputs marks todo (first_gate_net c + g) i
      → AreExposed c mute outputs marks' todo' (first_gate_net c + g) (i + 1)
  argument_step g i l m at h =
      let out = h.leads (first_gate_net c + g) (h.working (omega (arith, l))) in
      pin_done c mute outputs marks' todo' g i l (sym (ap (is_marked marks') at) ∙ marked_new)
      (more (first_gate_net c + g) i h (subst (LeadsOut c mute) (sym at) (leads_argument c mute g i l m out)))

  -- after the net at the data pin of the busy flip-flop is marked, no net is busy
  pub latch_step : (x : ℕ) → c.inputs ≤ x → x < first_gate_net c → n.0 ≡ data_net c (x - c.inputs)
      → AreExposed c mute outputs marks todo x 0 → AreExposed c mute outputs marks' todo' (nothing c) 0
  latch_step x low high at h =
      let j = x - c.inputs in
      let l : j < length c.dffs = omega (arith, low, high) in
      let e : x ≡ c.inputs + j = omega (arith, low) in
      let here = subst (λ (y : ℕ). AreExposed c mute outputs marks todo y 0) e h in
      let out = here.leads (c.inputs + j) (here.working (omega (arith, l))) in
      latch_done c mute outputs marks' todo' j l (sym (ap (is_marked marks') at) ∙ marked_new)
      (more (c.inputs + j) 0 here (subst (LeadsOut c mute) (sym at) (leads_data c mute j l out)))

  -- after the net at the next output, which isn't mute, is marked, one output more is done
  pub output_step : outputs < length c.outputs → mute outputs ≡ false → n.0 ≡ output_net c outputs
      → AreExposed c mute outputs marks todo (nothing c) 0
      → AreExposed c mute (outputs + 1) marks' todo' (nothing c) 0
  output_step l heard at h =
      output_done c mute outputs marks' todo' (inr (sym (ap (is_marked marks') at) ∙ marked_new))
      (more (nothing c) 0 h (subst (LeadsOut c mute) (sym at) (leads_output c mute outputs l heard)))

-- a step that marks a net, and lets it wait if it wasn't marked before, leaves as much to do
pub work_step : (marks marks' : List Bool) (todo todo' : List NetId) (n : NetId) → marks' ≡ set marks n.0 true
    → todo' ≡ waiting_after marks todo n → n.0 < length marks → work_left marks' todo' ≡ work_left marks todo
work_step marks marks' todo todo' n is on inside = (λ k. work_left (is k) (on k)) ∙ work_more marks todo n inside

-- the last net that waits is one of the circuit
pub pop_known : (c : Netlist) (mute : ℕ → Bool) (outputs : ℕ) (marks : List Bool) (todo : List NetId) (n : NetId)
    → AreExposed c mute outputs marks (todo ++ n ∷ []) (nothing c) 0 → n.0 < net_count c
pop_known c mute outputs marks todo n h =
    marked_known c mute outputs marks (todo ++ n ∷ []) (nothing c) 0 h n.0 (h.waiting n.0 (waits_new todo n))

-- what an output came to
pub mute_at : (outs : List Out3) (o : ℕ) (out : Out3) → o < length outs → out ≡ get_or outs o out
    → mutes_of outs o ≡ is_mute out
mute_at [] o out l is = absurd (omega arith)
mute_at (x ∷ outs) zero out l is = ap is_mute (sym is)
mute_at (x ∷ outs) (suc o) out l is = mute_at outs o out (omega arith) is
