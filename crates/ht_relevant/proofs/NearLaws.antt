-- Numbers of frames stand for marks.
use Rattle.std.proofs.Common.{◌≡◌, ◌∙◌, ◌<◌, ◌≤◌, ◌+◌, ◌⊎◌, ℕ, suc, List, Bool, true, false, Option, Some, length, get_or, refl, sym, ap, subst, inl, inr, arith}
use Rattle.std.proofs.lemmas.Bool.{lt-ltb, ltb-true}
use Rattle.std.specs.Prelude.{ltb}
use Rattle.ht_net.specs.declared.fault.Fault.{Fault}
use Rattle.ht_net.specs.Circuit.Netlist.{Netlist, first_gate_net, net_count, arg_at, no_net}
use Rattle.ht_net.specs.Frames.Faults.{is_data_pin}
use Rattle.ht_tree.specs.Window.Windows.{IsWindow, SearchWindow}
use Rattle.ht_relevant.specs.declared.way.Way.TheVariants.{Readers, Drivers}
use Rattle.ht_relevant.specs.Distances.{DistanceState, HasGrown, IsLower, number_of}
use Rattle.ht_relevant.specs.Near.{RelevantState, has_come, matters}
use Rattle.ht_relevant.specs.Reached.{IsReach, begins_at, leads_to, may_begin_apart}
use Rattle.ht_relevant.specs.Relevant.{IsClosedBack, IsRelevant, counts_state}
use Rattle.ht_relevant.specs.Steps.{AreSpread}
use Rattle.ht_relevant.proofs.RelevantLaws.{relevant_found}

-- the nets that are near enough, with all that their drivers read
pub near_closed : (c : Netlist) (frames : ℕ) (near : ℕ → ℕ) → AreSpread c Drivers frames near
    → IsClosedBack c frames (λ f x. ltb (f + near x) frames)
near_closed c frames near h = record {
  gates = λ f g i fs gs l m.
      let here = ltb-true (f + near (first_gate_net c + g)) frames m in
      let less = h.within (first_gate_net c + g) (arg_at c g i)
      (record { gate = g; pin = i; known = gs; is_pin = l; argument = refl; output = refl }) (omega (arith, here)) in
      lt-ltb (f + near (arg_at c g i)) frames (omega (arith, here, less));
  dffs = λ f j fs js m.
      let here = ltb-true (suc f + near (c.inputs + j)) frames m in
      let less = h.on (c.inputs + j) (get_or c.dffs j no_net).0
      (record { dff = j; known = js; argument = refl; output = refl }) (omega (arith, here)) in
      lt-ltb (f + near (get_or c.dffs j no_net).0) frames (omega (arith, here, less));
}

-- the nets to which a difference may have come
pub away_reach : (w : SearchWindow) (away : ℕ → ℕ) → AreSpread w.circuit Readers w.frames away
    → ((x : ℕ) → x < net_count w.circuit → begins_at w.circuit w.fault x ≡ true → away x ≤ 0)
    → ((j : ℕ) → j < length w.circuit.dffs → may_begin_apart w.start j ≡ true → away (w.circuit.inputs + j) ≤ 0)
    → IsReach w (has_come away)
away_reach w away h line latches = record {
  line = λ f x fs xs b. let zero = line x xs b in lt-ltb (away x) (suc f) (omega (arith, zero));
  latches = λ j js b.
      let zero = latches j js b in
      lt-ltb (away (w.circuit.inputs + j)) 1 (omega (arith, zero));
  gates = λ f g i fs gs l m.
      let here = ltb-true (away (arg_at w.circuit g i)) (suc f) m in
      let less = h.within (arg_at w.circuit g i) (first_gate_net w.circuit + g)
      (record { gate = g; pin = i; known = gs; is_pin = l; argument = refl; output = refl }) (omega (arith, here, fs)) in
      lt-ltb (away (first_gate_net w.circuit + g)) (suc f) (omega (arith, here, less));
  dffs = λ f j fs js m.
      let here = ltb-true (away (get_or w.circuit.dffs j no_net).0) (suc f) m in
      let less = h.on (get_or w.circuit.dffs j no_net).0 (w.circuit.inputs + j)
      (record { dff = j; known = js; argument = refl; output = refl }) (omega (arith, here, fs)) in
      lt-ltb (away (w.circuit.inputs + j)) (suc (suc f)) (omega (arith, here, less));
}

-- the nets that are near to the places in reach
pub near_relevant : (w : SearchWindow) (valid : IsWindow w) (fault : Fault) → w.fault ≡ Some fault → 0 < w.frames
    → (away : ℕ → ℕ) → IsReach w (has_come away) → (r : RelevantState) → r.frames ≡ w.frames
    → AreSpread w.circuit Drivers w.frames (λ x. get_or r.near x r.frames)
    → ((o : ℕ) → o < length w.circuit.outputs → away (get_or w.circuit.outputs o no_net).0 < w.frames
    → get_or r.near (get_or w.circuit.outputs o no_net).0 r.frames ≤ 0)
    → ((j : ℕ) → j < length w.circuit.dffs → counts_state w.start j ≡ true
    → (away (get_or w.circuit.dffs j no_net).0 < w.frames) ⊎ (is_data_pin fault.site j ≡ true)
    → get_or r.near (get_or w.circuit.dffs j no_net).0 r.frames ≤ 0)
    → IsRelevant w (matters r)
near_relevant w valid fault at some away reached r count spread outputs states =
    relevant_found w valid fault at some (has_come away) (matters r) reached
    (subst (λ (n : ℕ). IsClosedBack w.circuit w.frames (λ f x. ltb (f + get_or r.near x r.frames) n)) (sym count)
    (near_closed w.circuit w.frames (λ x. get_or r.near x r.frames) spread))
    (λ f o fs os m.
    let here = ltb-true (away (get_or w.circuit.outputs o no_net).0) (suc f) m in
    let zero = outputs o os (omega (arith, here, fs)) in
    lt-ltb (f + get_or r.near (get_or w.circuit.outputs o no_net).0 r.frames) r.frames
    (omega (arith, zero, fs, count)))
    (λ j js counts shows.
    let zero = states j js counts (elim shows [
      | inl m ↦
          let here = ltb-true (away (get_or w.circuit.dffs j no_net).0) 1 m in
          inl (omega (arith, here, some))
      | inr pin ↦ inr pin
    ]) in
    lt-ltb (0 + get_or r.near (get_or w.circuit.dffs j no_net).0 r.frames) r.frames
    (omega (arith, zero, some, count)))

-- ---- what is found

-- how many frames away nets are, where the line, then the latches are numbered, and what they lead to
pub away_found : (w : SearchWindow) (fault : Fault) (apart : List Bool) (m : Netlist) (a b d : DistanceState)
    → m ≡ w.circuit → w.fault ≡ Some fault → a.distance ≡ 0 → HasGrown a b → IsLower b d
    → ((x : ℕ) → x < net_count m → leads_to m fault.site x ≡ true → number_of a x ≤ a.distance)
    → ((j : ℕ) → j < length m.dffs → get_or apart j false ≡ true → number_of b (m.inputs + j) ≤ b.distance)
    → ((j : ℕ) → j < length w.circuit.dffs → may_begin_apart w.start j ≡ true → get_or apart j false ≡ true)
    → AreSpread w.circuit Readers w.frames (number_of d)
    → IsReach w (has_come (number_of d))
away_found w fault apart m a b d same at zero grown lower line latches begin spread =
    away_reach w (number_of d) spread
    (λ x xs is.
    let here = line x (subst (λ (k : Netlist). x < net_count k) (sym same) xs)
    (ap (λ (k : Netlist). leads_to k fault.site x) same
    ∙ (ap (λ (f : Option Fault). begins_at w.circuit f x) (sym at) ∙ is)) in
    let l = grown.lower.lower x in
    let k = lower.lower x in
    omega (arith, here, l, k, zero))
    (λ j js is.
    let here = subst (λ (k : Netlist). number_of b (k.inputs + j) ≤ b.distance) same
    (latches j (subst (λ (k : Netlist). j < length k.dffs) (sym same) js) (begin j js is)) in
    let k = lower.lower (w.circuit.inputs + j) in
    let e = grown.distance in
    omega (arith, here, k, zero, e))

-- how near nets are, where the outputs, then the states are numbered, and what they read
pub near_found : (w : SearchWindow) (valid : IsWindow w) (fault : Fault) (counted : List Bool) (m : Netlist)
    (away a b d : DistanceState) (frames : ℕ) (near : List ℕ)
    → m ≡ w.circuit → w.fault ≡ Some fault → 0 < w.frames → frames ≡ w.frames → d.frames ≡ frames → near ≡ d.numbers
    → away.frames ≡ w.frames → a.distance ≡ 0 → HasGrown a b → IsLower b d
    → IsReach w (has_come (number_of away))
    → ((o : ℕ) → o < length m.outputs → number_of away (get_or m.outputs o no_net).0 < away.frames
    → number_of a (get_or m.outputs o no_net).0 ≤ a.distance)
    → ((j : ℕ) → j < length m.dffs → get_or counted j false ≡ true
    → (number_of away (get_or m.dffs j no_net).0 < away.frames) ⊎ (is_data_pin fault.site j ≡ true)
    → number_of b (get_or m.dffs j no_net).0 ≤ b.distance)
    → ((j : ℕ) → j < length w.circuit.dffs → counts_state w.start j ≡ true → get_or counted j false ≡ true)
    → AreSpread w.circuit Drivers w.frames (number_of d)
    → IsRelevant w (matters (record { frames = frames; near = near }))
near_found w valid fault counted m away a b d frames near same at some count last numbers reach zero grown lower reached
    outputs states counts spread =
    near_relevant w valid fault at some (number_of away) reached (record { frames = frames; near = near }) count
    (subst (λ (l : List ℕ). AreSpread w.circuit Drivers w.frames (λ x. get_or l x frames)) (sym numbers)
    (subst (λ (n : ℕ). AreSpread w.circuit Drivers w.frames (λ x. get_or d.numbers x n)) last spread))
    (λ o os is.
    let x = (get_or w.circuit.outputs o no_net).0 in
    let here = subst (λ (k : Netlist). o < length k.outputs
    → number_of away (get_or k.outputs o no_net).0 < away.frames
    → number_of a (get_or k.outputs o no_net).0 ≤ a.distance) same (outputs o) os (omega (arith, is, reach)) in
    let l = grown.lower.lower x in
    let k = lower.lower x in
    let n = number_is x in
    omega (arith, here, l, k, zero, n))
    (λ j js here_counts is.
    let x = (get_or w.circuit.dffs j no_net).0 in
    let here = subst (λ (k : Netlist). j < length k.dffs → get_or counted j false ≡ true
    → (number_of away (get_or k.dffs j no_net).0 < away.frames) ⊎ (is_data_pin fault.site j ≡ true)
    → number_of b (get_or k.dffs j no_net).0 ≤ b.distance) same (states j) js (counts j js here_counts)
    (subst (λ (n : ℕ). (number_of away x < n) ⊎ (is_data_pin fault.site j ≡ true)) (sym reach) is) in
    let k = lower.lower x in
    let e = grown.distance in
    let n = number_is x in
    omega (arith, here, k, zero, e, n)) where
      number_is : (x : ℕ) → get_or near x frames ≡ number_of d x
      number_is x = ap (λ (l : List ℕ). get_or l x frames) numbers ∙ ap (λ (n : ℕ). get_or d.numbers x n) (sym last)
