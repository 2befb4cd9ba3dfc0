-- The variables of the formula are below a number.
use Rattle.std.proofs.Common.{◌<◌, ◌≤◌, ◌+◌, ◌*◌, ℕ, suc, List, [], ◌∷◌, ◌++◌, map, Bool, true, false, not, length, get_or, arith}
use Rattle.std.specs.Prelude.{nat_le, ◌&&◌}
use Rattle.std.specs.List.{All, filter, flat_map, list_any}
use Rattle.std.proofs.lemmas.Bool.{cond_both}
use Rattle.std.proofs.lemmas.List.Elements.{All-nil, All-cons, All-append, All-map, All-filter}
use Rattle.ht_tern.specs.declared.gate.Kind.{Kind}
use Rattle.ht_tern.specs.declared.gate.Kind.TheVariants.{And, Nand, Or, Nor, Xor, Xnor, Not, Buf}
use Rattle.ht_tern.specs.Gate.{inverts, bool_xor}
use Rattle.ht_net.specs.declared.net.NetId.{NetId}
use Rattle.ht_net.specs.declared.fault.Fault.{Fault}
use Rattle.ht_net.specs.declared.fault.Site.{Site}
use Rattle.ht_net.specs.Circuit.Netlist.{Netlist, IsCircuit, first_gate_net, net_count, gate_at, no_net}
use Rattle.ht_net.specs.Frames.Frame.{pin_values}
use Rattle.ht_net.specs.Frames.Faults.{forced, is_stem, is_pin, is_data_pin}
use Rattle.ht_cubes.specs.declared.rail.Rail.{Rail}
use Rattle.ht_cubes.specs.declared.signed_var.SignedVar.{SignedVar}
use Rattle.ht_cubes.specs.declared.signal.Signal.{Signal}
use Rattle.ht_cubes.specs.Rails.{stuck_line, IsKnownRail}
use Rattle.ht_cubes.specs.Formula.{complement, rail_variable, rail_of, stuck_signal, turned, driver_signal, signal_rules, net_signal, pin_signals, latch_signal, next_signal, needs, positive, either_clauses, single_clauses, controlled_clauses, choices, parity_of, excluded, max_parity_pins, exclusions, parity_clauses, kind_clauses, uninverted, gate_clauses, machine_clauses, frame_clauses, cube_clause, next_target, differs_target, output_targets, is_constant, may_come, all_targets, targets_of, target_clauses, some_target, without_constants, first_target, clauses_of, formula_of, last_variable}
use Rattle.ht_cubes.specs.Values.{IsBelow}
use Rattle.ht_cubes.proofs.FrameLaws.{frame_all}

module _ (n : ℕ) where
  -- the variables of a signal are below n
  abbrev Under : Signal → Type 0
  Under s = (s.zero.variable < n) × (s.one.variable < n)

  abbrev EachUnder : List Signal → Type 0
  EachUnder [] = Unit {0}
  EachUnder (p ∷ pins) = Under p × EachUnder pins

  none_below : IsBelow n []
  none_below = All-nil (λ (m : SignedVar). m.variable < n)

  one_below : (l : SignedVar) (rest : List SignedVar) → l.variable < n → IsBelow n rest → IsBelow n (l ∷ rest)
  one_below l rest h k = All-cons (λ (m : SignedVar). m.variable < n) l rest h k

  rail_under : (s : Signal) (bit : Bool) → Under s → (rail_of s bit).variable < n
  rail_under s true h = h.1
  rail_under s false h = h.0

  one_clause : (clause : List SignedVar) → IsBelow n clause → All (IsBelow n) (clause ∷ [])
  one_clause clause h = All-cons (IsBelow n) clause [] h (All-nil (IsBelow n))

  either_under : (s : Signal) → Under s → All (IsBelow n) (either_clauses s)
  either_under s h = one_clause _ (one_below (complement s.zero) (complement s.one ∷ []) h.0
      (one_below (complement s.one) [] h.1 none_below))

  single_under : (out p : Signal) → Under out → Under p → All (IsBelow n) (single_clauses out p)
  single_under out p o h = All-cons (IsBelow n) (needs out.zero (p.zero ∷ [])) (needs out.one (p.one ∷ []) ∷ [])
      (one_below (complement out.zero) (p.zero ∷ []) o.0 (one_below p.zero [] h.0 none_below))
      (one_clause (needs out.one (p.one ∷ []))
      (one_below (complement out.one) (p.one ∷ []) o.1 (one_below p.one [] h.1 none_below)))

  all_under : (l : SignedVar) (bit : Bool) (pins : List Signal) → l.variable < n → EachUnder pins
      → All (IsBelow n) (map (λ (p : Signal). needs l (rail_of p bit ∷ [])) pins)
  all_under l bit [] k h = All-nil (IsBelow n)
  all_under l bit (p ∷ pins) k h =
      All-cons (IsBelow n) (needs l (rail_of p bit ∷ [])) (map (λ (q : Signal). needs l (rail_of q bit ∷ [])) pins)
      (one_below (complement l) (rail_of p bit ∷ []) k (one_below (rail_of p bit) [] (rail_under p bit h.0) none_below))
      (all_under l bit pins k h.1)

  rails_under : (bit : Bool) (pins : List Signal) → EachUnder pins → IsBelow n (map (λ (p : Signal). rail_of p bit) pins)
  rails_under bit [] h = none_below
  rails_under bit (p ∷ pins) h = one_below (rail_of p bit) (map (λ (q : Signal). rail_of q bit) pins)
      (rail_under p bit h.0) (rails_under bit pins h.1)

  controlled_under : (bit : Bool) (out : Signal) (pins : List Signal) → Under out → EachUnder pins
      → All (IsBelow n) (controlled_clauses bit out pins)
  controlled_under bit out pins o h =
      All-append (IsBelow n) (map (λ (p : Signal). needs (rail_of out (not bit)) (rail_of p (not bit) ∷ [])) pins)
      (needs (rail_of out bit) (map (λ (p : Signal). rail_of p bit) pins) ∷ [])
      (all_under (rail_of out (not bit)) (not bit) pins (rail_under out (not bit) o) h)
      (one_clause (needs (rail_of out bit) (map (λ (p : Signal). rail_of p bit) pins))
      (one_below (complement (rail_of out bit)) (map (λ (p : Signal). rail_of p bit) pins) (rail_under out bit o)
      (rails_under bit pins h)))

  definite_under : (l : SignedVar) (pins : List Signal) → l.variable < n → EachUnder pins
      → All (IsBelow n) (map (λ (p : Signal). needs l (p.zero ∷ p.one ∷ [])) pins)
  definite_under l [] k h = All-nil (IsBelow n)
  definite_under l (p ∷ pins) k h =
      All-cons (IsBelow n) (needs l (p.zero ∷ p.one ∷ [])) (map (λ (q : Signal). needs l (q.zero ∷ q.one ∷ [])) pins)
      (one_below (complement l) (p.zero ∷ p.one ∷ []) k
      (one_below p.zero (p.one ∷ []) h.0.0 (one_below p.one [] h.0.1 none_below)))
      (definite_under l pins k h.1)

  excluded_under : (pins : List Signal) (bits : List Bool) → EachUnder pins → IsBelow n (excluded pins bits)
  excluded_under [] bits h = none_below
  excluded_under (p ∷ pins) [] h = none_below
  excluded_under (p ∷ pins) (b ∷ bits) h = one_below (complement (rail_of p b)) (excluded pins bits)
      (rail_under p b h.0) (excluded_under pins bits h.1)

  parity_under : (bit : Bool) (out : Signal) (pins : List Signal) → Under out → EachUnder pins
      → All (IsBelow n) (parity_clauses bit out pins)
  parity_under bit out pins o h =
      All-append (IsBelow n) (map (λ (p : Signal). needs (rail_of out bit) (p.zero ∷ p.one ∷ [])) pins) _
      (definite_under (rail_of out bit) pins (rail_under out bit o) h)
      (cond_both (nat_le (length pins) max_parity_pins) (exclusions bit out pins) [] (All (IsBelow n))
      (λ few. All-map (IsBelow n) (λ bits. needs (rail_of out bit) (excluded pins bits))
      (filter (λ bits. bool_xor bit (parity_of bits)) (choices (length pins)))
      (λ k d inside. one_below (complement (rail_of out bit)) _ (rail_under out bit o)
      (excluded_under pins _ h)))
      (λ many. All-nil (IsBelow n)))

  both_parities : (out : Signal) (pins : List Signal) → Under out → EachUnder pins
      → All (IsBelow n) (parity_clauses false out pins ++ parity_clauses true out pins)
  both_parities out pins o h = All-append (IsBelow n) (parity_clauses false out pins) (parity_clauses true out pins)
      (parity_under false out pins o h) (parity_under true out pins o h)

  kind_under : (kind : Kind) (out : Signal) (pins : List Signal) → Under out → EachUnder pins
      → All (IsBelow n) (kind_clauses kind out pins)
  kind_under And out pins o h = controlled_under false out pins o h
  kind_under Nand out pins o h = controlled_under false out pins o h
  kind_under Or out pins o h = controlled_under true out pins o h
  kind_under Nor out pins o h = controlled_under true out pins o h
  kind_under Xor out pins o h = both_parities out pins o h
  kind_under Xnor out pins o h = both_parities out pins o h
  kind_under Not out pins o h = All-nil (IsBelow n)
  kind_under Buf out pins o h = All-nil (IsBelow n)

  uninverted_under : (kind : Kind) (out : Signal) → Under out → Under (uninverted kind out)
  uninverted_under kind out o = cond_both (inverts kind) (turned out) out Under (λ yes. (o.1, o.0)) (λ wrong. o)

  gate_under : (kind : Kind) (out : Signal) (pins : List Signal) → Under out → EachUnder pins
      → All (IsBelow n) (gate_clauses kind out pins)
  gate_under kind out [] o h = All-nil (IsBelow n)
  gate_under kind out (p ∷ []) o h = single_under (uninverted kind out) p (uninverted_under kind out o) h.0
  gate_under kind out (p ∷ q ∷ pins) o h =
      kind_under kind (uninverted kind out) (p ∷ q ∷ pins) (uninverted_under kind out o) h

  module _ (some : 0 < n) (fault : Fault) where
    line_under : (faulty : Bool) (here : Site → Bool) (s : Signal) → Under s
        → Under (forced (λ bit v. stuck_signal bit) (stuck_line fault faulty) here s)
    unfolding forced
    line_under false here s h = h
    line_under true here s h =
        cond_both (here fault.site) (stuck_signal fault.value) s Under (λ yes. (some, some)) (λ wrong. h)

    pins_under : (faulty : Bool) (g : ℕ) (e : ℕ → Signal) (i : ℕ) (args : List NetId)
        → ((j : ℕ) → j < length args → Under (e (get_or args j no_net).0))
        → EachUnder (pin_values (signal_rules fault faulty) g e i args)
    pins_under faulty g e i [] h = tt
    pins_under faulty g e i (a ∷ args) h = (
      line_under faulty (λ site. is_pin site g i) (e a.0) (h 0 (omega arith)),
      pins_under faulty g e (i + 1) args (λ j l. h (suc j) (omega arith)),
    )

-- the rails of a net
rail_low : (nets : ℕ) (faulty : Bool) (x : ℕ) (bit : Bool) → x < nets → rail_variable nets faulty x bit < 4 * nets + 1
rail_low nets true x true h = omega arith
rail_low nets true x false h = omega arith
rail_low nets false x true h = omega arith
rail_low nets false x false h = omega arith

module _ (c : Netlist) (circuit : IsCircuit c) (fault : Fault) (cone : ℕ → Bool) (n : ℕ) (room : first_target c ≤ n) where
  some_room : 0 < n
  some_room = omega arith

  driver_under : (faulty : Bool) (x : ℕ) → x < net_count c → Under n (driver_signal c cone faulty x)
  driver_under faulty x h =
      let zero_low = rail_low (net_count c) (faulty && cone x) x false h in
      let one_low = rail_low (net_count c) (faulty && cone x) x true h in
      (omega (arith, zero_low), omega (arith, one_low))

  net_under : (faulty : Bool) (x : ℕ) → x < net_count c → Under n (net_signal c fault cone faulty x)
  net_under faulty x h =
      line_under n some_room fault faulty (λ site. is_stem site x) (driver_signal c cone faulty x) (driver_under faulty x h)

  next_under : (faulty : Bool) (j : ℕ) → j < length c.dffs → Under n (next_signal c fault cone faulty j)
  next_under faulty j h = line_under n some_room fault faulty (λ site. is_data_pin site j)
      (net_signal c fault cone faulty (get_or c.dffs j no_net).0) (net_under faulty _ (circuit.data_known j h))

  machine_under : (faulty : Bool) (g : ℕ) → g < length c.gates → All (IsBelow n) (machine_clauses c fault cone faulty g)
  machine_under faulty g h = gate_under n (gate_at c g).kind (driver_signal c cone faulty (first_gate_net c + g))
      (pin_signals c fault cone faulty g) (driver_under faulty (first_gate_net c + g) (omega arith))
      (pins_under n some_room fault faulty g (net_signal c fault cone faulty) 0 (gate_at c g).args
      (λ j l. net_under faulty _ (circuit.known g j h l)))

  frame_below : All (IsBelow n) (frame_clauses c fault cone)
  frame_below = frame_all c fault cone (IsBelow n)
      (λ faulty x h. either_under n (driver_signal c cone faulty x) (driver_under faulty x h)) machine_under

  cube_below : (cube : List Rail) → All (IsKnownRail c cone) cube → IsBelow n (cube_clause c cone cube)
  cube_below cube known = All-map (λ (m : SignedVar). m.variable < n)
      (λ (r : Rail). complement (rail_of (latch_signal c cone r.faulty r.dff) r.value)) cube
      (λ k d inside. let r = get_or cube k d in
      let low : r.dff < length c.dffs = (known k d inside).0 in
      rail_under n (latch_signal c cone r.faulty r.dff) r.value
      (driver_under r.faulty (c.inputs + r.dff) (omega arith)))

  next_below : (cube : List Rail) → All (IsKnownRail c cone) cube → IsBelow n (next_target c fault cone cube)
  next_below cube known = All-map (λ (m : SignedVar). m.variable < n)
      (λ (r : Rail). rail_of (next_signal c fault cone r.faulty r.dff) r.value) cube
      (λ k d inside. let r = get_or cube k d in
      rail_under n (next_signal c fault cone r.faulty r.dff) r.value (next_under r.faulty r.dff (known k d inside).0))

  differs_below : (x : ℕ) (bit : Bool) → x < net_count c → IsBelow n (differs_target c fault cone x bit)
  differs_below x bit h =
      one_below n (rail_of (net_signal c fault cone false x) bit) (rail_of (net_signal c fault cone true x) (not bit) ∷ [])
      (rail_under n (net_signal c fault cone false x) bit (net_under false x h))
      (one_below n (rail_of (net_signal c fault cone true x) (not bit)) []
      (rail_under n (net_signal c fault cone true x) (not bit) (net_under true x h)) (none_below n))

  outputs_below : (nets : List NetId) → ((o : ℕ) → o < length nets → (get_or nets o no_net).0 < net_count c)
      → All (IsBelow n) (flat_map (output_targets c fault cone) nets)
  outputs_below [] h = All-nil (IsBelow n)
  outputs_below (net ∷ nets) h =
      let at : net.0 < net_count c = h 0 (omega arith) in
      All-append (IsBelow n) (output_targets c fault cone net) (flat_map (output_targets c fault cone) nets)
      (cond_both (cone net.0) (differs_target c fault cone net.0 false ∷ differs_target c fault cone net.0 true ∷ []) []
      (All (IsBelow n))
      (λ yes. All-cons (IsBelow n) (differs_target c fault cone net.0 false) (differs_target c fault cone net.0 true ∷ [])
      (differs_below net.0 false at) (one_clause n (differs_target c fault cone net.0 true) (differs_below net.0 true at)))
      (λ wrong. All-nil (IsBelow n)))
      (outputs_below nets (λ o l. h (suc o) (omega arith)))

  targets_below : (first : ℕ) (targets : List (List SignedVar)) → first + length targets ≤ n → All (IsBelow n) targets
      → All (IsBelow n) (target_clauses first targets)
  targets_below first [] room h = All-nil (IsBelow n)
  targets_below first (target ∷ more) room h =
      All-append (IsBelow n) (map (λ l. needs (positive first) (l ∷ [])) target) (target_clauses (suc first) more)
      (All-map (IsBelow n) (λ l. needs (positive first) (l ∷ [])) target
      (λ k d inside. one_below n (complement (positive first)) (get_or target k d ∷ []) (omega arith)
      (one_below n (get_or target k d) [] (h 0 [] (omega arith) k d inside) (none_below n))))
      (targets_below (suc first) more (omega arith) (λ k d l. h (suc k) d (omega arith)))

  some_below : (first : ℕ) (targets : List (List SignedVar)) → first + length targets ≤ n
      → IsBelow n (some_target first targets)
  some_below first [] room = none_below n
  some_below first (target ∷ more) room =
      one_below n (positive first) (some_target (suc first) more) (omega arith) (some_below (suc first) more (omega arith))

-- clauses stay below without constants
plain_below : (n : ℕ) (clauses : List (List SignedVar)) → All (IsBelow n) clauses
    → All (IsBelow n) (flat_map without_constants clauses)
plain_below n [] h = All-nil (IsBelow n)
plain_below n (clause ∷ more) h =
    All-append (IsBelow n) (without_constants clause) (flat_map without_constants more)
    (cond_both (list_any (is_constant true) clause) [] (filter (λ l. not (is_constant false l)) clause ∷ [])
    (All (IsBelow n)) (λ yes. All-nil (IsBelow n))
    (λ wrong. one_clause n (filter (λ l. not (is_constant false l)) clause)
    (All-filter (λ l. not (is_constant false l)) (λ (m : SignedVar). m.variable < n) clause (h 0 [] (omega arith)))))
    (plain_below n more (λ k d l. h (suc k) d (omega arith)))

-- the variables of the formula
pub formula_below : (c : Netlist) → IsCircuit c → (fault : Fault) (cone : ℕ → Bool) (cubes : List (List Rail))
    → All (All (IsKnownRail c cone)) cubes
    → All (IsBelow (last_variable c fault cone cubes + 1)) (formula_of c fault cone cubes)
formula_below c circuit fault cone cubes known =
    let n = last_variable c fault cone cubes + 1 in
    let targets = targets_of c fault cone cubes in
    let first = first_target c in
    let room : first ≤ n = omega arith in
    let all_room : first + length targets ≤ n = omega arith in
    let below : All (IsBelow n) targets = All-filter may_come (IsBelow n) (all_targets c fault cone cubes)
    (All-append (IsBelow n) (map (next_target c fault cone) cubes) (flat_map (output_targets c fault cone) c.outputs)
    (All-map (IsBelow n) (next_target c fault cone) cubes
    (λ k d inside. next_below c circuit fault cone n room (get_or cubes k d) (known k d inside)))
    (outputs_below c circuit fault cone n room c.outputs (λ o l. circuit.outputs_known o l))) in
    let frame = frame_clauses c fault cone in
    let denied = map (cube_clause c cone) cubes in
    plain_below n (clauses_of c fault cone cubes)
    (All-append (IsBelow n) (frame ++ denied ++ target_clauses first targets) (some_target first targets ∷ [])
    (All-append (IsBelow n) (frame ++ denied) (target_clauses first targets)
    (All-append (IsBelow n) frame denied (frame_below c circuit fault cone n room)
    (All-map (IsBelow n) (cube_clause c cone) cubes
    (λ k d inside. cube_below c circuit fault cone n room (get_or cubes k d) (known k d inside))))
    (targets_below c circuit fault cone n room first targets all_room below))
    (one_clause n (some_target first targets) (some_below c circuit fault cone n room first targets all_room)))
