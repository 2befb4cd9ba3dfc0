-- What a circuit with a list of lines expanded shows.
use Rattle.std.proofs.Common.{◌≡◌, ◌≢◌, ◌<◌, ◌≤◌, ◌+◌, ◌*◌, ℕ, suc, zero, List, [], ◌∷◌, ◌++◌, Bool, true, false, length, get_or, Some, None, refl, sym, ◌∙◌, ap, subst, arith}
use Rattle.ht_tern.specs.declared.gate.Kind.{Kind}
use Rattle.ht_tern.specs.declared.gate.Kind.TheVariants.{And, Or}
use Rattle.ht_net.specs.declared.fault.Site.{Site}
use Rattle.ht_net.specs.declared.fault.Site.TheVariants.{Stem, DffPin, GatePin}
use Rattle.ht_net.specs.declared.fault.Fault.{Fault}
use Rattle.ht_net.specs.Circuit.Lists.{AllDiffer}
use Rattle.ht_net.specs.Circuit.Netlist.{Netlist, Gate, no_net}
use Rattle.ht_net.specs.Frames.Frame.{Rules, run_outputs}
use Rattle.ht_net.specs.Frames.Faults.{rules_of}
use Rattle.ht_slow.specs.Slow.{outputs_with, IsLine}
use Rattle.ht_slow.specs.ExpandedLine.{moved_line, stuck_pin}
use Rattle.ht_slow.specs.Expanded.{line_in, names_over, expand_line, expand_on, expanded, listed_fault}
use Rattle.ht_slow.proofs.FrameLaws.{Expands}
use Rattle.ht_slow.proofs.RuleLaws.{other_expands, good_expands}
use Rattle.ht_slow.proofs.RunLaws.{runs_own, runs_other, runs_kept}
use Rattle.ht_slow.proofs.Wired.{IsWired}
use Rattle.ht_slow.proofs.WiredLaws.{expanded_is_wired, line_inside}
use Rattle.ht_slow.proofs.DepthLaws.{old_width}
use Rattle.ht_slow.proofs.PlaceLaws.{first_new_gate, second_new_gate}
use Rattle.ht_slow.proofs.OverLaws.{IsOver, over_itself, over_more, line_stays, lines_once, line_here, line_moves, dffs_more, gates_more}

-- lines of c
abbrev pub AllLines : Netlist → List Site → Type 0
AllLines c sites = (k : ℕ) → k < length sites → IsLine c (get_or sites k (Stem no_net))

first_line : (c : Netlist) (site : Site) (sites : List Site) → AllLines c (site ∷ sites) → IsLine c site
first_line c site sites lines = lines 0 (omega arith)

other_lines : (c : Netlist) (site : Site) (sites : List Site) → AllLines c (site ∷ sites) → AllLines c sites
other_lines c site sites lines = λ k h. lines (suc k) (omega arith)

pub append_one : {V : Type 0} → (xs : List V) (y : V) (ys : List V) → (xs ++ y ∷ []) ++ ys ≡ xs ++ y ∷ ys
append_one [] y ys = refl
append_one (x ∷ xs) y ys = ap (λ zs. x ∷ zs) (append_one xs y ys)

one_longer : {V : Type 0} → (xs : List V) (y : V) → length (xs ++ y ∷ []) ≡ suc (length xs)
one_longer [] y = refl
one_longer (x ∷ xs) y = ap suc (one_longer xs y)

nothing_more : {V : Type 0} → (xs : List V) → xs ++ [] ≡ xs
nothing_more [] = refl
nothing_more (x ∷ xs) = ap (λ zs. x ∷ zs) (nothing_more xs)

-- a stuck pin of a gate that c doesn't have
abbrev pub NewPin : Netlist → Netlist → ℕ → Type 0
NewPin c e gate = (length c.gates ≤ gate) × IsLine e (GatePin gate 0)

-- the gate of a pin, else 0
abbrev gate_number : Site → ℕ
gate_number (Stem x) = 0
gate_number (DffPin j) = 0
gate_number (GatePin g i) = g

-- no line of c is it
new_pin_apart : (c e : Netlist) (site : Site) (gate : ℕ) → IsLine c site → length c.gates ≤ gate
    → line_in c e site ≢ GatePin gate 0
new_pin_apart c e (Stem x) gate line h is = absurd cc
new_pin_apart c e (DffPin j) gate line h is = absurd cc
new_pin_apart c e (GatePin g i) gate line h is =
    let same : g ≡ gate = ap gate_number is in let l = line.0 in omega (arith, same, l, h)

-- the pin of line k that is stuck for its transition fault, counted from the gates of e
abbrev pub pin_from : Netlist → ℕ → Bool → ℕ
pin_from e k false = length e.gates + 2 * k
pin_from e k true = suc (length e.gates + 2 * k)

pub pin_next : (c e : Netlist) (site : Site) (k : ℕ) (value : Bool)
    → pin_from e (suc k) value ≡ pin_from (expand_line c e site) k value
pin_next c e site k true = let g = gates_more c e site in omega (arith, g)
pin_next c e site k false = let g = gates_more c e site in omega (arith, g)

-- the two stuck pins of the line that is expanded first
own_pin : (e : Netlist) (value : Bool) → stuck_pin e value
    ≡ record { site = GatePin (pin_from e 0 value) 0; value = value }
own_pin e true = let z : suc (length e.gates) ≡ suc (length e.gates + 2 * 0) = omega arith in
    ap (λ (n : ℕ). let f : Fault = record { site = GatePin n 0; value = true } in f) z
own_pin e false = let z : length e.gates ≡ length e.gates + 2 * 0 = omega arith in
    ap (λ (n : ℕ). let f : Fault = record { site = GatePin n 0; value = false } in f) z

pub listed_is : (c : Netlist) (k : ℕ) (value : Bool) → listed_fault c k value
    ≡ record { site = GatePin (pin_from c k value) 0; value = value }
listed_is c k true = refl
listed_is c k false = refl

-- the pin of a new gate is still there with one line more expanded
pub new_pin_stays : (c e : Netlist) (site : Site) (new : ℕ) → IsOver c e → IsWired e → IsLine c site → NewPin c e new
    → NewPin c (expand_line c e site) new
new_pin_stays c e site new over wired line pin =
    let at : Site = line_in c e site in
    let there = line_inside e at wired (line_stays c e over site line) in
    let w = old_width e at (names_over c e site) wired.depth wired.deep there new pin.1.0 in
    let g = gates_more c e site in
    let h = pin.1.0 in
    (pin.0, (omega (arith, g, h), subst (λ (n : ℕ). 0 < n) (sym w) pin.1.1))

-- they are pins of new gates
pub own_is_new : (c e : Netlist) (site : Site) (value : Bool) → IsOver c e
    → NewPin c (expand_line c e site) (pin_from e 0 value)
own_is_new c e site true over =
    let g = gates_more c e site in
    let n = over.gates in
    let z : suc (length e.gates) ≡ suc (length e.gates + 2 * 0) = omega arith in
    subst (λ (new : ℕ). NewPin c (expand_line c e site) new) z (
      omega (arith, n),
      (
        omega (arith, g),
        subst (λ (gate : Gate). 0 < length gate.args)
            (sym (second_new_gate e (line_in c e site) 0 e.gates)) (omega arith),
      ),
    )
own_is_new c e site false over =
    let g = gates_more c e site in
    let n = over.gates in
    let z : length e.gates ≡ length e.gates + 2 * 0 = omega arith in
    subst (λ (new : ℕ). NewPin c (expand_line c e site) new) z (
      n,
      (
        omega (arith, g),
        subst (λ (gate : Gate). 0 < length gate.args)
            (sym (first_new_gate e (line_in c e site) 0 e.gates)) (omega arith),
      ),
    )

module _ {V : Type 0} (blank : V) (gate : Kind → List V → V) (stick : Bool → V → V) (late : Bool → V → V → V)
    (absorbs : (v b : V) → gate Or (v ∷ gate And (v ∷ b ∷ []) ∷ []) ≡ v)
    (owns : (c : Netlist) (site : Site) (value : Bool) (b : V) → Expands c site
    (rules_of blank gate (λ bit v. late bit b v) (Some (record { site = site; value = value })))
    (rules_of blank gate stick (Some (stuck_pin c value))) b (late value b)) where
  -- the rules of the good machine, of a stuck line and of a slow line
  abbrev good : Rules V
  good = rules_of blank gate stick None

  abbrev stuck : Site → Bool → Rules V
  stuck site value = rules_of blank gate stick (Some (record { site = site; value = value }))

  abbrev slowed : Site → Bool → V → Rules V
  slowed site value b = rules_of blank gate (λ bit v. late bit b v) (Some (record { site = site; value = value }))

  module _ (c : Netlist) where
    pub good_stays : (e : Netlist) (sites : List Site) → IsOver c e → IsWired e → AllLines c sites
        → (latches pasts : List V) → length latches ≡ length e.dffs → length pasts ≡ length sites
        → (vectors : List (List V))
        → run_outputs (expand_on c e sites) good (latches ++ pasts) vectors ≡ run_outputs e good latches vectors
    good_stays e [] over wired lines latches [] many same vectors =
        ap (λ (state : List V). run_outputs e good state vectors) (nothing_more latches)
    good_stays e [] over wired lines latches (p ∷ pasts) many same vectors = absurd (omega (arith, same))
    good_stays e (site ∷ sites) over wired lines latches [] many same vectors = absurd (omega (arith, same))
    good_stays e (site ∷ sites) over wired lines latches (p ∷ pasts) many same vectors =
        let here = first_line c site sites lines in
        let there = line_stays c e over site here in
        let at : Site = line_in c e site in
        let d = dffs_more c e site in
        let one = one_longer latches p in
        ap (λ (state : List V). run_outputs (expand_on c (expand_line c e site) sites) good state vectors)
        (sym (append_one latches p pasts))
        ∙ (good_stays (expand_line c e site) sites (over_more c e over wired site here)
        (expanded_is_wired e at (names_over c e site) wired there) (other_lines c site sites lines)
        (latches ++ p ∷ []) pasts (omega (arith, d, one, many)) (omega (arith, same)) vectors
        ∙ runs_kept e at (names_over c e site) wired there good good
        (λ b. good_expands e at blank gate stick b (λ v. absorbs v b)) p latches many vectors)

    pub stuck_stays : (e : Netlist) (sites : List Site) → IsOver c e → IsWired e → AllLines c sites
        → (new : ℕ) (value : Bool) → NewPin c e new
        → (latches pasts : List V) → length latches ≡ length e.dffs → length pasts ≡ length sites
        → (vectors : List (List V))
        → run_outputs (expand_on c e sites) (stuck (GatePin new 0) value) (latches ++ pasts) vectors
        ≡ run_outputs e (stuck (GatePin new 0) value) latches vectors
    stuck_stays e [] over wired lines new value pin latches [] many same vectors =
        ap (λ (state : List V). run_outputs e (stuck (GatePin new 0) value) state vectors) (nothing_more latches)
    stuck_stays e [] over wired lines new value pin latches (p ∷ pasts) many same vectors = absurd (omega (arith, same))
    stuck_stays e (site ∷ sites) over wired lines new value pin latches [] many same vectors =
        absurd (omega (arith, same))
    stuck_stays e (site ∷ sites) over wired lines new value pin latches (p ∷ pasts) many same vectors =
        let here = first_line c site sites lines in
        let there = line_stays c e over site here in
        let at : Site = line_in c e site in
        let d = dffs_more c e site in
        let one = one_longer latches p in
        let r : Rules V = stuck (GatePin new 0) value in
        ap (λ (state : List V). run_outputs (expand_on c (expand_line c e site) sites) r state vectors)
        (sym (append_one latches p pasts))
        ∙ (stuck_stays (expand_line c e site) sites (over_more c e over wired site here)
        (expanded_is_wired e at (names_over c e site) wired there) (other_lines c site sites lines)
        new value (new_pin_stays c e site new over wired here pin)
        (latches ++ p ∷ []) pasts (omega (arith, d, one, many)) (omega (arith, same)) vectors
        ∙ runs_kept e at (names_over c e site) wired there r r
        (λ b. other_expands e at blank gate stick b (λ v. absorbs v b) (GatePin new 0) value pin.1
        (new_pin_apart c e site new here pin.0)) p latches many vectors)

    tail_differs : (site : Site) (sites : List Site) → AllDiffer (site ∷ sites) → AllDiffer sites
    tail_differs site sites differ = λ i j d less h. differ (suc i) (suc j) d (omega arith) (omega arith)

    -- Line k of those that are expanded: its stuck pin shows what e shows with the slow line.
    pub listed_shows : (e : Netlist) (sites : List Site) → IsOver c e → IsWired e → AllLines c sites → AllDiffer sites
        → (k : ℕ) (value : Bool) → k < length sites
        → (latches pasts : List V) → length latches ≡ length e.dffs → length pasts ≡ length sites
        → (vectors : List (List V))
        → run_outputs (expand_on c e sites) (stuck (GatePin (pin_from e k value) 0) value) (latches ++ pasts) vectors
        ≡ outputs_with e (line_in c e (get_or sites k (Stem no_net)))
        (λ b. slowed (line_in c e (get_or sites k (Stem no_net))) value b) (get_or pasts k blank) latches vectors
    listed_shows e [] over wired lines differ k value h latches pasts many same vectors = absurd (omega arith)
    listed_shows e (site ∷ sites) over wired lines differ k value h latches [] many same vectors =
        absurd (omega (arith, same))
    listed_shows e (site ∷ sites) over wired lines differ zero value h latches (p ∷ pasts) many same vectors =
        let here = first_line c site sites lines in
        let there = line_stays c e over site here in
        let at : Site = line_in c e site in
        let big : Netlist = expand_line c e site in
        let d = dffs_more c e site in
        let one = one_longer latches p in
        let new : ℕ = pin_from e 0 value in
        ap (λ (state : List V). run_outputs (expand_on c big sites) (stuck (GatePin new 0) value) state vectors)
        (sym (append_one latches p pasts))
        ∙ (stuck_stays big sites (over_more c e over wired site here)
        (expanded_is_wired e at (names_over c e site) wired there) (other_lines c site sites lines)
        new value (own_is_new c e site value over)
        (latches ++ p ∷ []) pasts (omega (arith, d, one, many)) (omega (arith, same)) vectors
        ∙ (ap (λ (f : Fault). run_outputs big (rules_of blank gate stick (Some f)) (latches ++ p ∷ []) vectors)
        (sym (own_pin e value))
        ∙ runs_own e at (names_over c e site) wired there (λ b. slowed at value b)
        (rules_of blank gate stick (Some (stuck_pin e value))) (λ b v. late value b v) (λ b. owns e at value b)
        p latches many vectors))
    listed_shows e (site ∷ sites) over wired lines differ (suc k) value h latches (p ∷ pasts) many same vectors =
        let here = first_line c site sites lines in
        let there = line_stays c e over site here in
        let at : Site = line_in c e site in
        let big : Netlist = expand_line c e site in
        let d = dffs_more c e site in
        let one = one_longer latches p in
        let line : Site = get_or sites k (Stem no_net) in
        let is_line : IsLine c line = lines (suc k) h in
        let before : V = get_or pasts k blank in
        let state : List V = latches ++ p ∷ [] in
        let apart : at ≢ line_in c e line =
        λ is. differ 0 (suc k) (Stem no_net) (omega arith) h (lines_once c e site line is) in
        ap (λ (all : List V). run_outputs (expand_on c big sites) (stuck (GatePin (pin_from e (suc k) value) 0) value)
        all vectors) (sym (append_one latches p pasts))
        ∙ (ap (λ (n : ℕ). run_outputs (expand_on c big sites) (stuck (GatePin n 0) value) (state ++ pasts) vectors)
        (pin_next c e site k value)
        ∙ (listed_shows big sites (over_more c e over wired site here)
        (expanded_is_wired e at (names_over c e site) wired there) (other_lines c site sites lines)
        (tail_differs site sites differ) k value (omega arith) state pasts (omega (arith, d, one, many))
        (omega (arith, same)) vectors
        ∙ (ap (λ (l : Site). outputs_with big l (λ b. slowed l value b) before state vectors)
        (sym (line_moves c e over site line))
        ∙ runs_other e at (names_over c e site) wired there (line_in c e line) (line_stays c e over line is_line)
        (λ b. slowed (line_in c e line) value b) (λ b. slowed (moved_line e (line_in c e line)) value b)
        (λ b past. other_expands e at blank gate (λ bit v. late bit b v) past (λ v. absorbs v past)
        (line_in c e line) value (line_stays c e over line is_line) apart) before p latches many vectors)))

    -- the same of c itself
    pub expanded_good : (sites : List Site) → IsWired c → AllLines c sites → (latches pasts : List V)
        → length latches ≡ length c.dffs → length pasts ≡ length sites → (vectors : List (List V))
        → run_outputs (expanded c sites) good (latches ++ pasts) vectors ≡ run_outputs c good latches vectors
    expanded_good sites wired lines = good_stays c sites (over_itself c) wired lines

    pub expanded_listed : (sites : List Site) → IsWired c → AllLines c sites → AllDiffer sites
        → (k : ℕ) (value : Bool) → k < length sites
        → (latches pasts : List V) → length latches ≡ length c.dffs → length pasts ≡ length sites
        → (vectors : List (List V))
        → run_outputs (expanded c sites) (rules_of blank gate stick (Some (listed_fault c k value)))
        (latches ++ pasts) vectors
        ≡ outputs_with c (get_or sites k (Stem no_net))
        (λ b. slowed (get_or sites k (Stem no_net)) value b) (get_or pasts k blank) latches vectors
    expanded_listed sites wired lines differ k value h latches pasts many same vectors =
        let line : Site = get_or sites k (Stem no_net) in
        ap (λ (f : Fault). run_outputs (expanded c sites) (rules_of blank gate stick (Some f)) (latches ++ pasts)
        vectors)
        (listed_is c k value)
        ∙ (listed_shows c sites (over_itself c) wired lines differ k value h latches pasts many same vectors
        ∙ ap (λ (l : Site). outputs_with c l (λ b. slowed l value b) (get_or pasts k blank) latches vectors)
        (line_here c line))
