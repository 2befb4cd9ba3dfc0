-- A table of lanes that are stuck: what it makes of a line, and one fault more or less.
use Rattle.std.specs.Prelude.{set}
use Rattle.std.specs.List.{slice_get}
use Rattle.std.proofs.Common.{◌≡◌, ◌≢◌, ◌<◌, ◌+◌, ◌∙◌, ℕ, zero, suc, List, [], ◌∷◌, ◌++◌, Bool, true, false, length, get_or, cond, eqb, ap, sym, subst, refl, arith, Option, Some, None, inl, inr}
use Rattle.std.proofs.lemmas.Bool.{eq-eqb, ne_eqb}
use Rattle.std.proofs.lemmas.Bool.Decides.{eqb_tells}
use Rattle.std.proofs.lemmas.List.{get_or-set_same, get_or-set_other, length-set, length-append}
use Rattle.std.proofs.lemmas.Option.{slice_get_past, slice_get_within}
use Rattle.ht_tern.specs.declared.tern.Tern.{Tern}
use Rattle.ht_tern.specs.Gate.{tern_of}
use Rattle.ht_items.proofs.BitLaws.{bit_here, bit_there}
use Rattle.ht_items.specs.Bits.{is_set}
use Rattle.ht_lanes.specs.Lanes.{Lanes, lane, stuck_lanes}
use Rattle.ht_lanes.specs.Inverse.{lane_of_each}
use Rattle.ht_net.specs.declared.fault.Site.{Site}
use Rattle.ht_net.specs.declared.fault.Site.TheVariants.{Stem, DffPin, GatePin}
use Rattle.ht_net.specs.declared.fault.Fault.{Fault}
use Rattle.ht_net.specs.Circuit.Netlist.{Netlist, net_count}
use Rattle.ht_net.specs.Frames.Faults.{forced, is_stem, is_data_pin}
use Rattle.ht_group.specs.GroupView.{HasSite}
use Rattle.ht_items.specs.Bits.{with_bit}
use Rattle.ht_frame.specs.StuckPins.{is_at_gate, is_pin_of}
use Rattle.ht_group.specs.StuckTables.{IsStuckTable, gate_slot, dff_slot, slot_count, slot_of, is_at_slot}

-- Two numbers are compared.
pub eqb_shift : (n a b : ℕ) → eqb (n + a) (n + b) ≡ eqb a b
eqb_shift n a b = elim (eqb_tells a b) [
  | inl p ↦ eq-eqb (n + a) (n + b) (ap (λ (i : ℕ). n + i) p.1) ∙ sym p.0
  | inr p ↦ let ne : a ≢ b = p.1 in ne_eqb (n + a) (n + b) (omega (arith, ne)) ∙ sym p.0
]

-- Which slot a line has.
pub slot_is_stem : (c : Netlist) (x : ℕ) (site : Site) → x < net_count c → HasSite c site
    → eqb x (slot_of c site) ≡ is_stem site x
slot_is_stem c x (Stem y) inside at = refl
slot_is_stem c x (GatePin g i) inside at = ne_eqb x (gate_slot c g) (omega arith)
slot_is_stem c x (DffPin j) inside at = ne_eqb x (dff_slot c j) (omega arith)

-- a gate's slot is a site's exactly where the site is a pin of that gate
pub slot_is_gate : (c : Netlist) (g : ℕ) (site : Site) → g < length c.gates → HasSite c site
    → eqb (gate_slot c g) (slot_of c site) ≡ is_pin_of site g
slot_is_gate c g (Stem y) inside at = ne_eqb (gate_slot c g) y.0 (omega arith)
slot_is_gate c g (GatePin h i) inside at = eqb_shift (net_count c) g h
slot_is_gate c g (DffPin j) inside at = ne_eqb (gate_slot c g) (dff_slot c j) (omega arith)

-- the slot of a flip-flop's data pin is a site's exactly where the site is that pin
pub slot_is_data_pin : (c : Netlist) (j : ℕ) (site : Site) → HasSite c site
    → eqb (dff_slot c j) (slot_of c site) ≡ is_data_pin site j
slot_is_data_pin c j (Stem y) at = ne_eqb (dff_slot c j) y.0 (omega arith)
slot_is_data_pin c j (GatePin h i) at = ne_eqb (dff_slot c j) (gate_slot c h) (omega arith)
slot_is_data_pin c j (DffPin i) at = eqb_shift (net_count c + length c.gates) j i

-- What the lanes of a slot make of a word is what their faults make of it.
forced_by : (c : Netlist) (fault : Option Fault) (s : ℕ) (is_site : Site → Bool) (stuck value : Bool) (v : Tern)
    → stuck ≡ is_at_slot c fault s
    → ((f : Fault) → fault ≡ Some f → (value ≡ f.value) × (eqb s (slot_of c f.site) ≡ is_site f.site))
    → cond stuck (tern_of value) v ≡ forced (λ bit u. tern_of bit) fault is_site v
unfolding forced
forced_by c None s is_site stuck value v at is = ap (λ b. cond b (tern_of value) v) at
forced_by c (Some f) s is_site stuck value v at is =
    let p = is f refl in
    λ i. cond ((at ∙ p.1) i) (tern_of (p.0 i)) v

-- a word that is stuck by a slot's lanes has in each lane what the lane's fault forces at the slot
pub slot_forces : (c : Netlist) (faults : List Fault) (ones : ℕ) (table : List ℕ) → IsStuckTable c faults ones table
    → (s : ℕ) → s < slot_count c → (is_site : Site → Bool)
    → ((site : Site) → HasSite c site → eqb s (slot_of c site) ≡ is_site site)
    → (w : Lanes) (k : ℕ) → k < 64 → lane (stuck_lanes (get_or table s 0) ones w) k
    ≡ forced (λ bit u. tern_of bit) (slice_get faults k) is_site (lane w k)
slot_forces c faults ones table t s inside is_site is w k below =
    lane_of_each (λ i. cond (is_set (get_or table s 0) i) (tern_of (is_set ones i)) (lane w i)) k below
    ∙ forced_by c (slice_get faults k) s is_site (is_set (get_or table s 0) k) (is_set ones k) (lane w k)
    (t.lanes_at s k inside below) (λ f has. (t.ones_at k f below has, is f.site (t.within k f has)))

-- the lanes at a gate
at_gate_is : (c : Netlist) (fault : Option Fault) (g : ℕ) → g < length c.gates
    → ((f : Fault) → fault ≡ Some f → HasSite c f.site) → is_at_slot c fault (gate_slot c g) ≡ is_at_gate fault g
at_gate_is c None g inside within = refl
at_gate_is c (Some f) g inside within = slot_is_gate c g f.site inside (within f refl)

-- the lanes in a gate's slot are those whose fault is at a pin of that gate
pub gate_lanes_are : (c : Netlist) (faults : List Fault) (ones : ℕ) (table : List ℕ) → IsStuckTable c faults ones table
    → (g k : ℕ) → g < length c.gates → k < 64 → is_set (get_or table (gate_slot c g) 0) k
    ≡ is_at_gate (slice_get faults k) g
gate_lanes_are c faults ones table t g k inside below =
    t.lanes_at (gate_slot c g) k (omega arith) below
    ∙ at_gate_is c (slice_get faults k) g inside (λ f has. t.within k f has)

-- One lane of a slot is written.
-- lane m of slot n is written
abbrev lane_written : List ℕ → ℕ → ℕ → Bool → List ℕ
lane_written table n m bit = set table n (with_bit (get_or table n 0) m bit)

other_lane : (table : List ℕ) (n m : ℕ) (bit : Bool) (s k : ℕ) → n < length table → m < 64 → k < 64 → k ≢ m
    → is_set (get_or (lane_written table n m bit) s 0) k ≡ is_set (get_or table s 0) k
other_lane table n m bit s k inside small below ne = elim (eqb_tells s n) [
  | inl p ↦
      ap (λ i. is_set (get_or (lane_written table n m bit) i 0) k) p.1
      ∙ (ap (λ b. is_set b k) (get_or-set_same table n (with_bit (get_or table n 0) m bit) 0 inside)
      ∙ (bit_there (get_or table n 0) m bit k small below ne ∙ ap (λ i. is_set (get_or table i 0) k) (sym p.1)))
  | inr p ↦ ap (λ b. is_set b k) (get_or-set_other table n s (with_bit (get_or table n 0) m bit) 0 p.1)
]

same_lane : (table : List ℕ) (n m : ℕ) (bit : Bool) (s : ℕ) → n < length table → m < 64
    → is_set (get_or (lane_written table n m bit) s 0) m ≡ cond (eqb s n) bit (is_set (get_or table s 0) m)
same_lane table n m bit s inside small = elim (eqb_tells s n) [
  | inl p ↦
      rw p.0 (ap (λ i. is_set (get_or (lane_written table n m bit) i 0) m) p.1
      ∙ (ap (λ b. is_set b m) (get_or-set_same table n (with_bit (get_or table n 0) m bit) 0 inside)
      ∙ bit_here (get_or table n 0) m bit small))
  | inr p ↦
      rw p.0 (ap (λ b. is_set b m) (get_or-set_other table n s (with_bit (get_or table n 0) m bit) 0 p.1))
]

-- The last fault of a list.
pub slice_at_end : {X : Type 0} → (xs : List X) (x : X) → slice_get (xs ++ x ∷ []) (length xs) ≡ Some x
slice_at_end [] x = refl
slice_at_end (y ∷ xs) x = slice_at_end xs x

-- a list with one item more has the same item as before at each index but the new last one
pub slice_other : {X : Type 0} → (xs : List X) (x : X) (k : ℕ) → k ≢ length xs
    → slice_get (xs ++ x ∷ []) k ≡ slice_get xs k
slice_other [] x zero ne = absurd (ne refl)
slice_other [] x (suc k) ne = refl
slice_other (y ∷ xs) x zero ne = refl
slice_other (y ∷ xs) x (suc k) ne = slice_other xs x k (λ e. ne (ap suc e))

-- the fault of lane k is the last one or one of those before
some_fault : (faults : List Fault) (f : Fault) (P : ℕ → Fault → Type 0) → P (length faults) f
    → ((k : ℕ) (g : Fault) → k ≢ length faults → slice_get faults k ≡ Some g → P k g)
    → (k : ℕ) (g : Fault) → slice_get (faults ++ f ∷ []) k ≡ Some g → P k g
some_fault faults f P last before k g has = elim (eqb_tells k (length faults)) [
  | inl p ↦
      let e : Some f ≡ Some g = sym (slice_at_end faults f) ∙ (ap (slice_get (faults ++ f ∷ [])) (sym p.1) ∙ has) in
      let same : f ≡ g = cc in
      subst (λ (i : ℕ). P i g) (sym p.1) (subst (P (length faults)) same last)
  | inr p ↦ before k g p.1 (sym (slice_other faults f k p.1) ∙ has)
]

none_at_slot : (c : Netlist) (faults : List Fault) (s : ℕ) → is_at_slot c (slice_get faults (length faults)) s ≡ false
none_at_slot c faults s = ap (λ f. is_at_slot c f s) (slice_get_past faults (length faults) (omega arith))

last_at_slot : (c : Netlist) (faults : List Fault) (f : Fault) (s : ℕ)
    → is_at_slot c (slice_get (faults ++ f ∷ []) (length faults)) s ≡ eqb s (slot_of c f.site)
last_at_slot c faults f s = ap (λ g. is_at_slot c g s) (slice_at_end faults f)

true_or : (b d : Bool) → d ≡ false → cond b true d ≡ b
true_or true d h = refl
true_or false d h = h

false_if : (b d : Bool) → d ≡ b → cond b false d ≡ false
false_if true d h = refl
false_if false d h = h

-- One fault more.
pub fault_added : (c : Netlist) (faults : List Fault) (ones : ℕ) (table : List ℕ) (f : Fault) (s : ℕ)
    → IsStuckTable c faults ones table → length faults < 64 → HasSite c f.site → s ≡ slot_of c f.site → s < slot_count c
    → IsStuckTable c (faults ++ f ∷ []) (with_bit ones (length faults) f.value)
    (lane_written table s (length faults) true)
fault_added c faults ones table f s t room site is within =
    let m = length faults in
    let inside : s < length table = omega (arith, within, t.count) in
    record {
      few = omega (arith, length-append faults (f ∷ []), room);
      within = some_fault faults f (λ k g. HasSite c g.site) site (λ k g ne has. t.within k g has);
      ones_at = λ k g below has.
          some_fault faults f (λ i h. i < 64 → is_set (with_bit ones (length faults) f.value) i ≡ h.value)
          (λ small. bit_here ones (length faults) f.value room)
          (λ i h ne had small. bit_there ones (length faults) f.value i room small ne ∙ t.ones_at i h small had) k g has
          below;
      count = length-set table s (with_bit (get_or table s 0) (length faults) true) ∙ t.count;
      lanes_at = λ x k slot below. elim (eqb_tells k (length faults)) [
        | inl p ↦
            let P : ℕ → Type 0 = λ i. is_set (get_or (lane_written table s (length faults) true) x 0) i
            ≡ is_at_slot c (slice_get (faults ++ f ∷ []) i) x in
            subst P (sym p.1) (same_lane table s (length faults) true x inside room
            ∙ (true_or (eqb x s) (is_set (get_or table x 0) (length faults))
            (t.lanes_at x (length faults) slot room ∙ none_at_slot c faults x)
            ∙ (ap (eqb x) is ∙ sym (last_at_slot c faults f x))))
        | inr p ↦
            other_lane table s (length faults) true x k inside room below p.1
            ∙ (t.lanes_at x k slot below ∙ ap (λ g. is_at_slot c g x) (sym (slice_other faults f k p.1)))
      ];
    }

-- One fault less.
pub fault_removed : (c : Netlist) (faults : List Fault) (ones : ℕ) (table : List ℕ) (f : Fault) (s : ℕ)
    → IsStuckTable c (faults ++ f ∷ []) ones table → s ≡ slot_of c f.site → s < slot_count c
    → IsStuckTable c faults ones (lane_written table s (length faults) false)
fault_removed c faults ones table f s t is within =
    let m = length faults in
    let inside : s < length table = omega (arith, within, t.count) in
    let room : length faults < 64 = omega (arith, length-append faults (f ∷ []), t.few) in
    let earlier : (k : ℕ) (g : Fault) → slice_get faults k ≡ Some g → slice_get (faults ++ f ∷ []) k ≡ Some g =
    λ k g has. let less = slice_get_within faults k g has in slice_other faults f k (omega (arith, less)) ∙ has in
    record {
      few = omega (arith, room);
      within = λ k g has. t.within k g (earlier k g has);
      ones_at = λ k g below has. t.ones_at k g below (earlier k g has);
      count = length-set table s (with_bit (get_or table s 0) (length faults) false) ∙ t.count;
      lanes_at = λ x k slot below. elim (eqb_tells k (length faults)) [
        | inl p ↦
            let P : ℕ → Type 0 = λ i. is_set (get_or (lane_written table s (length faults) false) x 0) i
            ≡ is_at_slot c (slice_get faults i) x in
            subst P (sym p.1) (same_lane table s (length faults) false x inside room
            ∙ (false_if (eqb x s) (is_set (get_or table x 0) (length faults))
            (t.lanes_at x (length faults) slot room ∙ (last_at_slot c faults f x ∙ ap (eqb x) (sym is)))
            ∙ sym (none_at_slot c faults x)))
        | inr p ↦
            other_lane table s (length faults) false x k inside room below p.1
            ∙ (t.lanes_at x k slot below ∙ ap (λ g. is_at_slot c g x) (slice_other faults f k p.1))
      ];
    }

-- The same for lists that are known by equations.
pub fault_more : (c : Netlist) (faults : List Fault) (ones : ℕ) (table : List ℕ) (f : Fault) (s : ℕ)
    (faults' : List Fault) (ones' : ℕ) (table' : List ℕ)
    → IsStuckTable c faults ones table → length faults < 64 → HasSite c f.site → s ≡ slot_of c f.site → s < slot_count c
    → faults' ≡ faults ++ f ∷ [] → ones' ≡ with_bit ones (length faults) f.value
    → table' ≡ set table s (with_bit (get_or table s 0) (length faults) true) → IsStuckTable c faults' ones' table'
fault_more c faults ones table f s faults' ones' table' t room site is within a b e =
    rw (a, b, e) (fault_added c faults ones table f s t room site is within)

-- after the last fault's lane is cleared in its slot, the table has the faults before it
pub fault_less : (c : Netlist) (faults : List Fault) (ones : ℕ) (table : List ℕ) (f : Fault) (s : ℕ)
    (all : List Fault) (table' : List ℕ)
    → IsStuckTable c all ones table → all ≡ faults ++ f ∷ [] → s ≡ slot_of c f.site → s < slot_count c
    → table' ≡ set table s (with_bit (get_or table s 0) (length faults) false) → IsStuckTable c faults ones table'
fault_less c faults ones table f s all table' t a is within e =
    rw e (fault_removed c faults ones table f s (subst (λ (l : List Fault). IsStuckTable c l ones table) a t) is within)
