-- The sets of latches after the last frame of a window: what a dead and a sure status say of them, and where the walk
-- back begins.
use Rattle.std.specs.List.{find, list_any}
use Rattle.std.proofs.Common.{◌≡◌, ◌<◌, ◌+◌, ◌-◌, ℕ, suc, List, [], ◌∷◌, Bool, true, false, cond, Some, None, length, get_or, refl, sym, ◌∙◌, ap, inl, inr, arith, subst}
use Rattle.std.proofs.lemmas.Bool.{and_parts, both_ways, ltb-true, not_from_true, or_cases}
use Rattle.std.proofs.lemmas.Bool.Decides.{nat_tests}
use Rattle.ht_tern.specs.declared.tern.Tern.{Tern}
use Rattle.ht_tern.specs.declared.tern.Tern.TheVariants.{One, Unk, Zero}
use Rattle.ht_pairs.specs.Pairs.{IsMember, Pair, pair}
use Rattle.ht_pairs.proofs.SetLaws.{is_member-from, is_member-true}
use Rattle.ht_net.specs.Frames.Faults.{is_data_pin}
use Rattle.ht_net.specs.Frames.Frame.{next_state}
use Rattle.ht_net.specs.Circuit.Netlist.{no_net}
use Rattle.ht_net.proofs.ValueLaws.{taken_get}
use Rattle.ht_tree.specs.Window.Places.{set_at, spot_net}
use Rattle.ht_tree.specs.Window.WindowStatus.{is_definite}
use Rattle.ht_tree.specs.Window.Windows.{SearchWindow, cell_at, is_undetermined, latches_at, pair_set_rules}
use Rattle.ht_tree.specs.declared.token.Assign3.{Assign3}
use Rattle.ht_tree.specs.declared.token.Status3.TheVariants.{Dead, Open, Sure}
use Rattle.ht_tree.specs.declared.window.Spot.TheVariants.{State}
use Rattle.ht_tree.proofs.MemberLaws.{member_range, none_passes}
use Rattle.ht_tree.proofs.UndeterminedLaws.{forced_undetermined}
use Rattle.ht_tree.proofs.BeginLaws.{undetermined_meets}
use Rattle.ht_records.proofs.ListLaws.{found_member, range_member}
use Rattle.ht_sync.specs.SyncWindows.{flip_flops, last_set, may_be_unknown, must_be_unknown, sync_status}

-- the set of latch j after frame f, which its data pin has in it
latch_after : (w : SearchWindow) (path : List Assign3) (f j : ℕ) → j < length w.circuit.dffs
    → get_or (latches_at w path (suc f)) j (pair Unk Unk ∷ []) ≡ set_at w path f (State j)
unfolding latches_at next_state
latch_after w path f j inside =
    let at : 0 + j ≡ j = omega arith in
    let r = pair_set_rules w.fault in
    taken_get r (cell_at w path f) 0 w.circuit.dffs j (pair Unk Unk ∷ []) inside
    ∙ ap (λ (k : ℕ). r.data_pin k (cell_at w path f (get_or w.circuit.dffs j no_net).0)) at

-- the set of a latch after the last frame is that of its next state in this frame
pub last_is : (w : SearchWindow) (path : List Assign3) (j : ℕ) → 0 < w.frames → j < length w.circuit.dffs
    → last_set w path j ≡ set_at w path (w.frames - 1) (State j)
last_is w path j some inside =
    let at : w.frames ≡ suc (w.frames - 1) = omega (arith, some) in
    ap (λ (f : ℕ). get_or (latches_at w path f) j (pair Unk Unk ∷ [])) at ∙ latch_after w path (w.frames - 1) j inside

-- where the set is undetermined, so is the net at the data pin
pub last_undetermined : (w : SearchWindow) (path : List Assign3) (j : ℕ) → 0 < w.frames → j < length w.circuit.dffs
    → 1 < length (last_set w path j)
    → 1 < length (cell_at w path (w.frames - 1) (spot_net w.circuit (State j)))
last_undetermined w path j some inside h =
    let f = w.frames - 1 in
    forced_undetermined w.fault (λ site. is_data_pin site j) (cell_at w path f (spot_net w.circuit (State j)))
    (subst (λ (s : List Pair). 1 < length s) (last_is w path j some inside) h)

-- some member of a list passes a test
pub record SomePasses {X : Type 0} (test : X → Bool) (xs : List X) : Type 0 where
  pub member : X
  pub listed : IsMember member xs
  pub passes : test member ≡ true

-- where a list is tested to have a member that passes, there is one
pub some_passes : {X : Type 0} → (test : X → Bool) (xs : List X) → list_any test xs ≡ true → SomePasses test xs
some_passes test [] h = cc
some_passes test (x ∷ xs) h = elim (or_cases (test x) (list_any test xs) h) [
  | inl e ↦ record { member = x; listed = inl refl; passes = e }
  | inr e ↦
      let more = some_passes test xs e in
      record { member = more.member; listed = inr more.listed; passes = more.passes }
]

-- a set that holds XX and nothing else
unknown_alone : (s : List Pair) → must_be_unknown s ≡ true → (p : Pair) → IsMember p s → p ≡ pair Unk Unk
unknown_alone [] h p k = absurd k
unknown_alone (x ∷ []) h p (inr k) = absurd k
unknown_alone (x ∷ []) h p (inl e) = elim (is_member-true (pair Unk Unk) (x ∷ []) (and_parts _ _ h).0) [
  | inl d ↦ e ∙ sym d
  | inr d ↦ absurd d
]
unknown_alone (x ∷ y ∷ s) h p k =
    let many : is_undetermined (x ∷ y ∷ s) ≡ true = grind (arith, nat_tests) in
    absurd (both_ways _ (not_from_true _ many) (and_parts _ _ h).1)

-- a value of a set that doesn't hold XX
known_of : (s : List Pair) → may_be_unknown s ≡ false → (v : Tern) → IsMember (pair v v) s → is_definite v ≡ true
known_of s h Zero k = refl
known_of s h One k = refl
known_of s h Unk k = absurd (both_ways _ h (is_member-from (pair Unk Unk) s k))

-- the three cases of the status
dead_by : (must may : Bool) → cond must Dead (cond may Open Sure) ≡ Dead → must ≡ true
dead_by true may h = refl
dead_by false true h = cc
dead_by false false h = cc

sure_by : (must may : Bool) → cond must Dead (cond may Open Sure) ≡ Sure → may ≡ false
sure_by true may h = cc
sure_by false true h = cc
sure_by false false h = refl

open_by : (must may : Bool) → cond must Dead (cond may Open Sure) ≡ Open → (must ≡ false) × (may ≡ true)
open_by true may h = cc
open_by false true h = (refl, refl)
open_by false false h = cc

-- where a list has a member that passes, one is found
none_found : {X : Type 0} → (test : X → Bool) (b : Bool) (x y : X) (xs : List X) → test x ≡ b
    → (find test xs ≡ None → IsMember y xs → test y ≡ false) → cond b (Some x) (find test xs) ≡ None
    → IsMember y (x ∷ xs) → test y ≡ false
none_found test true x y xs e more none h = cc
none_found test false x y xs e more none (inl d) = ap test d ∙ e
none_found test false x y xs e more none (inr h) = more none h

none_finds : {X : Type 0} → (test : X → Bool) (xs : List X) (y : X) → find test xs ≡ None → IsMember y xs
    → test y ≡ false
none_finds test [] y none h = absurd h
none_finds test (x ∷ xs) y none h =
    none_found test (test x) x y xs refl (λ e k. none_finds test xs y e k) none h

module _ (w : SearchWindow) (path : List Assign3) where
  abbrev must : ℕ → Bool
  must j = must_be_unknown (last_set w path j)

  abbrev may : ℕ → Bool
  may j = may_be_unknown (last_set w path j)

  abbrev js : List ℕ
  js = flip_flops w.circuit

  -- A latch that must be unknown after the last frame.
  pub record StaysUnknown : Type 0 where
    pub latch : ℕ
    pub inside : latch < length w.circuit.dffs
    pub unknown : (v : Tern) → IsMember (pair v v) (last_set w path latch) → v ≡ Unk

  -- where the status is dead, some latch stays unknown after the last frame
  pub dead_stays : sync_status w path ≡ Dead → StaysUnknown
  dead_stays h =
      let some = some_passes must js (dead_by (list_any must js) (list_any may js) h) in
      let known = range_member some.member 0 (length w.circuit.dffs) some.listed in
      let high = known.1 in
      record {
        latch = some.member;
        inside = omega (arith, high);
        unknown = λ v k. ap (λ (p : Pair). p.good) (unknown_alone (last_set w path some.member) some.passes (pair v v) k);
      }

  -- no latch may be unknown after the last frame
  pub sure_known : sync_status w path ≡ Sure → (j : ℕ) → j < length w.circuit.dffs
      → (v : Tern) → IsMember (pair v v) (last_set w path j) → is_definite v ≡ true
  sure_known h j inside v k =
      let none = sure_by (list_any must js) (list_any may js) h in
      known_of (last_set w path j)
      (none_passes may js j (member_range j 0 (length w.circuit.dffs) (omega arith) (omega (arith, inside))) none) v k

  abbrev undetermined : ℕ → Bool
  undetermined j = is_undetermined (last_set w path j)

  -- where the status is open, some latch is undetermined
  pub open_finds : sync_status w path ≡ Open → ¬ (find undetermined js ≡ None)
  open_finds h none =
      let e = open_by (list_any must js) (list_any may js) h in
      let some = some_passes may js e.1 in
      let j = some.member in
      both_ways (undetermined j) (none_finds undetermined js j none some.listed)
      (undetermined_meets (may j) (undetermined j) (none_passes must js j some.listed e.0) some.passes)

  -- a latch found to be undetermined is the circuit's, and more than one pair is left to it
  pub found_latch : (j : ℕ) → find undetermined js ≡ Some j
      → (j < length w.circuit.dffs) × (1 < length (last_set w path j))
  found_latch j is =
      let h = found_member undetermined js j is in
      let known = range_member j 0 (length w.circuit.dffs) h.0 in
      let high = known.1 in
      (omega (arith, high), ltb-true _ _ h.1)
