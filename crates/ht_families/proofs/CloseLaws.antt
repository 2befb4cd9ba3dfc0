-- What a frame from a family tells of closing.
use Rattle.std.proofs.Common.{◌≡◌, ◌<◌, ◌≤◌, ◌*◌, ◌-◌, ℕ, suc, zero, List, [], ◌∷◌, Bool, true, false, not, IsTrue, length, get_or, refl, sym, ◌∙◌, ap, arith, subst}
use Rattle.ht_tern.specs.declared.tern.Tern.{Tern}
use Rattle.ht_pairs.specs.Pairs.{Pair, MayDiffer}
use Rattle.ht_net.specs.declared.fault.Fault.{Fault}
use Rattle.ht_net.specs.Circuit.Netlist.{Netlist}
use Rattle.ht_tree.specs.Record.ClosedFamilies.{Closes, HoldsState, IncludesEach, shown_sets, taken_sets, Family}
use Rattle.ht_families.specs.Families.{IsLeastClosing}
use Rattle.ht_families.specs.FamilyFrames.{FrameView, after_family, size_of}
use Rattle.ht_records.proofs.RunFamilyLaws.{shown_long}
use Rattle.ht_families.proofs.LeastLaws.{IsGrown, none_closes}

same_get : (xs : List (List Pair)) (k : ℕ) (d e : List Pair) → k < length xs → get_or xs k d ≡ get_or xs k e
same_get [] k d e l = absurd (omega arith)
same_get (x ∷ xs) zero d e l = refl
same_get (x ∷ xs) (suc k) d e l = same_get xs k d e (omega arith)

-- some output may differ
abbrev pub MayShow : Netlist → List (List Pair) → Type 0
MayShow c shown = (o : ℕ) × (o < length c.outputs) × MayDiffer (get_or shown o [])

-- A frame was run from a family.
pub record IsFrameOf (c : Netlist) (fault : Fault) (family : Family) (frame : FrameView) : Type 0 where
  pub circuit : frame.circuit ≡ c
  pub fault_is : frame.fault ≡ fault
  pub shown : frame.shown ≡ shown_sets c fault family
  pub next_sets : frame.next_sets ≡ taken_sets c fault family

-- a frame that runs from a family is one of that family
pub frame_is : (c : Netlist) (fault : Fault) (family : Family) (before after : FrameView)
    → before.circuit ≡ c → before.fault ≡ fault → after ≡ after_family before family → IsFrameOf c fault family after
frame_is c fault family before after e d is = record {
  circuit = ap (λ (f : FrameView). f.circuit) is ∙ e;
  fault_is = ap (λ (f : FrameView). f.fault) is ∙ d;
  shown = ap (λ (f : FrameView). f.shown) is ∙ (λ i. shown_sets (e i) (d i) family);
  next_sets = ap (λ (f : FrameView). f.next_sets) is ∙ (λ i. taken_sets (e i) (d i) family);
}

-- a frame that runs from a family under another name is one of that family too
pub frame_run : (before : FrameView) {after : FrameView} {c : Netlist} {fault : Fault} {family given : Family}
    → before.circuit ≡ c → before.fault ≡ fault → given ≡ family → after ≡ after_family before given
    → IsFrameOf c fault family after
frame_run before {after = after} {c = c} {fault = fault} {family = family} e d same is =
    frame_is c fault family before after e d (is ∙ ap (after_family before) same)

-- if an output may differ in a frame of a family, it may differ in the sets that the family shows
pub shows_in : (c : Netlist) (fault : Fault) (family : Family) (frame : FrameView)
    → IsFrameOf c fault family frame → MayShow frame.circuit frame.shown → MayShow c (shown_sets c fault family)
shows_in c fault family frame is may =
    let m : MayShow c frame.shown = subst (λ (n : Netlist). MayShow n frame.shown) is.circuit may in
    subst (λ (s : List (List Pair)). MayShow c s) is.shown m

-- if an output may differ in the sets that a family shows, it may differ in a frame of the family
pub shows_out : (c : Netlist) (fault : Fault) (family : Family) (frame : FrameView)
    → IsFrameOf c fault family frame → MayShow c (shown_sets c fault family) → MayShow frame.circuit frame.shown
shows_out c fault family frame is may =
    let m : MayShow c frame.shown = subst (λ (s : List (List Pair)). MayShow c s) (sym is.shown) may in
    subst (λ (n : Netlist). MayShow n frame.shown) (sym is.circuit) m

-- a family that holds the start closes where it includes what its frame takes and no output there may differ
pub closes_when : (c : Netlist) (fault : Fault) (start : List Tern) (family next_sets : Family)
    (frame : FrameView) → IsFrameOf c fault family frame → length family ≡ length c.dffs → HoldsState family start
    → next_sets ≡ frame.next_sets → IncludesEach family next_sets → ¬ MayShow frame.circuit frame.shown
    → Closes c fault start family
closes_when c fault start family next_sets frame is long holds took stays silent = record {
  sets = long;
  starts = holds;
  stays = subst (λ (t : List (List Pair)). IncludesEach family t) (took ∙ is.next_sets) stays;
  silent = λ o d l may.
      let n = shown_long c fault family in
      silent (shows_out c fault family frame is (
        o,
        omega (arith, l, n),
        subst MayDiffer (same_get (shown_sets c fault family) o d [] l) may,
      ));
}

-- a family that closes includes what its frame takes
pub closed_stays : (c : Netlist) (fault : Fault) (start : List Tern) (family next_sets : Family)
    (frame : FrameView) → IsFrameOf c fault family frame → next_sets ≡ frame.next_sets → Closes c fault start family
    → IncludesEach family next_sets
closed_stays c fault start family next_sets frame is took closes =
    subst (λ (t : List (List Pair)). IncludesEach family t) (sym (took ∙ is.next_sets)) closes.stays

-- no output may differ in the frame of a family that closes
pub closed_shows_none : (c : Netlist) (fault : Fault) (start : List Tern) (family : Family)
    (frame : FrameView) → IsFrameOf c fault family frame → Closes c fault start family
    → ¬ MayShow frame.circuit frame.shown
closed_shows_none c fault start family frame is closes may =
    let m = shows_in c fault family frame is may in
    let n = shown_long c fault family in
    closes.silent m.0 [] (let l = m.1 in omega (arith, l, n)) m.2

-- a grown family that includes what its frame takes, where no output may differ, is the least that closes
pub least_when : (c : Netlist) (fault : Fault) (start : List Tern) (family next_sets : Family)
    (frame : FrameView) → IsFrameOf c fault family frame → IsGrown c fault start family → next_sets ≡ frame.next_sets
    → IncludesEach family next_sets → ¬ MayShow frame.circuit frame.shown → IsLeastClosing c fault start family
least_when c fault start family next_sets frame is grown took stays silent = record {
  closes = closes_when c fault start family next_sets frame is grown.sets grown.starts took stays silent;
  within = grown.within;
}

-- where an output may differ in the frame of a grown family, no family closes
pub none_when : (c : Netlist) (fault : Fault) (start : List Tern) (family : Family) (frame : FrameView)
    → IsFrameOf c fault family frame → IsGrown c fault start family → MayShow frame.circuit frame.shown
    → (other : Family) → ¬ Closes c fault start other
none_when c fault start family frame is grown may =
    let m = shows_in c fault family frame is may in none_closes c fault start family m.0 grown m.1 m.2

-- a family that grew has fewer pairs left to gain, of nine for each flip-flop
pub smaller_when : (family next : Family) → length next ≡ length family → size_of family < size_of next
    → size_of next ≤ 9 * length family → 9 * length next - size_of next < 9 * length family - size_of family
smaller_when family next long more few = omega (arith, long, more, few)

-- a test that fails
pub fails : {P : Type 0} → (b : Bool) → b ≡ false → (P → IsTrue b) → ¬ P
fails true e h p = let d : true ≡ false = e in cc
fails false e h p = let t : false ≡ true = h p in cc

-- where a test decides a fact, its negation decides what holds exactly where the fact doesn't
pub not_tells : {P Q : Type 0} → (b : Bool) → (IsTrue b → P) × (P → IsTrue b) → (¬ P → Q) → (Q → ¬ P)
    → (IsTrue (not b) → Q) × (Q → IsTrue (not b))
not_tells true h k l = (λ e. let d : false ≡ true = e in cc, λ q. absurd (l q (h.0 refl)))
not_tells false h k l = (λ e. k (fails false refl h.1), λ q. refl)
