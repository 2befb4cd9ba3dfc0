-- What the machines hold before each vector, in lists that begin or go on alike.
use Rattle.std.proofs.Common.{◌≡◌, ◌<◌, ◌≤◌, ◌+◌, ◌-◌, [], inl, inr, ℕ, zero, suc, List, Bool, Option, Some, None, length, get_or, map, take, drop, sym, ◌∙◌, ap, subst, arith, length-drop}
use Rattle.std.proofs.lemmas.List.{get_or-drop, get_or-map, get_or-take, length-map, take_more, take-take, take-map}
use Rattle.ht_tern.specs.declared.tern.Tern.{Tern}
use Rattle.ht_tern.specs.declared.tern.Tern.TheVariants.{Unk}
use Rattle.ht_tern.specs.Opposite.{Opposite}
use Rattle.ht_net.specs.declared.fault.Fault.{Fault}
use Rattle.ht_net.specs.Circuit.Netlist.{Netlist}
use Rattle.ht_net.specs.Frames.Frame.{frame_outputs, next_state, run_state}
use Rattle.ht_net.specs.Frames.Faults.{tern_rules}
use Rattle.ht_net.specs.Detect.Detection.{Detects, output_at, state_from, terns_of, unknown_state}
use Rattle.ht_net.proofs.FrameLaws.{le_or_lt}
use Rattle.ht_serial.proofs.RunLaws.{run_output_at}
use Rattle.ht_group.specs.declared.diffs.Diff.{Diff}
use Rattle.ht_group.specs.Differences.{with_differences}
use Rattle.ht_group.specs.GoodFrames.{AreFrameValues}
use Rattle.ht_proofs.proofs.VectorLaws.{found_inside, latches_more}
use Rattle.ht_compact.specs.declared.moment.Moment.{Moment}
use Rattle.ht_compact.specs.Moments.{HoldsMachine, IsMoment, IsUndetectedBefore, state_before}
use Rattle.ht_compact.proofs.FrontLaws.{same_in_front}

-- ---- lists that begin alike

-- lists with the same first vectors have fewer of them in common too
pub fewer_alike : (list other : List (List Bool)) (n m : ℕ) → take n list ≡ take n other → m ≤ n
    → take m list ≡ take m other
fewer_alike list other n m same few =
    sym (take-take m n list few) ∙ (ap (λ (l : List (List Bool)). take m l) same ∙ take-take m n other few)

-- before the first vector where they differ the machines hold the same
pub state_alike : (c : Netlist) (machine : Option Fault) (list other : List (List Bool)) (t : ℕ)
    → take t list ≡ take t other → state_before c machine list t ≡ state_before c machine other t
state_alike c machine list other t same = ap (λ (l : List (List Bool)). state_from c machine (unknown_state c) l) same

-- and a fault has the same differences
pub holds_alike : (c : Netlist) (fault : Fault) (list other : List (List Bool)) (t : ℕ) (diffs : List Diff)
    → take t list ≡ take t other → HoldsMachine c fault list t diffs → HoldsMachine c fault other t diffs
holds_alike c fault list other t diffs same is = record {
  state = ap (λ (l : List Tern). with_differences l diffs) (sym (state_alike c None list other t same))
      ∙ (is.state ∙ state_alike c (Some fault) list other t same);
  undetected = λ s o less found. is.undetected s o less (same_in_front c fault other list t s o (sym same) less found);
  known = is.known;
}

-- the same vector of both
pub vector_alike : (list other : List (List Bool)) (n t : ℕ) → take n list ≡ take n other → t < n
    → get_or list t [] ≡ get_or other t []
vector_alike list other n t same before =
    sym (get_or-take n list t [] before)
    ∙ (ap (λ (l : List (List Bool)). get_or l t []) same ∙ get_or-take n other t [] before)

-- the moment before a vector is that of each list with the same vectors up to it
pub moment_alike : (c : Netlist) (list other : List (List Bool)) (n t : ℕ) (moment : Moment)
    → take n list ≡ take n other → t < n → IsMoment c list t moment → IsMoment c other t moment
moment_alike c list other n t moment same before is = record {
  good = is.good ∙ state_alike c None list other t (fewer_alike list other n t same (omega (arith, before)));
  values =
      subst (λ (v : List Bool). AreFrameValues c (terns_of v) moment.latches.items moment.values.items)
      (vector_alike list other n t same before) is.values;
}

-- ---- one vector more

-- what a machine's latches hold after the vector
pub state_more : (c : Netlist) (machine : Option Fault) (list : List (List Bool)) (s : ℕ) → s < length list
    → state_before c machine list (s + 1)
    ≡ next_state c (tern_rules machine) (terns_of (get_or list s [])) (state_before c machine list s)
state_more c machine list s inside =
    ap (λ (l : List (List Bool)). state_from c machine (unknown_state c) l) (take_more list s [] inside)
    ∙ latches_more c machine (unknown_state c) (take s list) (get_or list s [])

-- what an output shows at a vector is that of the frame with what the latches hold before it
pub shown_here : (c : Netlist) (machine : Option Fault) (list : List (List Bool)) (t o : ℕ) → t < length list
    → output_at c machine list t o
    ≡ get_or (frame_outputs c (tern_rules machine) (terns_of (get_or list t [])) (state_before c machine list t)) o Unk
shown_here c machine list t o inside =
    let r = tern_rules machine in
    let start = unknown_state c in
    let vectors = map terns_of list in
    ap (λ (row : List Tern). get_or row o Unk)
    (run_output_at c r start vectors t [] (omega (arith, inside, length-map list terns_of))
    ∙ (ap (λ (v : List Tern). frame_outputs c r v (run_state c r start (take t vectors)))
    (get_or-map terns_of list t [] [] inside)
    ∙ ap (λ (l : List (List Tern)). frame_outputs c r (terns_of (get_or list t [])) (run_state c r start l))
    (take-map terns_of t list)))

-- ---- lists that go on alike

-- From place p on the one list has the vectors that the other has from place q on.
pub record GoOnAlike (list other : List (List Bool)) (p q : ℕ) : Type 0 where
  pub rest : drop p list ≡ drop q other
  pub inside : p ≤ length list
  pub there : q ≤ length other

-- as many vectors follow in both
pub as_many : (list other : List (List Bool)) (p q : ℕ) → GoOnAlike list other p q
    → length list + q ≡ length other + p
as_many list other p q alike =
    let same : length (drop p list) ≡ length (drop q other) = ap (λ (l : List (List Bool)). length l) alike.rest in
    omega (arith, same, length-drop p list, length-drop q other, alike.inside, alike.there)

-- the same vector of both
pub vector_later : (list other : List (List Bool)) (p q d : ℕ) → GoOnAlike list other p q
    → get_or list (p + d) [] ≡ get_or other (q + d) []
vector_later list other p q d alike =
    sym (get_or-drop p list d [])
    ∙ (ap (λ (l : List (List Bool)). get_or l d []) alike.rest ∙ get_or-drop q other d [])

-- The machine holds the same before both places.
abbrev pub IsSame : Netlist → Option Fault → List (List Bool) → List (List Bool) → ℕ → ℕ → Type 0
IsSame c machine list other p q = state_before c machine list p ≡ state_before c machine other q

-- then it holds the same before all vectors from there on
pub state_later : (c : Netlist) (machine : Option Fault) (list other : List (List Bool)) (p q d : ℕ)
    → GoOnAlike list other p q → IsSame c machine list other p q → p + d ≤ length list
    → IsSame c machine list other (p + d) (q + d)
state_later c machine list other p q zero alike same inside =
    ap (λ (n : ℕ). state_before c machine list n) (omega arith)
    ∙ (same ∙ ap (λ (n : ℕ). state_before c machine other n) (omega arith))
state_later c machine list other p q (suc d) alike same inside =
    let less : p + d < length list = omega (arith, inside) in
    let r = tern_rules machine in
    ap (λ (n : ℕ). state_before c machine list n) (omega arith)
    ∙ (state_more c machine list (p + d) less
    ∙ (ap (λ (v : List Bool). next_state c r (terns_of v) (state_before c machine list (p + d)))
    (vector_later list other p q d alike)
    ∙ (ap (λ (l : List Tern). next_state c r (terns_of (get_or other (q + d) [])) l)
    (state_later c machine list other p q d alike same (omega (arith, inside)))
    ∙ (sym (state_more c machine other (q + d) (omega (arith, less, as_many list other p q alike)))
    ∙ ap (λ (n : ℕ). state_before c machine other n) (omega arith)))))

-- and shows the same at them
shown_later : (c : Netlist) (machine : Option Fault) (list other : List (List Bool)) (p q d o : ℕ)
    → GoOnAlike list other p q → IsSame c machine list other p q → p + d < length list
    → output_at c machine list (p + d) o ≡ output_at c machine other (q + d) o
shown_later c machine list other p q d o alike same less =
    let r = tern_rules machine in
    shown_here c machine list (p + d) o less
    ∙ (ap (λ (row : List Tern). get_or row o Unk)
    (ap (λ (v : List Bool). frame_outputs c r (terns_of v) (state_before c machine list (p + d)))
    (vector_later list other p q d alike)
    ∙ ap (λ (l : List Tern). frame_outputs c r (terns_of (get_or other (q + d) [])) l)
    (state_later c machine list other p q d alike same (omega (arith, less))))
    ∙ sym (shown_here c machine other (q + d) o (omega (arith, less, as_many list other p q alike))))

-- The good machine and that of a fault hold the same before both places.
pub record AreSame (c : Netlist) (fault : Fault) (list other : List (List Bool)) (p q : ℕ) : Type 0 where
  pub good : IsSame c None list other p q
  pub faulty : IsSame c (Some fault) list other p q

-- then the one list detects the fault where the other does
pub detects_later : (c : Netlist) (fault : Fault) (list other : List (List Bool)) (p q d o : ℕ)
    → GoOnAlike list other p q → AreSame c fault list other p q → Detects c fault other (q + d) o
    → Detects c fault list (p + d) o
detects_later c fault list other p q d o alike same is =
    let there = found_inside c fault (unknown_state c) other (q + d) o is in
    let less : p + d < length list = omega (arith, there, as_many list other p q alike) in
    subst (λ v. Opposite v (output_at c (Some fault) list (p + d) o))
    (sym (shown_later c None list other p q d o alike same.good less))
    (subst (λ v. Opposite (output_at c None other (q + d) o) v)
    (sym (shown_later c (Some fault) list other p q d o alike same.faulty less)) is)

-- the other way round
turned : (list other : List (List Bool)) (p q : ℕ) → GoOnAlike list other p q → GoOnAlike other list q p
turned list other p q alike = record { rest = sym alike.rest; inside = alike.there; there = alike.inside }

-- and the fault has the same differences, where no vector before the place detects it
pub holds_later : (c : Netlist) (fault : Fault) (list other : List (List Bool)) (p q d : ℕ) (diffs : List Diff)
    → GoOnAlike list other p q → AreSame c fault list other p q → IsUndetectedBefore c fault list p
    → p + d ≤ length list → HoldsMachine c fault other (q + d) diffs → HoldsMachine c fault list (p + d) diffs
holds_later c fault list other p q d diffs alike same before inside is = record {
  state = ap (λ (l : List Tern). with_differences l diffs) (state_later c None list other p q d alike same.good inside)
      ∙ (is.state ∙ sym (state_later c (Some fault) list other p q d alike same.faulty inside));
  undetected = λ s o less found. elim (le_or_lt p s) [
    | inl later ↦
        is.undetected (q + (s - p)) o (omega (arith, less, later))
        (detects_later c fault other list q p (s - p) o (turned list other p q alike)
        (record { good = sym same.good; faulty = sym same.faulty })
        (subst (λ (n : ℕ). Detects c fault list n o) (omega (arith, later)) found))
    | inr earlier ↦ before s o earlier found
  ];
  known = is.known;
}

-- a moment of the one list is one of the other
pub moment_later : (c : Netlist) (list other : List (List Bool)) (p q d : ℕ) (moment : Moment)
    → GoOnAlike list other p q → IsSame c None list other p q → p + d ≤ length list
    → IsMoment c other (q + d) moment → IsMoment c list (p + d) moment
moment_later c list other p q d moment alike same inside is = record {
  good = is.good ∙ sym (state_later c None list other p q d alike same inside);
  values =
      subst (λ (v : List Bool). AreFrameValues c (terns_of v) moment.latches.items moment.values.items)
      (sym (vector_later list other p q d alike)) is.values;
}
