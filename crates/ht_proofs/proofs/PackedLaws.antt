-- A grader's fields, before the first vector and after one more.
use Rattle.std.proofs.Common.{◌≡◌, ◌<◌, ◌≤◌, ◌+◌, ◌*◌, ◌^◌, ◌∙◌, ℕ, zero, suc, List, [], ◌∷◌, Bool, true, All, Option, Some, None, length, get_or, map, replicate, cond, inl, inr, refl, sym, ap, subst, arith}
use Rattle.std.specs.Prelude.{unwrap_or}
use Rattle.std.specs.Option.{is_none}
use Rattle.std.specs.List.{slice_get, count_by, fold, range_with_len}
use Rattle.std.proofs.lemmas.List.{ext_get_or, get_or-map, get_or_past, get_or-replicate, get_or_read, length-map, length-replicate}
use Rattle.std.proofs.lemmas.List.FromFn.{get_or-map-range_with_len, length-map-range_with_len}
use Rattle.std.proofs.lemmas.List.Elements.{All-get_or}
use Rattle.std.proofs.lemmas.Option.{get_or_from_slice_get, slice_get_within, slice_get-get_or}
use Rattle.ht_tern.specs.declared.tern.Tern.{Tern}
use Rattle.ht_tern.specs.declared.tern.Tern.TheVariants.{Unk}
use Rattle.ht_net.specs.declared.fault.Site.{Site}
use Rattle.ht_net.specs.declared.fault.Site.TheVariants.{Stem, DffPin, GatePin}
use Rattle.ht_net.specs.declared.fault.Fault.{Fault}
use Rattle.ht_net.specs.declared.place.Place.{Place}
use Rattle.ht_net.specs.Circuit.Netlist.{Netlist}
use Rattle.ht_net.specs.Frames.Faults.{tern_rules}
use Rattle.ht_net.proofs.FrameLaws.{le_or_lt}
use Rattle.ht_faults.specs.FaultList.{no_fault}
use Rattle.ht_faults.specs.Sites.{IsFaultSite, faults_of}
use Rattle.ht_faults.proofs.MemberLaws.{fault_site}
use Rattle.ht_group.specs.Differences.{held, value_but, with_differences}
use Rattle.ht_net.specs.Detect.Detection.{IsStart}
use Rattle.ht_stems.specs.Arrivals.{HasLine}
use Rattle.ht_group.specs.GroupView.{GroupView, FaultyMachine, AreLatches, words_for}
use Rattle.ht_proofs.specs.declared.grade.Grade.{Grade}
use Rattle.ht_proofs.specs.PackedView.{PackedView, GraderStandsFor, chosen_faults, grades_at_start, state_at, verdict_at}
use Rattle.ht_proofs.specs.Applied.{IsApplied, IsFirstSeen, faulty_state, good_state, grader_frame, groups_of, live_count, machine_at}
use Rattle.ht_proofs.specs.LaneGrades.{no_grade, grade_at}
use Rattle.ht_proofs.specs.Batches.{IsGradedFrame, machine_from, undetected_count}
use Rattle.ht_proofs.specs.Undetected.{is_undetected, undetected_of, verdicts_of}
use Rattle.ht_proofs.specs.PackedOf.{IsPackedGrader, faulty_states}
use Rattle.ht_proofs.proofs.DiffLaws.{no_differences, state_length}
use Rattle.ht_proofs.proofs.UndetectedLaws.{filter_each, verdict_of}
use Rattle.ht_proofs.proofs.VectorLaws.{found_inside, option_cases}

-- ---- what is read of the grades

-- the latches of a fault's machine are the good ones but for its differences
pub state_of : (latches : List Tern) (grades : List Grade) (k : ℕ) → k < length grades
    → get_or (faulty_states latches grades) k [] ≡ with_differences latches (grade_at grades k).diffs
state_of latches grades k inside =
    get_or-map (λ (g : Grade). with_differences latches g.diffs) grades k no_grade [] inside

-- it has a value for each latch
pub state_long : (latches : List Tern) (grades : List Grade) (k : ℕ) → k < length grades
    → length (get_or (faulty_states latches grades) k []) ≡ length latches
state_long latches grades k known =
    ap (λ (l : List Tern). length l) (state_of latches grades k known)
    ∙ length-map-range_with_len (value_but latches (grade_at grades k).diffs) 0 (length latches)

-- the latch of a fault's machine
pub latch_is : (latches : List Tern) (grades : List Grade) (k j : ℕ) (grade : Grade) (good value : Tern)
    → k < length grades → j < length latches → grade ≡ get_or grades k grade → good ≡ get_or latches j good
    → value ≡ unwrap_or (held grade.diffs j) good
    → value ≡ get_or (get_or (faulty_states latches grades) k []) j Unk
latch_is latches grades k j grade good value known inside at good_at is =
    let here : grade ≡ grade_at grades k = get_or_read grades k grade known at no_grade in
    let there : good ≡ get_or latches j Unk = get_or_read latches j good inside good_at Unk in
    is ∙ (ap (λ (g : Grade). unwrap_or (held g.diffs j) good) here
    ∙ (ap (λ v. unwrap_or (held (grade_at grades k).diffs j) v) there
    ∙ (sym (get_or-map-range_with_len (value_but latches (grade_at grades k).diffs) 0 (length latches) j j Unk inside
    (omega arith))
    ∙ ap (λ (l : List Tern). get_or l j Unk) (sym (state_of latches grades k known)))))

-- ---- what isn't detected

counted_mapped : {X Y : Type 0} → (p : Y → Bool) (f : X → Y) (xs : List X) (start : ℕ)
    → fold (λ n y. n + cond (p y) 1 0) start (map f xs) ≡ fold (λ n x. n + cond (p (f x)) 1 0) start xs
counted_mapped p f [] start = refl
counted_mapped p f (x ∷ xs) start = counted_mapped p f xs (start + cond (p (f x)) 1 0)

-- as many faults aren't detected as grades have no verdict
live_grades : (g : PackedView) (grades : List Grade) → g.verdicts ≡ verdicts_of grades
    → length grades ≡ length g.faults → undetected_count grades ≡ live_count g
live_grades g grades is each =
    let numbers = range_with_len 0 (length g.faults) in
    let read : map (grade_at grades) numbers ≡ grades = ext_get_or no_grade (map (grade_at grades) numbers) grades
    (length-map-range_with_len (grade_at grades) 0 (length g.faults) ∙ sym each)
    (λ k inside. get_or-map-range_with_len (grade_at grades) 0 (length g.faults) k k no_grade (omega (
      arith,
      inside,
      length-map-range_with_len (grade_at grades) 0 (length g.faults),
    )) (omega arith)) in
    ap undetected_count (sym read)
    ∙ (counted_mapped (λ (x : Grade). is_none x.verdict) (grade_at grades) numbers 0
    ∙ ap (λ (f : ℕ → Option Place). count_by (λ k. is_none (f k)) numbers)
    (λ i k. (sym (verdict_of grades k) ∙ ap (λ (l : List (Option Place)). get_or l k None) (sym is)) i))

-- the steps of the good machine and of all groups
pub steps_within : (g h : PackedView) (grades given : List Grade) (frame start : GroupView) (before mid after : ℕ)
    → g ≡ h → g.verdicts ≡ verdicts_of grades → length grades ≡ length g.faults → given ≡ grades → frame ≡ start
    → start.circuit ≡ g.circuit → mid ≤ before + length start.circuit.gates
    → after ≤ mid + length frame.circuit.gates * words_for (undetected_count given)
    → after ≤ before + length h.circuit.gates * (1 + groups_of h)
steps_within g h grades given frame start before mid after view is each same begun circuit good more =
    let live = ap undetected_count same ∙ (live_grades g grades is each ∙ ap live_count view) in
    let here = subst (λ n. after ≤ mid + length frame.circuit.gates * words_for n) live more in
    let there = circuit ∙ ap (λ (x : PackedView). x.circuit) view in
    subst (λ (c : Netlist). after ≤ before + length c.gates * (1 + groups_of h)) there
    (omega (
      arith,
      good,
      subst (λ (f : GroupView). after ≤ mid + length f.circuit.gates * groups_of h) begun here,
    ))

-- ---- before the first vector

none_at_start : (n k : ℕ) → get_or {A = Option Place} (replicate n None) k None ≡ None
none_at_start n k = elim (le_or_lt n k) [
  | inl past ↦ get_or_past (replicate n None) k None (omega (arith, past, length-replicate {A = Option Place} n None))
  | inr inside ↦ get_or-replicate n k None None inside
]

grade_at_start : (n k : ℕ) → grade_at (replicate n no_grade) k ≡ no_grade
grade_at_start n k = elim (le_or_lt n k) [
  | inl past ↦ get_or_past (replicate n no_grade) k no_grade (omega (arith, past, length-replicate n no_grade))
  | inr inside ↦ get_or-replicate n k no_grade no_grade inside
]

states_at_start : (latches : List Tern) (n : ℕ) → faulty_states latches (replicate n no_grade) ≡ replicate n latches
states_at_start latches zero = refl
states_at_start latches (suc n) =
    ap (λ (l : List Tern). l ∷ faulty_states latches (replicate n no_grade)) (no_differences latches)
    ∙ ap (λ l. latches ∷ l) (states_at_start latches n)

verdicts_at_start : (n : ℕ) → replicate n None ≡ verdicts_of (replicate n no_grade)
verdicts_at_start zero = refl
verdicts_at_start (suc n) = ap (λ l. None ∷ l) (verdicts_at_start n)

-- at the start every fault is undetected
undetected_at_start : (n : ℕ) → undetected_of (replicate n None) ≡ range_with_len 0 n
undetected_at_start n =
    let none : List (Option Place) = replicate n None in
    filter_each (is_undetected none) (λ k. ap (λ (v : Option Place). is_none v) (none_at_start n k))
    (range_with_len 0 (length none))
    ∙ ap (range_with_len 0) (length-replicate {A = Option Place} n None)

-- a grader before the first vector stands for the list of no vectors
pub start_stands : (c : Netlist) (start : List Tern) (faults : List Fault)
    → GraderStandsFor (grades_at_start c start faults) start []
start_stands c start faults = record {
  counted = refl;
  good = refl;
  first = λ k fault has.
      rw (none_at_start (length faults) k) (λ t o d. absurd (omega (arith, found_inside c fault start [] t o d)));
  state = λ k fault has none.
      get_or-replicate (length faults) k start [] (slice_get_within faults k fault has);
}

-- the circuit has the lines of the fault list
pub line_there : (c : Netlist) (site : Site) → IsFaultSite c site → HasLine c site
line_there c (Stem x) h = h
line_there c (DffPin j) h = h.0
line_there c (GatePin g i) h = (h.0, h.1)

pub chosen_lines : (c : Netlist) (faults : List Fault) (which : List ℕ) (k : ℕ) (fault : Fault) → faults ≡ faults_of c
    → All (λ i. i < length faults) which → slice_get (chosen_faults faults which) k ≡ Some fault
    → HasLine c fault.site
chosen_lines c faults which k fault is known has =
    let pick : ℕ → Fault = λ i. get_or faults i no_fault in
    let inside : k < length which =
    omega (arith, slice_get_within (chosen_faults faults which) k fault has, length-map which pick) in
    let at : fault ≡ pick (get_or which k 0) =
    sym (get_or_from_slice_get (chosen_faults faults which) k fault no_fault has)
    ∙ get_or-map pick which k 0 no_fault inside in
    let below : get_or which k 0 < length faults = All-get_or (λ i. i < length faults) which k 0 inside known in
    let there : fault ≡ get_or (faults_of c) (get_or which k 0) no_fault =
    at ∙ ap (λ (l : List Fault). get_or l (get_or which k 0) no_fault) is in
    subst (λ (f : Fault). HasLine c f.site) (sym there)
    (line_there c _ (fault_site c (get_or which k 0)
    (omega (arith, below, ap (λ (l : List Fault). length l) is))))

-- the fields at the start
pub start_fields : (c d : Netlist) (start : List Tern) (faults : List Fault) (which : List ℕ) (chosen : List Fault)
    (latches : List Tern)
    (verdicts : List (Option Place)) (undetected : List ℕ) (grades : List Grade) → faults ≡ faults_of c
    → All (λ i. i < length faults) which → d ≡ c → IsStart c start → chosen ≡ chosen_faults faults which
    → latches ≡ start
    → verdicts ≡ replicate (length chosen) None → undetected ≡ range_with_len 0 (length chosen)
    → grades ≡ replicate (length chosen) no_grade
    → IsPackedGrader d chosen 0 latches verdicts undetected grades true
start_fields c d start faults which chosen latches verdicts undetected grades is known same long picked begun none all
    empty =
    subst (λ (x : Netlist). IsPackedGrader x chosen 0 latches verdicts undetected grades true) (sym same) (record {
      latch_count = ap (λ (l : List Tern). length l) begun ∙ long;
      verdict_count = ap (λ (l : List (Option Place)). length l) none ∙ length-replicate (length chosen) None;
      grade_count = ap (λ (l : List Grade). length l) empty ∙ length-replicate (length chosen) no_grade;
      lines = λ k fault has. chosen_lines c faults which k fault is known
          (ap (λ (l : List Fault). slice_get l k) (sym picked) ∙ has);
      few = omega arith;
      places = λ k p at.
          let bad : None ≡ Some p =
          sym (ap (λ (l : List (Option Place)). get_or l k None) none ∙ none_at_start (length chosen) k) ∙ at in
          cc;
      listed = all ∙ (sym (undetected_at_start (length chosen)) ∙ ap undetected_of (sym none));
      same = λ live. none ∙ (verdicts_at_start (length chosen) ∙ ap verdicts_of (sym empty));
      known = λ live k.
          subst (λ (g : Grade). AreLatches c g.diffs)
          (sym (ap (λ (l : List Grade). grade_at l k) empty ∙ grade_at_start (length chosen) k))
          (λ i d less. absurd (omega arith));
    })

-- a grader by its parts
abbrev pub grades_by : Netlist → List Fault → ℕ → List Tern → List (Option Place) → List Grade → Bool → PackedView
grades_by c faults count latches verdicts grades live = record {
  circuit = c;
  faults = faults;
  count = count;
  latches = latches;
  verdicts = verdicts;
  states = faulty_states latches grades;
  live = live;
}

-- fields as they are at the start are a grader before the first vector
pub start_view : (c d : Netlist) (start : List Tern) (faults : List Fault) (latches : List Tern)
    (verdicts : List (Option Place))
    (grades : List Grade) → d ≡ c → latches ≡ start → verdicts ≡ replicate (length faults) None
    → grades ≡ replicate (length faults) no_grade
    → grades_by d faults 0 latches verdicts grades true ≡ grades_at_start c start faults
start_view c d start faults latches verdicts grades same begun none empty =
    let states : faulty_states latches grades ≡ replicate (length faults) start =
    ap (faulty_states latches) empty
    ∙ (states_at_start latches (length faults) ∙ ap (replicate (length faults)) begun) in
    λ i. record {
      circuit = same i;
      faults = faults;
      count = 0;
      latches = begun i;
      verdicts = none i;
      states = states i;
      live = true;
    }

-- ---- after one more vector

-- A frame of all faults has run: `old` and `new` are what was kept of the faults before it and after it.
pub record HasRun (g : PackedView) (old : List Grade) (vector : List Bool) (frame : GroupView) (h : PackedView)
    (new : List Grade) : Type 0 where
  pub frame_is : frame ≡ grader_frame g vector
  pub old_is : g ≡ grades_by g.circuit g.faults g.count g.latches (verdicts_of old) old g.live
  pub new_is : h ≡ grades_by g.circuit g.faults (g.count + 1) (good_state frame) (verdicts_of new) new true
  pub each : length old ≡ length g.faults
  pub long : length new ≡ length old
  pub all : IsGradedFrame frame g.faults g.count old new

-- after a frame of all faults has run, one more vector was applied
pub is_applied : (g : PackedView) (old : List Grade) (vector : List Bool) (frame : GroupView) (h : PackedView)
    (new : List Grade) → HasRun g old vector frame h new → IsApplied g vector h
is_applied g old vector frame h new run = record {
  circuit_same = ap (λ (x : PackedView). x.circuit) run.new_is;
  faults_same = ap (λ (x : PackedView). x.faults) run.new_is;
  counted = ap (λ (x : PackedView). x.count) run.new_is;
  good = ap (λ (x : PackedView). x.latches) run.new_is ∙ ap good_state run.frame_is;
  kept = λ k p at. new_verdict k
      ∙ (ap (λ (x : Grade). x.verdict) (run.all.kept k p (sym (old_verdict k) ∙ at)) ∙ (sym (old_verdict k) ∙ at));
  seen = λ k fault has none.
      let graded = run.all.graded k fault has (sym (old_verdict k) ∙ none) in
      let place = (grade_at new k).verdict in
      subst (IsFirstSeen (grader_frame g vector) (machine_at g k fault) g.count (length g.circuit.outputs))
      (sym (new_verdict k))
      (subst (λ (m : FaultyMachine). IsFirstSeen (grader_frame g vector) m g.count (length g.circuit.outputs) place)
      (machine k fault has)
      (subst (λ (f : GroupView). IsFirstSeen f (machine_from f fault (grade_at old k)) g.count
      (length f.circuit.outputs) place) run.frame_is graded.seen));
  state = λ k fault has none.
      let not_yet : (grade_at new k).verdict ≡ None = sym (new_verdict k) ∙ none in
      let graded = run.all.graded k fault has (still k not_yet) in
      ap (λ (x : PackedView). state_at x k) run.new_is
      ∙ (state_of (good_state frame) new k (omega (arith, slice_get_within g.faults k fault has, run.each, run.long))
      ∙ (graded.state not_yet
      ∙ (ap (λ (f : GroupView). faulty_state f (machine_from f fault (grade_at old k))) run.frame_is
      ∙ ap (faulty_state (grader_frame g vector)) (machine k fault has))));
  goes_on = ap (λ (x : PackedView). x.live) run.new_is;
}
  where
    old_verdict : (k : ℕ) → verdict_at g k ≡ (grade_at old k).verdict
    old_verdict k = ap (λ (x : PackedView). verdict_at x k) run.old_is ∙ verdict_of old k

    new_verdict : (k : ℕ) → verdict_at h k ≡ (grade_at new k).verdict
    new_verdict k = ap (λ (x : PackedView). verdict_at x k) run.new_is ∙ verdict_of new k

    still : (k : ℕ) → (grade_at new k).verdict ≡ None → (grade_at old k).verdict ≡ None
    still k none = elim (option_cases (grade_at old k).verdict) [
      | inl not_yet ↦ not_yet
      | inr p ↦
          let bad : None ≡ Some p.0 = sym none ∙ (ap (λ (x : Grade). x.verdict) (run.all.kept k p.0 p.1) ∙ p.1) in
          cc
    ]

    machine : (k : ℕ) (fault : Fault) → slice_get g.faults k ≡ Some fault
        → machine_from (grader_frame g vector) fault (grade_at old k) ≡ machine_at g k fault
    machine k fault has =
        ap (λ (l : List Tern). record { fault = fault; latches = l })
        (sym (ap (λ (x : PackedView). state_at x k) run.old_is
        ∙ state_of g.latches old k (omega (arith, slice_get_within g.faults k fault has, run.each))))

-- the fields after it
pub run_fields : (g : PackedView) (old : List Grade) (vector : List Bool) (frame : GroupView) (h : PackedView)
    (new : List Grade) (before after : List ℕ) → HasRun g old vector frame h new
    → IsPackedGrader g.circuit g.faults g.count g.latches g.verdicts before old g.live → g.count < 2 ^ 62
    → ((k : ℕ) → AreLatches frame.circuit (grade_at new k).diffs) → after ≡ undetected_of (verdicts_of new)
    → IsPackedGrader h.circuit h.faults h.count h.latches h.verdicts after new h.live
run_fields g old vector frame h new before after run was few known listed =
    let circuit : frame.circuit ≡ g.circuit = ap (λ (f : GroupView). f.circuit) run.frame_is in
    subst (λ (x : PackedView). IsPackedGrader x.circuit x.faults x.count x.latches x.verdicts after new x.live)
    (sym run.new_is) (record {
      latch_count = state_length frame.circuit (tern_rules None) frame.vector frame.latches
          ∙ ap (λ (c : Netlist). length c.dffs) circuit;
      verdict_count = length-map new (λ (x : Grade). x.verdict) ∙ (run.long ∙ run.each);
      grade_count = run.long ∙ run.each;
      lines = was.lines;
      few = omega (arith, few);
      places = λ k p at. place k p (sym (verdict_of new k) ∙ at);
      listed = listed;
      same = λ live. refl;
      known = λ live k. subst (λ (c : Netlist). AreLatches c (grade_at new k).diffs) circuit (known k);
    })
  where
    new_place : (k : ℕ) (p : Place) → (grade_at new k).verdict ≡ Some p → (grade_at old k).verdict ≡ None
        → (p.vector < g.count + 1) × (p.output < length g.circuit.outputs)
    new_place k p at not_yet = elim (le_or_lt (length new) k) [
      | inl past ↦
          let bad : None ≡ Some p = ap (λ (x : Grade). x.verdict) (sym (get_or_past new k no_grade past)) ∙ at in
          cc
      | inr inside ↦
          let fault = get_or g.faults k no_fault in
          let has : slice_get g.faults k ≡ Some fault =
          slice_get-get_or g.faults k no_fault (omega (arith, inside, run.long, run.each)) in
          let seen = subst (IsFirstSeen frame (machine_from frame fault (grade_at old k)) g.count
          (length frame.circuit.outputs)) at (run.all.graded k fault has not_yet).seen in
          let outputs = ap (λ (f : GroupView). length f.circuit.outputs) run.frame_is in
          (omega (arith, seen.0), omega (arith, seen.1, outputs))
    ]

    place : (k : ℕ) (p : Place) → (grade_at new k).verdict ≡ Some p
        → (p.vector < g.count + 1) × (p.output < length g.circuit.outputs)
    place k p at = elim (option_cases (grade_at old k).verdict) [
      | inl not_yet ↦ new_place k p at not_yet
      | inr q ↦
          let kept = ap (λ (x : Grade). x.verdict) (run.all.kept k q.0 q.1) in
          let same : Some q.0 ≡ Some p = sym q.1 ∙ (sym kept ∙ at) in
          let before = ap (λ (x : PackedView). verdict_at x k) run.old_is ∙ verdict_of old k in
          let here = was.places k p (before ∙ (q.1 ∙ same)) in
          (omega (arith, here.0), here.1)
    ]
