-- A fault of a run, vector by vector.
use Rattle.std.proofs.Common.{◌≡◌, ◌<◌, ◌≤◌, ◌+◌, ◌-◌, ◌++◌, ◌∷◌, [], inl, inr, ℕ, List, Bool, Some, None, length, get_or, take, sym, ◌∙◌, ap, subst, arith, length-append}
use Rattle.std.proofs.lemmas.List.{get_or_append_left, take_more, take-take, length-take, length-take-le}
use Rattle.std.proofs.Math.Seq.{get_or-append_seam}
use Rattle.ht_tern.specs.declared.tern.Tern.{Tern}
use Rattle.ht_net.specs.declared.fault.Fault.{Fault}
use Rattle.ht_net.specs.declared.place.Place.{Place}
use Rattle.ht_net.specs.Circuit.Netlist.{Netlist}
use Rattle.ht_net.specs.Frames.Frame.{next_state}
use Rattle.ht_net.specs.Frames.Faults.{tern_rules}
use Rattle.ht_net.specs.Detect.Detection.{Detects, IsFirstFrom, state_from, terns_of, unknown_state}
use Rattle.ht_net.proofs.FrameLaws.{le_or_lt}
use Rattle.ht_group.specs.declared.diffs.Diff.{Diff}
use Rattle.ht_group.specs.Differences.{with_differences}
use Rattle.ht_group.specs.GroupView.{AreLatches, GroupView}
use Rattle.ht_proofs.specs.declared.grade.Grade.{Grade}
use Rattle.ht_proofs.specs.Applied.{IsFirstSeen, good_state}
use Rattle.ht_proofs.specs.Batches.{machine_from}
use Rattle.ht_proofs.specs.LaneGrades.{IsGradedFault}
use Rattle.ht_proofs.proofs.VectorLaws.{IsLast, first_new, found_inside, option_cases}
use Rattle.ht_compact.specs.declared.runners.Runner.{Runner}
use Rattle.ht_compact.specs.Kept.{continued}
use Rattle.ht_compact.specs.Moments.{HoldsMachine, IsFaultHistory, IsUndetectedBefore, state_before}
use Rattle.ht_compact.specs.Runs.{HasJoined, HasLogged, IsRunner, IsRunning}
use Rattle.ht_compact.proofs.FrontLaws.{detects_in_front, same_in_front}
use Rattle.ht_compact.proofs.HistoryLaws.{HasFront, joined_history, shown_history}
use Rattle.ht_compact.proofs.StateLaws.{GoOnAlike, state_more}

-- ---- a frame of one fault

-- a fault that no vector before detects is detected by none of the first vectors
none_in_front : (c : Netlist) (fault : Fault) (list : List (List Bool)) (s : ℕ) → IsUndetectedBefore c fault list s
    → IsFirstFrom c fault (unknown_state c) (take s list) None
none_in_front c fault list s none t o is =
    let inside = found_inside c fault (unknown_state c) (take s list) t o is in
    none t o (omega (arith, inside, length-take s list)) (detects_in_front c fault list s t o is)

-- and the other way round
none_before : (c : Netlist) (fault : Fault) (list : List (List Bool)) (s : ℕ)
    → IsFirstFrom c fault (unknown_state c) (take s list) None → IsUndetectedBefore c fault list s
none_before c fault list s none t o less is =
    none t o (same_in_front c fault list (take s list) s t o (sym (take-take s s list (omega arith))) less is)

-- The frame of vector s of the list, with what the good machine holds before it, and the differences of a fault.
pub record IsFrameOf (c : Netlist) (fault : Fault) (list : List (List Bool)) (s : ℕ) (frame : GroupView)
    (diffs : List Diff) : Type 0 where
  pub circuit : frame.circuit ≡ c
  pub vector : frame.vector ≡ terns_of (get_or list s [])
  pub good : frame.latches ≡ state_before c None list s
  pub holds : HoldsMachine c fault list s diffs
  pub inside : s < length list

-- what the faulty machine holds before the frame
machine_latches : (c : Netlist) (fault : Fault) (list : List (List Bool)) (s : ℕ) (frame : GroupView)
    (diffs : List Diff) → IsFrameOf c fault list s frame diffs
    → with_differences frame.latches diffs ≡ state_before c (Some fault) list s
machine_latches c fault list s frame diffs is =
    ap (λ (l : List Tern). with_differences l diffs) is.good ∙ is.holds.state

-- the first detection by the first vectors, one more of them
first_by : (c : Netlist) (fault : Fault) (list : List (List Bool)) (s : ℕ) (frame : GroupView) (old new : Grade)
    → IsFrameOf c fault list s frame old.diffs → IsGradedFault frame (machine_from frame fault old) s new
    → IsFirstFrom c fault (unknown_state c) (take (s + 1) list) new.verdict
first_by c fault list s frame old new is graded =
    let front = take s list in
    let start = unknown_state c in
    let v = get_or list s [] in
    let m = machine_from frame fault old in
    let last : IsLast frame m start front v = record {
      vector = is.vector;
      good = is.good ∙ ap (λ (n : Netlist). state_from n None start front) (sym is.circuit);
      faulty = machine_latches c fault list s frame old.diffs is
          ∙ ap (λ (n : Netlist). state_from n (Some fault) start front) (sym is.circuit);
    } in
    let none = subst (λ (n : Netlist). IsFirstFrom n fault start front None) (sym is.circuit)
    (none_in_front c fault list s is.holds.undetected) in
    let count : s ≡ length front = sym (length-take-le s list (omega (arith, is.inside))) in
    subst (λ (l : List (List Bool)). IsFirstFrom c fault start l new.verdict) (sym (take_more list s [] is.inside))
    (subst (λ (n : Netlist). IsFirstFrom n fault start (front ++ v ∷ []) new.verdict) is.circuit
    (first_new frame m start front v s new.verdict last count none graded.seen))

-- what the good machine holds after the frame
good_after : (c : Netlist) (fault : Fault) (list : List (List Bool)) (s : ℕ) (frame : GroupView) (diffs : List Diff)
    → IsFrameOf c fault list s frame diffs → good_state frame ≡ state_before c None list (s + 1)
good_after c fault list s frame diffs is =
    ap (λ (n : Netlist). next_state n (tern_rules None) frame.vector frame.latches) is.circuit
    ∙ (ap (λ (w : List Tern). next_state c (tern_rules None) w frame.latches) is.vector
    ∙ (ap (next_state c (tern_rules None) (terns_of (get_or list s []))) is.good
    ∙ sym (state_more c None list s is.inside)))

-- a fault that stays undetected
still_holds : (c : Netlist) (fault : Fault) (list : List (List Bool)) (s : ℕ) (frame : GroupView)
    (old new : Grade) → IsFrameOf c fault list s frame old.diffs
    → IsGradedFault frame (machine_from frame fault old) s new → new.verdict ≡ None
    → HoldsMachine c fault list (s + 1) new.diffs
still_holds c fault list s frame old new is graded none =
    let v = terns_of (get_or list s []) in
    let r = tern_rules (Some fault) in
    record {
      state = ap (λ (l : List Tern). with_differences l new.diffs)
          (sym (good_after c fault list s frame old.diffs is))
          ∙ (graded.state none
          ∙ (ap (λ (n : Netlist). next_state n r frame.vector (with_differences frame.latches old.diffs)) is.circuit
          ∙ (ap (λ (w : List Tern). next_state c r w (with_differences frame.latches old.diffs)) is.vector
          ∙ (ap (next_state c r v) (machine_latches c fault list s frame old.diffs is)
          ∙ sym (state_more c (Some fault) list s is.inside)))));
      undetected = none_before c fault list (s + 1)
          (subst (IsFirstFrom c fault (unknown_state c) (take (s + 1) list)) none
          (first_by c fault list s frame old new is graded));
      known = subst (λ (n : Netlist). AreLatches n new.diffs) is.circuit graded.known;
    }

-- a fault that the vector detects
found_here : (c : Netlist) (fault : Fault) (list : List (List Bool)) (s : ℕ) (frame : GroupView)
    (old new : Grade) (p : Place) → IsFrameOf c fault list s frame old.diffs
    → IsGradedFault frame (machine_from frame fault old) s new → new.verdict ≡ Some p
    → Detects c fault list s p.output
found_here c fault list s frame old new p is graded found =
    let m = machine_from frame fault old in
    let seen : IsFirstSeen frame m s (length frame.circuit.outputs) (Some p) =
    subst (IsFirstSeen frame m s (length frame.circuit.outputs)) found graded.seen in
    let first = subst (IsFirstFrom c fault (unknown_state c) (take (s + 1) list)) found
    (first_by c fault list s frame old new is graded) in
    subst (λ (t : ℕ). Detects c fault list t p.output) seen.0
    (detects_in_front c fault list (s + 1) p.vector p.output first.0)

-- ---- one vector more

-- A runner before and after a frame.
pub record IsFrameOfRunner (c : Netlist) (fault : Fault) (list : List (List Bool)) (from n : ℕ) (frame : GroupView)
    (old new : Runner) (was is : Grade) : Type 0 where
  pub frame_of : was.verdict ≡ None → HoldsMachine c fault list (from + n) was.diffs
      → IsFrameOf c fault list (from + n) frame was.diffs
  pub logged : HasLogged was old new
  pub kept : (p : Place) → was.verdict ≡ Some p → is ≡ was
  pub graded : was.verdict ≡ None → IsGradedFault frame (machine_from frame fault was) (from + n) is

-- a fault that was running and isn't shown runs on
runs_on : (c : Netlist) (fault : Fault) (list : List (List Bool)) (from n : ℕ) (frame : GroupView)
    (log : List (List Diff)) (was is : Grade) → IsFrameOf c fault list (from + n) frame was.diffs
    → IsGradedFault frame (machine_from frame fault was) (from + n) is → is.verdict ≡ None
    → IsRunning c fault list from n log was.diffs
    → IsRunning c fault list from (n + 1) (log ++ was.diffs ∷ []) is.diffs
runs_on c fault list from n frame log was is frame_of graded none running = record {
  every = omega (arith, length-append log (was.diffs ∷ []), running.every);
  each = λ k less. elim (le_or_lt n k) [
    | inl last ↦
        let here : length log ≡ k = omega (arith, last, less, running.every) in
        let at : from + n ≡ from + k = omega (arith, last, less) in
        subst (λ (i : ℕ). HoldsMachine c fault list (from + k) (get_or (log ++ was.diffs ∷ []) i [])) here
        (subst (HoldsMachine c fault list (from + k)) (sym (get_or-append_seam log was.diffs [] []))
        (subst (λ (t : ℕ). HoldsMachine c fault list t was.diffs) at running.now))
    | inr before ↦
        subst (HoldsMachine c fault list (from + k))
        (sym (get_or_append_left log (was.diffs ∷ []) [] k (omega (arith, before, running.every))))
        (running.each k before)
  ];
  now =
      subst (λ (t : ℕ). HoldsMachine c fault list t is.diffs) (omega arith)
      (still_holds c fault list (from + n) frame was is frame_of graded none);
}

-- the runner after the frame
pub runner_more : (c : Netlist) (fault : Fault) (list : List (List Bool)) (from n : ℕ) (frame : GroupView)
    (history : List (List Diff)) (old new : Runner) (was is : Grade) → HasFront c fault list from history
    → IsRunner c fault list from n history old was → IsFrameOfRunner c fault list from n frame old new was is
    → IsRunner c fault list from (n + 1) history new is
runner_more c fault list from n frame history old new was is front runner through =
    elim (option_cases was.verdict) [
      | inl none ↦ open_more none
      | inr p ↦
          subst (λ (r : Runner). IsRunner c fault list from (n + 1) history r is) (sym (through.logged.ended p.0 p.1))
          (subst (IsRunner c fault list from (n + 1) history old) (sym (through.kept p.0 p.1)) (record {
            order = runner.order;
            running = λ none. let bad : Some p.0 ≡ None = sym p.1 ∙ none in cc;
            ended = runner.ended;
          }))
    ]
  where
    open_more : was.verdict ≡ None → IsRunner c fault list from (n + 1) history new is
    open_more none =
        let run = runner.running none in
        let frame_of = through.frame_of none run.1.now in
        let graded = through.graded none in
        let more : Runner = record old { log = old.log ++ was.diffs ∷ [] } in
        subst (λ (r : Runner). IsRunner c fault list from (n + 1) history r is) (sym (through.logged.running none))
        (record {
          order = runner.order;
          running = λ still.
              (run.0, runs_on c fault list from n frame old.log was is frame_of graded still run.1);
          ended = λ p found.
              subst (λ (r : ℕ). IsFaultHistory c fault list (continued from history more.log r)) (sym run.0)
              (shown_history c fault list from n history old.log was.diffs p.output front run.1
              (found_here c fault list (from + n) frame was is p frame_of graded found));
        })

-- ---- a fault that joins

-- it has ended
pub runner_joined : (c : Netlist) (fault : Fault) (list other : List (List Bool)) (from n q : ℕ)
    (history : List (List Diff)) (old new : Runner) (was is : Grade) → HasFront c fault list from history
    → IsRunner c fault list from n history old was → HasJoined history q was is old new
    → IsFaultHistory c fault other history → state_before c None list (from + n) ≡ state_before c None other q
    → GoOnAlike list other (from + n) q → from + n + (length other - q) ≡ length list → from ≤ q
    → IsRunner c fault list from n history new is
runner_joined c fault list other from n q history old new was is front runner joins known good alike long order =
    let run = runner.running joins.none in
    let ends : Grade = record was { verdict = Some (record { vector = q; output = 0 }) } in
    let on : Runner = record old { rest = q } in
    subst (λ (r : Runner). IsRunner c fault list from n history r is) (sym joins.runner)
    (subst (IsRunner c fault list from n history on) (sym joins.grade) (record {
      order = order;
      running = λ none. let bad : ends.verdict ≡ None = none in cc;
      ended = λ p found.
          joined_history c fault list other from n q history old.log was.diffs front run.1 known joins.inside joins.same
          good alike long;
    }))
