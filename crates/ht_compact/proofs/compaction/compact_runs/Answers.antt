use Rattle.std.proofs.Common.{◌≡◌, ℕ, List, Bool, length, sym, ◌∙◌, ap, subst, arith}
use Rattle.ht_net.specs.Detect.Detection.{unknown_state}
use Rattle.ht_proofs.specs.Detections.{AreFirstDetections}
use Rattle.ht_compact.specs.Rounds.{round_of, rounds_of}
use Rattle.ht_compact.specs.Compacts.{AreDetectedClasses, CompactsRuns, serves}
use Rattle.ht_compact.specs.DetectedFaults.{AreDetectedFaults, AreFoundClasses, fault_numbers}
use Rattle.ht_compact.proofs.RoundLaws.{round_within, rounds_end, rounds_go_on}
use Rattle.ht_compact.proofs.ServesLaws.{compaction_compacts, kept_is}
use Rattle.ht_compact.proofs.compaction.compact_runs.Goals as goal
use Rattle.ht_compact.proofs.compaction.compact_runs.Goals.{In_ok-detected}

found : (c : In_ok-detected)
    → AreFoundClasses c.args.circuit.now c.args.classes.now c.args.list.now.list c.in_ok-detected.detected.items
found c =
    let circuit = c.args.circuit.now in
    c.in_ok-detected.ensures circuit c.args.list.now.list c.requires.classes
    (subst (AreFirstDetections circuit c.args.classes.now (unknown_state circuit) c.args.list.now.list)
    (sym c.deref.ensures.value) c.in_ok-places.ensures.first)

pub graded_list-requires-clause-detected : goal.graded_list-requires-clause-detected
graded_list-requires-clause-detected c =
    subst (AreDetectedFaults c.args.circuit.now c.args.list.now.list) (sym c.deref-2.ensures.value)
    (found (goal.at.graded_list-requires-clause-detected c).In_ok-detected).faults

pub returns-then-len-before-clause-computed : goal.returns-then-len-before-clause-computed
returns-then-len-before-clause-computed c =
    let circuit = c.args.circuit.now in
    let classes = c.args.classes.now in
    let most = c.args.most in
    let list = c.args.list.now.list in
    let wanted = c.in_ok-kept.kept.wanted.items in
    let passes = serves circuit wanted in
    let before = c.loop-recent.kept.vectors.list in
    let after = c.leave_out.new.kept.vectors.list in
    let are : AreDetectedClasses circuit classes list wanted =
    subst (AreDetectedClasses circuit classes list)
    (sym (c.in_ok-kept.ensures.wanted ∙ ap fault_numbers c.deref-2.ensures.value))
    (found (goal.at.returns-then-len-before-clause-computed c).In_ok-detected).classes in
    let round : after ≡ round_of passes most before =
    subst (λ (l : List ℕ). after ≡ round_of (serves circuit l) most before) c.loop-recent.invariant.wanted
    c.in_ok-leave_out.ensures.round in
    let same : length after ≡ length before =
    omega (arith, c.len.ensures, c.if-len-before.true, c.len-before.ensures) in
    kept_is circuit classes most list after wanted are
    (ap (rounds_of passes most) (sym c.in_ok-kept.ensures.list)
    ∙ (c.loop-recent.invariant.rounds ∙ rounds_end passes most before after round same))

pub returns-then-len-before-clause-compacted : goal.returns-then-len-before-clause-compacted
returns-then-len-before-clause-compacted c =
    let circuit = c.args.circuit.now in
    let classes = c.args.classes.now in
    let list = c.args.list.now.list in
    subst (CompactsRuns circuit classes c.args.most list) (sym (returns-then-len-before-clause-computed c))
    (compaction_compacts circuit classes c.args.most list)

pub loop-recent-smaller : goal.loop-recent-smaller
loop-recent-smaller c =
    let kept = c.loop-recent.kept in
    omega (
      arith,
      round_within (serves c.args.circuit.now kept.wanted.items) c.args.most kept.vectors.list,
      ap (λ (l : List (List Bool)). length l) c.in_ok-leave_out.ensures.round,
      c.len.ensures,
      c.len-before.ensures,
      c.if-len-before.false,
    )

pub loop-recent-preserved : goal.loop-recent-preserved
loop-recent-preserved c =
    let circuit = c.args.circuit.now in
    let most = c.args.most in
    let passes = serves circuit c.in_ok-kept.kept.wanted.items in
    let before = c.loop-recent.kept.vectors.list in
    let after = c.leave_out.new.kept.vectors.list in
    let round : after ≡ round_of passes most before =
    subst (λ (l : List ℕ). after ≡ round_of (serves circuit l) most before) c.loop-recent.invariant.wanted
    c.in_ok-leave_out.ensures.round in
    record {
      circuit = c.in_ok-leave_out.ensures.circuit;
      graded = c.in_ok-leave_out.ensures.graded;
      wanted = c.in_ok-leave_out.ensures.wanted ∙ c.loop-recent.invariant.wanted;
      rounds = c.loop-recent.invariant.rounds
          ∙ rounds_go_on passes most before after round (λ same.
          absurd (omega (arith, same, c.len.ensures, c.len-before.ensures, c.if-len-before.false)));
    }
