use Rattle.std.proofs.Common.{◌≡◌, ◌<◌, ◌∙◌, [], ℕ, List, length, replicate, rules, sym, ap, subst, arith}
use Rattle.std.specs.List.{All}
use Rattle.std.proofs.lemmas.List.{length-map, length-replicate}
use Rattle.ht_net.specs.declared.fault.Fault.{Fault}
use Rattle.ht_net.specs.Frames.Rows.{Rows}
use Rattle.ht_faults.specs.Sites.{faults_of}
use Rattle.ht_group.specs.declared.diffs.Diff.{Diff}
use Rattle.ht_proofs.specs.PackedView.{chosen_faults}
use Rattle.ht_compact.specs.declared.detected.DetectedFault.{DetectedFault}
use Rattle.ht_compact.specs.DetectedFaults.{fault_numbers}
use Rattle.ht_compact.proofs.GradedLaws.{may_begin}
use Rattle.ht_compact.proofs.compaction.ungraded_list.Goals as goal

pub returns-clause-may : goal.returns-clause-may
returns-clause-may c =
    let circuit = c.args.circuit.now in
    let detected = c.args.detected.now in
    let numbers = c.in_ok-wanted.wanted.items in
    let wanted : numbers ≡ fault_numbers detected = search rules in
    let long : c.len.result ≡ length numbers = omega (arith, c.len.ensures, c.in_ok-wanted.wanted.ok.0) in
    let none : c.in_ok-histories.histories.items ≡ replicate (length numbers) [] =
    c.in_ok-histories.ensures ∙ ap (λ (n : ℕ). replicate n []) long in
    may_begin circuit _ (record {
      width = ap (λ (r : Rows). r.width) c.in_ok-vectors.ensures ∙ c.inputs.ensures;
      known = subst (All (λ i. i < length (faults_of circuit))) (sym wanted) c.requires.detected.known;
      few = omega (
        arith,
        c.requires.detected.few,
        ap (λ (l : List ℕ). length l) wanted,
        length-map detected (λ (one : DetectedFault). one.fault),
      );
      faults = c.in_ok-faults.ensures
          ∙ (ap (λ (l : List Fault). chosen_faults l c.deref.result.now) c.requires.faults
          ∙ ap (chosen_faults (faults_of circuit)) c.deref.ensures.value);
      every = ap (λ (l : List (List (List Diff))). length l) none ∙ length-replicate (length numbers) [];
    }) c.new-moments.ensures.items none
