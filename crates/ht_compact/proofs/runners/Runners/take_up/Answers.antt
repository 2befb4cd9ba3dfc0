use Rattle.std.proofs.Common.{◌≡◌, ◌<◌, ◌≤◌, ◌∙◌, [], ℕ, List, None, length, get_or, refl, ap, subst}
use Rattle.std.specs.List.{slice_get}
use Rattle.ht_net.specs.declared.fault.Fault.{Fault}
use Rattle.ht_net.specs.Detect.Detection.{unknown_state}
use Rattle.ht_group.specs.declared.diffs.Diff.{Diff}
use Rattle.ht_proofs.specs.declared.grade.Grade.{Grade}
use Rattle.ht_compact.specs.declared.runners.Runner.{Runner}
use Rattle.ht_compact.specs.declared.moment.Moment.{Moment}
use Rattle.ht_compact.proofs.RunLaws.{first_run, latches_first}
use Rattle.ht_compact.proofs.runners.Runners.take_up.Goals as goal

-- a runner that has run no vector, and what is kept of its fault
abbrev fresh : ℕ → ℕ → Runner
fresh place rest = record { place = place; log = []; rest = rest }

abbrev ungraded : List Diff → Grade
ungraded diffs = record { verdict = None; diffs = diffs }

pub returns-clause-run : goal.returns-clause-run
returns-clause-run c =
    let circuit = c.args.circuit.now in
    let graded = c.args.graded.now in
    let from = c.args.part.from in
    let to = c.args.part.to in
    let latches = c.in_ok-latches.latches.items in
    let known : (d : Moment) → from < length graded.moments.items
    → latches ≡ (get_or graded.moments.items from d).latches.items =
    subst (λ (l : List Moment). (d : Moment) → from < length l → latches ≡ (get_or l from d).latches.items)
    c.deref.ensures.value c.in_ok-latches.ensures.known in
    let unknown : length graded.moments.items ≤ from → latches ≡ unknown_state circuit =
    subst (λ (l : List Moment). length l ≤ from → latches ≡ unknown_state circuit) c.deref.ensures.value
    c.in_ok-latches.ensures.unknown in
    first_run circuit graded from to c.args.places.now _ c.requires.may c.requires.places
    (latches_first circuit graded from to latches c.requires.may known unknown) refl c.new.ensures.items
    c.in_ok-runners.ensures.every
    (λ j less. c.in_ok-runners.ensures.each j less
    ∙ ap (λ (l : List (List (List Diff))). fresh (get_or c.args.places.now j 0)
    (length (get_or l (get_or c.args.places.now j 0) []))) c.deref-2.ensures.value)
    c.in_ok-faults.ensures.every
    (λ j less. c.in_ok-faults.ensures.each j less
    ∙ ap (λ (l : List Fault). slice_get l (get_or c.args.places.now j 0)) c.deref-3.ensures.value)
    c.in_ok-grades.ensures.every
    (λ j less. c.in_ok-grades.ensures.each j less
    ∙ ap (λ (l : List (List (List Diff))). ungraded (get_or (get_or l (get_or c.args.places.now j 0) []) from []))
    c.deref-4.ensures.value)
    c.in_ok-undetected.ensures
