-- How the run of a list without a part of its vectors ends.
use Rattle.std.proofs.Common.{◌≡◌, ◌≢◌, ◌<◌, ◌≤◌, ◌+◌, ◌-◌, ◌⊎◌, [], inl, inr, ℕ, zero, suc, List, Bool, true, false, Option, None, length, get_or, refl, sym, ◌∙◌, ap, subst, arith}
use Rattle.std.specs.List.{All}
use Rattle.std.specs.Option.{ForSome}
use Rattle.std.proofs.lemmas.Bool.{cases_eq}
use Rattle.std.proofs.lemmas.List.{length-map}
use Rattle.ht_net.specs.Frames.Rows.{Rows}
use Rattle.ht_net.specs.Circuit.Netlist.{Netlist}
use Rattle.ht_net.specs.Detect.Detection.{unknown_state}
use Rattle.ht_net.proofs.FrameLaws.{le_or_lt}
use Rattle.ht_faults.specs.Sites.{faults_of}
use Rattle.ht_group.specs.declared.diffs.Diff.{Diff}
use Rattle.ht_proofs.specs.declared.grade.Grade.{Grade}
use Rattle.ht_proofs.specs.LaneGrades.{grade_at}
use Rattle.ht_proofs.specs.PackedView.{chosen_faults}
use Rattle.ht_proofs.specs.Undetected.{verdicts_of}
use Rattle.ht_proofs.proofs.UndetectedLaws.{listed_known, listed_none, undetected_listed, verdict_of}
use Rattle.ht_proofs.proofs.VectorLaws.{found_inside, option_cases}
use Rattle.ht_compact.specs.declared.graded.GradedVectors.{GradedVectors}
use Rattle.ht_compact.specs.declared.moment.Moment.{Moment}
use Rattle.ht_compact.specs.declared.runners.Runner.{Runner}
use Rattle.ht_compact.specs.declared.runners.Runners.{Runners}
use Rattle.ht_compact.specs.Kept.{continued}
use Rattle.ht_compact.specs.DetectedFaults.{IsMissed}
use Rattle.ht_compact.specs.GradedLists.{IsGradedWithout, MayRun, history_of, shorter}
use Rattle.ht_compact.specs.Moments.{AreMoments, IsFaultHistory, IsMoment, wanted_fault}
use Rattle.ht_compact.specs.Runs.{AreContinued, AreRunners, AreSettledBefore, HaveEnded, HaveOtherPlaces, runner_at}
use Rattle.ht_compact.proofs.StateLaws.{moment_alike, moment_later}
use Rattle.ht_compact.proofs.HistoryLaws.{continued_front, continued_middle, continued_rest, length_continued, settled_history}
use Rattle.ht_compact.proofs.RunLaws.{as_long, begin_alike, go_on}

-- ---- all have ended

-- a run that has ended: its good machine has joined, or no vector follows
abbrev pub IsAtEnd : GradedVectors → ℕ → ℕ → Runners → Type 0
IsAtEnd graded to n run = (run.joined ≡ true) ⊎ (to + n ≡ length graded.vectors.list)

-- the length of the moments that are kept
front_inside : (c : Netlist) (graded : GradedVectors) (from to : ℕ) → MayRun c graded from to
    → from ≤ length graded.moments.items
front_inside c graded from to may = elim (le_or_lt from 0) [
  | inl none ↦ omega (arith, none)
  | inr some ↦ omega (arith, may.begins some)
]

none_or_all : (c : Netlist) (graded : GradedVectors) (from to : ℕ) → MayRun c graded from to
    → (length graded.moments.items ≡ 0) ⊎ (length graded.moments.items ≡ length graded.vectors.list)
none_or_all c graded from to may = elim (le_or_lt (length graded.moments.items) 0) [
  | inl none ↦ inl (omega (arith, none))
  | inr some ↦ inr (may.moments some).every
]

bool_cases : (b : Bool) → (b ≡ true) ⊎ (b ≡ false)
bool_cases true = inl refl
bool_cases false = inr refl

-- where it ended there is a moment for each vector of the shorter list
all_moments : (c : Netlist) (graded : GradedVectors) (from to n : ℕ) (run : Runners) → MayRun c graded from to
    → to + n ≤ length graded.vectors.list → AreRunners c graded from to n run → IsAtEnd graded to n run
    → from + length run.moments.items + (length graded.moments.items - (to + length run.moments.items))
    ≡ length (shorter graded from to)
all_moments c graded from to n run may inside are ends = elim (bool_cases run.joined) [
  | inl joined ↦ omega (
    arith,
    (are.moments.ended joined).all,
    are.moments.some,
    inside,
    as_long c graded from to may,
    may.order,
  )
  | inr runs ↦ elim ends [
    | inl joined ↦ let bad : true ≡ false = sym joined ∙ runs in cc
    | inr last ↦ elim (none_or_all c graded from to may) [
      | inl none ↦ omega (arith, none, last, are.moments.running runs, as_long c graded from to may, may.order)
      | inr all ↦ omega (arith, all, last, are.moments.running runs, as_long c graded from to may, may.order)
    ]
  ]
]

-- a moment that stands after those of the run
moment_after : (c : Netlist) (graded : GradedVectors) (from to n k : ℕ) (run : Runners) (d : Moment)
    → MayRun c graded from to → to + n ≤ length graded.vectors.list → AreRunners c graded from to n run
    → run.joined ≡ true → from + length run.moments.items + k < length (shorter graded from to)
    → IsMoment c (shorter graded from to) (from + length run.moments.items + k)
    (get_or graded.moments.items (to + length run.moments.items + k) d)
moment_after c graded from to n k run d may inside are joined less =
    let m = length run.moments.items in
    let good = are.moments.ended joined in
    let there : to + m + k < length graded.vectors.list =
    omega (arith, less, as_long c graded from to may, may.order) in
    let moments = may.moments (omega (arith, there, good.all)) in
    moment_later c (shorter graded from to) graded.vectors.list (from + m) (to + m) k
    (get_or graded.moments.items (to + m + k) d) (go_on c graded from to m may (omega (arith, there))) good.same
    (omega (arith, less)) (moments.each (to + m + k) d there)

-- the moments of the shorter list
moments_then : (c : Netlist) (graded : GradedVectors) (from to n : ℕ) (run : Runners) → MayRun c graded from to
    → to + n ≤ length graded.vectors.list → AreRunners c graded from to n run → IsAtEnd graded to n run
    → AreMoments c (shorter graded from to)
    (continued from graded.moments.items run.moments.items (to + length run.moments.items))
moments_then c graded from to n run may inside are ends = record {
  every = length_continued kept more from rest (front_inside c graded from to may)
      ∙ all_moments c graded from to n run may inside are ends;
  each = each;
}
  where
    kept : List Moment
    kept = graded.moments.items

    more : List Moment
    more = run.moments.items

    rest : ℕ
    rest = to + length run.moments.items

    list : List (List Bool)
    list = shorter graded from to

    joined_then : (t : ℕ) → from + length more ≤ t → t < length list → run.joined ≡ true
    joined_then t after less = elim (bool_cases run.joined) [
      | inl joined ↦ joined
      | inr runs ↦ elim ends [
        | inl joined ↦ joined
        | inr last ↦ absurd (omega (
          arith,
          after,
          less,
          last,
          are.moments.running runs,
          as_long c graded from to may,
          may.order,
        ))
      ]
    ]

    each : (t : ℕ) (d : Moment) → t < length list → IsMoment c list t (get_or (continued from kept more rest) t d)
    each t d less = elim (le_or_lt from t) [
      | inr before ↦
          let moments = may.moments (omega (arith, before, front_inside c graded from to may)) in
          subst (IsMoment c list t)
          (sym (continued_front kept more from rest t d (front_inside c graded from to may) before))
          (moment_alike c graded.vectors.list list from t (get_or kept t d) (begin_alike c graded from to may) before
          (moments.each t d (omega (arith, before, may.order, may.inside))))
      | inl later ↦ elim (le_or_lt (from + length more) t) [
        | inr noted ↦
            let k = t - from in
            let here : from + k ≡ t = omega (arith, later) in
            let few : k < length more = omega (arith, later, noted) in
            subst (λ (i : ℕ). IsMoment c list i (get_or (continued from kept more rest) i d)) here
            (subst (IsMoment c list (from + k))
            (sym (continued_middle kept more from rest k d (front_inside c graded from to may) few))
            (are.moments.each k d few))
        | inl after ↦
            let k = t - (from + length more) in
            let here : from + length more + k ≡ t = omega (arith, after) in
            subst (λ (i : ℕ). IsMoment c list i (get_or (continued from kept more rest) i d)) here
            (subst (IsMoment c list (from + length more + k))
            (sym (continued_rest kept more from rest k d (front_inside c graded from to may)))
            (moment_after c graded from to n k run d may inside are (joined_then t after less)
            (omega (arith, after, less))))
      ]
    ]

-- each fault has a verdict where none is listed
pub has_ended : (c : Netlist) (graded : GradedVectors) (from to n : ℕ) (run : Runners) → MayRun c graded from to
    → to + n ≤ length graded.vectors.list → AreRunners c graded from to n run → run.undetected.items ≡ []
    → IsAtEnd graded to n run → HaveEnded c graded from to run
has_ended c graded from to n run may inside are none ends = record {
  few = omega (arith, are.moments.some, inside);
  moments = moments_then c graded from to n run may inside are ends;
  of_fault = are.of_fault;
  each = λ j less. elim (option_cases (grade_at run.grades.items j).verdict) [
    | inl open_then ↦ absurd (unlisted j less open_then)
    | inr p ↦ record { order = (are.each j less).order; is_history = (are.each j less).ended p.0 p.1 }
  ];
}
  where
    unlisted : (j : ℕ) → j < length run.runners.items → (grade_at run.grades.items j).verdict ≡ None → ⊥
    unlisted j less open_then =
        let verdicts = verdicts_of run.grades.items in
        let listed = undetected_listed verdicts run.undetected.items j are.listed
        (omega (arith, less, are.grades, length-map run.grades.items (λ (g : Grade). g.verdict)))
        (verdict_of run.grades.items j ∙ open_then) in
        omega (arith, listed.1, ap (λ (l : List ℕ). length l) none)

-- ---- one is lost

-- after the last vector a fault without a verdict is missed
pub is_missed : (c : Netlist) (graded : GradedVectors) (from to n j : ℕ) (run : Runners) → MayRun c graded from to
    → to + n ≡ length graded.vectors.list → AreRunners c graded from to n run → j < length run.undetected.items
    → IsMissed c graded.wanted.items (shorter graded from to)
    (runner_at run.runners.items (get_or run.undetected.items j 0)).place
is_missed c graded from to n j run may last are less =
    let i = get_or run.undetected.items j 0 in
    let none : (grade_at run.grades.items i).verdict ≡ None =
    sym (verdict_of run.grades.items i)
    ∙ listed_none (verdicts_of run.grades.items) run.undetected.items j are.listed less in
    let here : i < length run.runners.items =
    omega (
      arith,
      listed_known (verdicts_of run.grades.items) run.undetected.items (length run.grades.items) are.listed
          (length-map run.grades.items (λ (g : Grade). g.verdict)) j 0 less,
      are.grades,
    ) in
    let part = (are.of_fault i here).part in
    let now = ((are.each i here).running none).1.now in
    record {
      inside = part.inside;
      undetected = λ found.
          now.undetected found.vector found.output
          (omega (
            arith,
            found_inside c (wanted_fault c graded.wanted.items (runner_at run.runners.items i).place)
                (unknown_state c) (shorter graded from to) found.vector found.output found.detects,
            last,
            as_long c graded from to may,
            may.order,
          ))
          found.detects;
    }

-- the runners without a verdict are runners
pub listed_runners : (c : Netlist) (graded : GradedVectors) (from to n : ℕ) (run : Runners)
    → AreRunners c graded from to n run → All (λ j. j < length run.runners.items) run.undetected.items
listed_runners c graded from to n run are =
    listed_known (verdicts_of run.grades.items) run.undetected.items (length run.runners.items) are.listed
    (length-map run.grades.items (λ (g : Grade). g.verdict) ∙ are.grades)

-- what the run gives where a fault has no verdict
pub lost_is_missed : (c : Netlist) (graded : GradedVectors) (from to n : ℕ) (run : Runners) (lost : Option ℕ)
    → MayRun c graded from to → to + n ≡ length graded.vectors.list → AreRunners c graded from to n run
    → ForSome lost (λ k. (0 < length run.undetected.items)
    × (k ≡ (runner_at run.runners.items (get_or run.undetected.items 0 0)).place))
    → ForSome lost (IsMissed c graded.wanted.items (shorter graded from to))
lost_is_missed c graded from to n run lost may last are is = λ k found.
    let here = is k found in
    subst (IsMissed c graded.wanted.items (shorter graded from to)) (sym here.1)
    (is_missed c graded from to n 0 run may last are here.0)

-- ---- what is left out

-- A fault is that of a runner, or of none.
abbrev HasRunner : List Runner → ℕ → ℕ → Type 0
HasRunner runners k n = ((j : ℕ) × (j < n) × ((runner_at runners j).place ≡ k))
    ⊎ ((j : ℕ) → j < n → (runner_at runners j).place ≢ k)

search_runner : (runners : List Runner) (k n : ℕ) → HasRunner runners k n
search_runner runners k zero = inr (λ j less. absurd (omega (arith, less)))
search_runner runners k (suc n) = elim (cases_eq (runner_at runners n).place k) [
  | inl here ↦ inl (n, omega arith, here)
  | inr other ↦ elim (search_runner runners k n) [
    | inl found ↦ inl (found.0, omega (arith, found.1), found.2)
    | inr none ↦ inr (λ j less. elim (cases_eq j n) [
      | inl last ↦ λ at. other (ap (λ (i : ℕ). (runner_at runners i).place) (sym last) ∙ at)
      | inr before ↦ none j (omega (arith, less, before))
    ])
  ]
]

-- the graded list without the part
pub left_out : (c : Netlist) (old new : GradedVectors) (from to : ℕ) (run : Runners) → MayRun c old from to
    → HaveEnded c old from to run → AreSettledBefore c old from run.runners.items
    → new.vectors ≡ record { width = c.inputs; list = shorter old from to } → new.wanted ≡ old.wanted
    → new.faults ≡ old.faults
    → new.moments.items ≡ continued from old.moments.items run.moments.items (to + length run.moments.items)
    → AreContinued run.runners.items from 0 old.histories.items new.histories.items
    → IsGradedWithout c old from to new
left_out c old new from to run may ended settled vectors wanted faults moments continues =
    let numbers : new.wanted.items ≡ old.wanted.items = ap (λ v. v.items) wanted in
    let list : new.vectors.list ≡ shorter old from to = ap (λ (r : Rows). r.list) vectors in
    record {
      vectors = list;
      wanted = numbers;
      is_graded = record {
        wanted = record {
          width = ap (λ (r : Rows). r.width) vectors;
          known = subst (All (λ i. i < length (faults_of c))) (sym numbers) may.wanted.known;
          few = omega (arith, may.wanted.few, ap (λ (l : List ℕ). length l) numbers);
          faults = ap (λ v. v.items) faults
              ∙ (may.wanted.faults ∙ ap (chosen_faults (faults_of c)) (sym numbers));
          every = continues.every ∙ (may.wanted.every ∙ ap (λ (l : List ℕ). length l) (sym numbers));
        };
        histories = λ k less.
            subst (λ (l : List ℕ). IsFaultHistory c (wanted_fault c l k) new.vectors.list (history_of new k))
            (sym numbers)
            (subst (λ (l : List (List Bool)). IsFaultHistory c (wanted_fault c old.wanted.items k) l (history_of new k))
            (sym list) (history_then k (omega (arith, less, ap (λ (l : List ℕ). length l) numbers))));
        moments =
            subst (λ (l : List (List Bool)). AreMoments c l new.moments.items) (sym list)
            (subst (AreMoments c (shorter old from to)) (sym moments) ended.moments);
      };
    }
  where
    history_then : (k : ℕ) → k < length old.wanted.items
        → IsFaultHistory c (wanted_fault c old.wanted.items k) (shorter old from to) (history_of new k)
    history_then k less = elim (search_runner run.runners.items k (length run.runners.items)) [
      | inl found ↦
          subst (λ (i : ℕ). IsFaultHistory c (wanted_fault c old.wanted.items i) (shorter old from to)
          (history_of new i))
          found.2
          (subst (IsFaultHistory c (wanted_fault c old.wanted.items (runner_at run.runners.items found.0).place)
          (shorter old from to)) (sym (continues.ran found.0 (omega arith) found.1))
          (ended.each found.0 found.1).is_history)
      | inr none ↦
          let is = settled k less none in
          subst (IsFaultHistory c (wanted_fault c old.wanted.items k) (shorter old from to))
          (sym (continues.others k (λ j after less. none j less)))
          (settled_history c (wanted_fault c old.wanted.items k) (shorter old from to) old.vectors.list from
          (history_of old k) (sym (begin_alike c old from to may)) is.before is.is_history)
    ]

-- ---- histories that go on

-- none has
pub none_continued : (runners : List Runner) (from : ℕ) (old : List (List (List Diff)))
    → AreContinued runners from (length runners) old old
none_continued runners from old = record {
  every = refl;
  ran = λ j past less. absurd (omega (arith, past, less));
  others = λ k none. refl;
}

-- one more has
pub continued_more : (runners : List Runner) (from n : ℕ) (old now new : List (List (List Diff)))
    → HaveOtherPlaces runners → n < length runners → AreContinued runners from (n + 1) old now
    → length new ≡ length now
    → get_or new (runner_at runners n).place [] ≡ continued from (get_or now (runner_at runners n).place [])
    (runner_at runners n).log (runner_at runners n).rest
    → ((k : ℕ) → (runner_at runners n).place ≢ k → get_or new k [] ≡ get_or now k [])
    → AreContinued runners from n old new
continued_more runners from n old now new other inside are long here elsewhere = record {
  every = long ∙ are.every;
  ran = λ j past less. elim (cases_eq n j) [
    | inl same ↦
        subst (λ (i : ℕ). get_or new (runner_at runners i).place []
        ≡ continued from (get_or old (runner_at runners i).place []) (runner_at runners i).log
        (runner_at runners i).rest) same
        (here ∙ ap (λ (l : List (List Diff)). continued from l (runner_at runners n).log (runner_at runners n).rest)
        (are.others (runner_at runners n).place (λ i after less_i same. other n i (omega (arith, after)) less_i
        (sym same))))
    | inr before ↦
        elsewhere (runner_at runners j).place (other n j (omega (arith, past, before)) less)
        ∙ are.ran j (omega (arith, past, before)) less
  ];
  others = λ k none.
      elsewhere k (none n (omega arith) inside) ∙ are.others k (λ j after less. none j (omega (arith, after)) less);
}
