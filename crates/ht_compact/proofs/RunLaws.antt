-- The run of a list without a part of its vectors, vector by vector.
use Rattle.std.proofs.Common.{◌≡◌, ◌<◌, ◌≤◌, ◌+◌, ◌-◌, ◌++◌, ◌∷◌, ◌⊎◌, [], inl, inr, ℕ, List, Bool, true, false, Option, Some, None, length, get_or, take, drop, refl, sym, ◌∙◌, ap, subst, arith, length-append}
use Rattle.std.specs.List.{All, range_with_len, slice_get}
use Rattle.std.specs.Option.{is_none, option_map}
use Rattle.std.proofs.lemmas.List.{drop-drop, get_or_append_left, get_or_past, length-map, length-take-le}
use Rattle.std.proofs.lemmas.Option.{slice_get-map, slice_get-get_or, slice_get_within}
use Rattle.std.proofs.Math.Seq.{drop-append_seam, get_or-append_seam}
use Rattle.ht_tern.specs.declared.tern.Tern.{Tern}
use Rattle.ht_net.specs.declared.fault.Fault.{Fault}
use Rattle.ht_net.specs.declared.place.Place.{Place}
use Rattle.ht_net.specs.Circuit.Netlist.{Netlist}
use Rattle.ht_net.specs.Frames.Frame.{next_state}
use Rattle.ht_net.specs.Frames.Faults.{tern_rules}
use Rattle.ht_net.specs.Detect.Detection.{terns_of, unknown_state}
use Rattle.ht_net.proofs.FrameLaws.{le_or_lt}
use Rattle.ht_net.proofs.MoreToldLaws.{state_is_start, unknown_is_start}
use Rattle.ht_stems.specs.Arrivals.{HasLine}
use Rattle.ht_faults.specs.Sites.{faults_of}
use Rattle.ht_faults.specs.Classes.{fault_at}
use Rattle.ht_group.specs.declared.diffs.Diff.{Diff}
use Rattle.ht_group.specs.GoodFrames.{AreFrameValues}
use Rattle.ht_group.specs.GroupView.{AreLatches, GroupView}
use Rattle.ht_proofs.specs.declared.grade.Grade.{Grade}
use Rattle.ht_proofs.specs.Applied.{good_state}
use Rattle.ht_proofs.specs.Batches.{IsGradedFrame}
use Rattle.ht_proofs.specs.LaneGrades.{grade_at, no_grade}
use Rattle.ht_proofs.specs.PackedView.{chosen_faults}
use Rattle.ht_proofs.specs.Undetected.{is_undetected, undetected_of, verdicts_of}
use Rattle.ht_proofs.proofs.DiffLaws.{no_differences}
use Rattle.ht_proofs.proofs.PackedLaws.{chosen_lines}
use Rattle.ht_proofs.proofs.UndetectedLaws.{filter_each, verdict_of}
use Rattle.ht_proofs.proofs.VectorLaws.{option_cases}
use Rattle.ht_compact.specs.declared.graded.GradedVectors.{GradedVectors}
use Rattle.ht_compact.specs.declared.moment.Moment.{Moment}
use Rattle.ht_compact.specs.declared.runners.Runner.{Runner}
use Rattle.ht_compact.specs.declared.runners.Runners.{Runners}
use Rattle.ht_compact.specs.GradedLists.{CanTakePart, MayRun, history_of, shorter}
use Rattle.ht_compact.specs.Moments.{HoldsMachine, IsMoment, state_before, wanted_fault}
use Rattle.ht_compact.specs.Runs.{AreRunMoments, AreRunners, HasGoodJoined, HasLogged, HasMet, HaveBegun, HaveJoined, HaveLogged, HavePassed, HaveSamePlaces, IsOfFault, IsRunner, MayHaveJoined, SomeJoined, good_frame, runner_at}
use Rattle.ht_compact.proofs.WithoutLaws.{front_without, length_without}
use Rattle.ht_compact.proofs.StateLaws.{GoOnAlike, fewer_alike, holds_alike, state_alike, state_later, state_more, vector_later}
use Rattle.ht_compact.proofs.HistoryLaws.{HasFront}
use Rattle.ht_compact.proofs.LogLaws.{joined_place}
use Rattle.ht_compact.proofs.RunnerLaws.{IsFrameOf, runner_joined, runner_more}

-- a moment of some
some_moment : (moments : List Moment) → 0 < length moments → Moment
some_moment [] less = absurd (omega (arith, less))
some_moment (m ∷ moments) less = m

-- ---- the two lists

-- both lists begin alike
pub begin_alike : (c : Netlist) (graded : GradedVectors) (from to : ℕ) → MayRun c graded from to
    → take from graded.vectors.list ≡ take from (shorter graded from to)
begin_alike c graded from to may =
    sym (front_without graded.vectors.list from to (omega (arith, may.order, may.inside)))

-- as many vectors are left out
pub as_long : (c : Netlist) (graded : GradedVectors) (from to : ℕ) → MayRun c graded from to
    → length (shorter graded from to) + (to - from) ≡ length graded.vectors.list
as_long c graded from to may = length_without graded.vectors.list from to may.order may.inside

-- the first vector of both after the part
after_part : (c : Netlist) (graded : GradedVectors) (from to : ℕ) → MayRun c graded from to
    → GoOnAlike (shorter graded from to) graded.vectors.list from to
after_part c graded from to may =
    let list = graded.vectors.list in
    let front : length (take from list) ≡ from =
    length-take-le from list (omega (arith, may.order, may.inside)) in
    record {
      rest = ap (λ (k : ℕ). drop k (shorter graded from to)) (sym front)
          ∙ drop-append_seam (take from list) (drop to list);
      inside = omega (arith, as_long c graded from to may, may.inside, may.order);
      there = may.inside;
    }

-- the vectors from there on are the same
pub same_vector : (c : Netlist) (graded : GradedVectors) (from to n : ℕ) → MayRun c graded from to
    → get_or (shorter graded from to) (from + n) [] ≡ get_or graded.vectors.list (to + n) []
same_vector c graded from to n may =
    vector_later (shorter graded from to) graded.vectors.list from to n (after_part c graded from to may)

-- and go on alike
pub go_on : (c : Netlist) (graded : GradedVectors) (from to n : ℕ) → MayRun c graded from to
    → to + n ≤ length graded.vectors.list → GoOnAlike (shorter graded from to) graded.vectors.list (from + n) (to + n)
go_on c graded from to n may inside =
    let list = graded.vectors.list in
    let less = shorter graded from to in
    record {
      rest = sym (drop-drop n from less)
          ∙ (ap (λ (l : List (List Bool)). drop n l) (after_part c graded from to may).rest ∙ drop-drop n to list);
      inside = omega (arith, as_long c graded from to may, inside, may.order);
      there = inside;
    }

-- ---- the faults that take part

-- what their histories are before vector `from`
pub front_of : (c : Netlist) (graded : GradedVectors) (from to k : ℕ) → MayRun c graded from to
    → CanTakePart graded from k
    → HasFront c (wanted_fault c graded.wanted.items k) (shorter graded from to) from (history_of graded k)
front_of c graded from to k may part = record {
  inside = elim (le_or_lt from 0) [
    | inl none ↦ omega (arith, none)
    | inr some ↦ omega (arith, part.open_then some)
  ];
  front = λ t before.
      let longer = part.open_then (omega (arith, before)) in
      let is = may.histories k part.inside (omega (arith, longer, before)) in
      holds_alike c (wanted_fault c graded.wanted.items k) graded.vectors.list (shorter graded from to) t
      (get_or (history_of graded k) t [])
      (sym (front_less t (omega (arith, before)))) (is.each t (omega (arith, longer, before, is.every)));
}
  where
    front_less : (t : ℕ) → t ≤ from → take t (shorter graded from to) ≡ take t graded.vectors.list
    front_less t few = fewer_alike (shorter graded from to) graded.vectors.list from t
        (sym (begin_alike c graded from to may)) few

-- ---- before the first vector

-- what the good machine's latches are then
pub latches_first : (c : Netlist) (graded : GradedVectors) (from to : ℕ) (latches : List Tern) → MayRun c graded from to
    → ((d : Moment) → from < length graded.moments.items
    → latches ≡ (get_or graded.moments.items from d).latches.items)
    → (length graded.moments.items ≤ from → latches ≡ unknown_state c)
    → latches ≡ state_before c None (shorter graded from to) (from + 0)
latches_first c graded from to latches may known unknown =
    elim (le_or_lt (length graded.moments.items) from) [
      | inl past ↦
          let first : from ≡ 0 = none_before past in
          unknown past ∙ ap (λ (n : ℕ). state_before c None (shorter graded from to) (n + 0)) (sym first)
      | inr less ↦
          let are = may.moments (omega (arith, less)) in
          let d : Moment = some_moment graded.moments.items (omega (arith, less)) in
          known d less
          ∙ ((are.each from d (omega (arith, less, are.every))).good
          ∙ (state_alike c None graded.vectors.list (shorter graded from to) from (begin_alike c graded from to may)
          ∙ ap (λ (n : ℕ). state_before c None (shorter graded from to) n) (omega arith)))
    ]
  where
    none_before : length graded.moments.items ≤ from → from ≡ 0
    none_before past = elim (le_or_lt from 0) [
      | inl none ↦ omega (arith, none)
      | inr some ↦ absurd (omega (arith, past, may.begins some))
    ]

-- a fault that takes part has its differences then
pub holds_first : (c : Netlist) (graded : GradedVectors) (from to k : ℕ) → MayRun c graded from to
    → CanTakePart graded from k
    → HoldsMachine c (wanted_fault c graded.wanted.items k) (shorter graded from to) (from + 0)
    (get_or (history_of graded k) from [])
holds_first c graded from to k may part =
    let fault = wanted_fault c graded.wanted.items k in
    let history = history_of graded k in
    subst (λ (n : ℕ). HoldsMachine c fault (shorter graded from to) n (get_or history from [])) (omega arith)
    (elim (le_or_lt (length history) from) [
      | inl past ↦
          let first : from ≡ 0 = none_before past in
          subst (λ (n : ℕ). HoldsMachine c fault (shorter graded from to) n (get_or history from [])) (sym first)
          (subst (HoldsMachine c fault (shorter graded from to) 0) (sym (get_or_past history from [] past)) (record {
            state = no_differences (unknown_state c);
            undetected = λ t o less. absurd (omega (arith, less));
            known = λ i d less. absurd (omega (arith, less));
          }))
      | inr less ↦
          let is = may.histories k part.inside (omega (arith, less)) in
          holds_alike c fault graded.vectors.list (shorter graded from to) from (get_or history from [])
          (begin_alike c graded from to may) (is.each from (omega (arith, less, is.every)))
    ])
  where
    none_before : length (history_of graded k) ≤ from → from ≡ 0
    none_before past = elim (le_or_lt from 0) [
      | inl none ↦ omega (arith, none)
      | inr some ↦ absurd (omega (arith, past, part.open_then some))
    ]

-- a runner that has run no vector
pub runner_first : (c : Netlist) (graded : GradedVectors) (from to k : ℕ) (runner : Runner) (grade : Grade)
    → MayRun c graded from to → CanTakePart graded from k
    → runner ≡ record { place = k; log = []; rest = length (history_of graded k) }
    → grade ≡ record { verdict = None; diffs = get_or (history_of graded k) from [] }
    → IsRunner c (wanted_fault c graded.wanted.items k) (shorter graded from to) from 0 (history_of graded k) runner
    grade
runner_first c graded from to k runner grade may part is grade_is =
    let fault = wanted_fault c graded.wanted.items k in
    let fresh : Runner = record { place = k; log = []; rest = length (history_of graded k) } in
    let open_grade : Grade = record { verdict = None; diffs = get_or (history_of graded k) from [] } in
    subst (λ (r : Runner). IsRunner c fault (shorter graded from to) from 0 (history_of graded k) r grade) (sym is)
    (subst (IsRunner c fault (shorter graded from to) from 0 (history_of graded k) fresh) (sym grade_is) (record {
      order = (front_of c graded from to k may part).inside;
      running = λ none. (
        refl,
        record {
          every = refl;
          each = λ j less. absurd (omega (arith, less));
          now = holds_first c graded from to k may part;
        },
      );
      ended = λ p found. let bad : open_grade.verdict ≡ Some p = found in cc;
    }))

-- the k-th of the chosen faults
pub chosen_at : (c : Netlist) (wanted : List ℕ) (faults : List Fault) (k : ℕ)
    → faults ≡ chosen_faults (faults_of c) wanted → k < length wanted
    → slice_get faults k ≡ Some (wanted_fault c wanted k)
chosen_at c wanted faults k is inside =
    ap (λ (l : List Fault). slice_get l k) is
    ∙ (slice_get-map (fault_at c) wanted k ∙ ap (option_map (fault_at c)) (slice_get-get_or wanted k 0 inside))

-- none of the faults has a verdict
all_open : (grades : List Grade) → ((j : ℕ) → j < length grades → (grade_at grades j).verdict ≡ None) → (k : ℕ)
    → is_undetected (verdicts_of grades) k ≡ true
all_open grades none k =
    ap (λ (v : Option Place). is_none v) (verdict_of grades k) ∙ elim (le_or_lt (length grades) k) [
      | inl past ↦ ap (λ (g : Grade). is_none g.verdict) (get_or_past grades k no_grade past)
      | inr less ↦ ap (λ (v : Option Place). is_none v) (none k less)
    ]

-- the run before its first vector
pub first_run : (c : Netlist) (graded : GradedVectors) (from to : ℕ) (places : List ℕ) (run : Runners)
    → MayRun c graded from to → All (CanTakePart graded from) places
    → run.latches.items ≡ state_before c None (shorter graded from to) (from + 0) → run.joined ≡ false
    → run.moments.items ≡ [] → length run.runners.items ≡ length places
    → ((j : ℕ) → j < length places → runner_at run.runners.items j ≡ record {
      place = get_or places j 0;
      log = [];
      rest = length (history_of graded (get_or places j 0));
    })
    → length run.faults.items ≡ length places
    → ((j : ℕ) → j < length places → slice_get run.faults.items j ≡ slice_get graded.faults.items (get_or places j 0))
    → length run.grades.items ≡ length places
    → ((j : ℕ) → j < length places → grade_at run.grades.items j
    ≡ record { verdict = None; diffs = get_or (history_of graded (get_or places j 0)) from [] })
    → run.undetected.items ≡ range_with_len 0 (length places) → AreRunners c graded from to 0 run
first_run c graded from to places run may parts latches runs no_moments every runners every_fault faults every_grade
    grades listed = record {
      latches = latches;
      moments =
          subst (AreRunMoments c graded from to 0 run.joined) (sym no_moments) (record {
            some = omega arith;
            each = λ k d less. absurd (omega (arith, less));
            running = λ off. refl;
            ended = λ yes. let bad : true ≡ false = sym yes ∙ runs in cc;
          });
      grades = every_grade ∙ sym every;
      faults = every_fault ∙ sym every;
      listed = listed ∙ (ap (λ (n : ℕ). range_with_len 0 n)
          (sym (length-map run.grades.items (λ (g : Grade). g.verdict) ∙ every_grade))
          ∙ sym (filter_each (is_undetected (verdicts_of run.grades.items))
          (all_open run.grades.items (λ j less.
          ap (λ (g : Grade). g.verdict) (grades j (omega (arith, less, every_grade)))))
          (range_with_len 0 (length (verdicts_of run.grades.items)))));
      known = λ k. elim (le_or_lt (length places) k) [
        | inl past ↦
            subst (λ (g : Grade). AreLatches c g.diffs)
            (sym (get_or_past run.grades.items k no_grade (omega (arith, past, every_grade))))
            (λ i d less. absurd (omega (arith, less)))
        | inr less ↦
            subst (λ (g : Grade). AreLatches c g.diffs) (sym (grades k less))
            (holds_first c graded from to (get_or places k 0) may (parts k 0 less)).known
      ];
      of_fault = λ j less.
          let there : j < length places = omega (arith, less, every) in
          let k = get_or places j 0 in
          let place : (runner_at run.runners.items j).place ≡ k =
          ap (λ (r : Runner). r.place) (runners j there) in
          record {
            part = subst (CanTakePart graded from) (sym place) (parts j 0 there);
            fault = faults j there
                ∙ (chosen_at c graded.wanted.items graded.faults.items k may.wanted.faults (parts j 0 there).inside
                ∙ ap (λ (i : ℕ). Some (wanted_fault c graded.wanted.items i)) (sym place));
          };
      each = λ j less.
          let there : j < length places = omega (arith, less, every) in
          let k = get_or places j 0 in
          let place : (runner_at run.runners.items j).place ≡ k =
          ap (λ (r : Runner). r.place) (runners j there) in
          subst (λ (i : ℕ). IsRunner c (wanted_fault c graded.wanted.items i) (shorter graded from to) from 0
          (history_of graded i) (runner_at run.runners.items j) (grade_at run.grades.items j)) (sym place)
          (runner_first c graded from to k (runner_at run.runners.items j) (grade_at run.grades.items j) may
          (parts j 0 there) (runners j there) (grades j there));
    }

-- ---- the good machine

-- where it has joined it holds what it held
pub good_joined : (c : Netlist) (graded : GradedVectors) (from to n m : ℕ) → MayRun c graded from to → m ≤ n
    → to + n ≤ length graded.vectors.list → HasGoodJoined c graded from to m
    → state_before c None (shorter graded from to) (from + n) ≡ state_before c None graded.vectors.list (to + n)
good_joined c graded from to n m may few inside joined =
    let alike = go_on c graded from to m may (omega (arith, few, inside)) in
    let d = n - m in
    let less : from + m + d ≤ length (shorter graded from to) =
    omega (arith, few, inside, as_long c graded from to may, may.order) in
    ap (λ (k : ℕ). state_before c None (shorter graded from to) k) (omega (arith, few))
    ∙ (state_later c None (shorter graded from to) graded.vectors.list (from + m) (to + m) d alike joined.same less
    ∙ ap (λ (k : ℕ). state_before c None graded.vectors.list k) (omega (arith, few)))

bool_cases : (b : Bool) → (b ≡ true) ⊎ (b ≡ false)
bool_cases true = inl refl
bool_cases false = inr refl

-- a moment more
pub moments_more : (c : Netlist) (graded : GradedVectors) (from to n : ℕ) (run new : Runners) → MayRun c graded from to
    → to + n < length graded.vectors.list → AreRunners c graded from to n run
    → HaveBegun c (get_or graded.vectors.list (to + n) []) run new
    → AreRunMoments c graded from to (n + 1) run.joined new.moments.items
moments_more c graded from to n run new may inside are begun = elim (bool_cases run.joined) [
  | inl joined ↦
      subst (AreRunMoments c graded from to (n + 1) run.joined) (sym (begun.joined joined)) (record {
        some = omega (arith, are.moments.some);
        each = are.moments.each;
        running = λ off. let bad : true ≡ false = sym joined ∙ off in cc;
        ended = are.moments.ended;
      })
  | inr runs ↦
      let more = begun.running runs in
      let long = are.moments.running runs in
      subst (AreRunMoments c graded from to (n + 1) run.joined) (sym more.more) (record {
        some = omega (arith, long, length-append run.moments.items (more.moment ∷ []));
        each = λ k d less. elim (le_or_lt n k) [
          | inl last ↦
              let here : length run.moments.items ≡ k =
              omega (arith, last, less, long, length-append run.moments.items (more.moment ∷ [])) in
              let at : from + n ≡ from + k = omega (arith, here, long) in
              subst (λ (i : ℕ). IsMoment c (shorter graded from to) (from + k)
              (get_or (run.moments.items ++ more.moment ∷ []) i d)) here
              (subst (IsMoment c (shorter graded from to) (from + k))
              (sym (get_or-append_seam run.moments.items more.moment [] d))
              (subst (λ (t : ℕ). IsMoment c (shorter graded from to) t more.moment) at (record {
                good = more.same ∙ are.latches;
                values =
                    subst (λ (l : List Tern). AreFrameValues c
                    (terns_of (get_or (shorter graded from to) (from + n) [])) l more.moment.values.items)
                    (sym more.same)
                    (subst (λ (v : List Bool). AreFrameValues c (terns_of v) run.latches.items
                    more.moment.values.items)
                    (sym (same_vector c graded from to n may)) more.values);
              })))
          | inr before ↦
              subst (IsMoment c (shorter graded from to) (from + k))
              (sym (get_or_append_left run.moments.items (more.moment ∷ []) d k (omega (arith, before, long))))
              (are.moments.each k d (omega (arith, before, long)))
        ];
        running = λ off. omega (arith, long, length-append run.moments.items (more.moment ∷ []));
        ended = λ yes. let bad : true ≡ false = sym yes ∙ runs in cc;
      })
]

-- the values of its nets are known where it has joined
pub known_values : (c : Netlist) (graded : GradedVectors) (from to n : ℕ) (run : Runners) → MayRun c graded from to
    → to + n < length graded.vectors.list → AreRunners c graded from to n run → run.joined ≡ true → (d : Moment)
    → (to + n < length graded.moments.items)
    × AreFrameValues c (terns_of (get_or graded.vectors.list (to + n) [])) run.latches.items
    (get_or graded.moments.items (to + n) d).values.items
known_values c graded from to n run may inside are joined d =
    let good = are.moments.ended joined in
    let moments = may.moments (omega (arith, inside, good.all)) in
    let here = moments.each (to + n) d inside in
    let same : (get_or graded.moments.items (to + n) d).latches.items ≡ run.latches.items =
    here.good ∙ sym (are.latches
    ∙ good_joined c graded from to n (length run.moments.items) may are.moments.some (omega (arith, inside)) good) in (
      omega (arith, inside, good.all),
      subst (λ (l : List Tern). AreFrameValues c (terns_of (get_or graded.vectors.list (to + n) [])) l
          (get_or graded.moments.items (to + n) d).values.items) same here.values,
    )

-- it has joined where it holds what it held
pub meets : (c : Netlist) (graded : GradedVectors) (from to n : ℕ) (old new : Runners) → MayRun c graded from to
    → to + n ≤ length graded.vectors.list → AreRunners c graded from to n old
    → new ≡ record old { joined = new.joined } → (old.joined ≡ true → new.joined ≡ true)
    → (new.joined ≡ true → (old.joined ≡ true) ⊎ HasMet graded.moments.items (to + n) old.latches.items)
    → AreRunners c graded from to n new
meets c graded from to n old new may inside are same stays met =
    subst (AreRunners c graded from to n) (sym same) (record {
      latches = are.latches;
      moments = record {
        some = are.moments.some;
        each = are.moments.each;
        running = λ off. are.moments.running (not_before off);
        ended = λ yes. elim (bool_cases old.joined) [
          | inl before ↦ are.moments.ended before
          | inr runs ↦ elim (met yes) [
            | inl before ↦ let bad : true ≡ false = sym before ∙ runs in cc
            | inr now ↦ good_now runs now
          ]
        ];
      };
      grades = are.grades;
      faults = are.faults;
      listed = are.listed;
      known = are.known;
      of_fault = are.of_fault;
      each = are.each;
    })
  where
    not_before : new.joined ≡ false → old.joined ≡ false
    not_before off = elim (bool_cases old.joined) [
      | inl before ↦ let bad : true ≡ false = sym (stays before) ∙ off in cc
      | inr runs ↦ runs
    ]

    good_now : old.joined ≡ false → HasMet graded.moments.items (to + n) old.latches.items
        → HasGoodJoined c graded from to (length old.moments.items)
    good_now runs now =
        let long = are.moments.running runs in
        let moments = may.moments (omega (arith, now.inside)) in
        let none : Moment = some_moment graded.moments.items (omega (arith, now.inside)) in
        record {
          all = moments.every;
          same = ap (λ (k : ℕ). state_before c None (shorter graded from to) (from + k)) long
              ∙ (sym are.latches
              ∙ (sym (now.same none)
              ∙ ((moments.each (to + n) none (omega (arith, now.inside, moments.every))).good
              ∙ ap (λ (k : ℕ). state_before c None graded.vectors.list (to + k)) (sym long))));
        }

-- ---- all machines

-- a grade or runner past the last
past_none : (grades : List Grade) (k : ℕ) → length grades ≤ k → grade_at grades k ≡ no_grade
past_none grades k past = get_or_past grades k no_grade past

-- the frame of the next vector, of each fault that runs
frame_of_fault : (c : Netlist) (graded : GradedVectors) (from to n : ℕ) (fault : Fault) (latches : List Tern)
    (frame : GroupView) (diffs : List Diff) → MayRun c graded from to → to + n < length graded.vectors.list
    → latches ≡ state_before c None (shorter graded from to) (from + n)
    → frame ≡ good_frame c (get_or graded.vectors.list (to + n) []) latches
    → HoldsMachine c fault (shorter graded from to) (from + n) diffs
    → IsFrameOf c fault (shorter graded from to) (from + n) frame diffs
frame_of_fault c graded from to n fault latches frame diffs may inside good begun holds = record {
  circuit = ap (λ (f : GroupView). f.circuit) begun;
  vector = ap (λ (f : GroupView). f.vector) begun
      ∙ ap terns_of (sym (same_vector c graded from to n may));
  good = ap (λ (f : GroupView). f.latches) begun ∙ good;
  holds = holds;
  inside = omega (arith, inside, as_long c graded from to may, may.order);
}

-- the same by what has changed
passed_from : (c : Netlist) (graded : GradedVectors) (from to n : ℕ) (old new : Runners) (frame : GroupView)
    → MayRun c graded from to → to + n < length graded.vectors.list → AreRunners c graded from to n old
    → frame ≡ good_frame c (get_or graded.vectors.list (to + n) []) old.latches.items
    → new.latches.items ≡ good_state frame → AreRunMoments c graded from to (n + 1) new.joined new.moments.items
    → new.faults.items ≡ old.faults.items → HaveLogged old.grades.items old.runners.items new.runners.items
    → IsGradedFrame frame old.faults.items (from + n) old.grades.items new.grades.items
    → length new.grades.items ≡ length old.grades.items
    → new.undetected.items ≡ undetected_of (verdicts_of new.grades.items)
    → ((k : ℕ) → AreLatches frame.circuit (grade_at new.grades.items k).diffs)
    → AreRunners c graded from to (n + 1) new
passed_from c graded from to n old new frame may inside are frame_is latches moments faults logged graded_frame every
    listed known = record {
      latches = latches ∙ good_next;
      moments = moments;
      grades = every ∙ (are.grades ∙ sym logged.every);
      faults = ap (λ (l : List Fault). length l) faults ∙ (are.faults ∙ sym logged.every);
      listed = listed;
      known = λ k. subst (λ (f : GroupView). AreLatches f.circuit (grade_at new.grades.items k).diffs) frame_is
          (known k);
      of_fault = λ j less.
          let there : j < length old.runners.items = omega (arith, less, logged.every) in
          subst (λ (l : List Fault). IsOfFault c graded from (runner_at new.runners.items j) (slice_get l j))
          (sym faults)
          (same_fault j (logged.each j there) (are.of_fault j there));
      each = λ j less. one_more j (omega (arith, less, logged.every));
    }
  where
    less_than : from + n < length (shorter graded from to)
    less_than = omega (arith, inside, as_long c graded from to may, may.order)

    good_next : good_state frame ≡ state_before c None (shorter graded from to) (from + (n + 1))
    good_next =
        ap good_state frame_is
        ∙ (ap (λ (v : List Bool). next_state c (tern_rules None) (terns_of v) old.latches.items)
        (sym (same_vector c graded from to n may))
        ∙ (ap (next_state c (tern_rules None) (terns_of (get_or (shorter graded from to) (from + n) []))) are.latches
        ∙ (sym (state_more c None (shorter graded from to) (from + n) less_than)
        ∙ ap (λ (k : ℕ). state_before c None (shorter graded from to) k) (omega arith))))

    place_same : (j : ℕ) → HasLogged (grade_at old.grades.items j) (runner_at old.runners.items j)
        (runner_at new.runners.items j)
        → (runner_at new.runners.items j).place ≡ (runner_at old.runners.items j).place
    place_same j has = elim (option_cases (grade_at old.grades.items j).verdict) [
      | inl none ↦ ap (λ (r : Runner). r.place) (has.running none)
      | inr p ↦ ap (λ (r : Runner). r.place) (has.ended p.0 p.1)
    ]

    same_fault : (j : ℕ) → HasLogged (grade_at old.grades.items j) (runner_at old.runners.items j)
        (runner_at new.runners.items j)
        → IsOfFault c graded from (runner_at old.runners.items j) (slice_get old.faults.items j)
        → IsOfFault c graded from (runner_at new.runners.items j) (slice_get old.faults.items j)
    same_fault j has is = record {
      part = subst (CanTakePart graded from) (sym (place_same j has)) is.part;
      fault = is.fault ∙ ap (λ (k : ℕ). Some (wanted_fault c graded.wanted.items k)) (sym (place_same j has));
    }

    one_more : (j : ℕ) → j < length old.runners.items → IsRunner c
        (wanted_fault c graded.wanted.items (runner_at new.runners.items j).place) (shorter graded from to) from
        (n + 1) (history_of graded (runner_at new.runners.items j).place) (runner_at new.runners.items j)
        (grade_at new.grades.items j)
    one_more j less =
        let k = (runner_at old.runners.items j).place in
        let fault = wanted_fault c graded.wanted.items k in
        let is = are.of_fault j less in
        let was = grade_at old.grades.items j in
        subst (λ (i : ℕ). IsRunner c (wanted_fault c graded.wanted.items i) (shorter graded from to) from (n + 1)
        (history_of graded i) (runner_at new.runners.items j) (grade_at new.grades.items j))
        (sym (place_same j (logged.each j less)))
        (runner_more c fault (shorter graded from to) from n frame (history_of graded k)
        (runner_at old.runners.items j) (runner_at new.runners.items j) was (grade_at new.grades.items j)
        (front_of c graded from to k may is.part) (are.each j less) (record {
          frame_of = λ none holds.
              frame_of_fault c graded from to n fault old.latches.items frame was.diffs may inside are.latches frame_is
              holds;
          logged = logged.each j less;
          kept = λ p found. graded_frame.kept j p found;
          graded = λ none. graded_frame.graded j fault is.fault none;
        }))

-- after a frame the run is one vector further
pub passed : (c : Netlist) (graded : GradedVectors) (from to n : ℕ) (old mid new : Runners) (frame : GroupView)
    → MayRun c graded from to → to + n < length graded.vectors.list → AreRunners c graded from to n old
    → HaveBegun c (get_or graded.vectors.list (to + n) []) old mid
    → frame ≡ good_frame c (get_or graded.vectors.list (to + n) []) old.latches.items
    → HavePassed frame (from + n) mid new → AreRunners c graded from to (n + 1) new
passed c graded from to n old mid new frame may inside are begun frame_is through =
    let grades : mid.grades ≡ old.grades = ap (λ (r : Runners). r.grades) begun.same in
    let runners : mid.runners ≡ old.runners = ap (λ (r : Runners). r.runners) begun.same in
    let faults : mid.faults ≡ old.faults = ap (λ (r : Runners). r.faults) begun.same in
    let joined : mid.joined ≡ old.joined = ap (λ (r : Runners). r.joined) begun.same in
    passed_from c graded from to n old new frame may inside are frame_is
    (through.latches)
    (subst (λ b. AreRunMoments c graded from to (n + 1) b new.moments.items) (sym (through.joined ∙ joined))
    (subst (λ l. AreRunMoments c graded from to (n + 1) old.joined l) (sym (ap (λ v. v.items) through.moments))
    (moments_more c graded from to n old mid may inside are begun)))
    (ap (λ v. v.items) (through.faults ∙ faults))
    (subst (λ gs. HaveLogged gs old.runners.items new.runners.items) (ap (λ v. v.items) grades)
    (subst (λ rs. HaveLogged mid.grades.items rs new.runners.items) (ap (λ v. v.items) runners) through.logged))
    (subst (λ gs. IsGradedFrame frame old.faults.items (from + n) gs new.grades.items) (ap (λ v. v.items) grades)
    (subst (λ fs. IsGradedFrame frame fs (from + n) mid.grades.items new.grades.items) (ap (λ v. v.items) faults)
    through.graded))
    (through.every ∙ ap (λ v. length v.items) grades) through.listed through.known

-- how many latches there are
pub latches_long : (c : Netlist) (graded : GradedVectors) (from to n : ℕ) (run : Runners)
    → AreRunners c graded from to n run → length run.latches.items ≡ length c.dffs
latches_long c graded from to n run are =
    ap (λ (l : List Tern). length l) are.latches
    ∙ state_is_start c None (unknown_state c) (take (from + n) (shorter graded from to)) (unknown_is_start c)

-- the faults of the run are on lines of the circuit
pub has_lines : (c : Netlist) (graded : GradedVectors) (from to n : ℕ) (run : Runners) → MayRun c graded from to
    → AreRunners c graded from to n run → (j : ℕ) (fault : Fault) → slice_get run.faults.items j ≡ Some fault
    → HasLine c fault.site
has_lines c graded from to n run may are j fault has =
    let less : j < length run.runners.items =
    omega (arith, slice_get_within run.faults.items j fault has, are.faults) in
    let is = are.of_fault j less in
    let k = (runner_at run.runners.items j).place in
    let wanted = graded.wanted.items in
    let same : Some (wanted_fault c wanted k) ≡ Some fault = sym is.fault ∙ has in
    chosen_lines c (faults_of c) wanted k fault refl may.wanted.known
    (sym (ap (λ (l : List Fault). slice_get l k) may.wanted.faults)
    ∙ (chosen_at c wanted graded.faults.items k may.wanted.faults is.part.inside ∙ same))

-- ---- faults that join

joined_diffs : (history : List (List Diff)) (t : ℕ) (was is : Grade) (old new : Runner)
    → MayHaveJoined history t was is old new → is.diffs ≡ was.diffs
joined_diffs history t was is old new (inl same) = ap (λ (g : Grade). g.diffs) same.0
joined_diffs history t was is old new (inr joins) = ap (λ (g : Grade). g.diffs) joins.grade

-- a fault that had ended stays as it was
joined_kept : (history : List (List Diff)) (t : ℕ) (was is : Grade) (old new : Runner) (p : Place)
    → MayHaveJoined history t was is old new → was.verdict ≡ Some p → is ≡ was
joined_kept history t was is old new p (inl same) found = same.0
joined_kept history t was is old new p (inr joins) found = let bad : Some p ≡ None = sym found ∙ joins.none in cc

-- and so do all of them
pub kept_joined : (histories : List (List (List Diff))) (t : ℕ) (was is : List Grade) (old new : List Runner)
    → SomeJoined histories t was is old new → length was ≡ length old → (j : ℕ) (p : Place)
    → (grade_at was j).verdict ≡ Some p → grade_at is j ≡ grade_at was j
kept_joined histories t was is old new some every j p found = elim (le_or_lt (length old) j) [
  | inl past ↦
      past_none is j (omega (arith, past, some.grades, every)) ∙ sym (past_none was j (omega (arith, past, every)))
  | inr less ↦
      joined_kept (get_or histories (runner_at old j).place []) t (grade_at was j) (grade_at is j) (runner_at old j)
      (runner_at new j) p (some.each j less) found
]

-- the runners have the same faults
pub places_joined : (histories : List (List (List Diff))) (t : ℕ) (was is : List Grade) (old new : List Runner)
    → SomeJoined histories t was is old new → HaveSamePlaces old new
places_joined histories t was is old new some = record {
  every = some.runners;
  each = λ j less.
      joined_place (get_or histories (runner_at old j).place []) t (grade_at was j) (grade_at is j) (runner_at old j)
      (runner_at new j) (some.each j less);
}

-- the run with the faults that have joined
pub joined_run : (c : Netlist) (graded : GradedVectors) (from to n : ℕ) (old new : Runners) → MayRun c graded from to
    → to + n ≤ length graded.vectors.list → AreRunners c graded from to n old → old.joined ≡ true
    → HaveJoined graded.histories.items (to + n) old new → AreRunners c graded from to n new
joined_run c graded from to n old new may inside are joined through = record {
  latches = ap (λ v. v.items) through.latches ∙ are.latches;
  moments =
      subst (λ b. AreRunMoments c graded from to n b new.moments.items) (sym through.joined)
      (subst (λ l. AreRunMoments c graded from to n old.joined l) (sym (ap (λ v. v.items) through.moments))
      are.moments);
  grades = through.some.grades ∙ (are.grades ∙ sym through.some.runners);
  faults = ap (λ v. length v.items) through.faults ∙ (are.faults ∙ sym through.some.runners);
  listed = through.listed;
  known = known_still;
  of_fault = λ j less.
      let there : j < length old.runners.items = omega (arith, less, through.some.runners) in
      subst (λ (l : List Fault). IsOfFault c graded from (runner_at new.runners.items j) (slice_get l j))
      (sym (ap (λ v. v.items) through.faults)) (same_fault j there (are.of_fault j there));
  each = λ j less. runner_still j (omega (arith, less, through.some.runners));
}
  where
    history : ℕ → List (List Diff)
    history j = get_or graded.histories.items (runner_at old.runners.items j).place []

    place_same : (j : ℕ) → j < length old.runners.items
        → (runner_at new.runners.items j).place ≡ (runner_at old.runners.items j).place
    place_same j less =
        joined_place (history j) (to + n) (grade_at old.grades.items j) (grade_at new.grades.items j)
        (runner_at old.runners.items j) (runner_at new.runners.items j) (through.some.each j less)

    known_still : (k : ℕ) → AreLatches c (grade_at new.grades.items k).diffs
    known_still k = elim (le_or_lt (length old.runners.items) k) [
      | inl past ↦
          subst (λ (g : Grade). AreLatches c g.diffs)
          (sym (past_none new.grades.items k (omega (arith, past, through.some.grades, are.grades))))
          (λ i d less. absurd (omega (arith, less)))
      | inr less ↦
          subst (AreLatches c)
          (sym (joined_diffs (history k) (to + n) (grade_at old.grades.items k) (grade_at new.grades.items k)
          (runner_at old.runners.items k) (runner_at new.runners.items k) (through.some.each k less))) (are.known k)
    ]

    same_fault : (j : ℕ) → j < length old.runners.items
        → IsOfFault c graded from (runner_at old.runners.items j) (slice_get old.faults.items j)
        → IsOfFault c graded from (runner_at new.runners.items j) (slice_get old.faults.items j)
    same_fault j less is = record {
      part = subst (CanTakePart graded from) (sym (place_same j less)) is.part;
      fault = is.fault ∙ ap (λ (k : ℕ). Some (wanted_fault c graded.wanted.items k)) (sym (place_same j less));
    }

    still_is : (j : ℕ) → j < length old.runners.items
        → MayHaveJoined (history j) (to + n) (grade_at old.grades.items j) (grade_at new.grades.items j)
        (runner_at old.runners.items j) (runner_at new.runners.items j)
        → IsRunner c (wanted_fault c graded.wanted.items (runner_at old.runners.items j).place)
        (shorter graded from to) from n (history j) (runner_at new.runners.items j) (grade_at new.grades.items j)
    still_is j less (inl same) =
        let k = (runner_at old.runners.items j).place in
        subst (λ (r : Runner). IsRunner c (wanted_fault c graded.wanted.items k) (shorter graded from to) from n
        (history j) r (grade_at new.grades.items j)) (sym same.1)
        (subst (IsRunner c (wanted_fault c graded.wanted.items k) (shorter graded from to) from n (history j)
        (runner_at old.runners.items j)) (sym same.0) (are.each j less))
    still_is j less (inr joins) =
        let k = (runner_at old.runners.items j).place in
        let part = (are.of_fault j less).part in
        let good = are.moments.ended joined in
        runner_joined c (wanted_fault c graded.wanted.items k) (shorter graded from to) graded.vectors.list from n
        (to + n) (history j) (runner_at old.runners.items j) (runner_at new.runners.items j)
        (grade_at old.grades.items j) (grade_at new.grades.items j) (front_of c graded from to k may part)
        (are.each j less) joins (may.histories k part.inside (omega (arith, joins.inside)))
        (good_joined c graded from to n (length old.moments.items) may are.moments.some inside good)
        (go_on c graded from to n may inside)
        (omega (arith, inside, as_long c graded from to may, may.order)) (omega (arith, may.order))

    runner_still : (j : ℕ) → j < length old.runners.items → IsRunner c
        (wanted_fault c graded.wanted.items (runner_at new.runners.items j).place) (shorter graded from to) from n
        (history_of graded (runner_at new.runners.items j).place) (runner_at new.runners.items j)
        (grade_at new.grades.items j)
    runner_still j less =
        subst (λ (i : ℕ). IsRunner c (wanted_fault c graded.wanted.items i) (shorter graded from to) from n
        (history_of graded i) (runner_at new.runners.items j) (grade_at new.grades.items j))
        (sym (place_same j less)) (still_is j less (through.some.each j less))
