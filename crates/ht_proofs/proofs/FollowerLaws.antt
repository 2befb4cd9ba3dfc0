-- The faults of a frame that need no lane, one after the other.
use Rattle.std.proofs.Common.{◌≡◌, ◌≢◌, ◌<◌, ◌≤◌, ◌+◌, ◌∙◌, ◌++◌, ◌∷◌, ◌⊎◌, ℕ, List, [], Bool, true, false, Option, Some, None, length, get_or, set, replicate, refl, sym, ap, subst, arith, inl, inr, length-append}
use Rattle.std.specs.List.{slice_get}
use Rattle.std.specs.Prelude.{◌==◌}
use Rattle.std.proofs.lemmas.Bool.{cases_eq}
use Rattle.std.proofs.lemmas.Bool.Decides.{eqb_tells}
use Rattle.std.proofs.lemmas.Grind.{get_or-set_at}
use Rattle.std.proofs.lemmas.List.{ext_get_or, get_or_append_left, get_or_default, get_or_read, get_or-map, get_or_past, get_or-replicate, get_or-set_other, length-map, length-replicate, map-append, nil_from_length}
use Rattle.std.proofs.lemmas.Option.{slice_get-get_or}
use Rattle.std.proofs.Math.Seq.{get_or-append_seam}
use Rattle.ht_tern.specs.declared.tern.Tern.{Tern}
use Rattle.ht_tern.specs.declared.tern.Tern.TheVariants.{Zero, One, Unk}
use Rattle.ht_net.specs.declared.net.NetId.{NetId}
use Rattle.ht_net.specs.declared.fault.Fault.{Fault}
use Rattle.ht_net.specs.Circuit.Netlist.{Netlist}
use Rattle.ht_net.specs.Frames.Faults.{tern_rules}
use Rattle.ht_net.proofs.FrameLaws.{le_or_lt}
use Rattle.ht_stems.specs.declared.arrival.Arrival.{Arrival}
use Rattle.ht_stems.specs.declared.arrival.Arrival.TheVariants.{Dies, AtLatch, AtOutput, AtStem}
use Rattle.ht_stems.specs.Arrivals.{IsWithin}
use Rattle.ht_stems.specs.ArrivedFrames.{AreGoodValues, ShowsArrival}
use Rattle.ht_stems.specs.ArrivalsView.{ArrivalsView, good_of_net}
use Rattle.ht_group.specs.declared.diffs.Diff.{Diff}
use Rattle.ht_faults.specs.FaultList.{no_fault}
use Rattle.ht_group.specs.GroupView.{GroupView, FaultyMachine, AreLatches}
use Rattle.ht_proofs.specs.declared.grade.Grade.{Grade}
use Rattle.ht_proofs.specs.declared.stems.Firsts.{Firsts}
use Rattle.ht_proofs.specs.declared.stems.Follower.{Follower}
use Rattle.ht_proofs.specs.declared.stems.Stems.{Stems}
use Rattle.ht_proofs.specs.LaneGrades.{no_grade, grade_at, HasNoLane, IsGradedFault}
use Rattle.ht_proofs.specs.Batches.{BatchStandsFor, BatchView, FrameStart, ArePassed, ArePassedAll, IsGradedFrame, machine_from}
use Rattle.ht_proofs.specs.Followers.{no_firsts, first_in, with_first, first_at, first_noted, firsts_if, no_follower, following, Joins, comes_first, comes_later, arrived_grade, is_at_stem, EndsAt, GoesThrough, takes_lane, ends_apart, ends_at_stem, IsFollower, AreSharing, AreFollowers, AreCopied, FrameStandsFor}
use Rattle.ht_proofs.proofs.BatchLaws.{graded_in, has_lane, lane_before, lane_last, lane_order, sharing_later}
use Rattle.ht_proofs.proofs.ArrivedLaws as arrived

-- the values of a frame are those of a batch in it
pub good_in : (g frame : GroupView) (a b : ArrivalsView) → g.circuit ≡ frame.circuit → g.vector ≡ frame.vector
    → g.latches ≡ frame.latches → a ≡ b → AreGoodValues frame.circuit frame.vector frame.latches (good_of_net b)
    → AreGoodValues g.circuit g.vector g.latches (good_of_net a)
good_in g frame a b c v l is good =
    subst (λ (x : ArrivalsView). AreGoodValues g.circuit g.vector g.latches (good_of_net x)) (sym is)
    (subst (λ (n : Netlist). AreGoodValues n g.vector g.latches (good_of_net b)) (sym c)
    (subst (λ (w : List Tern). AreGoodValues frame.circuit w g.latches (good_of_net b)) (sym v)
    (subst (λ (w : List Tern). AreGoodValues frame.circuit frame.vector w (good_of_net b)) (sym l) good)))

-- ---- the first at a net

first_with : (firsts : Firsts) (v w : Tern) (i f : ℕ) → first_in (with_first firsts v i) w ≡ Some f
    → ((w ≡ v) × (f ≡ i)) ⊎ (first_in firsts w ≡ Some f)
first_with firsts Zero Zero i f h = let e : f ≡ i = cc in inl (refl, e)
first_with firsts Zero One i f h = inr h
first_with firsts Zero Unk i f h = inr h
first_with firsts One Zero i f h = inr h
first_with firsts One One i f h = let e : f ≡ i = cc in inl (refl, e)
first_with firsts One Unk i f h = inr h
first_with firsts Unk Zero i f h = inr h
first_with firsts Unk One i f h = inr h
first_with firsts Unk Unk i f h = let e : f ≡ i = cc in inl (refl, e)

-- the first at a net with a value once another is noted: that one, or the first before
pub first_cases : (table : List Firsts) (x : ℕ) (v : Tern) (i y : ℕ) (w : Tern) (f : ℕ) → x < length table
    → first_at (first_noted table x v i) y w ≡ Some f
    → ((y ≡ x) × (w ≡ v) × (f ≡ i)) ⊎ (first_at table y w ≡ Some f)
first_cases table x v i y w f inside at = elim (cases_eq y x) [
  | inl here ↦
      let entry : Firsts = with_first (get_or table x no_firsts) v i in
      let is : first_in entry w ≡ Some f =
      ap (λ (e : Firsts). first_in e w) (sym (get_or-set_at table x y entry no_firsts here inside)) ∙ at in
      elim (first_with (get_or table x no_firsts) v w i f is) [
        | inl p ↦ inl (here, p.0, p.1)
        | inr old ↦ inr (ap (λ n. first_at table n w) here ∙ old)
      ]
  | inr other ↦
      inr (ap (λ (e : Firsts). first_in e w)
      (sym (get_or-set_other table x y (with_first (get_or table x no_firsts) v i) no_firsts other)) ∙ at)
]

-- none has arrived where no fault has
pub none_yet : (v : Tern) → first_in no_firsts v ≡ None
none_yet Zero = refl
none_yet One = refl
none_yet Unk = refl

-- a table of a frame in which ends were found is used, and else an empty one
empty_entry : (found : Bool) (n : ℕ) (table : List Firsts) → (found ≡ true → table ≡ replicate n no_firsts) → (x : ℕ)
    → get_or (firsts_if found table) x no_firsts ≡ no_firsts
empty_entry false n table empty x = refl
empty_entry true n table empty x = ap (λ (t : List Firsts). get_or t x no_firsts) (empty refl)
    ∙ elim (le_or_lt n x) [
      | inl past ↦
          get_or_past (replicate n no_firsts) x no_firsts (omega (arith, past, length-replicate n no_firsts))
      | inr inside ↦ get_or-replicate n x no_firsts no_firsts inside
    ]

-- a fault that joins a table joins it also as the table of a frame in which ends were found
pub joins_if : (x : ℕ) (v : Tern) (i : ℕ) (found later : Bool) (table : List Firsts) (followers : List Follower)
    (lane : Bool) (after : List Firsts) (more : List Follower) → found ≡ true → later ≡ found
    → Joins x v i table followers lane after more
    → Joins x v i (firsts_if found table) followers lane (firsts_if later after) more
joins_if x v i true true table followers lane after more is same joins = joins
joins_if x v i true false table followers lane after more is same joins = cc
joins_if x v i false later table followers lane after more is same joins = cc

-- no fault has arrived in an empty table
pub sharing_none : (frame : GroupView) (faults : List Fault) (number : ℕ) (old : List Grade) (found : Bool) (n : ℕ)
    (table : List Firsts) (followers : List Follower) → (found ≡ true → table ≡ replicate n no_firsts)
    → followers ≡ [] → AreSharing frame faults number old 0 (firsts_if found table) followers
sharing_none frame faults number old found n table followers empty none = record {
  firsts = λ x v f at.
      let bad : None ≡ Some f =
      sym (ap (λ (e : Firsts). first_in e v) (empty_entry found n table empty x) ∙ none_yet v) ∙ at in
      cc;
  each = λ k less. absurd (omega (arith, less, long));
  differ = λ j k order less. absurd (omega (arith, less, long));
}
  where
    long : length followers ≡ 0
    long = ap (λ (l : List Follower). length l) none

-- ---- one follower more

abbrev more_of : List Follower → ℕ → ℕ → List Follower
more_of followers i f = followers ++ record { fault = i; first = f } ∷ []

following_more : (followers : List Follower) (i f : ℕ)
    → following (more_of followers i f) ≡ following followers ++ i ∷ []
following_more followers i f =
    map-append (λ (e : Follower). e.fault) followers (record { fault = i; first = f } ∷ [])

following_long : (followers : List Follower) → length (following followers) ≡ length followers
following_long followers = length-map followers (λ (e : Follower). e.fault)

following_at : (followers : List Follower) (k : ℕ) → k < length followers
    → get_or (following followers) k 0 ≡ (get_or followers k no_follower).fault
following_at followers k less = get_or-map (λ (e : Follower). e.fault) followers k no_follower 0 less

follower_before : (followers : List Follower) (i f k : ℕ) → k < length followers
    → get_or (more_of followers i f) k no_follower ≡ get_or followers k no_follower
follower_before followers i f k less =
    get_or_append_left followers (record { fault = i; first = f } ∷ []) no_follower k less

follower_last : (followers : List Follower) (i f k : ℕ) → k ≡ length followers
    → get_or (more_of followers i f) k no_follower ≡ record { fault = i; first = f }
follower_last followers i f k last =
    ap (λ n. get_or (more_of followers i f) n no_follower) last
    ∙ get_or-append_seam followers (record { fault = i; first = f }) [] no_follower

follower_order : (followers : List Follower) (i f k : ℕ) → k < length (more_of followers i f)
    → (k < length followers) ⊎ (k ≡ length followers)
follower_order followers i f k less = elim (cases_eq k (length followers)) [
  | inl last ↦ inr last
  | inr before ↦
      inl (omega (arith, less, before, length-append followers (record { fault = i; first = f } ∷ [])))
]

-- a fault that is none of the followers, once there is one more
leads_on : (followers : List Follower) (i f g : ℕ) → g ≢ i → HasNoLane (following followers) g
    → HasNoLane (following (more_of followers i f)) g
leads_on followers i f g other none =
    subst (λ (l : List ℕ). HasNoLane l g) (sym (following_more followers i f)) (λ k less e.
    elim (lane_order (following followers) i k less) [
      | inl lower ↦ none k lower (sym (lane_before (following followers) i k lower) ∙ e)
      | inr last ↦ other (sym e ∙ lane_last (following followers) i k last)
    ])

-- and before
leads_before : (followers : List Follower) (i f g : ℕ) → HasNoLane (following (more_of followers i f)) g
    → HasNoLane (following followers) g
leads_before followers i f g none k less e =
    let here = subst (λ (l : List ℕ). HasNoLane l g) (following_more followers i f) none in
    here k (omega (arith, less, length-append (following followers) (i ∷ [])))
    (lane_before (following followers) i k less ∙ e)

-- the last one is a follower
last_follows : (followers : List Follower) (i f : ℕ) → ¬ HasNoLane (following (more_of followers i f)) i
last_follows followers i f none =
    let here = subst (λ (l : List ℕ). HasNoLane l i) (following_more followers i f) none in
    here (length (following followers)) (omega (arith, length-append (following followers) (i ∷ [])))
    (lane_last (following followers) i (length (following followers)) refl)

-- ---- what one fault needs

-- an entry that was read by the number of its net
pub entry_read : (table : List Firsts) (n x : ℕ) (entry : Firsts) → x < length table → n ≡ x
    → entry ≡ get_or table n entry → entry ≡ get_or table x no_firsts
entry_read table n x entry inside at is =
    get_or_read table x entry inside (is ∙ ap (λ m. get_or table m entry) at) no_firsts

-- what is no number is none
pub none_left : (first : Option ℕ) → ((f : ℕ) → first ≡ Some f → ⊥) → first ≡ None
none_left None h = refl
none_left (Some f) h = absurd (h f refl)

-- an effect that ends at no stem
pub not_stem : (a : Arrival) → ((x : NetId) (v : Tern) → a ≡ AtStem x v → ⊥) → is_at_stem a ≡ false
not_stem Dies h = refl
not_stem (AtLatch j v) h = refl
not_stem (AtOutput o v) h = refl
not_stem (AtStem x v) h = absurd (h x v refl)

-- a fault without differences that isn't detected
pub nothing_kept : (grades : List Grade) (i : ℕ) (g : Grade) (entries : List Diff) (empty : Bool) → i < length grades
    → (grade_at grades i).verdict ≡ None → entries ≡ (get_or grades i g).diffs → empty ≡ (length entries == 0)
    → empty ≡ true → grade_at grades i ≡ no_grade
nothing_kept grades i g entries empty inside none is told holds =
    let long : length entries ≡ 0 = elim (eqb_tells (length entries) 0) [
      | inl p ↦ p.1
      | inr p ↦
          let bad : true ≡ false = sym holds ∙ (told ∙ p.0) in
          cc
    ] in
    let diffs : (grade_at grades i).diffs ≡ [] =
    ap (λ (x : Grade). x.diffs) (sym (get_or_default grades i g no_grade inside))
    ∙ (sym is ∙ nil_from_length entries long) in
    λ t. record { verdict = none t; diffs = diffs t }

-- where its effect ends, as the arrivals of its frame tell
pub ends_told : (frame : GroupView) (arrivals : ArrivalsView) (fault : Fault) (a : Arrival)
    → arrivals.circuit ≡ frame.circuit
    → AreGoodValues frame.circuit frame.vector frame.latches (good_of_net arrivals)
    → ((vector latches : List Tern) → AreGoodValues arrivals.circuit vector latches (good_of_net arrivals)
    → ShowsArrival arrivals.circuit (tern_rules (Some fault)) vector latches a) → IsWithin arrivals.circuit a
    → EndsAt frame fault a
ends_told frame arrivals fault a circuit good shows within = record {
  shows = subst (λ (n : Netlist). ShowsArrival n (tern_rules (Some fault)) frame.vector frame.latches a) circuit
      (shows frame.vector frame.latches
      (subst (λ (n : Netlist). AreGoodValues n frame.vector frame.latches (good_of_net arrivals)) (sym circuit) good));
  within = subst (λ (n : Netlist). IsWithin n a) circuit within;
}

-- ---- one fault goes through

module _ (frame : GroupView) (faults : List Fault) (number : ℕ) (before : List Grade) (i : ℕ) (fault : Fault)
    (s : BatchView) (old : List Grade) (table : List Firsts) (followers : List Follower)
    (has : slice_get faults i ≡ Some fault)
    (passed : ArePassed frame faults number before i (following followers) s old)
    (shared : AreSharing frame faults number before i table followers) where
  was : grade_at old i ≡ grade_at before i
  was = passed.later i (omega arith)

  -- an effect in the batch's frame
  ends_here : (f : Fault) (a : Arrival) → slice_get faults i ≡ Some f → EndsAt s.group fault a → EndsAt frame f a
  ends_here f a there ends =
      let one : Some fault ≡ Some f = sym has ∙ there in
      let is : fault ≡ f = cc in
      subst (λ (x : Fault). EndsAt frame x a) is
      (arrived.ends_in s.group frame fault a passed.circuit_same passed.vector_same passed.latches_same ends)

  later : AreSharing frame faults number before (i + 1) table followers
  later = sharing_later frame faults number before i (i + 1) table followers (omega arith) shared

  joined : (x : NetId) (v : Tern) (lane : Bool) (after : List Firsts) (more : List Follower)
      → grade_at old i ≡ no_grade → EndsAt s.group fault (AtStem x v) → Joins x.0 v i table followers lane after more
      → AreSharing frame faults number before (i + 1) after more
  joined x v _ _ _ none ends (comes_first inside empty) = record {
    firsts = λ y w f at. elim (first_cases table x.0 v i y w f inside at) [
      | inl p ↦
          rw p.0 (rw p.1 (rw p.2 (record {
            earlier = omega arith;
            was = sym was ∙ none;
            leads = λ k less e.
                let less' : k < length followers = omega (arith, less, following_long followers) in
                let lower = (shared.each k less').earlier in
                absurd (omega (arith, lower, e, following_at followers k less'));
            ends = λ g there. ends_here g (AtStem x v) there ends;
          })))
      | inr old_at ↦ later.firsts y w f old_at
    ];
    each = later.each;
    differ = later.differ;
  }
  joined x v _ _ _ none ends (comes_later f at) =
      let first = shared.firsts x.0 v f at in
      let one : Follower = record { fault = i; first = f } in
      record {
        firsts = λ y w g there.
            let early = shared.firsts y w g there in
            record {
              earlier = omega (arith, early.earlier);
              was = early.was;
              leads = leads_on followers i f g (omega (arith, early.earlier)) early.leads;
              ends = early.ends;
            };
        each = λ k less. elim (follower_order followers i f k less) [
          | inl lower ↦
              let early = shared.each k lower in
              subst (IsFollower frame faults number before (i + 1) (more_of followers i f))
              (sym (follower_before followers i f k lower)) (record {
                earlier = omega (arith, early.earlier);
                first_earlier = omega (arith, early.first_earlier);
                was = early.was;
                first_was = early.first_was;
                leads = leads_on followers i f (get_or followers k no_follower).first
                    (omega (arith, early.first_earlier)) early.leads;
                shares = early.shares;
              })
          | inr last ↦
              subst (IsFollower frame faults number before (i + 1) (more_of followers i f))
              (sym (follower_last followers i f k last)) (record {
                earlier = omega arith;
                first_earlier = omega (arith, first.earlier);
                was = sym was ∙ none;
                first_was = first.was;
                leads = leads_on followers i f f (omega (arith, first.earlier)) first.leads;
                shares = λ g other grade there other_there graded.
                    arrived.graded_together frame g other number (AtStem x v) (grade_at before i) (grade_at before f)
                    grade (sym was ∙ none) first.was (ends_here g (AtStem x v) there ends)
                    (first.ends other other_there) graded;
              })
        ];
        differ = λ j k order less same.
            let long = length-append followers (one ∷ []) in
            let lower : j < length followers = omega (arith, order, less, long) in
            let at_j = ap (λ (e : Follower). e.fault) (follower_before followers i f j lower) in
            elim (follower_order followers i f k less) [
              | inl below ↦
                  shared.differ j k order below
                  (sym at_j ∙ (same ∙ ap (λ (e : Follower). e.fault) (follower_before followers i f k below)))
              | inr last ↦
                  let at_k = ap (λ (e : Follower). e.fault) (follower_last followers i f k last) in
                  let early = (shared.each j lower).earlier in
                  absurd (omega (arith, early, at_j, at_k, same))
            ];
      }

  -- the faults that share grades, with this one
  pub sharing_on : (lane : Bool) (g : Grade) (after : List Firsts) (more : List Follower)
      → GoesThrough s.group fault number i (grade_at old i) table followers lane g after more
      → AreSharing frame faults number before (i + 1) after more
  sharing_on _ _ _ _ takes_lane = later
  sharing_on _ _ _ _ (ends_apart a none ends not_stem) = later
  sharing_on _ _ _ _ (ends_at_stem x v lane after more none ends joins) = joined x v lane after more none ends joins

  module _ (new : List Grade) (others : (j : ℕ) → j ≢ i → grade_at new j ≡ grade_at old j)
      (undetected : (grade_at old i).verdict ≡ None) where
    one_more : (more : List Follower) → ((j : ℕ) → HasNoLane (following more) j → HasNoLane (following followers) j)
        → (HasNoLane (following more) i
        → IsGradedFault frame (machine_from frame fault (grade_at before i)) number (grade_at new i))
        → ArePassed frame faults number before (i + 1) (following more) s new
    one_more more less_waits here = record {
      circuit_same = passed.circuit_same;
      vector_same = passed.vector_same;
      latches_same = passed.latches_same;
      in_lanes = passed.in_lanes;
      undetected = passed.undetected;
      later = λ j less. others j (omega (arith, less)) ∙ passed.later j (omega (arith, less));
      kept = λ j p found. elim (cases_eq j i) [
        | inl same ↦
            let bad : None ≡ Some p =
            sym undetected ∙ (ap (λ (g : Grade). g.verdict) was
            ∙ (ap (λ n. (grade_at before n).verdict) (sym same) ∙ found)) in
            cc
        | inr other ↦ others j other ∙ passed.kept j p found
      ];
      done = λ j f less there none no_lane no_wait. elim (cases_eq j i) [
        | inl same ↦
            let one : Some fault ≡ Some f = sym has ∙ (ap (slice_get faults) (sym same) ∙ there) in
            let is : fault ≡ f = cc in
            subst (λ n. IsGradedFault frame (machine_from frame f (grade_at before n)) number (grade_at new n))
            (sym same)
            (subst (λ (x : Fault). IsGradedFault frame (machine_from frame x (grade_at before i)) number
            (grade_at new i)) is (here (subst (HasNoLane (following more)) same no_wait)))
        | inr other ↦
            subst (IsGradedFault frame (machine_from frame f (grade_at before j)) number) (sym (others j other))
            (passed.done j f (omega (arith, less, other)) there none no_lane (less_waits j no_wait))
      ];
    }

    joined_on : (x : ℕ) (v : Tern) (lane : Bool) (after : List Firsts) (more : List Follower)
        → Joins x v i table followers lane after more → lane ≡ false
        → ArePassed frame faults number before (i + 1) (following more) s new
    joined_on x v _ _ _ (comes_first inside empty) is = cc
    joined_on x v _ _ _ (comes_later f at) is =
        one_more (more_of followers i f) (λ j. leads_before followers i f j)
        (λ none. absurd (last_follows followers i f none))

    -- the faults that went through, with this one, which needs no lane
    pub passed_on : (lane : Bool) (g : Grade) (after : List Firsts) (more : List Follower)
        → GoesThrough s.group fault number i (grade_at old i) table followers lane g after more → lane ≡ false
        → grade_at new i ≡ g → ArePassed frame faults number before (i + 1) (following more) s new
    passed_on _ _ _ _ takes_lane is new_is = cc
    passed_on _ _ _ _ (ends_apart a none ends not_stem) is new_is =
        let machine : arrived.from_good s.group fault ≡ machine_from frame fault (grade_at before i) =
        ap (λ (l : List Tern). record { fault = fault; latches = l }) passed.latches_same
        ∙ arrived.from_good_is frame fault (grade_at before i) (sym was ∙ none) in
        one_more followers (λ j same. same) (λ same.
        subst (IsGradedFault frame (machine_from frame fault (grade_at before i)) number) (sym new_is)
        (subst (λ (m : FaultyMachine). IsGradedFault frame m number (arrived_grade s.group number a)) machine
        (graded_in s.group frame (arrived.from_good s.group fault) number (arrived_grade s.group number a)
        passed.circuit_same passed.vector_same passed.latches_same
        (arrived.arrived_graded s.group fault number a ends not_stem))))
    passed_on _ _ _ _ (ends_at_stem x v lane after more none ends joins) is new_is =
        joined_on x.0 v lane after more joins is

joined_lane : (x : ℕ) (v : Tern) (i : ℕ) (table : List Firsts) (followers : List Follower) (lane : Bool)
    (after : List Firsts) (more : List Follower) → Joins x v i table followers lane after more → lane ≡ true
    → more ≡ followers
joined_lane x v i table followers _ _ _ (comes_first inside empty) is = refl
joined_lane x v i table followers _ _ _ (comes_later f at) is = cc

-- where it needs a lane nothing else is new
pub lane_same : (group : GroupView) (fault : Fault) (number i : ℕ) (grade : Grade) (table : List Firsts)
    (followers : List Follower) (lane : Bool) (g : Grade) (after : List Firsts) (more : List Follower)
    → GoesThrough group fault number i grade table followers lane g after more → lane ≡ true
    → (more ≡ followers) × (g ≡ grade)
lane_same group fault number i grade table followers _ _ _ _ takes_lane is = (refl, refl)
lane_same group fault number i grade table followers _ _ _ _ (ends_apart a none ends not_stem) is = cc
lane_same group fault number i grade table followers _ _ _ _ (ends_at_stem x v lane after more none ends joins) is =
    (joined_lane x.0 v i table followers lane after more joins is, refl)

-- grades that are all the same
pub grades_same : (old new : List Grade) (i : ℕ) → length new ≡ length old
    → ((j : ℕ) → j ≢ i → grade_at new j ≡ grade_at old j) → grade_at new i ≡ grade_at old i → new ≡ old
grades_same old new i long others here = ext_get_or no_grade new old long (λ j inside. elim (cases_eq j i) [
  | inl same ↦ subst (λ n. grade_at new n ≡ grade_at old n) (sym same) here
  | inr other ↦ others j other
])

-- what is kept of it is at flip-flops of the circuit
pub known_on : (group : GroupView) (fault : Fault) (number i : ℕ) (grade : Grade) (table : List Firsts)
    (followers : List Follower) (lane : Bool) (g : Grade) (after : List Firsts) (more : List Follower)
    → GoesThrough group fault number i grade table followers lane g after more
    → AreLatches group.circuit grade.diffs → AreLatches group.circuit g.diffs
known_on group fault number i grade table followers _ _ _ _ takes_lane known = known
known_on group fault number i grade table followers _ _ _ _ (ends_apart a none ends not_stem) known =
    arrived.arrived_known group fault number a ends
known_on group fault number i grade table followers _ _ _ _ (ends_at_stem x v lane after more none ends joins) known =
    known

-- a batch and the faults that share grades stand for the frame together
pub frame_stands : (start : FrameStart) (number i : ℕ) (s : BatchView) (stems : Stems) (grades : List Grade)
    (steps : ℕ) → BatchStandsFor start number i (following stems.followers.items) s grades steps
    → AreSharing start.frame start.faults number start.grades i (firsts_if stems.found stems.firsts.items)
    stems.followers.items
    → FrameStandsFor start number i s stems grades steps
frame_stands start number i s stems grades steps stands shared = record { stands = stands; shared = shared }

-- ---- the grades that are taken over

-- the followers of a whole list
pub are_followers : (frame : GroupView) (faults : List Fault) (number : ℕ) (old : List Grade) (table : List Firsts)
    (followers : List Follower) (mid : List Grade) → length faults ≤ length mid
    → AreSharing frame faults number old (length faults) table followers → AreFollowers followers mid
are_followers frame faults number old table followers mid long shared = record {
  known = λ k less. let early = (shared.each k less).earlier in omega (arith, early, long);
  first_known = λ k less. let early = (shared.each k less).first_earlier in omega (arith, early, long);
  leads = λ k less. (shared.each k less).leads;
  differ = shared.differ;
}

-- a fault that doesn't follow another one keeps its grade
not_copied : (followers : List Follower) (mid new : List Grade) (j : ℕ) → AreCopied (length followers) followers mid new
    → HasNoLane (following followers) j → grade_at new j ≡ grade_at mid j
not_copied followers mid new j copied none = copied.others j (λ k less inside e.
    none k (omega (arith, inside, following_long followers)) (following_at followers k inside ∙ e))

-- what is kept of all is at flip-flops of the circuit
pub known_after : (c : Netlist) (followers : List Follower) (mid new : List Grade)
    → AreCopied (length followers) followers mid new → ((k : ℕ) → AreLatches c (grade_at mid k).diffs) → (k : ℕ)
    → AreLatches c (grade_at new k).diffs
known_after c followers mid new copied known j = elim (has_lane (following followers) j) [
  | inl none ↦
      subst (λ (g : Grade). AreLatches c g.diffs) (sym (not_copied followers mid new j copied none)) (known j)
  | inr at ↦
      let inside : at.0 < length followers = omega (arith, at.1, following_long followers) in
      let one = get_or followers at.0 no_follower in
      let is : one.fault ≡ j = sym (following_at followers at.0 inside) ∙ at.2 in
      subst (λ n. AreLatches c (grade_at new n).diffs) is
      (subst (λ (g : Grade). AreLatches c g.diffs) (sym (copied.each at.0 inside inside)) (known one.first))
]

-- all faults went through: alone, in a lane, or after another
pub all_graded : (frame : GroupView) (faults : List Fault) (number : ℕ) (old mid new : List Grade)
    (table : List Firsts) (followers : List Follower) → ArePassedAll frame faults number old (following followers) mid
    → AreSharing frame faults number old (length faults) table followers
    → AreCopied (length followers) followers mid new → IsGradedFrame frame faults number old new
all_graded frame faults number old mid new table followers passed shared copied = record {
  kept = λ j p found.
      copied.others j (λ k less inside e.
      let bad : None ≡ Some p =
      sym (ap (λ (g : Grade). g.verdict) (shared.each k inside).was)
      ∙ (ap (λ n. (grade_at old n).verdict) e ∙ found) in
      cc)
      ∙ passed.kept j p found;
  graded = λ j fault has none. elim (has_lane (following followers) j) [
    | inl apart ↦
        subst (IsGradedFault frame (machine_from frame fault (grade_at old j)) number)
        (sym (not_copied followers mid new j copied apart)) (passed.graded j fault has none apart)
    | inr at ↦ taken j fault has at.0 (omega (arith, at.1, following_long followers)) at.1 at.2
  ];
}
  where
    taken : (j : ℕ) (fault : Fault) → slice_get faults j ≡ Some fault → (k : ℕ) → k < length followers
        → k < length (following followers) → get_or (following followers) k 0 ≡ j
        → IsGradedFault frame (machine_from frame fault (grade_at old j)) number (grade_at new j)
    taken j fault has k inside less at =
        let one = get_or followers k no_follower in
        let follower = shared.each k inside in
        let is : one.fault ≡ j = sym (following_at followers k inside) ∙ at in
        let other = get_or faults one.first no_fault in
        let other_has = slice_get-get_or faults one.first no_fault follower.first_earlier in
        subst (λ n. IsGradedFault frame (machine_from frame fault (grade_at old n)) number (grade_at new n)) is
        (subst (IsGradedFault frame (machine_from frame fault (grade_at old one.fault)) number)
        (sym (copied.each k inside inside))
        (follower.shares fault other (grade_at mid one.first) (ap (slice_get faults) is ∙ has) other_has
        (passed.graded one.first other other_has (ap (λ (g : Grade). g.verdict) follower.first_was) follower.leads)))

-- ---- one grade after the other

-- none yet
pub copied_none : (followers : List Follower) (old : List Grade) → AreCopied 0 followers old old
copied_none followers old = record {
  each = λ k less inside. absurd (omega arith);
  others = λ j none. refl;
}

-- one more
pub copied_more : (n : ℕ) (followers : List Follower) (old mid new : List Grade) (grade : Grade) → n < length followers
    → AreFollowers followers old → length mid ≡ length old
    → grade ≡ grade_at mid (get_or followers n no_follower).first
    → new ≡ set mid (get_or followers n no_follower).fault grade → AreCopied n followers old mid
    → AreCopied (n + 1) followers old new
copied_more n followers old mid new grade inside are long is new_is copied = record {
  each = λ k less within. elim (cases_eq k n) [
    | inl here ↦
        rw here (ap (λ (l : List Grade). grade_at l one.fault) new_is
        ∙ (get_or-set_at mid one.fault one.fault grade no_grade refl (omega (arith, are.known n inside, long))
        ∙ (is ∙ first_same)))
    | inr other ↦
        other_same (get_or followers k no_follower).fault (apart k (omega (arith, less, other)))
        ∙ copied.each k (omega (arith, less, other)) within
  ];
  others = λ j none.
      other_same j (λ e. none n (omega arith) inside (sym e))
      ∙ copied.others j (λ k less within. none k (omega (arith, less)) within);
}
  where
    one : Follower
    one = get_or followers n no_follower

    apart : (k : ℕ) → k < n → (get_or followers k no_follower).fault ≢ (get_or followers n no_follower).fault
    apart k less = are.differ k n less inside

    first_same : grade_at mid (get_or followers n no_follower).first
        ≡ grade_at old (get_or followers n no_follower).first
    first_same = copied.others (get_or followers n no_follower).first (λ k less within e.
        are.leads n inside k (omega (arith, within, following_long followers))
        (following_at followers k within ∙ e))

    other_same : (j : ℕ) → j ≢ (get_or followers n no_follower).fault → grade_at new j ≡ grade_at mid j
    other_same j other =
        ap (λ (l : List Grade). grade_at l j) new_is
        ∙ get_or-set_other mid (get_or followers n no_follower).fault j grade no_grade other
