-- The lanes of a frame, fault by fault.
use Rattle.std.proofs.Common.{◌≡◌, ◌<◌, ◌+◌, ◌∙◌, ◌++◌, ◌∷◌, inl, inr, ℕ, List, [], Bool, true, false, Option, Some, None, length, get_or, replicate, refl, sym, ap, subst, arith, length-append}
use Rattle.std.proofs.lemmas.Bool.{cases_eq}
use Rattle.std.proofs.lemmas.List.{get_or_append_left, get_or_past, get_or-replicate, length-replicate}
use Rattle.std.proofs.Math.Seq.{get_or-append_seam}
use Rattle.ht_tern.specs.declared.tern.Tern.{Tern}
use Rattle.ht_net.specs.declared.fault.Fault.{Fault}
use Rattle.ht_net.specs.Circuit.Netlist.{Netlist}
use Rattle.ht_net.specs.Frames.Faults.{tern_rules}
use Rattle.ht_net.proofs.FrameLaws.{le_or_lt}
use Rattle.ht_faults.specs.Sites.{faults_of}
use Rattle.ht_faults.specs.Classes.{fault_at}
use Rattle.ht_net.specs.declared.net.NetId.{NetId}
use Rattle.ht_stems.specs.declared.arrival.Arrival.{Arrival}
use Rattle.ht_stems.specs.declared.arrival.Arrival.TheVariants.{AtStem, Dies}
use Rattle.ht_stems.specs.ArrivedFrames.{AreGoodValues, ShowsArrival}
use Rattle.ht_stems.specs.ArrivalsView.{ArrivalsView, good_of_net}
use Rattle.ht_group.specs.Differences.{with_differences}
use Rattle.ht_proofs.specs.declared.stems.Firsts.{Firsts}
use Rattle.ht_proofs.specs.Followers.{first_at, first_in, first_noted, no_firsts}
use Rattle.ht_proofs.proofs.DiffLaws.{no_differences}
use Rattle.ht_proofs.proofs.FollowerLaws.{first_cases, none_yet}
use Rattle.ht_causes.specs.declared.assign.Seat.{Seat}
use Rattle.ht_causes.specs.declared.track.Track.{Track}
use Rattle.ht_causes.specs.Tracks.{ShowAlike, track_state, track_at}
use Rattle.ht_causes.specs.Seats.{ActsFor, AreAssigned, AreFirstLanes, GoesTo, IsSeatAt, IsSeated, alone, comes, comes_first, comes_later, dies, idle, seat_lane, seat_leads}

-- ---- no fault yet

pub table_none : (n : ℕ) (table : List Firsts) → table ≡ replicate n no_firsts → (x : ℕ) (v : Tern)
    → first_at table x v ≡ None
table_none n table are x v =
    ap (λ (t : List Firsts). first_at t x v) are
    ∙ (ap (λ (e : Firsts). first_in e v) (elim (le_or_lt n x) [
      | inl past ↦
          get_or_past (replicate n no_firsts) x no_firsts (omega (arith, past, length-replicate n no_firsts))
      | inr inside ↦ get_or-replicate n x no_firsts no_firsts inside
    ])
    ∙ none_yet v)

pub assigned_none : (c : Netlist) (vector good : List Tern) (live : List Bool) (tracks : List Track) (n : ℕ)
    (table : List Firsts) → table ≡ replicate n no_firsts
    → AreAssigned c vector good live tracks 0 [] [] × AreFirstLanes c vector good tracks [] table
assigned_none c vector good live tracks n table are = (
  record {
    count = refl;
    known = λ l less. absurd (omega arith);
    each = λ i less is. absurd (omega arith);
    calm = λ i less is none. absurd (omega arith);
  },
  λ x v l at. absurd (let bad : None ≡ Some l = sym (table_none n table are x v) ∙ at in cc),
)

-- ---- more lanes

module _ (c : Netlist) (vector good : List Tern) (tracks : List Track) (leads : List ℕ) (n : ℕ) where
  lead_before : (l : ℕ) → l < length leads → get_or (leads ++ n ∷ []) l 0 ≡ get_or leads l 0
  lead_before l less = get_or_append_left leads (n ∷ []) 0 l less

  lead_last : get_or (leads ++ n ∷ []) (length leads) 0 ≡ n
  lead_last = get_or-append_seam leads n [] 0

  longer : length (leads ++ n ∷ []) ≡ length leads + 1
  longer = length-append leads (n ∷ [])

  stands_longer : (i : ℕ) (lane : Option ℕ) → ActsFor c vector good tracks leads i lane
      → ActsFor c vector good tracks (leads ++ n ∷ []) i lane
  stands_longer i None stands = stands
  stands_longer i (Some l) stands = (
    omega (arith, stands.0, longer),
    subst (λ k. ShowAlike c vector (tern_rules (Some (fault_at c i))) (track_state good (track_at tracks i))
        (tern_rules (Some (fault_at c k))) (track_state good (track_at tracks k))) (sym (lead_before l stands.0))
        stands.1,
  )

  comes_longer : (l x : ℕ) (v : Tern) → l < length leads
      → GoesTo c vector good (fault_at c (get_or leads l 0)) (track_at tracks (get_or leads l 0)) x v
      → GoesTo c vector good (fault_at c (get_or (leads ++ n ∷ []) l 0))
      (track_at tracks (get_or (leads ++ n ∷ []) l 0)) x v
  comes_longer l x v less h =
      subst (λ k. GoesTo c vector good (fault_at c k) (track_at tracks k) x v) (sym (lead_before l less)) h

  firsts_longer : (table : List Firsts) → AreFirstLanes c vector good tracks leads table
      → AreFirstLanes c vector good tracks (leads ++ n ∷ []) table
  firsts_longer table firsts = λ x v l at.
      let h = firsts x v l at in
      (omega (arith, h.0, longer), comes_longer l x v h.0 h.1)

  -- it acts as itself
  stands_alone : ActsFor c vector good tracks (leads ++ n ∷ []) n (Some (length leads))
  stands_alone = (
    omega (arith, longer),
    subst (λ k. ShowAlike c vector (tern_rules (Some (fault_at c n))) (track_state good (track_at tracks n))
        (tern_rules (Some (fault_at c k))) (track_state good (track_at tracks k))) (sym lead_last)
        (record { outputs = refl; next = refl }),
  )

  firsts_noted : (table : List Firsts) (x : ℕ) (v : Tern) → x < length table
      → GoesTo c vector good (fault_at c n) (track_at tracks n) x v
      → AreFirstLanes c vector good tracks leads table
      → AreFirstLanes c vector good tracks (leads ++ n ∷ []) (first_noted table x v (length leads))
  firsts_noted table x v inside here firsts = λ y w l at.
      elim (first_cases table x v (length leads) y w l inside at) [
        | inl new ↦ (
          omega (arith, new.2, longer),
          subst (λ (k : ℕ). GoesTo c vector good (fault_at c (get_or (leads ++ n ∷ []) l 0))
              (track_at tracks (get_or (leads ++ n ∷ []) l 0)) k w) (sym new.0)
              (subst (λ (u : Tern). GoesTo c vector good (fault_at c (get_or (leads ++ n ∷ []) l 0))
              (track_at tracks (get_or (leads ++ n ∷ []) l 0)) x u) (sym new.1)
              (subst (λ k. GoesTo c vector good (fault_at c k) (track_at tracks k) x v)
              (sym (ap (λ j. get_or (leads ++ n ∷ []) j 0) new.2 ∙ lead_last)) here)),
        )
        | inr old ↦ firsts_longer table firsts y w l old
      ]

-- two machines whose effects come to one net with one value act alike
alike_at_net : (c : Netlist) (vector good : List Tern) (f g : Fault) (a b : Track) (x : ℕ) (v : Tern)
    → GoesTo c vector good f a x v → GoesTo c vector good g b x v
    → ShowAlike c vector (tern_rules (Some f)) (track_state good a) (tern_rules (Some g)) (track_state good b)
alike_at_net c vector good f g a b x v one other =
    subst (λ (l : List Tern). ShowAlike c vector (tern_rules (Some f)) l (tern_rules (Some g)) (track_state good b))
    (sym one.latches)
    (subst (λ (l : List Tern). ShowAlike c vector (tern_rules (Some f)) good (tern_rules (Some g)) l)
    (sym other.latches) (record {
      outputs = one.shows.outputs ∙ sym other.shows.outputs;
      next = one.shows.next ∙ sym other.shows.next;
    }))

-- ---- one fault more

module _ (c : Netlist) (vector good : List Tern) (live : List Bool) (tracks : List Track) (n : ℕ)
    (lanes : List (Option ℕ)) where
  lane_at : (lane : Option ℕ) (i : ℕ) → i ≡ n → length lanes ≡ n → get_or (lanes ++ lane ∷ []) i None ≡ lane
  lane_at lane i last count =
      ap (λ k. get_or (lanes ++ lane ∷ []) k None) (last ∙ sym count) ∙ get_or-append_seam lanes lane [] None

  lane_kept : (lane : Option ℕ) (i : ℕ) → i < n → length lanes ≡ n
      → get_or (lanes ++ lane ∷ []) i None ≡ get_or lanes i None
  lane_kept lane i below count = get_or_append_left lanes (lane ∷ []) None i (omega (arith, below, count))

  -- the lanes with one more at the end
  lanes_more : (leads more : List ℕ) (lane : Option ℕ) → AreAssigned c vector good live tracks n leads lanes
      → ((l : ℕ) → l < length more → get_or more l 0 < length (faults_of c))
      → ((i : ℕ) (q : Option ℕ) → ActsFor c vector good tracks leads i q
      → ActsFor c vector good tracks more i q)
      → (get_or live n false ≡ true → ActsFor c vector good tracks more n lane)
      → (get_or live n false ≡ true → lane ≡ None → (track_at tracks n).diffs ≡ [])
      → AreAssigned c vector good live tracks (n + 1) more (lanes ++ lane ∷ [])
  lanes_more leads more lane so_far known keeps here calm = record {
    count = length-append lanes (lane ∷ []) ∙ ap (λ k. k + 1) so_far.count;
    known = known;
    each = λ i less is. elim (cases_eq i n) [
      | inl last ↦
          subst (ActsFor c vector good tracks more i) (sym (lane_at lane i last so_far.count))
          (subst (λ k. ActsFor c vector good tracks more k lane) (sym last)
          (here (ap (λ k. get_or live k false) (sym last) ∙ is)))
      | inr other ↦
          let below : i < n = omega (arith, less, other) in
          subst (ActsFor c vector good tracks more i) (sym (lane_kept lane i below so_far.count))
          (keeps i (get_or lanes i None) (so_far.each i below is))
    ];
    calm = λ i less is none. elim (cases_eq i n) [
      | inl last ↦
          subst (λ k. (track_at tracks k).diffs ≡ []) (sym last)
          (calm (ap (λ k. get_or live k false) (sym last) ∙ is) (sym (lane_at lane i last so_far.count) ∙ none))
      | inr other ↦
          let below : i < n = omega (arith, less, other) in
          so_far.calm i below is (sym (lane_kept lane i below so_far.count) ∙ none)
    ];
  }

  known_longer : (leads : List ℕ) → n < length (faults_of c)
      → ((l : ℕ) → l < length leads → get_or leads l 0 < length (faults_of c))
      → (l : ℕ) → l < length (leads ++ n ∷ []) → get_or (leads ++ n ∷ []) l 0 < length (faults_of c)
  known_longer leads inside known l less = elim (cases_eq l (length leads)) [
    | inl last ↦
        omega (arith, inside, ap (λ k. get_or (leads ++ n ∷ []) k 0) last, lead_last c vector good tracks leads n)
    | inr other ↦
        let below : l < length leads = omega (arith, less, other, longer c vector good tracks leads n) in
        omega (arith, known l below, lead_before c vector good tracks leads n l below)
  ]

  next_lane : (leads : List ℕ) → n < length (faults_of c) → AreAssigned c vector good live tracks n leads lanes
      → AreAssigned c vector good live tracks (n + 1) (leads ++ n ∷ []) (lanes ++ Some (length leads) ∷ [])
  next_lane leads inside so_far =
      lanes_more leads (leads ++ n ∷ []) (Some (length leads)) so_far (known_longer leads inside so_far.known)
      (stands_longer c vector good tracks leads n) (λ is. stands_alone c vector good tracks leads n)
      (λ is none. absurd (let bad : Some (length leads) ≡ None = none in cc))

  -- it came to a net, and shares the lane of the first there, or is the first
  seat_at_net : (leads : List ℕ) (table : List Firsts) (x : ℕ) (v : Tern) (seat : Seat) (after : List Firsts)
      → n < length (faults_of c)
      → AreAssigned c vector good live tracks n leads lanes × AreFirstLanes c vector good tracks leads table
      → GoesTo c vector good (fault_at c n) (track_at tracks n) x v → IsSeatAt table x v (length leads) seat after
      → AreAssigned c vector good live tracks (n + 1) (seat_leads seat n leads)
      (lanes ++ seat_lane seat (length leads) ∷ [])
      × AreFirstLanes c vector good tracks (seat_leads seat n leads) after
  seat_at_net leads table x v _ _ inside so_far here (comes_later l at) =
      let first = so_far.1 x v l at in (
        lanes_more leads leads (Some l) so_far.0 so_far.0.known (λ i q h. h)
            (λ is. (
              first.0,
              alike_at_net c vector good (fault_at c n) (fault_at c (get_or leads l 0))
                  (track_at tracks n) (track_at tracks (get_or leads l 0)) x v here first.1,
            ))
            (λ is none. absurd (let bad : Some l ≡ None = none in cc)),
        so_far.1,
      )
  seat_at_net leads table x v _ _ inside so_far here (comes_first below) = (
    next_lane leads inside so_far.0,
    firsts_noted c vector good tracks leads n table x v below here so_far.1,
  )

  pub seat_more : (leads : List ℕ) (table after : List Firsts) (seat : Seat) → n < length (faults_of c)
      → AreAssigned c vector good live tracks n leads lanes × AreFirstLanes c vector good tracks leads table
      → IsSeated c vector good (fault_at c n) (get_or live n false) (track_at tracks n) table (length leads) seat after
      → AreAssigned c vector good live tracks (n + 1) (seat_leads seat n leads)
      (lanes ++ seat_lane seat (length leads) ∷ [])
      × AreFirstLanes c vector good tracks (seat_leads seat n leads) after
  seat_more leads table _ _ inside so_far (idle off) = (
    lanes_more leads leads None so_far.0 so_far.0.known (λ i q h. h)
        (λ is. absurd (let bad : true ≡ false = sym is ∙ off in cc))
        (λ is. absurd (let bad : true ≡ false = sym is ∙ off in cc)),
    so_far.1,
  )
  seat_more leads table _ _ inside so_far (dies alike empty) = (
    lanes_more leads leads None so_far.0 so_far.0.known (λ i q h. h) (λ is. alike) (λ is none. empty),
    so_far.1,
  )
  seat_more leads table _ _ inside so_far alone =
      (next_lane leads inside so_far.0, firsts_longer c vector good tracks leads n table so_far.1)
  seat_more leads table _ _ inside so_far (comes x v seat after here at) =
      seat_at_net leads table x v seat after inside so_far here at

-- ---- where the effect of a fault ends whose machine holds the good latches

module _ (c : Netlist) (vector good : List Tern) (fault : Fault) (track : Track) (a : Arrival)
    (empty : track.diffs ≡ []) (shows : ShowsArrival c (tern_rules (Some fault)) vector good a) where
  holds : track_state good track ≡ good
  holds = ap (with_differences good) empty ∙ no_differences good

  pub dies_alike : a ≡ Dies
      → ShowAlike c vector (tern_rules (Some fault)) (track_state good track) (tern_rules None) good
  dies_alike is =
      let there = subst (ShowsArrival c (tern_rules (Some fault)) vector good) is shows in
      subst (λ (l : List Tern). ShowAlike c vector (tern_rules (Some fault)) l (tern_rules None) good) (sym holds)
      (record { outputs = there.outputs; next = there.next })

  pub comes_to : (x : NetId) (v : Tern) → a ≡ AtStem x v → GoesTo c vector good fault track x.0 v
  comes_to x v is = record {
    latches = holds;
    shows = subst (ShowsArrival c (tern_rules (Some fault)) vector good) is shows;
  }

-- ---- a seat by equal parts

pub seated_as : (a b : ArrivalsView) (vector good : List Tern) (f g : Fault) (live : Bool) (x y : Track)
    (table : List Firsts) (m n : ℕ) (seat : Seat) (after : List Firsts) → a ≡ b → f ≡ g → x ≡ y → m ≡ n
    → (AreGoodValues a.circuit vector good (good_of_net a)
    → IsSeated a.circuit vector good f live x table m seat after)
    → AreGoodValues b.circuit vector good (good_of_net b) → IsSeated b.circuit vector good g live y table n seat after
seated_as a b vector good f g live x y table m n seat after p q r s seated values =
    subst (λ (z : ℕ). IsSeated b.circuit vector good g live y table z seat after) s
    (subst (λ (z : Track). IsSeated b.circuit vector good g live z table m seat after) r
    (subst (λ (z : Fault). IsSeated b.circuit vector good z live x table m seat after) q
    (subst (λ (z : ArrivalsView). IsSeated z.circuit vector good f live x table m seat after) p
    (seated (subst (λ (z : ArrivalsView). AreGoodValues z.circuit vector good (good_of_net z)) (sym p) values)))))

-- the lanes by equal lists
pub assigned_as : (c : Netlist) (vector good : List Tern) (live : List Bool) (tracks : List Track) (n : ℕ)
    (leads more : List ℕ) (lanes others : List (Option ℕ)) (table : List Firsts) → more ≡ leads → others ≡ lanes
    → AreAssigned c vector good live tracks n leads lanes × AreFirstLanes c vector good tracks leads table
    → AreAssigned c vector good live tracks n more others × AreFirstLanes c vector good tracks more table
assigned_as c vector good live tracks n leads more lanes others table p q h =
    subst (λ (x : List ℕ). AreAssigned c vector good live tracks n x others
    × AreFirstLanes c vector good tracks x table)
    (sym p)
    (subst (λ (y : List (Option ℕ)). AreAssigned c vector good live tracks n leads y
    × AreFirstLanes c vector good tracks leads table) (sym q) h)
