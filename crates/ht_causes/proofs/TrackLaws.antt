-- All faults, one vector more.
use Rattle.std.proofs.Common.{◌≡◌, ◌≢◌, ◌<◌, ◌+◌, ◌∙◌, ◌||◌, ◌++◌, ◌∷◌, ◌⊎◌, inl, inr, ℕ, List, [], Bool, true, false, Option, Some, None, length, get_or, replicate, set, take, refl, sym, ap, subst, arith, length-append}
use Rattle.std.specs.Prelude.{is_some}
use Rattle.std.specs.Option.{is_none, option_map, option_or}
use Rattle.std.proofs.lemmas.Bool.{cases_Bool, cases_eq}
use Rattle.std.proofs.lemmas.List.{get_or_append_left, get_or_past, get_or_read, get_or-replicate, get_or-set_other, get_or-set_same, length-replicate, length-set}
use Rattle.std.proofs.Math.Seq.{get_or-append_seam}
use Rattle.ht_tern.specs.declared.tern.Tern.{Tern}
use Rattle.ht_tern.specs.declared.tern.Tern.TheVariants.{Zero, One, Unk}
use Rattle.ht_tern.specs.Gate.{tern_of}
use Rattle.ht_tern.specs.Opposite.{are_opposite}
use Rattle.ht_net.specs.declared.fault.Fault.{Fault}
use Rattle.ht_net.specs.declared.place.Place.{Place}
use Rattle.ht_net.specs.Circuit.Netlist.{Netlist, net_count}
use Rattle.ht_net.specs.Frames.Frame.{Rules, frame_outputs, net_value, next_state}
use Rattle.ht_net.specs.Frames.Faults.{tern_rules}
use Rattle.ht_net.specs.Detect.Detection.{state_from, terns_of}
use Rattle.ht_net.proofs.FrameLaws.{le_or_lt}
use Rattle.ht_faults.specs.Sites.{faults_of}
use Rattle.ht_faults.specs.Classes.{fault_at, is_representative}
use Rattle.ht_stems.specs.Arrivals.{net_of_line}
use Rattle.ht_stems.specs.ArrivedFrames.{AreGoodValues}
use Rattle.ht_stems.specs.ArrivalsView.{ArrivalsView, good_of_net}
use Rattle.ht_group.specs.Differences.{with_differences}
use Rattle.ht_group.specs.GroupView.{AreLatches, GroupView, good_next, good_output}
use Rattle.ht_group.specs.NetValues.{good_value}
use Rattle.ht_proofs.proofs.DiffLaws.{no_differences}
use Rattle.ht_causes.specs.declared.sightings.Sightings.{Sightings}
use Rattle.ht_causes.specs.declared.track.Track.{Track}
use Rattle.ht_causes.specs.Firsts.{least_below}
use Rattle.ht_causes.specs.Compared.{are_unlike, are_unsure, carried_from, is_told, latch_place, output_place}
use Rattle.ht_causes.specs.declared.cause.Cause.{Cause}
use Rattle.ht_causes.specs.declared.cause.Cause.TheVariants.{Unknown}
use Rattle.ht_causes.specs.Causes.{AreCauses, AreSightings, cause_at, cause_row}
use Rattle.ht_causes.specs.Kept.{AreLatchesCompared, AreOutputsCompared, LineIsRead, no_sightings, or_here, with_carried, with_later}
use Rattle.ht_causes.specs.Tracks.{AreCausesKept, AreFaultsNoted, AreFlags, AreRun, AreTracked, AreTracksWithin, KeepsCause, IsGoodAlone, IsShown, IsTracked, ShowAlike, track_state, no_track, noted_track, shown_by, shown_in, taken_by, track_at, with_frame}
use Rattle.ht_causes.specs.Seats.{ActsFor, AreAssigned}
use Rattle.ht_causes.proofs.KeptLaws.{or_nothing}
use Rattle.ht_causes.proofs.LeastLaws.{none_least}
use Rattle.ht_causes.proofs.NotedLaws.{unlike_itself}
use Rattle.ht_causes.proofs.RunToldLaws.{row_frame, state_next}
use Rattle.ht_causes.proofs.SightLaws.{detected_cause, frame_kept, good_alone, none_kept, whole_cause}

-- ---- machines that act alike

module _ (c : Netlist) (vector good : List Tern) (r : Rules Tern) (a : List Tern) (s : Rules Tern) (b : List Tern)
    (t : ℕ) (track : Track) (alike : ShowAlike c vector r a s b) where
  -- what one shows, the other shows
  pub alike_shown : IsShown c vector good s b t track → IsShown c vector good r a t track
  alike_shown shown = record {
    detected = subst (λ (l : List Tern). track.kept.detected ≡ option_map (output_place t) (least_below
        (λ o. are_opposite (shown_by c (tern_rules None) vector good o) (get_or l o Unk)) (length c.outputs)))
        (sym alike.outputs) shown.detected;
    possible = subst (λ (l : List Tern). track.kept.possible ≡ option_map (output_place t) (least_below
        (λ o. are_unsure (shown_by c (tern_rules None) vector good o) (get_or l o Unk)) (length c.outputs)))
        (sym alike.outputs) shown.possible;
    stored = subst (λ (l : List Tern). track.kept.stored ≡ option_map (latch_place t) (least_below
        (λ j. are_unlike (taken_by c (tern_rules None) vector good j) (get_or l j Unk)) (length c.dffs)))
        (sym alike.next) shown.stored;
    state = shown.state ∙ sym alike.next;
    known = shown.known;
  }

opposite_itself : (v : Tern) → are_opposite v v ≡ false
opposite_itself Zero = refl
opposite_itself One = refl
opposite_itself Unk = refl

unsure_itself : (v : Tern) → are_unsure v v ≡ false
unsure_itself Zero = refl
unsure_itself One = refl
unsure_itself Unk = refl

-- the good machine shows nothing beside itself
good_shown : (c : Netlist) (vector good : List Tern) (t : ℕ)
    → IsShown c vector good (tern_rules None) good t no_track
good_shown c vector good t = record {
  detected = sym (ap (option_map (output_place t)) (none_least _ (length c.outputs)
      (λ o less. opposite_itself (shown_by c (tern_rules None) vector good o))));
  possible = sym (ap (option_map (output_place t)) (none_least _ (length c.outputs)
      (λ o less. unsure_itself (shown_by c (tern_rules None) vector good o))));
  stored = sym (ap (option_map (latch_place t)) (none_least _ (length c.dffs)
      (λ j less. unlike_itself (taken_by c (tern_rules None) vector good j))));
  state = no_differences (next_state c (tern_rules None) vector good);
  known = λ k d less. absurd (omega arith);
}

-- what stands for a fault shows what its machine shows
pub stands_shown : (c : Netlist) (vector good : List Tern) (tracks : List Track) (leads : List ℕ) (i t : ℕ)
    (lane : Option ℕ) (shown : List Track) → ActsFor c vector good tracks leads i lane
    → AreRun c vector good tracks leads t (length leads) shown
    → IsShown c vector good (tern_rules (Some (fault_at c i))) (track_state good (track_at tracks i)) t
    (shown_in shown lane)
stands_shown c vector good tracks leads i t None shown stands run =
    alike_shown c vector good (tern_rules (Some (fault_at c i))) (track_state good (track_at tracks i))
    (tern_rules None) good t no_track stands (good_shown c vector good t)
stands_shown c vector good tracks leads i t (Some l) shown stands run =
    alike_shown c vector good (tern_rules (Some (fault_at c i))) (track_state good (track_at tracks i))
    (tern_rules (Some (fault_at c (get_or leads l 0)))) (track_state good (track_at tracks (get_or leads l 0))) t
    (track_at shown l) stands.1 (run.each l stands.0)

-- ---- one frame more of a fault

module _ (c : Netlist) (fault : Fault) (start : List Tern) (list : List (List Bool)) (t : ℕ)
    (inside : t < length list) where
  abbrev vector : List Tern
  vector = terns_of (get_or list t [])

  abbrev good : List Tern
  good = state_from c None start (take t list)

  abbrev faulty : List Tern
  faulty = state_from c (Some fault) start (take t list)

  frame_sightings : (track shown : Track) (carried : Tern) → carried ≡ carried_from c fault.site start list t
      → AreSightings c fault start list t track.kept
      → IsShown c vector good (tern_rules (Some fault)) faulty t shown
      → AreSightings c fault start list (t + 1) (with_frame t carried fault.value shown track).kept
  frame_sightings track shown carried is kept frame =
      let k1 = with_carried t carried fault.value track.kept in
      let k2 : Sightings = record k1 {
        detected = option_or k1.detected shown.kept.detected;
        possible = option_or k1.possible shown.kept.possible;
      } in
      let outputs : AreOutputsCompared t (length c.outputs) (good_output (good_alone c (get_or list t []) good))
      (λ o. get_or (frame_outputs c (tern_rules (Some fault)) vector faulty) o Unk) k1 k2 = record {
        detected = ap (option_or k1.detected) frame.detected;
        possible = ap (option_or k1.possible) frame.possible;
        stored = refl;
        excited = refl;
        told = refl;
      } in
      let latches : AreLatchesCompared t (length c.dffs) (good_next (good_alone c (get_or list t []) good))
      (λ j. get_or (next_state c (tern_rules (Some fault)) vector faulty) j Unk) k2 (with_later shown.kept k1) =
      record {
        stored = ap (option_or k1.stored) frame.stored;
        detected = refl;
        possible = refl;
        excited = refl;
        told = refl;
      } in
      frame_kept c fault start list t inside (good_alone c (get_or list t []) good)
      (frame_outputs c (tern_rules (Some fault)) vector faulty)
      (next_state c (tern_rules (Some fault)) vector faulty) track.kept k1 k2 (with_later shown.kept k1) carried refl
      (λ o. ap (λ (row : List Tern). get_or row o Unk) (sym (row_frame c (Some fault) start list t inside)))
      (λ j. ap (λ (s : List Tern). get_or s j Unk) (sym (state_next c (Some fault) start list t inside)))
      is kept refl outputs latches

  pub frame_tracked : (track shown : Track) (carried : Tern) → carried ≡ carried_from c fault.site start list t
      → IsTracked c fault start list t track
      → IsShown c vector good (tern_rules (Some fault)) (track_state good track) t shown
      → IsTracked c fault start list (t + 1) (with_frame t carried fault.value shown track)
  frame_tracked track shown carried is tracked frame =
      let there = subst (λ (l : List Tern). IsShown c vector good (tern_rules (Some fault)) l t shown) tracked.state
      frame in
      record {
        kept = frame_sightings track shown carried is tracked.kept there;
        state =
            ap (λ (s : List Tern). with_differences s shown.diffs) (state_next c None start list t inside)
            ∙ (there.state ∙ sym (state_next c (Some fault) start list t inside));
      }

-- ---- all faults

some_or_none : (q : Option Place) → is_none q ≡ false → is_some q ≡ true
some_or_none (Some p) is_off = refl
some_or_none None is_off = cc

module _ (c : Netlist) (representatives : List ℕ) (start : List Tern) (list : List (List Bool)) (t : ℕ)
    (inside : t < length list) (g : GroupView) (lanes : List (Option ℕ)) (leads : List ℕ) (shown : List Track)
    (live on : List Bool) (tracks new : List Track)
    (frame : IsGoodAlone c (terns_of (get_or list t [])) (state_from c None start (take t list)) g)
    (assigned : AreAssigned c (terns_of (get_or list t [])) (state_from c None start (take t list)) live tracks
    (length (faults_of c)) leads lanes)
    (run : AreRun c (terns_of (get_or list t [])) (state_from c None start (take t list)) tracks leads t
    (length leads) shown)
    (noted : AreFaultsNoted c g t lanes shown (length (faults_of c)) live tracks on new)
    (before : AreTracked c representatives start list t live tracks) where
  carried_is : (i : ℕ) → good_value g (net_of_line c (fault_at c i).site).0
      ≡ carried_from c (fault_at c i).site start list t
  carried_is i =
      (λ j. net_value (frame.circuit j) (tern_rules None) (frame.vector_same j) (frame.latches_same j)
      (net_of_line c (fault_at c i).site).0)

  one_tracked : (i : ℕ) → i < length (faults_of c) → get_or live i false ≡ true
      → IsTracked c (fault_at c i) start list (t + 1) (track_at new i)
  one_tracked i known is =
      subst (IsTracked c (fault_at c i) start list (t + 1)) (sym (noted.each i known is).0)
      (frame_tracked c (fault_at c i) start list t inside (track_at tracks i) (shown_in shown (get_or lanes i None))
      (good_value g (net_of_line c (fault_at c i).site).0) (carried_is i) (before.running i known is)
      (stands_shown c (terns_of (get_or list t [])) (state_from c None start (take t list)) tracks leads i t
      (get_or lanes i None) shown (assigned.each i known is) run))

  pub all_tracked : AreTracked c representatives start list (t + 1) on new
  all_tracked = record {
    running = λ i known is. elim (cases_Bool (get_or live i false)) [
      | inl is_on ↦ one_tracked i known is_on
      | inr is_off ↦ absurd (let bad : true ≡ false = sym is ∙ (noted.idle i is_off).1 in cc)
    ];
    done = λ i known own is. elim (cases_Bool (get_or live i false)) [
      | inl is_on ↦
          let tracked = one_tracked i known is_on in
          detected_cause c (fault_at c i) start list (t + 1) (track_at new i).kept (omega arith) tracked.kept.detected
          (some_or_none (track_at new i).kept.detected (sym (noted.each i known is_on).1 ∙ is))
      | inr is_off ↦
          subst (KeepsCause c (fault_at c i) start list) (sym (noted.idle i is_off).0) (before.done i known own is_off)
    ];
  }

-- what is kept stays within the circuit
pub noted_within : (c : Netlist) (vector good : List Tern) (t : ℕ) (g : GroupView) (lanes : List (Option ℕ))
    (leads : List ℕ) (shown : List Track) (live on : List Bool) (tracks new : List Track)
    → AreAssigned c vector good live tracks (length (faults_of c)) leads lanes
    → AreRun c vector good tracks leads t (length leads) shown
    → AreFaultsNoted c g t lanes shown (length (faults_of c)) live tracks on new
    → AreTracksWithin c tracks → AreTracksWithin c new
noted_within c vector good t g lanes leads shown live on tracks new assigned run noted within = λ i.
    elim (le_or_lt (length (faults_of c)) i) [
      | inl past ↦ subst (λ (x : Track). AreLatches c x.diffs) (sym (noted.later i past).0) (within i)
      | inr known ↦ elim (cases_Bool (get_or live i false)) [
        | inl is_on ↦
            subst (λ (x : Track). AreLatches c x.diffs) (sym (noted.each i known is_on).0)
            (stands_shown c vector good tracks leads i t (get_or lanes i None) shown (assigned.each i known is_on)
            run).known
        | inr is_off ↦ subst (λ (x : Track). AreLatches c x.diffs) (sym (noted.idle i is_off).0) (within i)
      ]
    ]

-- ---- a frame that changes nothing

here_again : {X : Type 0} → (found : Option X) (b : Bool) (here : X) → is_some found ≡ true
    → or_here found b here ≡ found
here_again {X} (Some first) b here is = refl
here_again {X} None b here is = cc

told_again : (told b : Bool) → told ≡ true → (told || b) ≡ told
told_again true b is = refl
told_again false b is = cc

-- the machine acts as the good one, and the line was read
calm_frame : (t : ℕ) (carried : Tern) (stuck : Bool) (track : Track) → LineIsRead track.kept → track.diffs ≡ []
    → with_frame t carried stuck no_track track ≡ track
calm_frame t carried stuck track read empty =
    let excited = here_again track.kept.excited (are_opposite carried (tern_of stuck)) t read.excited in
    let told = told_again track.kept.told (is_told carried) read.told in
    let detected = sym (or_nothing track.kept.detected) in
    let possible = sym (or_nothing track.kept.possible) in
    let stored = sym (or_nothing track.kept.stored) in
    let diffs = sym empty in
    (λ i. record {
      kept = record {
        detected = detected i;
        possible = possible i;
        stored = stored i;
        excited = excited i;
        told = told i;
      };
      diffs = diffs i;
    })

-- ---- the faults, one after the other

module _ (c : Netlist) (g : GroupView) (t : ℕ) (lanes : List (Option ℕ)) (shown : List Track) (live : List Bool)
    (tracks : List Track) where
  -- a fault that isn't simulated
  pub noted_idle : (n : ℕ) (on : List Bool) (new : List Track) → get_or on n false ≡ false
      → AreFaultsNoted c g t lanes shown n live tracks on new
      → AreFaultsNoted c g t lanes shown (n + 1) live tracks on new
  noted_idle n on new off so_far = record {
    on_count = so_far.on_count;
    track_count = so_far.track_count;
    each = λ i less is. elim (cases_eq i n) [
      | inl here ↦
          let was : get_or live i false ≡ false =
          sym (so_far.later i (omega (arith, here))).1 ∙ (ap (λ k. get_or on k false) here ∙ off) in
          absurd (let bad : true ≡ false = sym is ∙ was in cc)
      | inr other ↦ so_far.each i (omega (arith, less, other)) is
    ];
    idle = so_far.idle;
    later = λ i past. so_far.later i (omega (arith, past));
  }

  -- a fault of which nothing changes
  pub noted_calm : (n : ℕ) (on : List Bool) (new : List Track) → get_or on n false ≡ true
      → (track_at new n).kept.detected ≡ None → LineIsRead (track_at new n).kept → get_or lanes n None ≡ None
      → (track_at tracks n).diffs ≡ [] → AreFaultsNoted c g t lanes shown n live tracks on new
      → AreFaultsNoted c g t lanes shown (n + 1) live tracks on new
  noted_calm n on new is_on open_still read none empty so_far = record {
    on_count = so_far.on_count;
    track_count = so_far.track_count;
    each = λ i less was. elim (cases_eq i n) [
      | inl here ↦ subst (λ k. (track_at new k ≡ noted_track c g t lanes shown tracks k)
          × (get_or on k false ≡ is_none (track_at new k).kept.detected)) (sym here) (
            before ∙ sym calm,
            is_on ∙ sym (ap is_none open_still),
          )
      | inr other ↦ so_far.each i (omega (arith, less, other)) was
    ];
    idle = so_far.idle;
    later = λ i past. so_far.later i (omega (arith, past));
  }
    where
      before : track_at new n ≡ track_at tracks n
      before = (so_far.later n (omega arith)).0

      calm : noted_track c g t lanes shown tracks n ≡ track_at tracks n
      calm =
          ap (λ (q : Option ℕ). with_frame t (good_value g (net_of_line c (fault_at c n).site).0) (fault_at c n).value
          (shown_in shown q) (track_at tracks n)) none
          ∙ calm_frame t (good_value g (net_of_line c (fault_at c n).site).0) (fault_at c n).value (track_at tracks n)
          (subst (λ (x : Track). LineIsRead x.kept) before read) empty

  -- a fault that isn't due
  pub noted_still : (n : ℕ) (on read holds : List Bool) (new : List Track) → AreFlags on read holds new
      → (get_or on n false ≡ false) ⊎ ((get_or read n false ≡ true) × (get_or lanes n None ≡ None))
      → (get_or live n false ≡ true → get_or lanes n None ≡ None → (track_at tracks n).diffs ≡ [])
      → AreFaultsNoted c g t lanes shown n live tracks on new
      → AreFaultsNoted c g t lanes shown (n + 1) live tracks on new
  noted_still n on read holds new kept (inl off) empty so_far = noted_idle n on new off so_far
  noted_still n on read holds new kept (inr calm) empty so_far = elim (cases_Bool (get_or on n false)) [
    | inl is_on ↦
        noted_calm n on new is_on (kept.open_still n is_on) (kept.read_all n calm.0) calm.1
        (empty (sym (so_far.later n (omega arith)).1 ∙ is_on) calm.1) so_far
    | inr is_off ↦ noted_idle n on new is_off so_far
  ]

  -- a fault that is
  pub noted_one : (n : ℕ) (on after : List Bool) (mid new : List Track) (track : Track) (b : Bool)
      → get_or on n false ≡ true → n < length on → n < length mid
      → track ≡ with_frame t (good_value g (net_of_line c (fault_at c n).site).0) (fault_at c n).value
      (shown_in shown (get_or lanes n None)) (track_at mid n)
      → new ≡ set mid n track → b ≡ is_none track.kept.detected → after ≡ set on n b
      → AreFaultsNoted c g t lanes shown n live tracks on mid
      → AreFaultsNoted c g t lanes shown (n + 1) live tracks after new
  noted_one n on after mid new track b is_on known known_track is written tested written_on so_far = record {
    on_count = ap (λ (l : List Bool). length l) written_on ∙ (length-set on n b ∙ so_far.on_count);
    track_count = ap (λ (l : List Track). length l) written ∙ (length-set mid n track ∙ so_far.track_count);
    each = λ i less was. elim (cases_eq i n) [
      | inl here ↦ subst (λ k. (track_at new k ≡ noted_track c g t lanes shown tracks k)
          × (get_or after k false ≡ is_none (track_at new k).kept.detected)) (sym here) (
            at_n ∙ (is ∙ ap (with_frame t (good_value g (net_of_line c (fault_at c n).site).0) (fault_at c n).value
                (shown_in shown (get_or lanes n None))) (so_far.later n (omega arith)).0),
            on_n ∙ (tested ∙ ap (λ (x : Track). is_none x.kept.detected) (sym at_n)),
          )
      | inr other ↦
          let before = so_far.each i (omega (arith, less, other)) was in (
            at_other i other ∙ before.0,
            on_other i other ∙ (before.1 ∙ ap (λ (x : Track). is_none x.kept.detected) (sym (at_other i other))),
          )
    ];
    idle = λ i off. elim (cases_eq i n) [
      | inl here ↦
          let was : get_or live i false ≡ true =
          sym (so_far.later i (omega (arith, here))).1 ∙ (ap (λ k. get_or on k false) here ∙ is_on) in
          absurd (let bad : true ≡ false = sym was ∙ off in cc)
      | inr other ↦
          (at_other i other ∙ (so_far.idle i off).0, on_other i other ∙ (so_far.idle i off).1)
    ];
    later = λ i past.
        let other : i ≢ n = omega (arith, past) in (
          at_other i other ∙ (so_far.later i (omega (arith, past))).0,
          on_other i other ∙ (so_far.later i (omega (arith, past))).1,
        );
  }
    where
      at_n : track_at new n ≡ track
      at_n = ap (λ (l : List Track). track_at l n) written ∙ get_or-set_same mid n track no_track known_track

      on_n : get_or after n false ≡ b
      on_n = ap (λ (l : List Bool). get_or l n false) written_on ∙ get_or-set_same on n b false known

      at_other : (i : ℕ) → i ≢ n → track_at new i ≡ track_at mid i
      at_other i other =
          ap (λ (l : List Track). track_at l i) written ∙ get_or-set_other mid n i track no_track other

      on_other : (i : ℕ) → i ≢ n → get_or after i false ≡ get_or on i false
      on_other i other = ap (λ (l : List Bool). get_or l i false) written_on ∙ get_or-set_other on n i b false other

-- what is kept of the flags once those of one fault are written
pub kept_one : (live read holds : List Bool) (tracks : List Track) (n : ℕ) (track : Track) (a b e : Bool)
    → n < length live → n < length read → n < length holds → n < length tracks → a ≡ is_none track.kept.detected
    → (b ≡ true → LineIsRead track.kept) → (e ≡ true → track.diffs ≡ []) → AreFlags live read holds tracks
    → AreFlags (set live n a) (set read n b) (set holds n e) (set tracks n track)
kept_one live read holds tracks n track a b e in_live in_read in_holds in_tracks is told empty so_far = record {
  open_still = λ i on. elim (cases_eq i n) [
    | inl here ↦
        let is_on : a ≡ true = sym (get_or-set_same live n a false in_live) ∙ (ap (λ k. get_or (set live n a) k false)
        (sym here) ∙ on) in
        ap (λ k. (track_at (set tracks n track) k).kept.detected) here
        ∙ (ap (λ (x : Track). x.kept.detected) (get_or-set_same tracks n track no_track in_tracks)
        ∙ none_of track.kept.detected (sym is ∙ is_on))
    | inr other ↦
        ap (λ (x : Track). x.kept.detected) (get_or-set_other tracks n i track no_track other)
        ∙ so_far.open_still i (sym (get_or-set_other live n i a false other) ∙ on)
  ];
  read_all = λ i on. elim (cases_eq i n) [
    | inl here ↦
        let is_on : b ≡ true = sym (get_or-set_same read n b false in_read) ∙ (ap (λ k. get_or (set read n b) k false)
        (sym here) ∙ on) in
        subst (λ k. LineIsRead (track_at (set tracks n track) k).kept) (sym here)
        (subst (λ (x : Track). LineIsRead x.kept) (sym (get_or-set_same tracks n track no_track in_tracks))
        (told is_on))
    | inr other ↦
        subst (λ (x : Track). LineIsRead x.kept) (sym (get_or-set_other tracks n i track no_track other))
        (so_far.read_all i (sym (get_or-set_other read n i b false other) ∙ on))
  ];
  held = λ i on. elim (cases_eq i n) [
    | inl here ↦
        let is_on : e ≡ true =
        sym (get_or-set_same holds n e false in_holds) ∙ (ap (λ k. get_or (set holds n e) k false)
        (sym here) ∙ on) in
        ap (λ k. (track_at (set tracks n track) k).diffs) here
        ∙ (ap (λ (x : Track). x.diffs) (get_or-set_same tracks n track no_track in_tracks) ∙ empty is_on)
    | inr other ↦
        ap (λ (x : Track). x.diffs) (get_or-set_other tracks n i track no_track other)
        ∙ so_far.held i (sym (get_or-set_other holds n i e false other) ∙ on)
  ];
}
  where
    none_of : (q : Option Place) → is_none q ≡ true → q ≡ None
    none_of None is = refl
    none_of (Some p) is = cc

-- the same of equal lists
pub kept_as : (live read holds : List Bool) (tracks : List Track) (l r h : List Bool) (x : List Track) → l ≡ live
    → r ≡ read → h ≡ holds → x ≡ tracks → AreFlags live read holds tracks → AreFlags l r h x
kept_as live read holds tracks l r h x a b d e kept =
    subst (λ (q : List Bool). AreFlags q r h x) (sym a)
    (subst (λ (q : List Bool). AreFlags live q h x) (sym b)
    (subst (λ (q : List Bool). AreFlags live read q x) (sym d) (subst (AreFlags live read holds) (sym e) kept)))

pub noted_as : (c : Netlist) (g : GroupView) (t : ℕ) (lanes : List (Option ℕ)) (shown : List Track) (n : ℕ)
    (live : List Bool) (tracks : List Track) (on after : List Bool) (mid new : List Track) → after ≡ on → new ≡ mid
    → AreFaultsNoted c g t lanes shown n live tracks on mid → AreFaultsNoted c g t lanes shown n live tracks after new
noted_as c g t lanes shown n live tracks on after mid new a b noted =
    subst (λ (q : List Bool). AreFaultsNoted c g t lanes shown n live tracks q new) (sym a)
    (subst (AreFaultsNoted c g t lanes shown n live tracks on) (sym b) noted)

-- ---- a frame that has begun

-- the values of a group's good machine are those of its frame
pub good_of_group : (c : Netlist) (vector good : List Tern) (g : GroupView) (a : ArrivalsView) (values : List Tern)
    → g.circuit ≡ c → g.vector ≡ vector → g.latches ≡ good → a.good ≡ values
    → ((x : ℕ) → x < net_count g.circuit → get_or values x Unk ≡ good_value g x)
    → AreGoodValues c vector good (good_of_net a)
good_of_group c vector good g a values circuit v l is read = record {
  value = λ x less.
      ap (λ (q : List Tern). get_or q x Unk) is
      ∙ (read x (subst (λ (n : Netlist). x < net_count n) (sym circuit) less)
      ∙ (λ j. net_value (circuit j) (tern_rules None) (v j) (l j) x));
}

-- ---- before the first vector

-- nothing is kept of any fault
pub track_none : (c : Netlist) (tracks : List Track) → tracks ≡ replicate (length (faults_of c)) no_track → (i : ℕ)
    → track_at tracks i ≡ no_track
track_none c tracks are i = ap (λ (l : List Track). track_at l i) are ∙ elim (le_or_lt (length (faults_of c)) i) [
  | inl past ↦
      get_or_past (replicate (length (faults_of c)) no_track) i no_track
      (omega (arith, past, length-replicate (length (faults_of c)) no_track))
  | inr inside ↦ get_or-replicate (length (faults_of c)) i no_track no_track inside
]

pub none_kept_yet : (c : Netlist) (live read holds : List Bool) (tracks : List Track) (n : ℕ)
    → tracks ≡ replicate (length (faults_of c)) no_track → read ≡ replicate n false → AreFlags live read holds tracks
none_kept_yet c live read holds tracks n are unread = record {
  open_still = λ i is. ap (λ (x : Track). x.kept.detected) (track_none c tracks are i);
  read_all = λ i is. absurd (let bad : true ≡ false = sym is ∙ (ap (λ (l : List Bool). get_or l i false) unread
      ∙ never i) in cc);
  held = λ i is. ap (λ (x : Track). x.diffs) (track_none c tracks are i);
}
  where
    never : (i : ℕ) → get_or (replicate n false) i false ≡ false
    never i = elim (le_or_lt n i) [
      | inl past ↦ get_or_past (replicate n false) i false (omega (arith, past, length-replicate n false))
      | inr inside ↦ get_or-replicate n i false false inside
    ]

pub none_tracked : (c : Netlist) (representatives : List ℕ) (start : List Tern) (list : List (List Bool))
    (live : List Bool) (tracks : List Track) → tracks ≡ replicate (length (faults_of c)) no_track
    → ((i : ℕ) → i < length (faults_of c) → get_or live i false ≡ is_representative representatives i)
    → AreTracked c representatives start list 0 live tracks
none_tracked c representatives start list live tracks are lives = record {
  running = λ i known is.
      let none : track_at tracks i ≡ no_track = track_none c tracks are i in
      subst (IsTracked c (fault_at c i) start list 0) (sym none) (record {
        kept = none_kept c (fault_at c i) start list no_sightings refl;
        state = no_differences start;
      });
  done = λ i known own is. absurd (let bad : true ≡ false = sym own ∙ (sym (lives i known) ∙ is) in cc);
}

-- ---- one vector more

-- a fact of two lists holds of equal ones
at_both : (P : List Tern → List Tern → Type 0) (a b v l : List Tern) → a ≡ v → b ≡ l → P a b → P v l
at_both P a b v l p q h = subst (λ x. P x l) p (subst (P a) q h)

-- the machines have run through one vector more, by what the frame had at its begin
pub frame_run : (c : Netlist) (representatives : List ℕ) (start : List Tern) (list : List (List Bool)) (t : ℕ)
    (vector : List Bool) (old new v l : List Tern) (g : GroupView) (lanes : List (Option ℕ)) (leads : List ℕ)
    (shown : List Track) (live on : List Bool) (tracks after : List Track) → t < length list
    → vector ≡ get_or list t [] → v ≡ terns_of vector → l ≡ old → old ≡ state_from c None start (take t list)
    → IsGoodAlone c v l g → AreAssigned c v l live tracks (length (faults_of c)) leads lanes
    → AreRun c v l tracks leads t (length leads) shown
    → AreFaultsNoted c g t lanes shown (length (faults_of c)) live tracks on after
    → new ≡ next_state c (tern_rules None) g.vector g.latches
    → AreTracked c representatives start list t live tracks
    → (new ≡ state_from c None start (take (t + 1) list))
    × AreTracked c representatives start list (t + 1) on after
frame_run c representatives start list t vector old new v l g lanes leads shown live on tracks after inside at vec lat
    held frame assigned run noted read before =
    let V : v ≡ terns_of (get_or list t []) = vec ∙ ap terns_of at in
    let L : l ≡ state_from c None start (take t list) = lat ∙ held in
    let good : IsGoodAlone c (terns_of (get_or list t [])) (state_from c None start (take t list)) g =
    at_both (λ x y. IsGoodAlone c x y g) v l _ _ V L frame in (
      read
          ∙ ((λ j. next_state c (tern_rules None) (good.vector_same j) (good.latches_same j))
          ∙ sym (state_next c None start list t inside)),
      all_tracked c representatives start list t inside g lanes leads shown live on tracks after good
          (at_both (λ x y. AreAssigned c x y live tracks (length (faults_of c)) leads lanes) v l _ _ V L assigned)
          (at_both (λ x y. AreRun c x y tracks leads t (length leads) shown) v l _ _ V L run) noted before,
    )

-- ---- the causes

pub kept_more : (tracks : List Track) (n : ℕ) (causes more : List Cause) (cause : Cause) (track : Track)
    → n < length tracks → track ≡ get_or tracks n track
    → cause ≡ cause_row track.kept.detected track.kept.possible track.kept.stored track.kept.excited track.kept.told
    → more ≡ causes ++ cause ∷ [] → AreCausesKept tracks n causes → AreCausesKept tracks (n + 1) more
kept_more tracks n causes more cause track inside read is pushed so_far = record {
  count = omega (
    arith,
    ap (λ (l : List Cause). length l) pushed,
    length-append causes (cause ∷ []),
    so_far.count,
  );
  each = λ i less. elim (cases_eq i n) [
    | inl same ↦
        ap (λ (l : List Cause). cause_at l i) pushed
        ∙ (ap (cause_at (causes ++ cause ∷ [])) (same ∙ sym so_far.count)
        ∙ (get_or-append_seam causes cause [] Unknown
        ∙ (is
        ∙ (ap row_of (get_or_read tracks n track inside read no_track)
        ∙ ap (λ k. row_of (track_at tracks k)) (sym same)))))
    | inr other ↦
        let below : i < n = omega (arith, less, other) in
        ap (λ (l : List Cause). cause_at l i) pushed
        ∙ (get_or_append_left causes (cause ∷ []) Unknown i (omega (arith, below, so_far.count)) ∙ so_far.each i below)
  ];
}
  where
    row_of : Track → Cause
    row_of x = cause_row x.kept.detected x.kept.possible x.kept.stored x.kept.excited x.kept.told

-- what is kept after all vectors says each cause
pub causes_read : (c : Netlist) (representatives : List ℕ) (start : List Tern) (list : List (List Bool))
    (live : List Bool) (tracks : List Track) (causes : List Cause) → length tracks ≡ length (faults_of c)
    → AreTracked c representatives start list (length list) live tracks
    → AreCausesKept tracks (length tracks) causes → AreCauses c representatives start list causes
causes_read c representatives start list live tracks causes long tracked kept = record {
  each = kept.count ∙ long;
  exact = λ i inside own. kept.each i (omega (arith, inside, long)) ∙ elim (cases_Bool (get_or live i false)) [
    | inl on ↦
        whole_cause c (fault_at c i) start list (length list) (track_at tracks i).kept refl
        (tracked.running i inside on).kept
    | inr off ↦ tracked.done i inside own off
  ];
}

-- ---- the parts of a frame

module _ (c : Netlist) (v l : List Tern) (live : List Bool) (tracks : List Track) (leads : List ℕ)
    (lanes : List (Option ℕ)) (assigned : AreAssigned c v l live tracks (length (faults_of c)) leads lanes) where
  live_known : length live ≡ length (faults_of c) → (i : ℕ) → get_or live i false ≡ true → i < length (faults_of c)
  live_known long i is = elim (le_or_lt (length (faults_of c)) i) [
    | inl past ↦
        absurd (let bad : true ≡ false = sym is ∙ get_or_past live i false (omega (arith, past, long)) in cc)
    | inr known ↦ known
  ]

  pub lane_known : (t n : ℕ) (shown : List Track) → AreRun c v l tracks leads t n shown
      → length live ≡ length (faults_of c) → (i k : ℕ) → get_or live i false ≡ true → get_or lanes i None ≡ Some k
      → k < length shown
  lane_known t n shown run long i k is at =
      let stands = subst (ActsFor c v l tracks leads i) at (assigned.each i (live_known long i is) is) in
      omega (arith, stands.0, run.count)

-- the lanes of a frame by what it has at its begin
pub assigned_frame : (c : Netlist) (vector : List Bool) (old : List Tern) (before g : GroupView)
    (filled a : ArrivalsView) (values : List Tern) (faults : List Fault) (live now : List Bool)
    (tracks kept : List Track) (leads : List ℕ) (lanes : List (Option ℕ)) → before.circuit ≡ c → filled.circuit ≡ c
    → faults ≡ faults_of c → now ≡ live → kept ≡ tracks
    → g ≡ record {
      circuit = before.circuit;
      vector = terns_of vector;
      latches = old;
      machines = [];
      settled = true;
    }
    → ((x : ℕ) → x < net_count g.circuit → get_or values x Unk ≡ good_value g x) → a ≡ record filled { good = values }
    → ((w good : List Tern) → AreGoodValues a.circuit w good (good_of_net a)
    → AreAssigned a.circuit w good now kept (length faults) leads lanes)
    → AreAssigned c g.vector g.latches live tracks (length (faults_of c)) leads lanes
assigned_frame c vector old before g filled a values faults live now tracks kept leads lanes of_group of_arrivals all
    is_live is_kept begun read fills follows =
    let circuit : g.circuit ≡ c = ap (λ (x : GroupView). x.circuit) begun ∙ of_group in
    let same : a.circuit ≡ c = ap (λ (x : ArrivalsView). x.circuit) fills ∙ of_arrivals in
    let here : AreGoodValues c g.vector g.latches (good_of_net a) =
    good_of_group c g.vector g.latches g a values circuit refl refl (ap (λ (x : ArrivalsView). x.good) fills) read in
    subst (λ (x : List Bool). AreAssigned c g.vector g.latches x tracks (length (faults_of c)) leads lanes) is_live
    (subst (λ (x : List Track). AreAssigned c g.vector g.latches now x (length (faults_of c)) leads lanes) is_kept
    (subst (λ (n : ℕ). AreAssigned c g.vector g.latches now kept n leads lanes)
    (ap (λ (x : List Fault). length x) all)
    (subst (λ (n : Netlist). AreAssigned n g.vector g.latches now kept (length faults) leads lanes) same
    (follows g.vector g.latches
    (subst (λ (n : Netlist). AreGoodValues n g.vector g.latches (good_of_net a)) (sym same) here)))))

-- what lanes show, and what was noted, by equal lists
pub run_as : (c : Netlist) (v l : List Tern) (t : ℕ) (tracks kept : List Track) (leads more : List ℕ)
    (shown : List Track) → kept ≡ tracks → more ≡ leads → AreRun c v l kept more t (length more) shown
    → AreRun c v l tracks leads t (length leads) shown
run_as c v l t tracks kept leads more shown p q run =
    subst (λ (x : List Track). AreRun c v l x leads t (length leads) shown) p
    (subst (λ (x : List ℕ). AreRun c v l kept x t (length x) shown) q run)

pub noted_of : (c : Netlist) (g : GroupView) (t : ℕ) (lanes others : List (Option ℕ)) (shown seen : List Track)
    (m n : ℕ) (live now : List Bool) (tracks kept : List Track) (on : List Bool) (new : List Track)
    → others ≡ lanes → seen ≡ shown → m ≡ n → now ≡ live → kept ≡ tracks
    → AreFaultsNoted c g t others seen m now kept on new → AreFaultsNoted c g t lanes shown n live tracks on new
noted_of c g t lanes others shown seen m n live now tracks kept on new a b d e f noted =
    subst (λ (x : List (Option ℕ)). AreFaultsNoted c g t x shown n live tracks on new) a
    (subst (λ (x : List Track). AreFaultsNoted c g t others x n live tracks on new) b
    (subst (λ (x : ℕ). AreFaultsNoted c g t others seen x live tracks on new) d
    (subst (λ (x : List Bool). AreFaultsNoted c g t others seen m x tracks on new) e
    (subst (λ (x : List Track). AreFaultsNoted c g t others seen m now x on new) f noted))))
