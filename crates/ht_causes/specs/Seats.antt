-- Which machines of a frame take a lane, and which act alike.
use Rattle.std.specs.Prelude.{◌≡◌, ◌<◌, ◌++◌, ◌∷◌, ℕ, List, [], Bool, true, false, Option, Some, None, length, get_or}
use Rattle.ht_tern.specs.declared.tern.Tern.{Tern}
use Rattle.ht_net.specs.declared.fault.Fault.{Fault}
use Rattle.ht_net.specs.Circuit.Netlist.{Netlist}
use Rattle.ht_net.specs.Frames.Faults.{tern_rules}
use Rattle.ht_faults.specs.Sites.{faults_of}
use Rattle.ht_faults.specs.Classes.{fault_at}
use Rattle.ht_stems.specs.ArrivedFrames.{ShowsArrival}
use Rattle.ht_stems.specs.declared.arrival.Arrival.TheVariants.{AtStem}
use Rattle.ht_proofs.specs.declared.stems.Firsts.{Firsts}
use Rattle.ht_proofs.specs.Followers.{first_at, first_noted}
use Rattle.ht_causes.specs.declared.assign.Seat.{Seat}
use Rattle.ht_causes.specs.declared.assign.Seat.TheVariants.{Good, Next, Shared}
use Rattle.ht_causes.specs.declared.track.Track.{Track}
use Rattle.ht_causes.specs.Tracks.{ShowAlike, track_state, track_at}

-- What stands for fault i in a frame: the good machine, or that of the fault which leads a lane.
abbrev pub ActsFor : Netlist → List Tern → List Tern → List Track → List ℕ → ℕ → Option ℕ → Type 0
ActsFor c vector good tracks leads i None =
    ShowAlike c vector (tern_rules (Some (fault_at c i))) (track_state good (track_at tracks i))
    (tern_rules None) good
ActsFor c vector good tracks leads i (Some l) = (l < length leads)
    × ShowAlike c vector (tern_rules (Some (fault_at c i))) (track_state good (track_at tracks i))
    (tern_rules (Some (fault_at c (get_or leads l 0))))
    (track_state good (track_at tracks (get_or leads l 0)))

-- the effect of a fault whose machine holds the good latches comes to net x with v
pub record GoesTo (c : Netlist) (vector good : List Tern) (fault : Fault) (track : Track) (x : ℕ)
    (v : Tern) : Type 0 where
  pub latches : track_state good track ≡ good
  pub shows : ShowsArrival c (tern_rules (Some fault)) vector good (AtStem (record { 0 = x }) v)

-- A machine shares the lane of the first that came to net x with v, or takes the next lane and is the first.
pub data IsSeatAt (table : List Firsts) (x : ℕ) (v : Tern) (next : ℕ) : Seat → List Firsts → Type 0
  where
    comes_later : (l : ℕ) → first_at table x v ≡ Some l → IsSeatAt table x v next (Shared l) table
    comes_first : x < length table → IsSeatAt table x v next Next (first_noted table x v next)

-- What is looked up of a fault in a frame: nothing where it isn't simulated or its effect dies, what its own lane shows,
-- or what a machine shows whose effect comes to the same net with the same value.
pub data IsSeated (c : Netlist) (vector good : List Tern) (fault : Fault) (live : Bool)
    (track : Track) (table : List Firsts) (next : ℕ) : Seat → List Firsts → Type 0 where
  idle : live ≡ false → IsSeated c vector good fault live track table next Good table
  dies : ShowAlike c vector (tern_rules (Some fault)) (track_state good track) (tern_rules None)
      good
      → track.diffs ≡ [] → IsSeated c vector good fault live track table next Good table
  alone : IsSeated c vector good fault live track table next Next table
  comes : (x : ℕ) (v : Tern) (seat : Seat) (after : List Firsts)
      → GoesTo c vector good fault track x v → IsSeatAt table x v next seat after
      → IsSeated c vector good fault live track table next seat after

-- the lanes once fault i has its seat
abbrev pub seat_leads : Seat → ℕ → List ℕ → List ℕ
seat_leads Good i leads = leads
seat_leads (Shared l) i leads = leads
seat_leads Next i leads = leads ++ i ∷ []

-- its lane, where there were `next`
abbrev pub seat_lane : Seat → ℕ → Option ℕ
seat_lane Good next = None
seat_lane (Shared l) next = Some l
seat_lane Next next = Some next

-- The lanes in the table lead: the effects of their faults come to its nets with its values.
abbrev pub AreFirstLanes : Netlist → List Tern → List Tern → List Track → List ℕ → List Firsts
    → Type 0
AreFirstLanes c vector good tracks leads table = (x : ℕ) (v : Tern) (l : ℕ)
    → first_at table x v ≡ Some l → (l < length leads)
    × GoesTo c vector good (fault_at c (get_or leads l 0)) (track_at tracks (get_or leads l 0)) x v

-- Each of the first n faults that are simulated has what stands for it.
pub record AreAssigned (c : Netlist) (vector good : List Tern) (live : List Bool)
    (tracks : List Track) (n : ℕ) (leads : List ℕ) (lanes : List (Option ℕ)) : Type 0 where
  pub count : length lanes ≡ n
  pub known : (l : ℕ) → l < length leads → get_or leads l 0 < length (faults_of c)
  pub each : (i : ℕ) → i < n → get_or live i false ≡ true
      → ActsFor c vector good tracks leads i (get_or lanes i None)
  pub calm : (i : ℕ) → i < n → get_or live i false ≡ true → get_or lanes i None ≡ None
      → (track_at tracks i).diffs ≡ []
