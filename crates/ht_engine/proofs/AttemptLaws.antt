-- What the ends of an attempt mean, from what its searches mean.
use Rattle.std.proofs.Common.{◌≡◌, ◌∙◌, ◌++◌, ◌+◌, ◌*◌, ◌∷◌, [], ℕ, List, Bool, Some, None, length, sym, subst, ap}
use Rattle.ht_net.specs.declared.fault.Fault.{Fault}
use Rattle.std.proofs.lemmas.List.Elements.{All-append, All-cons, All-nil}
use Rattle.std.proofs.lemmas.List.FromFn.{length-map-range_with_len}
use Rattle.ht_net.specs.Circuit.Netlist.{Netlist}
use Rattle.ht_net.specs.Frames.Rows.{Rows}
use Rattle.ht_net.specs.Detect.Detection.{Detects}
use Rattle.ht_tern.specs.declared.tern.Tern.{Tern}
use Rattle.ht_tree.specs.Window.Decisions.{decided_value}
use Rattle.ht_tree.specs.Walk.FoundLists.{bit_or_zero}
use Rattle.ht_tree.specs.Window.Nodes.{or_unknown}
use Rattle.ht_tree.specs.Record.Reached.{AreVectors}
use Rattle.ht_tree.specs.Record.ToldChains.{AreChained, IsToldPlace, Tells, state_of_spot, told_path}
use Rattle.ht_net.proofs.MoreToldLaws.{detects_from_any}
use Rattle.ht_engine.specs.declared.told_frame.ToldFrame.{ToldFrame}
use Rattle.ht_engine.specs.ToldFrames.{IsFrameOf}
use Rattle.ht_tree.specs.declared.told.Told.{Told}
use Rattle.ht_tree.specs.declared.window.Spot.{Spot}
use Rattle.ht_tree.specs.declared.window.Spot.TheVariants.{Output, State, Cube}
use Rattle.ht_tree.specs.Record.AimedAttempts.{GoesAhead, IsStateSpot, told_state}
use Rattle.ht_forward.specs.declared.ahead.Ahead.{Ahead}
use Rattle.ht_forward.specs.declared.ahead.Ahead.TheVariants.{Found, Closed, Spent}
use Rattle.ht_forward.specs.AheadSearches.{AheadHolds}
use Rattle.ht_engine.specs.Attempts.{AheadOfHolds, AreFrameSpots, DetectsAlways, IsFrameSpot}

-- the latches of a told frame, and its vector, are as many as the circuit's
pub cube_long : (c : Netlist) (told : Told) (frame : ToldFrame) → IsFrameOf c told frame
    → length frame.cube.items ≡ length c.dffs
cube_long c told frame is =
    ap length is.cube
    ∙ length-map-range_with_len (λ j. or_unknown (decided_value (told_path told) (c.inputs + j))) 0 (length c.dffs)

-- the vector of a told frame has a bit for each input
pub vector_long : (c : Netlist) (told : Told) (frame : ToldFrame) → IsFrameOf c told frame
    → length frame.vector.items ≡ c.inputs
vector_long c told frame is =
    ap length is.vector
    ∙ length-map-range_with_len (λ i. bit_or_zero (decided_value (told_path told) (0 * c.inputs + i))) 0 c.inputs

-- the search ahead of a next state means what the propagation from the told states means
module _ (c : Netlist) (fault : Fault) (budget : ℕ) (told : Told) (j : ℕ) (at : told.place ≡ State j) where
  told_ahead : (answer : Ahead)
      → AheadHolds c fault (told_state c None told) (told_state c (Some fault) told) budget answer
      → AheadOfHolds c fault budget told answer
  told_ahead (Found list) h = record {
    wide = h.vectors.wide;
    width = h.vectors.width;
    goes = subst (λ (place : Spot). GoesAhead c fault told place list.list) (sym at)
        (record { some = h.vectors.some; few = h.vectors.few; output = h.output; shows = h.shows });
  }
  told_ahead (Closed tokens) h = (subst IsStateSpot (sym at) tt, h.walk)
  told_ahead (Spent tokens) h = (subst IsStateSpot (sym at) tt, h)

  -- what the propagation from the states that a told frame leaves means, the search ahead of that frame means
  pub ahead_means : (good faulty : List Tern) → good ≡ told_state c None told
      → faulty ≡ told_state c (Some fault) told → (answer : Ahead) → AheadHolds c fault good faulty budget answer
      → AheadOfHolds c fault budget told answer
  ahead_means good faulty is is' answer h =
      told_ahead answer (subst (λ (s : List Tern). AheadHolds c fault (told_state c None told) s budget answer) is'
      (subst (λ (s : List Tern). AheadHolds c fault s faulty budget answer) is h))

-- a list that detects does so from every start, after any list
pub always_detects : (c : Netlist) (fault : Fault) (list : Rows) (t o : ℕ) → AreVectors c list.list
    → list.width ≡ c.inputs → Detects c fault list.list t o → DetectsAlways c fault list
always_detects c fault list t o wide width detects = record {
  wide = wide;
  width = width;
  detects = λ start is before.
      (length before + t, o, detects_from_any c fault start before list.list t o is detects);
}

-- a list, a vector and another list have the circuit's width
pub joined_wide : (c : Netlist) (before after : List (List Bool)) (vector : List Bool) → AreVectors c before
    → length vector ≡ c.inputs → AreVectors c after → AreVectors c (before ++ vector ∷ after)
joined_wide c before after vector wide long wide' =
    let P : List Bool → Type 0 = λ v. length v ≡ c.inputs in
    All-append P before (vector ∷ after) wide (All-cons P vector after long wide')

-- each frame of a told chain is told at an output or at a next state
told_spot : (c : Netlist) (z : List ℕ) (place : Spot) → IsToldPlace c z place → IsFrameSpot place
told_spot c z (Output o) h = tt
told_spot c z (State j) h = tt
told_spot c z Cube h = h

-- all frames of a told chain are told at an output or at a next state, none at a cube
pub chain_spots : (c : Netlist) (fault : Fault) (z : List ℕ) (chain : List Told)
    → AreChained (Tells c fault) z chain → AreFrameSpots chain
chain_spots c fault z [] h = All-nil _
chain_spots c fault z (told ∷ chain) h =
    All-cons (λ (frame : Told). IsFrameSpot frame.place) told chain (told_spot c z told.place h.0.place)
    (chain_spots c fault (z ++ state_of_spot told.place) chain h.2)
