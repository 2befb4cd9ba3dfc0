-- What a frame shows with a net forced, by where its effect ends.
use Rattle.std.proofs.Common.{◌≡◌, ◌<◌, ◌+◌, ◌∙◌, ℕ, List, None, get_or, refl, sym, ap, arith}
use Rattle.ht_tern.specs.declared.tern.Tern.{Tern}
use Rattle.ht_net.specs.declared.net.NetId.{NetId}
use Rattle.ht_net.specs.Circuit.Netlist.{Netlist, first_gate_net, net_count, gate_at, no_net, IsCircuit}
use Rattle.ht_net.specs.Frames.Frame.{gate_output, net_value}
use Rattle.ht_net.specs.Frames.Faults.{forced, tern_rules}
use Rattle.ht_net.proofs.FrameLaws.{gate_same}
use Rattle.ht_stems.specs.declared.arrival.Arrival.{Arrival}
use Rattle.ht_stems.specs.declared.arrival.Arrival.TheVariants.{AtLatch, AtOutput}
use Rattle.ht_stems.specs.declared.net_loads.NetLoads.TheVariants.{NoLoad, OneGate, OneDataPin, OneOutput}
use Rattle.ht_stems.specs.ForcedNets.{net_forced, with_net_value}
use Rattle.ht_stems.specs.LoadsOfNets.{HasLoads}
use Rattle.ht_stems.specs.Arrivals.{Arrives, unchanged, unread, at_latch, at_output, at_stem, through_gate}
use Rattle.ht_stems.specs.ArrivedFrames.{AreGoodValues, ShowSame, ShowsArrival}
use Rattle.ht_stems.proofs.ReadLaws.{read_at, only_gate, gate_not_data, gate_not_output, data_pin_alone, output_alone, unread_no_gate, unread_not_data, unread_not_output}
use Rattle.ht_stems.proofs.ForcedLaws.{own_same, unread_same, through_same, forced_value, with_same}
use Rattle.ht_stems.proofs.FrameShows.{outputs_same, outputs_but, next_same, next_but, show_same}

-- the good machine's stems and data pins leave what they carry
pub good_stem : (x : ℕ) (v : Tern) → (tern_rules None).stem x v ≡ v
unfolding forced
good_stem x v = refl

-- a data pin of the good machine leaves the value that it carries
pub good_data_pin : (j : ℕ) (v : Tern) → (tern_rules None).data_pin j v ≡ v
unfolding forced
good_data_pin j v = refl

module _ (c : Netlist) (circuit : IsCircuit c) (vector latches : List Tern) where
  -- a net that is forced to its good value changes nothing in a frame
  pub own_shows : (x : ℕ) (v : Tern) → v ≡ net_value c (tern_rules None) vector latches x
      → ShowSame c (net_forced (tern_rules None) x v) (tern_rules None) vector latches
  own_shows x v own = show_same c circuit (net_forced (tern_rules None) x v) (tern_rules None) vector latches
      (λ i w. refl) (λ y inside. sym (own_same c circuit vector latches (tern_rules None) x v own y inside))

  -- a net without a load changes nothing in a frame, whatever it is forced to
  pub unread_shows : (x : ℕ) (v : Tern) → HasLoads c x NoLoad
      → ShowSame c (net_forced (tern_rules None) x v) (tern_rules None) vector latches
  unread_shows x v none =
      let same = unread_same c circuit vector latches (tern_rules None) x v (unread_no_gate c x none) in
      record {
        outputs = outputs_same c (net_forced (tern_rules None) x v) (tern_rules None) vector latches
            (λ o l. same _ (circuit.outputs_known o l) (unread_not_output c x none o l));
        next = next_same c (net_forced (tern_rules None) x v) (tern_rules None) vector latches (λ i w. refl)
            (λ j l. same _ (circuit.data_known j l) (unread_not_data c x none j l));
      }

  -- the place at which the forced net stands has the value
  forced_there : (x : ℕ) (v : Tern) (nets : List NetId) (j : ℕ) → x < net_count c → (get_or nets j no_net).0 ≡ x
      → net_value c (net_forced (tern_rules None) x v) vector latches (get_or nets j no_net).0 ≡ v
  forced_there x v nets j known is = ap (net_value c (net_forced (tern_rules None) x v) vector latches) is
      ∙ forced_value c circuit vector latches (tern_rules None) x v known

  -- a net whose only load is a data pin, forced to a value, gives that latch the value and changes nothing else
  pub latch_shows : (x j : ℕ) (v : Tern) → x < net_count c → HasLoads c x (OneDataPin j)
      → ShowsArrival c (net_forced (tern_rules None) x v) vector latches (AtLatch j v)
  latch_shows x j v known loads =
      let same = unread_same c circuit vector latches (tern_rules None) x v (data_pin_alone c x j loads).unread in
      record {
        outputs = outputs_same c (net_forced (tern_rules None) x v) (tern_rules None) vector latches
            (λ o l. same _ (circuit.outputs_known o l) ((data_pin_alone c x j loads).elsewhere o l));
        next = next_but c (net_forced (tern_rules None) x v) (tern_rules None) vector latches j v loads.1
            (sym (good_data_pin j _ ∙ forced_there x v c.dffs j known loads.2)) (λ i w ne. refl)
            (λ k l ne. same _ (circuit.data_known k l) ((data_pin_alone c x j loads).only k l ne));
      }

  -- a net whose only load is an output, forced to a value, shows it there and changes nothing else
  pub output_shows : (x o : ℕ) (v : Tern) → x < net_count c → HasLoads c x (OneOutput o)
      → ShowsArrival c (net_forced (tern_rules None) x v) vector latches (AtOutput o v)
  output_shows x o v known loads =
      let same = unread_same c circuit vector latches (tern_rules None) x v (output_alone c x o loads).unread in
      record {
        outputs = outputs_but c (net_forced (tern_rules None) x v) (tern_rules None) vector latches o v loads.1
            (forced_there x v c.outputs o known loads.2)
            (λ k l ne. same _ (circuit.outputs_known k l) ((output_alone c x o loads).only k l ne));
        next = next_same c (net_forced (tern_rules None) x v) (tern_rules None) vector latches (λ i w. refl)
            (λ j l. same _ (circuit.data_known j l) ((output_alone c x o loads).elsewhere j l));
      }

  module _ (good : ℕ → Tern) (are : AreGoodValues c vector latches good) where
    -- to force a net that only one pin of a gate reads is to force the gate's net to what the gate then gives
    pub through_shows : (x g : ℕ) (v : Tern) → x < net_count c → HasLoads c x (OneGate g)
        → ShowSame c (net_forced (tern_rules None) x v)
        (net_forced (tern_rules None) (first_gate_net c + g)
        (gate_output c (tern_rules None) (with_net_value good x v) g))
        vector latches
    through_shows x g v known loads =
        let E : ℕ → Tern = net_value c (tern_rules None) vector latches in
        let w : Tern = gate_output c (tern_rules None) (with_net_value good x v) g in
        let gives : w ≡ (tern_rules None).stem (first_gate_net c + g)
        (gate_output c (tern_rules None) (with_net_value E x v) g) =
        gate_same c (tern_rules None) (with_net_value good x v) (with_net_value E x v) g
        (λ i l. with_same good E x v _ (λ ne. are.value _ (circuit.known g i loads.1 l)))
        ∙ sym (good_stem (first_gate_net c + g) (gate_output c (tern_rules None) (with_net_value E x v) g)) in
        let same = through_same c circuit vector latches (tern_rules None) x g v w known loads.1 (only_gate c x g loads)
        (read_at x (gate_at c g).args loads.2) gives in
        record {
          outputs = outputs_same c (net_forced (tern_rules None) x v)
              (net_forced (tern_rules None) (first_gate_net c + g) w) vector latches
              (λ o l. same _ (circuit.outputs_known o l) (gate_not_output c x g loads o l));
          next = next_same c (net_forced (tern_rules None) x v)
              (net_forced (tern_rules None) (first_gate_net c + g) w) vector latches (λ i u. refl)
              (λ j l. same _ (circuit.data_known j l) (gate_not_data c x g loads j l));
        }

    -- a frame with a net forced shows and takes what is left where the net's effect ends
    pub arrival_shows : (x : ℕ) (v : Tern) (a : Arrival) → Arrives c good x v a → x < net_count c
        → ShowsArrival c (net_forced (tern_rules None) x v) vector latches a
    arrival_shows _ _ _ (unchanged x v own) known =
        let same = own_shows x v (own ∙ are.value x known) in
        record { outputs = same.outputs; next = same.next }
    arrival_shows _ _ _ (unread x v other none) known =
        let same = unread_shows x v none in
        record { outputs = same.outputs; next = same.next }
    arrival_shows _ _ _ (at_latch x v j other loads) known = latch_shows x j v known loads
    arrival_shows _ _ _ (at_output x v o other loads) known = output_shows x o v known loads
    arrival_shows _ _ _ (at_stem x v other loads) known = record { outputs = refl; next = refl }
    arrival_shows _ _ _ (through_gate x v g a other loads rest) known =
        let same = through_shows x g v known loads in
        let shows = arrival_shows (first_gate_net c + g) (gate_output c (tern_rules None) (with_net_value good x v) g) a
        rest (omega (arith, loads.1)) in
        record { outputs = same.outputs ∙ shows.outputs; next = same.next ∙ shows.next }
