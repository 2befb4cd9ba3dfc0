-- Runs of the good and of a faulty machine, vector by vector.
use Rattle.std.proofs.Common.{◌≡◌, ◌<◌, ◌≤◌, ◌+◌, ◌∙◌, ◌++◌, inr, ℕ, suc, zero, List, [], ◌∷◌, Bool, false, Option, Some, None, map, length, get_or, take, refl, sym, ap, subst, arith, length-append}
use Rattle.std.proofs.lemmas.List.{get_or-map, get_or_append_left, length-map, map-append, take-append-le, take-map, take_more}
use Rattle.ht_tern.specs.declared.tern.Tern.{Tern}
use Rattle.ht_tern.specs.declared.tern.Tern.TheVariants.{Unk}
use Rattle.ht_tern.specs.Gate.{AllRelated, Refines}
use Rattle.ht_net.specs.declared.fault.Fault.{Fault}
use Rattle.ht_net.specs.Circuit.Netlist.{Netlist, net_count, IsCircuit}
use Rattle.ht_net.specs.Frames.Frame.{frame_outputs, net_value, next_state, run_state}
use Rattle.ht_net.specs.Frames.Faults.{tern_rules}
use Rattle.ht_net.specs.Detect.Detection.{output_from, outputs_from, state_from, terns_of}
use Rattle.ht_net.proofs.RelationLaws.{get_related}
use Rattle.ht_net.proofs.MoreToldLaws.{same_refines}
use Rattle.ht_serial.proofs.RunLaws.{run_output_at, run_state_more}
use Rattle.ht_causes.specs.Compared.{excites_at, latch_from, net_from}
use Rattle.ht_causes.proofs.FrameToldLaws.{net_tells, next_tells, outputs_tell}

-- ---- one vector of a run

module _ (c : Netlist) (fault : Option Fault) (start : List Tern) (list : List (List Bool)) where
  -- the state after the vector with this number
  pub state_next : (t : ℕ) → t < length list
      → state_from c fault start (take (t + 1) list)
      ≡ next_state c (tern_rules fault) (terns_of (get_or list t [])) (state_from c fault start (take t list))
  state_next t inside =
      ap (state_from c fault start) (take_more list t [] inside)
      ∙ (ap (run_state c (tern_rules fault) start) (map-append terns_of (take t list) (get_or list t [] ∷ []))
      ∙ run_state_more c (tern_rules fault) start (map terns_of (take t list)) (terns_of (get_or list t [])))

  -- what the outputs show at it
  pub row_frame : (t : ℕ) → t < length list
      → get_or (outputs_from c fault start list) t []
      ≡ frame_outputs c (tern_rules fault) (terns_of (get_or list t [])) (state_from c fault start (take t list))
  row_frame t inside =
      run_output_at c (tern_rules fault) start (map terns_of list) t []
      (let l = length-map list terns_of in omega (arith, l, inside))
      ∙ (ap (λ (v : List Tern). frame_outputs c (tern_rules fault) v
      (run_state c (tern_rules fault) start (take t (map terns_of list))))
      (get_or-map terns_of list t [] [] inside)
      ∙ ap (λ (vs : List (List Tern)). frame_outputs c (tern_rules fault) (terns_of (get_or list t []))
      (run_state c (tern_rules fault) start vs)) (take-map terns_of t list))

-- ---- a longer list

module _ (c : Netlist) (fault : Option Fault) (start : List Tern) (list more : List (List Bool)) where
  -- what is shown at a vector of a list is shown at it in each longer one
  pub output_longer : (t o : ℕ) → t < length list
      → output_from c fault start (list ++ more) t o ≡ output_from c fault start list t o
  output_longer t o inside =
      let longer : t < length (list ++ more) =
      (let l = length-append list more in omega (arith, l, inside)) in
      ap (λ (row : List Tern). get_or row o Unk)
      (row_frame c fault start (list ++ more) t longer
      ∙ (ap (λ (v : List Bool). frame_outputs c (tern_rules fault) (terns_of v)
      (state_from c fault start (take t (list ++ more)))) (get_or_append_left list more [] t inside)
      ∙ (ap (λ (vs : List (List Bool)). frame_outputs c (tern_rules fault) (terns_of (get_or list t []))
      (state_from c fault start vs)) (take-append-le t list more (omega (arith, inside)))
      ∙ sym (row_frame c fault start list t inside))))

  -- and so is what the flip-flops hold after it, and what each net has
  pub latch_longer : (t j : ℕ) → t < length list
      → latch_from c fault start (list ++ more) t j ≡ latch_from c fault start list t j
  latch_longer t j inside =
      ap (λ (vs : List (List Bool)). get_or (state_from c fault start vs) j Unk)
      (take-append-le (t + 1) list more (omega (arith, inside)))

  pub net_longer : (t x : ℕ) → t < length list
      → net_from c fault start (list ++ more) t x ≡ net_from c fault start list t x
  net_longer t x inside =
      ap (λ (v : List Bool). net_value c (tern_rules fault) (terns_of v)
      (state_from c fault start (take t (list ++ more))) x) (get_or_append_left list more [] t inside)
      ∙ ap (λ (vs : List (List Bool)). net_value c (tern_rules fault) (terns_of (get_or list t []))
      (state_from c fault start vs) x) (take-append-le t list more (omega (arith, inside)))

-- ---- a fault that isn't excited

module _ (c : Netlist) (circuit : IsCircuit c) (fault : Fault) (start : List Tern) (list : List (List Bool)) where
  -- until the fault is excited the flip-flops of its machine tell all that the good ones tell
  pub states_tell : (n : ℕ) → n ≤ length list → ((s : ℕ) → s < n → excites_at c fault start list s ≡ false)
      → AllRelated Refines (state_from c (Some fault) start (take n list)) (state_from c None start (take n list))
  states_tell zero inside calm = same_refines start
  states_tell (suc n) inside calm =
      let less : n < length list = omega arith in
      let before = states_tell n (omega arith) (λ s below. calm s (omega arith)) in
      let e : suc n ≡ n + 1 = omega arith in
      let next = next_tells c circuit fault (terns_of (get_or list n [])) (state_from c None start (take n list))
      (state_from c (Some fault) start (take n list)) before (calm n (omega arith)) in
      subst (λ (k : ℕ). AllRelated Refines (state_from c (Some fault) start (take k list))
      (state_from c None start (take k list))) (sym e)
      (rw (state_next c (Some fault) start list n less, state_next c None start list n less) next)

  module _ (t : ℕ) (inside : t < length list)
      (calm : (s : ℕ) → s < t + 1 → excites_at c fault start list s ≡ false) where
    before_tells : AllRelated Refines (state_from c (Some fault) start (take t list))
        (state_from c None start (take t list))
    before_tells = states_tell t (omega arith) (λ s below. calm s (omega arith))

    -- each net, each flip-flop and each output at the vector
    pub net_told : (x : ℕ) → x < net_count c
        → Refines (net_from c (Some fault) start list t x) (net_from c None start list t x)
    net_told x known =
        net_tells c circuit fault (terns_of (get_or list t [])) (state_from c None start (take t list))
        (state_from c (Some fault) start (take t list)) before_tells (calm t (omega arith)) x known

    pub latch_told : (j : ℕ) → Refines (latch_from c (Some fault) start list t j) (latch_from c None start list t j)
    latch_told j =
        get_related Refines (state_from c (Some fault) start (take (t + 1) list))
        (state_from c None start (take (t + 1) list)) j Unk Unk (states_tell (t + 1) (omega arith) calm) (inr refl)

    pub output_told : (o : ℕ)
        → Refines (output_from c (Some fault) start list t o) (output_from c None start list t o)
    output_told o =
        let rows = outputs_tell c circuit fault (terns_of (get_or list t [])) (state_from c None start (take t list))
        (state_from c (Some fault) start (take t list)) before_tells (calm t (omega arith)) in
        get_related Refines (get_or (outputs_from c (Some fault) start list) t [])
        (get_or (outputs_from c None start list) t []) o Unk Unk
        (rw (row_frame c (Some fault) start list t inside, row_frame c None start list t inside) rows) (inr refl)
