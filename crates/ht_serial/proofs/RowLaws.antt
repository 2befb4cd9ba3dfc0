-- What a machine shows from a start, vector by vector, is what its run shows.
use Rattle.std.proofs.Common.{◌≡◌, ◌<◌, ◌+◌, ℕ, List, [], ◌∷◌, ◌++◌, Bool, Option, length, get_or, take, map, sym, ◌∙◌, ap, arith}
use Rattle.std.specs.List.{All}
use Rattle.std.proofs.lemmas.List.{get_or-map, take_more, length-map}
use Rattle.ht_tern.specs.declared.tern.Tern.{Tern}
use Rattle.ht_net.specs.declared.fault.Fault.{Fault}
use Rattle.ht_net.specs.Circuit.Netlist.{Netlist}
use Rattle.ht_net.specs.Frames.Frame.{run_state}
use Rattle.ht_net.specs.Frames.Faults.{tern_rules}
use Rattle.ht_net.specs.Detect.Detection.{terns_of, outputs_from}
use Rattle.ht_serial.specs.MachineState.{MachineState, stepped, after_run}
use Rattle.ht_serial.specs.ObservationView.{ObservationView}
use Rattle.ht_serial.proofs.RunLaws.{frame_width, run_length, run_output_at, step_is_run}

-- ---- the rows of a run

-- a run from a start has a row for each vector
pub rows_count : (c : Netlist) (fault : Option Fault) (start : List Tern) (list : List (List Bool))
    → length (outputs_from c fault start list) ≡ length list
rows_count c fault start list = run_length c (tern_rules fault) start (map terns_of list) ∙ length-map list terns_of

-- and in each a value for each output
pub rows_wide : (c : Netlist) (fault : Option Fault) (start : List Tern) (list : List (List Bool))
    → All (λ (row : List Tern). length row ≡ length c.outputs) (outputs_from c fault start list)
rows_wide c fault start list = λ t d inside.
    let r = tern_rules fault in
    let vectors = map terns_of list in
    ap (λ (row : List Tern). length row)
    (run_output_at c r start vectors t d (omega (arith, inside, run_length c r start vectors)))
    ∙ frame_width c r (get_or vectors t []) (run_state c r start (take t vectors))

-- ---- one vector more

-- the machine over three values after the first t vectors of a list, from a start
abbrev pub after_first : Netlist → Option Fault → List Tern → List (List Bool) → ℕ → MachineState Tern
after_first c fault start list t = after_run tern_rules c fault start (take t (map terns_of list))

-- The machine shows the row of its run at vector t, and has run the vectors through it.
pub record Ran (c : Netlist) (fault : Option Fault) (start : List Tern) (list : List (List Bool)) (t : ℕ)
    (m : MachineState Tern) : Type 0 where
  pub row : m.outputs ≡ get_or (outputs_from c fault start list) t []
  pub next : m ≡ after_first c fault start list (t + 1)

-- a machine after the first t vectors that steps through vector t shows row t of its run
pub ran_more : (c : Netlist) (fault : Option Fault) (start : List Tern) (list : List (List Bool)) (t : ℕ)
    (m m' : MachineState Tern) (v : List Bool) → t < length list → m ≡ after_first c fault start list t
    → v ≡ get_or list t [] → m' ≡ stepped tern_rules m (terns_of v) → Ran c fault start list t m'
ran_more c fault start list t m m' v inside is at step =
    let vectors = map terns_of list in
    let there : t < length vectors = omega (arith, length-map list terns_of) in
    let here : m' ≡ stepped tern_rules (after_first c fault start list t) (get_or vectors t []) =
    step ∙ (ap (λ x. stepped tern_rules x (terns_of v)) is
    ∙ ap (stepped tern_rules (after_first c fault start list t))
    (ap terns_of at ∙ sym (get_or-map terns_of list t [] [] inside))) in
    record {
      row = ap (λ x. x.outputs) here ∙ sym (run_output_at c (tern_rules fault) start vectors t [] there);
      next = here ∙ (step_is_run tern_rules c fault start (take t vectors) (get_or vectors t [])
          ∙ ap (after_run tern_rules c fault start) (sym (take_more vectors t [] there)));
    }

-- ---- one row more

-- what was shown, by its rows
abbrev pub of_rows : ℕ → List (List Tern) → ObservationView
of_rows width rows = record { width = width; rows = rows }

-- the first t rows with row t added are the first t + 1 rows
pub shown_more : (width t : ℕ) (rows : List (List Tern)) (shown more : ObservationView) (row : List Tern)
    → t < length rows → shown ≡ of_rows width (take t rows) → more ≡ of_rows shown.width (shown.rows ++ row ∷ [])
    → row ≡ get_or rows t [] → more ≡ of_rows width (take (t + 1) rows)
shown_more width t rows shown more row inside is pushed at =
    pushed ∙ (ap (λ (o : ObservationView). of_rows o.width (o.rows ++ row ∷ [])) is
    ∙ (ap (λ (r : List Tern). of_rows width (take t rows ++ r ∷ [])) at
    ∙ ap (of_rows width) (sym (take_more rows t [] inside))))
