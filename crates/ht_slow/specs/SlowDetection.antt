-- Where a list of vectors detects a slow line: one observation time, both machines from one start.
use Rattle.std.specs.Prelude.{ℕ, List, [], Bool, Option, None, map, get_or, MatchOption}
use Rattle.ht_tern.specs.declared.tern.Tern.{Tern}
use Rattle.ht_tern.specs.declared.tern.Tern.TheVariants.{Unk}
use Rattle.ht_tern.specs.Opposite.{Opposite}
use Rattle.ht_net.specs.declared.fault.Fault.{Fault}
use Rattle.ht_net.specs.declared.place.Place.{Place}
use Rattle.ht_net.specs.Circuit.Netlist.{Netlist}
use Rattle.ht_net.specs.Detect.Detection.{terns_of, output_from, IsBefore}
use Rattle.ht_slow.specs.Slow.{slow_outputs}

-- What output o shows at vector t with the slow line. What the line carried before the first vector is unknown, also
-- where a start is stated.
abbrev pub slow_output : Netlist → Fault → List Tern → List (List Bool) → ℕ → ℕ → Tern
slow_output c fault start list t o =
    get_or (get_or (slow_outputs c fault Unk start (map terns_of list)) t []) o Unk

-- The list detects the slow line at output o of vector t: there the good machine and that with the slow line, both from
-- the start, show opposite definite values.
abbrev pub DetectsSlow : Netlist → Fault → List Tern → List (List Bool) → ℕ → ℕ → Type 0
DetectsSlow c fault start list t o =
    Opposite (output_from c None start list t o) (slow_output c fault start list t o)

-- the first place where the list detects the slow line from the start, or none where it does so nowhere
abbrev pub IsFirstSlow : Netlist → Fault → List Tern → List (List Bool) → Option Place → Type 0
IsFirstSlow c fault start list place =
    MatchOption place ((t o : ℕ) → ¬ DetectsSlow c fault start list t o)
    (λ p. DetectsSlow c fault start list p.vector p.output
    × ((t o : ℕ) → IsBefore t o p → ¬ DetectsSlow c fault start list t o))
