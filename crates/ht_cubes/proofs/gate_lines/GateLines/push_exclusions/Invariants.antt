use Rattle.std.proofs.Common.{◌≡◌, ◌++◌, length, map, take}
use Rattle.std.specs.List.{filter}
use Rattle.ht_tern.specs.Gate.{bool_xor}
use Rattle.ht_cubes.specs.Formula.{choices, excluded, needs, parity_of, rail_of}
use Rattle.ht_cubes.proofs.gate_lines.GateLines.push_exclusions.Given as goal

abbrev pub invariant-loop-i : goal.invariant-loop-i
invariant-loop-i l = l.rows ≡ l.initial.rows
    ++ map (λ bits. needs (rail_of l.self.out l.bit) (excluded l.self.pins.now bits))
    (filter (λ bits. bool_xor l.bit (parity_of bits)) (take l.i (choices (length l.self.pins.now))))
