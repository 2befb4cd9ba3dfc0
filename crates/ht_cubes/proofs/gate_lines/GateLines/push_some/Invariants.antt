use Rattle.std.proofs.Common.{◌≡◌, ◌∷◌, map, take}
use Rattle.ht_cubes.specs.declared.signal.Signal.{Signal}
use Rattle.ht_cubes.specs.Formula.{complement, rail_of}
use Rattle.ht_cubes.proofs.gate_lines.GateLines.push_some.Given as goal

abbrev pub invariant-pins : goal.invariant-pins
invariant-pins l = l.some.items ≡ complement (rail_of l.self.out l.bit)
    ∷ map (λ (p : Signal). rail_of p l.bit) (take l.pin-index l.self.pins.now)
