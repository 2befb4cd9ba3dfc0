use Rattle.std.proofs.Common.{◌≡◌, ◌++◌, ◌∷◌, [], map, take}
use Rattle.ht_cubes.specs.declared.signal.Signal.{Signal}
use Rattle.ht_cubes.specs.Formula.{needs, rail_of}
use Rattle.ht_cubes.proofs.gate_lines.GateLines.push_parity.Given as goal

abbrev pub invariant-pins : goal.invariant-pins
invariant-pins l = l.rows ≡ l.initial.rows
    ++ map (λ (p : Signal). needs (rail_of l.self.out l.bit) (p.zero ∷ p.one ∷ [])) (take l.pin-index l.self.pins.now)
