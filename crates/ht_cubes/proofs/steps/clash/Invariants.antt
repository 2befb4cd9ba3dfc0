use Rattle.std.proofs.Common.{◌≡◌, List, length, drop}
use Rattle.std.specs.Prelude.{◌↔◌}
use Rattle.ht_trail.specs.Trails.{IsLater}
use Rattle.ht_cubes.specs.declared.signed_var.SignedVar.{SignedVar}
use Rattle.ht_cubes.specs.Steps.{Clash}
use Rattle.ht_cubes.specs.Values.{SayFacts}
use Rattle.ht_cubes.proofs.steps.clash.Given as goal

abbrev pub invariant-hints : goal.invariant-hints
invariant-hints l = record {
  long : length l.values.values ≡ length l.initial.values.values;
  later : IsLater l.initial.values l.values;
  followed : (facts : List SignedVar) → SayFacts facts l.initial.values.values
      → (now : List SignedVar) × SayFacts now l.values.values
      × (Clash l.rows facts l.hints ↔ Clash l.rows now (drop l.i l.hints));
}
