use Rattle.std.proofs.Common.{◌<◌, take}
use Rattle.std.specs.List.{All}
use Rattle.ht_cubes.specs.declared.signed_var.SignedVar.{SignedVar}
use Rattle.ht_close.specs.ShortLines.{short_number}
use Rattle.ht_close.proofs.short.are_short_variables.Given as goal

abbrev pub invariant-loop-literal : goal.invariant-loop-literal
invariant-loop-literal l =
    All (λ (literal : SignedVar). literal.variable < short_number) (take l.literal-index l.clause)
