use Rattle.std.proofs.Common.{◌<◌, ℕ, take}
use Rattle.std.specs.List.{All}
use Rattle.ht_close.specs.ShortLines.{short_number}
use Rattle.ht_close.proofs.short.are_short_hints.Given as goal

abbrev pub invariant-loop-hint : goal.invariant-loop-hint
invariant-loop-hint l = All (λ (hint : ℕ). hint < short_number) (take l.hint-index l.hints)
