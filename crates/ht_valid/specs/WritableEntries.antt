-- What an entry that passes must keep to beside that, so that it has a text.
use Rattle.std.specs.Prelude.{◌≡◌, ◌<◌, ◌≤◌, ℕ, List, length}
use Rattle.std.specs.List.{All}
use Rattle.ht_pairs.specs.Pairs.{set_of}
use Rattle.ht_cubes.specs.declared.rail.Rail.{Rail}
use Rattle.ht_cubes.specs.declared.signed_var.SignedVar.{SignedVar}
use Rattle.ht_cubes.specs.declared.clause_step.ClauseStep.{ClauseStep}
use Rattle.ht_tree.specs.declared.entry.Entry.{Entry}
use Rattle.ht_tree.specs.declared.entry.Entry.TheVariants.{UndetectableBySets, UndetectableByCubes}
use Rattle.ht_tree.specs.declared.family_row.FamilyRow.{FamilyRow}
use Rattle.ht_entries.specs.LineWords.{max_number}
use Rattle.ht_entries.specs.ProofLineLengths.{IsShortProofLine}
use Rattle.ht_entries.specs.ByCubes.{cube_text, step_text}

-- Each set of pairs lists its members once, in the order of the text, as a `PairSet` does.
abbrev pub AreInOrder : List FamilyRow → Type 0
AreInOrder rows = All (λ (row : FamilyRow). row.set ≡ set_of row.set) rows

-- The numbers of a step are no greater than a text has them, and its line isn't too long.
pub record IsShortStep (step : ClauseStep) : Type 0 where
  pub variables : All (λ (literal : SignedVar). literal.variable ≤ max_number) step.literals
  pub hints : All (λ (hint : ℕ). hint ≤ max_number) step.hints
  pub short : IsShortProofLine (step_text step)

-- There is a cube, and no line is too long.
pub record AreShort (cubes : List (List Rail)) (steps : List ClauseStep) : Type 0 where
  pub some : 0 < length cubes
  pub short_cubes : All (λ (cube : List Rail). IsShortProofLine (cube_text cube)) cubes
  pub short_steps : All IsShortStep steps

-- The entry can be written, if it passes: its sets are in order, or its lines short.
abbrev pub IsWritable : Entry → Type 0
IsWritable (UndetectableBySets rows) = AreInOrder rows
IsWritable (UndetectableByCubes cubes steps) = AreShort cubes steps
IsWritable other = Unit {0}
