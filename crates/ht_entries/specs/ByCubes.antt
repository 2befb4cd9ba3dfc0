-- The form of an entry that shows a fault undetectable by forbidden cubes: its lines, and as much of it as was read.
use Rattle.std.specs.Prelude.{◌≡◌, ◌<◌, ◌+◌, ℕ, List, [], ◌∷◌, ◌++◌, map, flat_map, Bool, true, false, ltb, eqb, length, Option, Some, None, codes}
use Rattle.std.specs.Fmt.{decimal}
use Rattle.std.specs.List.{All}
use Rattle.ht_texts.specs.Tests.{bit_code}
use Rattle.ht_cubes.specs.declared.rail.Rail.{Rail}
use Rattle.ht_cubes.specs.declared.clause_step.ClauseStep.{ClauseStep}
use Rattle.ht_cubes.specs.declared.signed_var.SignedVar.{SignedVar}
use Rattle.ht_tree.specs.declared.entry.Entry.{Entry}
use Rattle.ht_tree.specs.declared.entry.Entry.TheVariants.{UndetectableByCubes}
use Rattle.ht_entries.specs.declared.proof_line.ProofLine.{ProofLine}
use Rattle.ht_entries.specs.declared.proof_line.ProofLine.TheVariants as line
use Rattle.ht_entries.specs.declared.by_cubes.ByCubesLine.{ByCubesLine}
use Rattle.ht_entries.specs.declared.by_cubes.ByCubesLine.TheVariants as form
use Rattle.ht_entries.specs.declared.by_cubes.ByCubesPart.{ByCubesPart}
use Rattle.ht_entries.specs.LineWords.{IsNumber, IsIndex}
use Rattle.ht_entries.specs.PartWords.{where_true}
use Rattle.ht_entries.specs.ItemTexts.{spaced, AreSome}
use Rattle.ht_entries.specs.ProofLineLengths.{IsShortProofLine}

-- ---- the words in its lines

-- the machine of a rail
abbrev pub machine_word : Bool → List ℕ
machine_word false = codes "good"
machine_word true = codes "faulty"

-- the bit of a rail
abbrev pub bit_word : Bool → List ℕ
bit_word bit = bit_code bit ∷ []

-- what stands before the number of a signed variable: a hyphen where the variable is to be false
abbrev pub sign_text : Bool → List ℕ
sign_text true = []
sign_text false = codes "-"

-- a signed variable
abbrev pub signed_word : SignedVar → List ℕ
signed_word literal = sign_text literal.value ++ decimal literal.variable

-- a rail: its machine, its flip-flop and its bit
abbrev pub rail_text : Rail → List ℕ
rail_text rail = spaced machine_word rail.faulty ++ (spaced decimal (rail.dff + 1) ++ spaced bit_word rail.value)

-- ---- its lines

-- a cube: its rails
abbrev pub cube_text : List Rail → List ℕ
cube_text cube = codes "never" ++ flat_map rail_text cube

-- the hints of a step
abbrev pub hints_text : List ℕ → List ℕ
hints_text hints = codes " by" ++ flat_map (spaced decimal) hints

-- a step: its signed variables, and its hints
abbrev pub step_text : ClauseStep → List ℕ
step_text step = codes "step" ++ flat_map (spaced signed_word) step.literals ++ hints_text step.hints

-- the text of a line of this form
abbrev pub by_cubes_text : ByCubesLine → List ℕ
by_cubes_text (form.Begins number) = codes "entry " ++ decimal number ++ codes " undetectable by cubes"
by_cubes_text (form.Never cube) = cube_text cube
by_cubes_text (form.Step step) = step_text step

-- a bit has a text
abbrev pub IsAnyBit : Bool → Type 0
IsAnyBit bit = Unit {0}

-- a rail has a text, by its flip-flop
abbrev pub IsRailText : Rail → Type 0
IsRailText rail = IsIndex rail.dff

-- a signed variable has a text, by its variable
abbrev pub IsSignedText : SignedVar → Type 0
IsSignedText literal = IsNumber literal.variable

-- A cube has a text: it has a rail, and its line isn't too long.
pub record IsCubeText (cube : List Rail) : Type 0 where
  pub some : 0 < length cube
  pub each : All IsRailText cube
  pub short : IsShortProofLine (cube_text cube)

-- the hints of a step have a text: there is one
abbrev pub AreHints : List ℕ → Type 0
AreHints hints = AreSome IsNumber hints

-- A step has a text: it has a hint, and its line isn't too long.
pub record IsStepText (step : ClauseStep) : Type 0 where
  pub literals : All IsSignedText step.literals
  pub hints : AreHints step.hints
  pub short : IsShortProofLine (step_text step)

-- a line of this form has a text
abbrev pub IsByCubesLine : ByCubesLine → Type 0
IsByCubesLine (form.Begins number) = IsNumber number
IsByCubesLine (form.Never cube) = IsCubeText cube
IsByCubesLine (form.Step step) = IsStepText step

-- ---- as much of the entry as was read

-- the line of a cube
abbrev pub never_line : List Rail → ProofLine
never_line cube = line.ByCubes (form.Never cube)

-- the line of a step
abbrev pub step_line : ClauseStep → ProofLine
step_line step = line.ByCubes (form.Step step)

-- the line that begins the entry, those of its cubes, and those of its steps
abbrev pub by_cubes_lines : ℕ → List (List Rail) → List ClauseStep → List ProofLine
by_cubes_lines number cubes steps =
    line.ByCubes (form.Begins number) ∷ map never_line cubes ++ map step_line steps

-- The part of the entry has a text: no step stands before the first cube.
pub record IsByCubesText (p : ByCubesPart) : Type 0 where
  pub cubes : All IsCubeText p.cubes
  pub steps : All IsStepText p.steps
  pub begun : p.cubes ≡ [] → p.steps ≡ []

-- ---- a line more of it

-- what the first line begins
abbrev pub no_cubes : ByCubesPart
no_cubes = record { cubes = []; steps = [] }

-- there is no step yet, after which no cube comes
abbrev pub is_in_cubes : ByCubesPart → Bool
is_in_cubes p = eqb (length p.steps) 0

-- there is a cube
abbrev pub has_cube : ByCubesPart → Bool
has_cube p = ltb 0 (length p.cubes)

-- the part with one line more: a cube before all steps, or a step after the cubes
abbrev pub grow_by_cubes : ByCubesPart → ProofLine → Option ByCubesPart
grow_by_cubes p (line.ByCubes (form.Never cube)) =
    where_true (is_in_cubes p) (record p { cubes = p.cubes ++ cube ∷ [] })
grow_by_cubes p (line.ByCubes (form.Step step)) =
    where_true (has_cube p) (record p { steps = p.steps ++ step ∷ [] })
grow_by_cubes p other = None

-- the entry of a part, which has a cube
abbrev pub by_cubes_entry : ByCubesPart → Option Entry
by_cubes_entry p = where_true (has_cube p) (UndetectableByCubes p.cubes p.steps)
