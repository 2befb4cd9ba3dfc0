-- The lines of cubes and of steps: what their texts show, and what is left where a text is none.
use Rattle.std.proofs.Common.{◌≡◌, ◌≢◌, inr, List, ℕ, ◌++◌, Option, Some, None, refl, sym, ap, ◌∙◌, subst}
use Rattle.std.specs.Prelude.{codes, flat_map}
use Rattle.std.specs.Fmt.{decimal}
use Rattle.std.specs.List.{All}
use Rattle.std.proofs.lemmas.List.{append_cancel_left}
use Rattle.ht_cubes.specs.declared.rail.Rail.{Rail}
use Rattle.ht_cubes.specs.declared.signed_var.SignedVar.{SignedVar}
use Rattle.ht_cubes.specs.declared.clause_step.ClauseStep.{ClauseStep}
use Rattle.ht_entries.specs.LineWords.{IsNumber}
use Rattle.ht_entries.specs.ProofLineLengths.{IsShortProofLine}
use Rattle.ht_entries.specs.ItemTexts.{spaced, AreSome, AreTaken, HasNoItem, IsDelimited, SameItem}
use Rattle.ht_entries.specs.ParsedLines.{IsParsed}
use Rattle.ht_entries.specs.ByCubes.{rail_text, signed_word, cube_text, hints_text, step_text, AreHints, IsCubeText, IsRailText, IsSignedText, IsStepText}
use Rattle.ht_entries.proofs.ItemLaws.{items_after_same, lists_same, taken_are}
use Rattle.ht_entries.proofs.CubesTextLaws.{by_is_no_signed, numbers_are_items, rails_are_items, signed_are_items}

-- ---- cubes

-- a cube whose line isn't too long
pub cube_has_text : (line : List ℕ) (cube : List Rail) → IsShortProofLine line → line ≡ cube_text cube
    → AreSome IsRailText cube → IsCubeText cube
cube_has_text line cube short is h =
    record { some = h.some; each = h.each; short = subst IsShortProofLine is short }

-- a cube with a text has a rail, and each of its rails has a text
pub rails_of_cube : (cube : List Rail) → IsCubeText cube → AreSome IsRailText cube
rails_of_cube cube h = record { some = h.some; each = h.each }

-- a short line is parsed as the cube whose rails stand after its word
pub parsed_cube : (line : List ℕ) (parsed : Option (List Rail)) → IsShortProofLine line
    → IsParsed cube_text (AreSome IsRailText) line parsed → IsParsed cube_text IsCubeText line parsed
parsed_cube line None short none = λ cube h. none cube (rails_of_cube cube h)
parsed_cube line (Some cube) short is = (is.0, cube_has_text line cube short is.0 is.1)

-- cubes with the same text are the same
pub cubes_same : (a b : List Rail) → IsCubeText a → IsCubeText b → cube_text a ≡ cube_text b → a ≡ b
cubes_same a b h k e = items_after_same rail_text IsRailText rails_are_items (codes "never") a b h.each k.each e

-- ---- steps

abbrev step_of : List SignedVar → List ℕ → ClauseStep
step_of literals hints = record { literals = literals; hints = hints }

-- the text of hints ends or goes on with a space
hints_delimit : (hints : List ℕ) → IsDelimited (hints_text hints)
hints_delimit hints = inr (codes "by" ++ flat_map (spaced decimal) hints, refl)

-- the signed variables that a text begins with are those of the step whose text it is, and its hints are left
literals_are : (line text rest : List ℕ) (literals : List SignedVar) (step : ClauseStep)
    → line ≡ codes "step" ++ text → AreTaken (spaced signed_word) IsSignedText text literals rest
    → HasNoItem (spaced signed_word) IsSignedText rest → IsStepText step → line ≡ step_text step
    → SameItem literals step.literals rest (hints_text step.hints)
literals_are line text rest literals step is taken none h e =
    taken_are (spaced signed_word) IsSignedText signed_are_items text rest (hints_text step.hints) literals
    step.literals taken none h.literals (hints_delimit step.hints) (by_is_no_signed step.hints)
    (append_cancel_left (codes "step") text (flat_map (spaced signed_word) step.literals ++ hints_text step.hints)
    (sym is ∙ e))

-- a line that doesn't begin with `step` is that of no step
pub no_step_word : (line : List ℕ) → ((rest : List ℕ) → line ≢ codes "step" ++ rest) → (step : ClauseStep)
    → IsStepText step → line ≢ step_text step
no_step_word line none step h e =
    none (flat_map (spaced signed_word) step.literals ++ hints_text step.hints) e

-- a line with no hints after its signed variables is that of no step
pub no_step : (line text rest : List ℕ) (literals : List SignedVar) → line ≡ codes "step" ++ text
    → AreTaken (spaced signed_word) IsSignedText text literals rest
    → HasNoItem (spaced signed_word) IsSignedText rest
    → ((hints : List ℕ) → AreHints hints → rest ≢ hints_text hints)
    → (step : ClauseStep) → IsStepText step → line ≢ step_text step
no_step line text rest literals is taken none no_hints step h e =
    no_hints step.hints h.hints (literals_are line text rest literals step is taken none h e).rests

-- a line of `step`, signed variables and hints is that of the step with these
pub step_is_read : (line text rest : List ℕ) (literals : List SignedVar) (hints : List ℕ)
    → line ≡ codes "step" ++ text → AreTaken (spaced signed_word) IsSignedText text literals rest
    → rest ≡ hints_text hints → line ≡ step_text (step_of literals hints)
step_is_read line text rest literals hints is taken end =
    is ∙ ap (λ t. codes "step" ++ t)
    (taken.parts ∙ ap (λ t. flat_map (spaced signed_word) literals ++ t) end)

-- a step has a text if its line is short and its signed variables and hints have one
pub step_has_text : (line : List ℕ) (literals : List SignedVar) (hints : List ℕ) → IsShortProofLine line
    → line ≡ step_text (step_of literals hints) → All IsSignedText literals → AreHints hints
    → IsStepText (step_of literals hints)
step_has_text line literals hints short is each some =
    record { literals = each; hints = some; short = subst IsShortProofLine is short }

steps_alike : (a b : ClauseStep) → a.literals ≡ b.literals → a.hints ≡ b.hints → a ≡ b
steps_alike a b l h = ap (λ x. step_of x a.hints) l ∙ ap (λ x. step_of b.literals x) h

-- steps with the same text are the same
pub steps_same : (a b : ClauseStep) → IsStepText a → IsStepText b → step_text a ≡ step_text b → a ≡ b
steps_same a b h k e =
    let same = lists_same (spaced signed_word) IsSignedText signed_are_items a.literals b.literals
    (hints_text a.hints) (hints_text b.hints) h.literals k.literals (inr (hints_delimit a.hints))
    (inr (hints_delimit b.hints)) (by_is_no_signed a.hints) (by_is_no_signed b.hints)
    (append_cancel_left (codes "step") (flat_map (spaced signed_word) a.literals ++ hints_text a.hints)
    (flat_map (spaced signed_word) b.literals ++ hints_text b.hints) e) in
    steps_alike a b same.items
    (items_after_same (spaced decimal) IsNumber numbers_are_items (codes " by") a.hints b.hints h.hints.each
    k.hints.each same.rests)
