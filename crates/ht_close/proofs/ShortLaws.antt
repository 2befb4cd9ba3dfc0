-- How long the lines of cubes and steps are whose numbers are short.
use Rattle.std.proofs.Common.{ℕ, ◌+◌, ◌*◌, ◌<◌, ◌≤◌, Bool, true, false, List, [], ◌∷◌, ◌++◌, length, arith}
use Rattle.std.specs.Prelude.{codes, flat_map}
use Rattle.std.specs.Fmt.{decimal}
use Rattle.std.specs.List.{All}
use Rattle.std.proofs.lemmas.Fmt.{length-decimal-le}
use Rattle.std.proofs.lemmas.List.{length-append}
use Rattle.std.proofs.lemmas.List.Elements.{All-head, All-tail, All-weaker}
use Rattle.ht_cubes.specs.declared.rail.Rail.{Rail}
use Rattle.ht_cubes.specs.declared.signed_var.SignedVar.{SignedVar}
use Rattle.ht_cubes.specs.declared.clause_step.ClauseStep.{ClauseStep}
use Rattle.ht_entries.specs.LineWords.{max_number}
use Rattle.ht_entries.specs.ItemTexts.{spaced}
use Rattle.ht_entries.specs.ProofLineLengths.{IsShortProofLine}
use Rattle.ht_entries.specs.ByCubes.{bit_word, cube_text, hints_text, machine_word, rail_text, sign_text, signed_word, step_text}
use Rattle.ht_valid.specs.WritableEntries.{IsShortStep}
use Rattle.ht_close.specs.ShortLines.{short_number}

-- texts of at most 20 bytes each, one after the other
texts_size : {X : Type 0} (text_of : X → List ℕ) (xs : List X) → All (λ x. length (text_of x) ≤ 20) xs
    → length (flat_map text_of xs) ≤ 20 * length xs
texts_size text_of [] short = omega arith
texts_size {X} text_of (x ∷ xs) short =
    let P : X → Type 0 = λ y. length (text_of y) ≤ 20 in
    let first : length (text_of x) ≤ 20 = All-head P x xs short in
    omega (
      arith,
      length-append (text_of x) (flat_map text_of xs),
      first,
      texts_size text_of xs (All-tail P x xs short),
    )

digits : (n : ℕ) → n ≤ short_number → length (decimal n) ≤ 9
digits n small = length-decimal-le 9 n (omega arith) (omega (arith, small)) (omega (arith, small))

machine_size : (faulty : Bool) → length (machine_word faulty) ≤ 6
machine_size false = omega arith
machine_size true = omega arith

sign_size : (value : Bool) → length (sign_text value) ≤ 1
sign_size false = omega arith
sign_size true = omega arith

rail_size : (rail : Rail) → rail.dff < short_number → length (rail_text rail) ≤ 20
rail_size rail small = omega (
  arith,
  length-append (spaced machine_word rail.faulty) (spaced decimal (rail.dff + 1) ++ spaced bit_word rail.value),
  length-append (spaced decimal (rail.dff + 1)) (spaced bit_word rail.value),
  machine_size rail.faulty,
  digits (rail.dff + 1) (omega (arith, small)),
)

literal_size : (literal : SignedVar) → literal.variable < short_number → length (spaced signed_word literal) ≤ 20
literal_size literal small = omega (
  arith,
  length-append (sign_text literal.value) (decimal literal.variable),
  sign_size literal.value,
  digits literal.variable (omega (arith, small)),
)

hint_size : (hint : ℕ) → hint < short_number → length (spaced decimal hint) ≤ 20
hint_size hint small = omega (arith, digits hint (omega (arith, small)))

-- a cube of few rails with short numbers has a short line
pub cube_is_short : (cube : List Rail) → length cube ≤ 50000 → All (λ (rail : Rail). rail.dff < short_number) cube
    → IsShortProofLine (cube_text cube)
cube_is_short cube few small =
    let sizes : All (λ (rail : Rail). length (rail_text rail) ≤ 20) cube =
    All-weaker (λ (rail : Rail). rail.dff < short_number) (λ (rail : Rail). length (rail_text rail) ≤ 20)
    rail_size cube small in
    omega (arith, length-append (codes "never") (flat_map rail_text cube), texts_size rail_text cube sizes, few)

-- a step of few signed variables and hints with short numbers has a short line
pub step_is_short : (step : ClauseStep) → length step.literals + length step.hints ≤ 50000
    → All (λ (literal : SignedVar). literal.variable < short_number) step.literals
    → All (λ hint. hint < short_number) step.hints → IsShortStep step
step_is_short step few small_literals small_hints =
    let of_literals : All (λ (literal : SignedVar). length (spaced signed_word literal) ≤ 20) step.literals =
    All-weaker (λ (literal : SignedVar). literal.variable < short_number)
    (λ (literal : SignedVar). length (spaced signed_word literal) ≤ 20) literal_size step.literals small_literals in
    let of_hints : All (λ (hint : ℕ). length (spaced decimal hint) ≤ 20) step.hints =
    All-weaker (λ (hint : ℕ). hint < short_number) (λ (hint : ℕ). length (spaced decimal hint) ≤ 20) hint_size
    step.hints small_hints in
    record {
      variables = All-weaker (λ (literal : SignedVar). literal.variable < short_number)
          (λ (literal : SignedVar). literal.variable ≤ max_number) (λ literal small. omega (arith, small))
          step.literals small_literals;
      hints = All-weaker (λ (hint : ℕ). hint < short_number) (λ (hint : ℕ). hint ≤ max_number)
          (λ hint small. omega (arith, small)) step.hints small_hints;
      short = omega (
        arith,
        length-append (codes "step" ++ flat_map (spaced signed_word) step.literals) (hints_text step.hints),
        length-append (codes "step") (flat_map (spaced signed_word) step.literals),
        length-append (codes " by") (flat_map (spaced decimal) step.hints),
        texts_size (spaced signed_word) step.literals of_literals,
        texts_size (spaced decimal) step.hints of_hints,
        few,
      );
    }
