-- The lines that begin an entry, and the others of a form's own: two with one text are one.
use Rattle.std.proofs.Common.{arith, ap, ◌∙◌}
use Rattle.std.proofs.lemmas.Bool.{ne_eqb}
use Rattle.std.proofs.lemmas.List.{append_cancel_left}
use Rattle.std.proofs.lemmas.List.Elements.{All-head, All-tail}
use Rattle.std.specs.Prelude.{◌≡◌, ◌≤◌, ℕ, List, [], ◌∷◌, ◌++◌, cond, eqb, refl, get_or, codes}
use Rattle.std.specs.List.{All}
use Rattle.std.specs.Fmt.{decimal}
use Rattle.ht_texts.specs.Tests.{vector_text}
use Rattle.ht_texts.proofs.VectorLaws.{vector_text_injective}
use Rattle.ht_entries.specs.declared.proof_line.ProofLine.TheVariants as line
use Rattle.ht_entries.specs.declared.from_state.FromStateLine.{FromStateLine}
use Rattle.ht_entries.specs.declared.from_state.FromStateLine.TheVariants as form
use Rattle.ht_entries.specs.declared.by_sets.BySetsLine.{BySetsLine}
use Rattle.ht_entries.specs.declared.by_sets.BySetsLine.TheVariants as sets
use Rattle.ht_entries.specs.declared.by_cubes.ByCubesLine.{ByCubesLine}
use Rattle.ht_entries.specs.declared.by_cubes.ByCubesLine.TheVariants as cubes
use Rattle.ht_entries.specs.FromState.{IsFromStateLine}
use Rattle.ht_entries.specs.BySets.{IsBySetsLine}
use Rattle.ht_entries.specs.ByCubes.{IsByCubesLine}
use Rattle.ht_entries.proofs.SpaceLaws.{IsNoSpace, parts_same, number_has_no_space}
use Rattle.ht_entries.proofs.FromStateTextLaws.{first_text_same, clauses_same}
use Rattle.ht_entries.proofs.BySetsTextLaws.{rows_same}
use Rattle.ht_entries.proofs.CubeLineLaws.{cubes_same, steps_same}
use Rattle.ht_entries.proofs.CubesTextLaws.{numbers_same}
use Rattle.ht_entries.specs.ProofLines.{line_text, max_number}

abbrev pub byte : List ℕ → ℕ → ℕ
byte text i = get_or text i 0

-- what stands after the first space of a text
abbrev pub after_space : List ℕ → List ℕ
after_space [] = []
after_space (x ∷ xs) = cond (eqb x 32) xs (after_space xs)

after_plain : (xs rest : List ℕ) → All IsNoSpace xs → after_space (xs ++ 32 ∷ rest) ≡ rest
after_plain [] rest plain = refl
after_plain (x ∷ xs) rest plain =
    ap (λ b. cond b (xs ++ 32 ∷ rest) (after_space (xs ++ 32 ∷ rest))) (ne_eqb x 32 (All-head IsNoSpace x xs plain))
    ∙ after_plain xs rest (All-tail IsNoSpace x xs plain)

-- what follows the number of an entry
pub after_number : (n : ℕ) (rest : List ℕ) → n ≤ max_number → after_space (decimal n ++ 32 ∷ rest) ≡ rest
after_number n rest h = after_plain (decimal n) rest (number_has_no_space n h)

-- lines that begin an entry and have the same text have the same number
pub entry_number : (m n : ℕ) (rest more : List ℕ) → m ≤ max_number → n ≤ max_number
    → codes "entry " ++ (decimal m ++ 32 ∷ rest) ≡ codes "entry " ++ (decimal n ++ 32 ∷ more) → m ≡ n
entry_number m n rest more h k e =
    numbers_same m n h k
    (parts_same (decimal m) (decimal n) rest more (number_has_no_space m h) (number_has_no_space n k)
    (append_cancel_left (codes "entry ") (decimal m ++ 32 ∷ rest) (decimal n ++ 32 ∷ more) e)).fronts

-- lines of a refutation from a state with the same text are the same
pub from_state_same : (x y : FromStateLine) → IsFromStateLine x → IsFromStateLine y
    → line_text (line.FromState x) ≡ line_text (line.FromState y) → x ≡ y
from_state_same (form.Begins m s) (form.Begins n t) h k e =
    let same = first_text_same m n (vector_text s) (vector_text t) (h.0) (k.0) e in
    ap (λ x. form.Begins x s) same.numbers ∙ ap (λ x. form.Begins n x) (vector_text_injective s t same.states)
from_state_same (form.Begins m s) (form.Clause first second) h k e = absurd (omega (arith, ap (λ t. byte t 0) e))
from_state_same (form.Clause first second) (form.Begins m s) h k e = absurd (omega (arith, ap (λ t. byte t 0) e))
from_state_same (form.Clause a b) (form.Clause first second) h k e = clauses_same a first b second h k e

-- lines of an entry by sets with the same text are the same
pub by_sets_same : (x y : BySetsLine) → IsBySetsLine x → IsBySetsLine y
    → line_text (line.BySets x) ≡ line_text (line.BySets y) → x ≡ y
by_sets_same (sets.Begins m) (sets.Begins n) h k e =
    ap sets.Begins (entry_number m n (codes "undetectable by sets") (codes "undetectable by sets") (h.1) (k.1) e)
by_sets_same (sets.Begins m) (sets.Pairs row) h k e = absurd (omega (arith, ap (λ t. byte t 0) e))
by_sets_same (sets.Pairs row) (sets.Begins n) h k e = absurd (omega (arith, ap (λ t. byte t 0) e))
by_sets_same (sets.Pairs row) (sets.Pairs other) h k e = ap sets.Pairs (rows_same row other h k e)

-- lines of an entry by cubes with the same text are the same
pub by_cubes_same : (x y : ByCubesLine) → IsByCubesLine x → IsByCubesLine y
    → line_text (line.ByCubes x) ≡ line_text (line.ByCubes y) → x ≡ y
by_cubes_same (cubes.Begins m) (cubes.Begins n) h k e =
    ap cubes.Begins (entry_number m n (codes "undetectable by cubes") (codes "undetectable by cubes") (h.1) (k.1) e)
by_cubes_same (cubes.Never cube) (cubes.Never other) h k e = ap cubes.Never (cubes_same cube other h k e)
by_cubes_same (cubes.Step step) (cubes.Step other) h k e = ap cubes.Step (steps_same step other h k e)
by_cubes_same (cubes.Begins m) (cubes.Never cube) h k e = absurd (omega (arith, ap (λ t. byte t 0) e))
by_cubes_same (cubes.Begins m) (cubes.Step step) h k e = absurd (omega (arith, ap (λ t. byte t 0) e))
by_cubes_same (cubes.Never cube) (cubes.Begins m) h k e = absurd (omega (arith, ap (λ t. byte t 0) e))
by_cubes_same (cubes.Never cube) (cubes.Step step) h k e = absurd (omega (arith, ap (λ t. byte t 0) e))
by_cubes_same (cubes.Step step) (cubes.Begins m) h k e = absurd (omega (arith, ap (λ t. byte t 0) e))
by_cubes_same (cubes.Step step) (cubes.Never cube) h k e = absurd (omega (arith, ap (λ t. byte t 0) e))
